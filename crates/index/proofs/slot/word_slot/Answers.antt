-- `word_slot` meets its contract by its test. Assumes nothing.
use Rattle.std.proofs.Common.{eq-eqb, ne_eqb}
use Rattle.index.specs.Slot.{word_slot}
use Rattle.index.proofs.slot.word_slot.Goals as goal

pub returns-then-word-eq0 : goal.returns-then-word-eq0
unfolding word_slot
returns-then-word-eq0 c = rw (eq-eqb _ 0 c.if-word-eq0.true)

pub returns : goal.returns
unfolding word_slot
returns c = rw (ne_eqb _ 0 c.if-word-eq0.false, c.index_location.ensures, c.index_tag.ensures)
