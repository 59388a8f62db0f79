-- `write_line` meets its contract: the pieces are written one after the other. Assumes nothing.
use Rattle.std.proofs.Common.{[], ◌∷◌, get_or, refl}
use Rattle.records.proofs.Area.{begin, complete}
use Rattle.texts.specs.Output.{decimal_text}
use Rattle.passage_lines.specs.Reply.{line_feed, word_text}
use Rattle.passage_lines.proofs.Replies.{next_text, number_left, none_left}
use Rattle.passage_lines.proofs.reply.write_line.Goals as goal

pub loop-number-init : goal.loop-number-init
loop-number-init c = next_text (word_text c.args.word) (begin _ _ c.requires) (rw c.text.ensures at c.put_text-at.ensures)

pub loop-number-preserved : goal.loop-number-preserved
loop-number-preserved c =
    let l = c.loop-number in
    let space = next_text (32 ∷ []) (rw (number_left _ l.number-index c.loop-number-test.true) at l.invariant) c.put_text-digits_at.ensures in
    next_text (decimal_text (get_or c.args.numbers.now l.number-index 0)) space c.put_decimal-at.ensures

pub returns : goal.returns
returns c =
    let l = c.loop-number in
    complete (next_text line_feed (rw (none_left _ l.number-index c.loop-number-test.false) at l.invariant) c.put_text.ensures) refl
