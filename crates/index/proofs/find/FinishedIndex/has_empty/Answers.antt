-- `has_empty` meets its contract. Assumes nothing.
use Rattle.index.proofs.find.FinishedIndex.has_empty.Goals as goal

pub returns-then-self : goal.returns-then-self
returns-then-self c = rw (c.if-self.true, c.tagged_bytes.ensures)
