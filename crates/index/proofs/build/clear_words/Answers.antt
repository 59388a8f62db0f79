-- `clear_words` meets its contract: the words filled are 0, the others as they were. Assumes nothing.
use Rattle.std.proofs.Common.{replicate, ap, ◌∙◌, ℕ, length-take-le, le-leb}
use lib.ListN.{length-replicate}
use borrow.Author.Tests.{lt-leb}
use Rattle.index.specs.Build.{cleared}
use Rattle.index.proofs.build.clear_words.Goals as goal

pub returns-then-words-count : goal.returns-then-words-count
unfolding cleared
returns-then-words-count c = simp (lt-leb _ _ c.if-words-count.true)

pub returns : goal.returns
unfolding cleared
returns c =
    let a = c.args in
    let size = length-take-le a.count a.words.now c.if-words-count.false in
    let filled = c.fill.ensures.after (λ y e. e) ∙ ap (λ (n : ℕ). replicate n 0) size in
    simp (le-leb _ _ c.if-words-count.false) (rw (filled, length-replicate {A = ℕ} a.count 0))
