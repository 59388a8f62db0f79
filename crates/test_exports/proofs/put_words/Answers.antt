-- `put_words` meets its contract: the front that is copied to has the words' length. Assumes nothing.
use Rattle.std.proofs.Common.{◌∙◌, ◌++◌, length, length-take-le, drop, ap, arith, le-leb}
use Rattle.records.proofs.Area.{copied_law}
use Rattle.test_exports.specs.Exports.{placed}
use Rattle.test_exports.proofs.put_words.Goals as goal

pub returns-then-words-out : goal.returns-then-words-out
unfolding placed
returns-then-words-out c =
    let a = c.args in
    let front = copied_law a.words.now _ (length-take-le (length a.words.now) a.out.now (omega arith)) in
    rw (le-leb (length a.words.now) (length a.out.now) (omega arith))
    (ap (λ s. s ++ drop (length a.words.now) a.out.now) (c.copy_words.ensures ∙ front))
