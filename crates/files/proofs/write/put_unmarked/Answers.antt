-- `put_unmarked` meets its contract: all words with one mask, or control words and references with one each. Assumes nothing.
use Rattle.std.proofs.Common.{◌∙◌, ◌++◌, List, ℕ, ap₂}
use Rattle.std.proofs.lemmas.List.{take_rest}
use Rattle.files.proofs.Pieces.{packed_unmarked_bytes}
use Rattle.files.proofs.write.put_unmarked.Goals as goal

pub returns : goal.returns
returns c =
    let references = rw (take_rest c.args.index.now c.args.buckets) at c.put_words-3.ensures in
    ap₂ (λ (x y : List ℕ). x ++ y) c.put_words-2.ensures references
    ∙ rw c.if-not-packed.false (packed_unmarked_bytes c.args.buckets c.args.index.now)
