-- `split_words` meets its contract: each word is split where it stands. Assumes nothing.
use Rattle.std.proofs.Common.{get_or, arith}
use Rattle.std.proofs.lemmas.List.{get_or_default}
use Rattle.std.proofs.lemmas.List.Edits.{map_over_more}
use Rattle.index.specs.Segments.{split_word}
use Rattle.index.proofs.segments.split_words.Goals as goal

pub loop-word-preserved : goal.loop-word-preserved
loop-word-preserved c =
    let a = c.args in
    let l = c.loop-word in
    rw c.split_word.ensures
    (map_over_more (split_word a.starts.now) a.words.now l.word-items l.word-index (get_or l.word-items l.word-index 0) (omega arith) l.invariant
    (get_or_default l.word-items l.word-index 0 _ (omega arith)))
