-- What each turn of the loop keeps: the words passed are split, the others as they were.
use Rattle.std.proofs.Common.{◌≡◌, ◌++◌, map, take, drop}
use Rattle.index.specs.Segments.{split_word}
use Rattle.index.proofs.segments.split_words.Given as goal

abbrev pub invariant-loop-word : goal.invariant-loop-word
invariant-loop-word l = l.word-items ≡ map (split_word l.starts) (take l.word-index l.fn.words) ++ drop l.word-index l.fn.words
