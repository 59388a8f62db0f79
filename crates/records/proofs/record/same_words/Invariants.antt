-- What each turn of the loop keeps: the chunks from this one on are the same just where all are.
use Rattle.std.proofs.Common.{◌≡◌}
use Rattle.records.proofs.Chunks.{same_from}
use Rattle.records.proofs.record.same_words.Given as goal

abbrev pub invariant-loop-i : goal.invariant-loop-i
invariant-loop-i l = same_from l.i l.words l.other_words ≡ same_from 0 l.words l.other_words
