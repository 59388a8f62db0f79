-- What each turn of the loop keeps.
use Rattle.std.proofs.Common.{◌≡◌, ◌%◌, ◌^◌}
use Rattle.sets.specs.Rebuild.{sum_of}
use Rattle.sets.proofs.areas.sum_of.Given as goal

abbrev pub invariant-loop-word : goal.invariant-loop-word
invariant-loop-word l = l.sum ≡ sum_of l.word-index l.words % 2 ^ 64
