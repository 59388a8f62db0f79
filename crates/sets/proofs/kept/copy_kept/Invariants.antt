-- What each turn of the loop keeps.
use Rattle.std.proofs.Common.{length, drop}
use Rattle.records.proofs.Area.{Writing}
use Rattle.sets.specs.Kept.{chosen}
use Rattle.sets.proofs.kept.copy_kept.Given as goal

abbrev pub invariant-loop-flag : goal.invariant-loop-flag
invariant-loop-flag l =
    Writing (chosen l.flags l.words) (chosen (drop (length l.yielded) l.flags) (drop (length l.yielded) l.words)) l.initial.area l.area l.kept
