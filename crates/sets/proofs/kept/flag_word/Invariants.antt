-- What each turn of the loop keeps.
use Rattle.std.proofs.Common.{◌≡◌, ◌+◌, ◌-◌}
use Rattle.records.specs.Area.{part}
use Rattle.sets.specs.Kept.{flag_word}
use Rattle.sets.proofs.kept.flag_word.Given as goal

abbrev pub invariant-loop-at : goal.invariant-loop-at
invariant-loop-at l = l.word ≡ flag_word (part (l.from + l.at) (64 - l.at) l.flags)
