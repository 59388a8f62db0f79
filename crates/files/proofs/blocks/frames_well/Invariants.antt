-- What each turn of the loop keeps.
use Rattle.std.proofs.Common.{◌≡◌, ◌-◌}
use Rattle.files.specs.Blocks.{frames_well}
use Rattle.files.proofs.blocks.frames_well.Given as goal

abbrev pub invariant-loop : goal.invariant-loop
invariant-loop l = frames_well (5 - l.counter) l.rest ≡ frames_well 5 l.file
