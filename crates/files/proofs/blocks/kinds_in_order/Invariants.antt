-- What each turn of the loop keeps.
use Rattle.std.proofs.Common.{◌≡◌, ◌-◌, true}
use Rattle.files.specs.Blocks.{frames_well, kinds_from}
use Rattle.files.proofs.blocks.kinds_in_order.Given as goal

-- kinds from this one to 5
abbrev pub invariant-loop-kind : goal.invariant-loop-kind
invariant-loop-kind l = (frames_well (6 - l.kind) l.rest ≡ true) × (kinds_from l.kind (6 - l.kind) l.rest ≡ kinds_from 1 5 l.file)
