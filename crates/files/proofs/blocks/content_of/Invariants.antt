-- What each turn of the loop keeps.
use Rattle.std.proofs.Common.{◌≡◌, ◌-◌}
use Rattle.files.specs.Blocks.{content_of}
use Rattle.files.proofs.blocks.content_of.Given as goal

-- the blocks that are left to pass over
abbrev pub invariant-loop : goal.invariant-loop
invariant-loop l = content_of (l.end - l.counter) l.rest ≡ content_of (l.end - 1) l.file
