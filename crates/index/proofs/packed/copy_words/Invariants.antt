-- The words so far stand over the front.
use Rattle.std.proofs.Common.{◌≡◌, take}
use Rattle.records.specs.Area.{over}
use Rattle.index.proofs.packed.copy_words.Given as goal

abbrev pub invariant-loop-i : goal.invariant-loop-i
invariant-loop-i l = l.out ≡ over (take l.i l.words) l.initial.out
