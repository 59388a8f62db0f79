-- What each turn of the loop keeps.
use Rattle.std.proofs.Common.{◌≡◌, ◌*◌, ◌≤◌, take}
use mathlib.Core.List.{flat_map}
use Rattle.sets.specs.Kept.{bits_of, count_true, kept_words}
use Rattle.sets.proofs.kept.KeptSegments.kept_in_words.Given as goal

abbrev pub invariant-loop-at : goal.invariant-loop-at
invariant-loop-at l = (l.kept ≤ 64 * l.at) × (l.kept ≡ count_true (flat_map (bits_of 64) (take l.at (kept_words l.self))))
