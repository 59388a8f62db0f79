-- What each turn of the loop keeps: short ticks are too few, and enough ticks cover the lifetime or are past the last deadline.
use Rattle.std.proofs.Common.{◌-◌, ◌*◌, ◌<◌, ◌≤◌}
use Rattle.hash_parts.proofs.duration.search_ticks.Given as goal

abbrev pub invariant-loop-enough : goal.invariant-loop-enough
invariant-loop-enough l =
    (l.tick * l.short < l.lifetime) × (l.enough ≤ 65534 → l.lifetime ≤ l.tick * l.enough) × (l.short < l.enough) × (l.enough ≤ 65535)

abbrev pub decreases-loop-enough : goal.decreases-loop-enough
decreases-loop-enough l = l.enough - l.short
