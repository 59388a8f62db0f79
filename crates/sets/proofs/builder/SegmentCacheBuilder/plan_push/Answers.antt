-- `plan_push` meets its contract. Assumes nothing.
use Rattle.std.proofs.Common.{sym, length-take-le}
use Rattle.sets.proofs.Said.{answered_yes}
use Rattle.sets.proofs.Counts.{builder_areas_asked}
use Rattle.sets.proofs.builder.SegmentCacheBuilder.plan_push.Goals as goal

pub slice_bounds-records-end : goal.slice_bounds-records-end
slice_bounds-records-end c =
    let held = builder_areas_asked _ _ _ (answered_yes c.areas_hold.ensures c.if-not-areas_hold.false) in
    sym (length-take-le _ _ held.filled_held)
