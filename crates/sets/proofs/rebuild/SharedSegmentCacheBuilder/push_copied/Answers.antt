-- `push_copied` meets its contract. Assumes nothing.
use Rattle.std.proofs.Common.{sym, ap, ◌∙◌, Ok}
use Rattle.sets.specs.BuildPlans.{planned}
use Rattle.sets.specs.RebuildPlans.{plan_copied}
use Rattle.sets.proofs.RebuildAsked.{copied_asked, rebuild_passes_law}
use Rattle.sets.proofs.EmptySlots.{found_inside}
use Rattle.sets.proofs.Decides.{planned_two}
use Rattle.sets.proofs.rebuild.SharedSegmentCacheBuilder.push_copied.Goals as goal

-- a slot, a segment and room are what its questions asked for
pub copied_at-requires : goal.copied_at-requires
unfolding plan_copied
copied_at-requires c =
    let p = planned_two _ _ _ _ _ (sym c.plan_copied.ensures ∙ ap planned c.in_ok-plan.was) in
    let q = copied_asked _ _ _ _ _ _ _ _ _ _ p.0 in
    record {
      fits = rebuild_passes_law _ q.areas.numbers;
      announced = q.announced;
      room = q.fits;
      short = q.areas.arena_short;
      segment = q.room;
      slot = found_inside _ _ _ _ _ c.ranges.hash.fits q.areas.index_holds (q.place ∙ ap Ok p.1);
    }
