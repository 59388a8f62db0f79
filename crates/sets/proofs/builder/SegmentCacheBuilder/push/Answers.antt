-- `push` meets its contract. Assumes nothing.
use Rattle.std.proofs.Common.{sym, ap, ◌∙◌, Ok}
use Rattle.sets.specs.BuildPlans.{planned, plan_push}
use Rattle.sets.proofs.Counts.{builder_areas_pass}
use Rattle.sets.proofs.Asked.{push_asked}
use Rattle.sets.proofs.EmptySlots.{found_inside}
use Rattle.sets.proofs.Decides.{planned_two}
use Rattle.sets.proofs.builder.SegmentCacheBuilder.push.Goals as goal

-- a slot and room are what its questions asked for
pub push_at-requires : goal.push_at-requires
unfolding plan_push
push_at-requires c =
    let p = planned_two _ _ _ _ _ (sym c.plan_push.ensures ∙ ap planned c.in_ok-plan.was) in
    let q = push_asked _ _ _ _ _ _ _ _ p.0 in
    record {
      held = builder_areas_pass _ _ _ q.areas;
      announced = q.announced;
      room = q.fits;
      slot = found_inside _ _ _ _ _ c.ranges.hash.fits q.areas.index_holds (q.place ∙ ap Ok p.1);
    }
