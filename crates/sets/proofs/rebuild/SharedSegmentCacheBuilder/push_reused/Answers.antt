-- `push_reused` meets its contract. Assumes nothing.
use Rattle.std.proofs.Common.{◌+◌, sym, ap, ◌∙◌, arith, Ok}
use Rattle.sets.specs.Rebuild.{kept_view, moved_location}
use Rattle.sets.specs.RebuildPlans.{plan_reused, slot_planned}
use Rattle.sets.proofs.ReadInside.{reused_record}
use Rattle.sets.proofs.RebuildAsked.{reused_asked, rebuild_passes_law}
use Rattle.sets.proofs.EmptySlots.{found_inside}
use Rattle.sets.proofs.Decides.{planned_yes}
use Rattle.sets.proofs.rebuild.SharedSegmentCacheBuilder.push_reused.Goals as goal

-- a slot and a record of the source are what its questions asked for
pub reused_at-requires : goal.reused_at-requires
unfolding plan_reused
reused_at-requires c =
    let a = c.args in
    let p = planned_yes _ _ _ (sym c.plan_reused.ensures ∙ ap slot_planned c.in_ok-slot.was) in
    let q = reused_asked _ _ _ _ _ _ _ _ _ _ p.0 in
    let shown = (reused_record _ _ _ _ (kept_view a.self.now) _ _ (moved_location a.self.now a.source.location + 1) q.holds).3 in
    record {
      fits = rebuild_passes_law _ q.areas.numbers;
      announced = q.announced;
      kept = q.kept;
      short = omega (arith, shown, q.areas.arena_short);
      slot = found_inside _ _ _ _ _ c.ranges.hash.fits q.areas.index_holds (q.place ∙ ap Ok p.1);
    }
