-- `finish` meets its contract. Assumes nothing.
use Rattle.std.proofs.Common.{◌^◌, ◌≤◌, sym, ap, ◌∙◌, arith}
use Rattle.sets.specs.Kept.{retained}
use Rattle.sets.specs.Questions.{check_number}
use Rattle.sets.specs.Rebuild.{rebuild_filled}
use Rattle.sets.proofs.KeptBits.{retained_256}
use Rattle.sets.proofs.RebuildSteps.{sum_inside}
use Rattle.sets.proofs.RebuildAsked.{refinish_asked}
use Rattle.sets.proofs.rebuild.SharedSegmentCacheBuilder.finish.Goals as goal

pub into_build-build-requires : goal.into_build-build-requires
into_build-build-requires c =
    let a = c.args in
    let q = (refinish_asked _ _ _ _ _ _ (sym c.check_finish.ensures ∙ ap check_number c.in_ok-check_finish.was)).areas in
    let few = retained_256 a.self.kept in
    let short : rebuild_filled a.self ≤ 2 ^ 30 = omega (arith, q.filled_held, q.arena_short) in
    let sum = sum_inside (rebuild_filled a.self) a.starts.now a.lengths.now (retained a.self.kept) short q.inside in
    record {
      lengths = omega (arith, few, q.lengths_hold);
      sum = omega (arith, few, sum);
      short = short;
      counts = q.numbers.counts;
    }
