-- `finish` meets its contract. Assumes nothing.
use Rattle.std.proofs.Common.{ℕ, Result, sym, ap, ◌∙◌}
use Rattle.std.proofs.lemmas.Result.{err_from_is_err_and}
use Rattle.hash_parts.specs.declared.error.SegmentCacheBuildError.{SegmentCacheBuildError}
use Rattle.index.specs.Segments.{split_result}
use Rattle.sets.specs.Questions.{check_number}
use Rattle.sets.proofs.Splitting.{split_made, split_refused}
use Rattle.sets.proofs.builder.SegmentCacheBuilder.finish.Goals as goal

pub returns-in_err-segments : goal.returns-in_err-segments
returns-in_err-segments c =
    let w = c.split_record_segments in
    let asked = sym c.check_finish.ensures ∙ ap check_number c.in_ok-check_finish.was in
    let split = ap (λ (r : Result ℕ SegmentCacheBuildError). split_result r w.new.index w.new.starts w.new.lengths) (sym c.in_err-segments.was) ∙ w.ensures in
    let refused = err_from_is_err_and c.from_residual-in_err-segments.result c.from_residual-in_err-segments.ensures.1 in
    rw (refused.1, refused.2) (split_refused _ _ _ _ _ c.args.scratch.now _ _ _ _ _ asked split)

pub returns : goal.returns
returns c =
    let w = c.split_record_segments in
    let asked = sym c.check_finish.ensures ∙ ap check_number c.in_ok-check_finish.was in
    let split = ap (λ (r : Result ℕ SegmentCacheBuildError). split_result r w.new.index w.new.starts w.new.lengths) (sym c.in_ok-segments.was) ∙ w.ensures in
    split_made _ _ _ _ _ _ _ _ _ _ _ _ _ _ asked split c.into_cache.ensures c.pack_index.ensures.index c.pack_index.ensures.scratch
