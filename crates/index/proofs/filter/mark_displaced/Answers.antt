-- `mark_displaced` meets its contract by its one test. Assumes nothing.
use Rattle.std.proofs.Common.{◌≡◌, ℕ, ◌/◌, ◌<◌, ◌≤◌, ap, ◌∙◌, arith, le-leb}
use borrow.Author.Tests.{lt-leb}
use Rattle.index.specs.Filter.{displaced, displaced_marked}
use Rattle.hash_parts.specs.Hash.{first_bucket}
use Rattle.index.proofs.filter.mark_displaced.Goals as goal

pub returns-then-bucket_displacement-lt-NEGATIVE_FILTER_PREFIX_BUCKETS : goal.returns-then-bucket_displacement-lt-NEGATIVE_FILTER_PREFIX_BUCKETS
unfolding displaced_marked
returns-then-bucket_displacement-lt-NEGATIVE_FILTER_PREFIX_BUCKETS c =
    let a = c.args in
    let e : c.bucket_displacement.result ≡ displaced (first_bucket a.hash a.buckets) (a.slot / 8) a.buckets =
    c.bucket_displacement.ensures ∙ ap (λ (x : ℕ). displaced x (a.slot / 8) a.buckets) c.reduce_hash-primary.ensures.0 in
    let l : displaced (first_bucket a.hash a.buckets) (a.slot / 8) a.buckets < 2 = omega arith in
    simp (lt-leb _ _ l)

pub returns : goal.returns
unfolding displaced_marked
returns c =
    let a = c.args in
    let e : c.bucket_displacement.result ≡ displaced (first_bucket a.hash a.buckets) (a.slot / 8) a.buckets =
    c.bucket_displacement.ensures
    ∙ ap (λ (x : ℕ). displaced x (a.slot / 8) a.buckets) c.reduce_hash-primary.ensures.0 in
    let l : 2 ≤ displaced (first_bucket a.hash a.buckets) (a.slot / 8) a.buckets = omega arith in
    simp (le-leb _ _ l) c.mark_negative_filter.ensures
