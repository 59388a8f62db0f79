-- `first_slot` meets its contract: the buckets left answer as the whole walk does. Without buckets a hash's first bucket is 0, so buckets are bounded
-- by `buckets - 1`. Assumes nothing.
use Rattle.std.proofs.Common.{◌≡◌, ◌+◌, ◌-◌, sym, ◌∙◌, arith}
use native.Mathlib.Nat.{sub-zero}
use Rattle.index.specs.Build.{next_bucket}
use Rattle.index.proofs.Walks.{next_within}
use Rattle.index.proofs.Slots.{buckets_answer, slots_short, buckets_first, buckets_end, buckets_found_law, buckets_on}
use Rattle.index.proofs.build.first_slot.Goals as goal

pub returns-then-index-buckets : goal.returns-then-index-buckets
returns-then-index-buckets g c = λ test h. let a = c.args in sym (slots_short test a.index.now a.buckets a.hash c.if-index-buckets.true)

pub loop-init : goal.loop-init
loop-init g c =
    let a = c.args in
    (c.reduce_hash-bucket.ensures.1, λ test h. rw (sub-zero a.buckets, c.reduce_hash-bucket.ensures.0) (buckets_first test a.index.now a.buckets a.hash (omega arith) (omega arith)))

pub returns-in-Some : goal.returns-in-Some
returns-in-Some g c = λ test h.
    let a = c.args in
    let l = c.loop in
    let rest = buckets_answer test a.index.now a.buckets (a.buckets - l.counter - 1) (next_bucket l.bucket a.buckets) in
    let found = rw c.in-Some.is at (c.slot_in_bucket.ensures test h rest) in
    sym (l.invariant.1 test h ∙ buckets_found_law test a.index.now a.buckets (a.buckets - l.counter) l.bucket (omega arith) c.in-Some.found (sym found))

pub loop-preserved : goal.loop-preserved
loop-preserved g c =
    let a = c.args in
    let l = c.loop in
    let e = c.next_bucket-bucket.ensures in (
      omega (arith, e, next_within l.bucket a.buckets),
      λ test h.
          let less : a.buckets - (l.counter + 1) ≡ a.buckets - l.counter - 1 = omega arith in
          let rest = buckets_answer test a.index.now a.buckets (a.buckets - l.counter - 1) (next_bucket l.bucket a.buckets) in
          let on = rw c.in_default.is at (c.slot_in_bucket.ensures test h rest) in
          rw (e, less) (l.invariant.1 test h ∙ buckets_on test a.index.now a.buckets (a.buckets - l.counter) l.bucket (omega arith) (sym on)),
    )

pub returns : goal.returns
returns g c = λ test h.
    let a = c.args in
    let l = c.loop in
    sym (l.invariant.1 test h ∙ buckets_end test a.index.now a.buckets (a.buckets - l.counter) l.bucket (omega arith))
