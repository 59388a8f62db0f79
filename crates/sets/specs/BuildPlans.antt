-- What the plan of a push comes to: the slot and the deadline of the new record, or the first refusal. For private functions alone. Assumes nothing.
use Rattle.std.specs.Prelude.{ℕ, Bool, Result, Ok, Err, List, [], ◌∷◌, ◌==◌, nat_le, Option}
use Rattle.hash_parts.specs.Error.{error_number}
use Rattle.hash_parts.specs.declared.duration.Duration.{Duration}
use Rattle.hash_parts.specs.declared.error.SegmentCacheBuildError.{SegmentCacheBuildError}
use Rattle.sets.specs.Answers.{Reply, accept, refuse}
use Rattle.sets.specs.Build.{ask_push, deadline_for, push_end, push_slot}
use Rattle.sets.specs.Questions.{decided, first_no}
use Rattle.sets.specs.declared.builder.PushPlan.{PushPlan}
use Rattle.sets.specs.declared.builder.SegmentCacheBuilder.{SegmentCacheBuilder}

abbrev pub planned : Result PushPlan SegmentCacheBuildError → Reply (ℕ × ℕ) (Unit {0})
planned (Ok p) = accept (p.slot, p.expires_at)
planned (Err e) = refuse (error_number e) tt

unfoldable pub plan_push : SegmentCacheBuilder → ℕ → List ℕ → ℕ → Option Duration → List ℕ → ℕ → List ℕ → Reply (ℕ × ℕ) (Unit {0})
plan_push b h key value ttl index filter arena =
    decided (first_no (ask_push b h key value ttl index filter arena))
    (accept ((push_slot b h key index arena).value, (deadline_for b.config ttl).value))
    (λ n. refuse n tt)

-- the last questions of a push, once its slot is known: the deadline, and room in the arena; key, value and arena by their lengths
unfoldable pub ask_record : SegmentCacheBuilder → ℕ → ℕ → Option Duration → ℕ → List (Bool × ℕ)
ask_record b key value ttl arena =
    (((deadline_for b.config ttl).number == 0), (deadline_for b.config ttl).number)
    ∷ (nat_le (push_end b key value) arena, 10)
    ∷ []

unfoldable pub plan_record : SegmentCacheBuilder → ℕ → ℕ → ℕ → Option Duration → ℕ → Reply (ℕ × ℕ) (Unit {0})
plan_record b slot key value ttl arena =
    decided (first_no (ask_record b key value ttl arena)) (accept (slot, (deadline_for b.config ttl).value)) (λ n. refuse n tt)
