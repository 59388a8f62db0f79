-- What the plans of a rebuild's pushes come to: the slot of a new record, and the deadline of a copied one, or the first refusal. For private functions alone. Assumes nothing.
use Rattle.std.specs.Prelude.{ℕ, ◌+◌, Bool, Result, List, [], ◌∷◌, ◌==◌, nat_le, nat_lt, Option}
use Rattle.hash_parts.specs.declared.duration.Duration.{Duration}
use Rattle.hash_parts.specs.declared.error.SegmentCacheBuildError.{SegmentCacheBuildError}
use Rattle.index.specs.Build.{empty_slot}
use Rattle.index.specs.Segments.{most_segments}
use Rattle.sets.specs.Answers.{Reply, accept, refuse, reply_of}
use Rattle.sets.specs.Kept.{retained}
use Rattle.sets.specs.Questions.{decided, first_no}
use Rattle.sets.specs.Rebuild.{ask_copied, ask_reused, copied_deadline, copied_size, rebuild_filled}
use Rattle.sets.specs.declared.rebuild.SegmentRecordLocation.{SegmentRecordLocation}
use Rattle.sets.specs.declared.rebuild.SharedSegmentCacheBuilder.{SharedSegmentCacheBuilder}

-- ---- reused push

abbrev pub slot_planned : Result ℕ SegmentCacheBuildError → Reply ℕ (Unit {0})
slot_planned r = reply_of tt r

unfoldable pub plan_reused : SharedSegmentCacheBuilder → ℕ → List ℕ → List ℕ → SegmentRecordLocation → List ℕ → ℕ → List ℕ → List ℕ → List ℕ → Reply ℕ (Unit {0})
plan_reused r h key value source index filter starts lengths arena =
    decided (first_no (ask_reused r h key value source index filter starts lengths arena)) (accept (empty_slot index r.bucket_count h).value) (λ n. refuse n tt)

-- ---- copied push

-- the last questions of a copied push: room in the arena, a segment, and a slot
unfoldable pub ask_room : SharedSegmentCacheBuilder → ℕ → ℕ → ℕ → List ℕ → ℕ → List (Bool × ℕ)
ask_room r h key value index arena =
    (nat_le (rebuild_filled r + copied_size r key value) arena, 10)
    ∷ (nat_lt (retained r.kept) most_segments, 7)
    ∷ (((empty_slot index r.bucket_count h).number == 0), (empty_slot index r.bucket_count h).number)
    ∷ []

unfoldable pub plan_room : SharedSegmentCacheBuilder → ℕ → ℕ → ℕ → ℕ → List ℕ → ℕ → Reply (ℕ × ℕ) (Unit {0})
plan_room r deadline h key value index arena =
    decided (first_no (ask_room r h key value index arena)) (accept ((empty_slot index r.bucket_count h).value, deadline)) (λ n. refuse n tt)

unfoldable pub plan_copied : SharedSegmentCacheBuilder → ℕ → ℕ → ℕ → Option Duration → List ℕ → ℕ → List ℕ → List ℕ → ℕ → Reply (ℕ × ℕ) (Unit {0})
plan_copied r h key value ttl index filter starts lengths arena =
    decided (first_no (ask_copied r h key value ttl index filter starts lengths arena))
    (accept ((empty_slot index r.bucket_count h).value, (copied_deadline r ttl).value))
    (λ n. refuse n tt)
