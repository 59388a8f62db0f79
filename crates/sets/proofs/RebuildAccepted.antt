-- The ways in which the rebuild calls end, with what their questions tell where one is accepted. Assumes nothing.
use Rattle.std.proofs.Common.{◌≡◌, ℕ, zero, suc, ◌*◌, List, length, refl, Option}
use Rattle.hash_parts.specs.declared.duration.Duration.{Duration}
use Rattle.records.specs.Area.{over}
use Rattle.index.specs.Build.{cleared, empty_slot}
use Rattle.index.specs.Segments.{padded}
use Rattle.sets.specs.Answers.{accept, refuse}
use Rattle.sets.specs.Kept.{chosen}
use Rattle.sets.specs.Questions.{buckets_in, decided, filter_words_in, first_no}
use Rattle.sets.specs.Rebuild.{ask_rebuild_open, rebuild_opened, RebuildOpened, after_rebuild_open, ask_reused, Reused, reused_made, after_reused, ask_copied, copied_deadline, Copied, copied_made, after_copied, ask_rebuild_finish, RebuildFinished, rebuild_finish_made, after_rebuild_finish}
use Rattle.sets.specs.declared.cache.FrozenSegmentCache.{FrozenSegmentCache}
use Rattle.sets.specs.declared.rebuild.SegmentRecordLocation.{SegmentRecordLocation}
use Rattle.sets.specs.declared.rebuild.SharedSegmentCacheBuilder.{SharedSegmentCacheBuilder}
use Rattle.sets.proofs.RebuildAsked.{ReopenAsked, reopen_asked, ReusedAsked, reused_asked, CopiedAsked, copied_asked, RefinishAsked, refinish_asked}

-- ---- rebuild open

module _ (s : FrozenSegmentCache) (source_starts source_lengths arena : List ℕ) (records copied : ℕ) (flags : List ℕ) (tick : ℕ)
    (index filter starts lengths : List ℕ) where
  abbrev pub reopen_made : RebuildOpened
  reopen_made =
      record {
        answer = accept (rebuild_opened s records flags tick);
        index = cleared index (8 * buckets_in s.config records);
        filter = cleared filter (filter_words_in s.config records);
        starts = over (padded (chosen flags source_starts)) starts;
        lengths = over (padded (chosen flags source_lengths)) lengths;
      }

  pub data ReopenCase : RebuildOpened → Type 0 where
    reopen_made_law : ReopenAsked s source_starts source_lengths (length arena) records copied flags (length index) (length filter) (length starts) (length lengths) → ReopenCase reopen_made
    reopen_refused : (n : ℕ) → ReopenCase record { answer = refuse n s; index = index; filter = filter; starts = starts; lengths = lengths }

  pub reopen_case : ReopenCase (after_rebuild_open s source_starts source_lengths arena records copied flags tick index filter starts lengths)
  unfolding after_rebuild_open
  reopen_case =
      go (first_no (ask_rebuild_open s source_starts source_lengths (length arena) records copied flags (length index) (length filter) (length starts) (length lengths))) refl
    where
      go : (n : ℕ)
          → first_no (ask_rebuild_open s source_starts source_lengths (length arena) records copied flags (length index) (length filter) (length starts) (length lengths)) ≡ n
          → ReopenCase (decided n reopen_made (λ m. record { answer = refuse m s; index = index; filter = filter; starts = starts; lengths = lengths }))
      go zero e = reopen_made_law (reopen_asked _ _ _ _ _ _ _ _ _ _ _ e)
      go (suc n) e = reopen_refused (suc n)

-- ---- reused push

module _ (r : SharedSegmentCacheBuilder) (h : ℕ) (key value : List ℕ) (source : SegmentRecordLocation) (index filter starts lengths arena : List ℕ) where
  abbrev pub reused_here : Reused
  reused_here = reused_made (empty_slot index r.bucket_count h).value r h (length key) (length value) source index filter

  pub data ReusedCase : Reused → Type 0 where
    reused_made_law : ReusedAsked r h key value source index (length filter) starts lengths arena
        → ReusedCase reused_here
    reused_refused : (n : ℕ) → ReusedCase record { answer = refuse n r; index = index; filter = filter }

  pub reused_case : ReusedCase (after_reused r h key value source index filter starts lengths arena)
  unfolding after_reused
  reused_case = go (first_no (ask_reused r h key value source index (length filter) starts lengths arena)) refl
    where
      go : (n : ℕ) → first_no (ask_reused r h key value source index (length filter) starts lengths arena) ≡ n
          → ReusedCase (decided n reused_here (λ m. record { answer = refuse m r; index = index; filter = filter }))
      go zero e = reused_made_law (reused_asked _ _ _ _ _ _ _ _ _ _ e)
      go (suc n) e = reused_refused (suc n)

-- ---- copied push

module _ (r : SharedSegmentCacheBuilder) (h : ℕ) (key value : List ℕ) (ttl : Option Duration) (index filter starts lengths arena : List ℕ) where
  abbrev pub copied_here : Copied
  copied_here = copied_made (empty_slot index r.bucket_count h).value (copied_deadline r ttl).value r h key value index filter arena

  pub data CopiedCase : Copied → Type 0 where
    copied_made_law : CopiedAsked r h (length key) (length value) ttl index (length filter) starts lengths (length arena)
        → CopiedCase copied_here
    copied_refused : (n : ℕ) → CopiedCase record { answer = refuse n r; index = index; filter = filter; arena = arena }

  pub copied_case : CopiedCase (after_copied r h key value ttl index filter starts lengths arena)
  unfolding after_copied
  copied_case = go (first_no (ask_copied r h (length key) (length value) ttl index (length filter) starts lengths (length arena))) refl
    where
      go : (n : ℕ) → first_no (ask_copied r h (length key) (length value) ttl index (length filter) starts lengths (length arena)) ≡ n
          → CopiedCase (decided n copied_here (λ m. record { answer = refuse m r; index = index; filter = filter; arena = arena }))
      go zero e = copied_made_law (copied_asked _ _ _ _ _ _ _ _ _ _ e)
      go (suc n) e = copied_refused (suc n)

-- ---- rebuild finish

module _ (r : SharedSegmentCacheBuilder) (index starts lengths scratch arena : List ℕ) where
  pub data RefinishCase : RebuildFinished → Type 0 where
    refinish_made : RefinishAsked r (length index) starts lengths (length scratch) (length arena) → RefinishCase (rebuild_finish_made r index starts lengths scratch)
    refinish_refused : (n : ℕ) → RefinishCase record { answer = refuse n r; index = index; starts = starts; lengths = lengths; scratch = scratch }

  pub refinish_case : RefinishCase (after_rebuild_finish r index starts lengths scratch arena)
  unfolding after_rebuild_finish
  refinish_case = go (first_no (ask_rebuild_finish r (length index) starts lengths (length scratch) (length arena))) refl
    where
      go : (n : ℕ) → first_no (ask_rebuild_finish r (length index) starts lengths (length scratch) (length arena)) ≡ n
          → RefinishCase
          (decided n (rebuild_finish_made r index starts lengths scratch)
          (λ m. record { answer = refuse m r; index = index; starts = starts; lengths = lengths; scratch = scratch }))
      go zero e = refinish_made (refinish_asked _ _ _ _ _ _ e)
      go (suc n) e = refinish_refused (suc n)
