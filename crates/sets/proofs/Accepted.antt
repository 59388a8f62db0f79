-- The ways in which open, push and finish end, with what its questions tell where one is accepted. Assumes nothing.
use Rattle.std.proofs.Common.{◌≡◌, ℕ, zero, suc, ◌*◌, ◌≤◌, Bool, true, false, cond, leb, List, length, take, refl, ◌∙◌, ne_eqb, leb-true, Option}
use Rattle.hash_parts.specs.declared.duration.Duration.{Duration}
use Rattle.hash_parts.specs.declared.setting.SegmentCacheConfig.{SegmentCacheConfig}
use Rattle.index.specs.Build.{cleared}
use Rattle.sets.specs.Answers.{accept, refuse}
use Rattle.sets.specs.Build.{builder_opened, Opened, after_open, push_slot, deadline_for, ask_push, Pushed, push_refused, push_made, after_push, segment_starts, ask_finish, Finished, starts_written, finish_made, finish_refused, after_finish}
use Rattle.sets.specs.Questions.{ask_open, buckets_in, decided, filter_words_in, first_no}
use Rattle.sets.specs.declared.builder.SegmentCacheBuilder.{SegmentCacheBuilder}
use Rattle.sets.proofs.Asked.{OpenAsked, open_asked, PushAsked, push_asked, FinishAsked, finish_asked, finish_last, finish_not_seven}

-- ---- open

module _ (c : SegmentCacheConfig) (records : ℕ) (index filter starts lengths arena : List ℕ) where
  pub data OpenCase : Opened → Type 0 where
    open_made : OpenAsked c records (length index) (length filter) (length starts) (length lengths) (length arena)
        → OpenCase record {
          answer = accept (builder_opened c records);
          index = cleared index (8 * buckets_in c records);
          filter = cleared filter (filter_words_in c records);
        }
    open_refused : (n : ℕ) → OpenCase record { answer = refuse n tt; index = index; filter = filter }

  pub open_case : OpenCase (after_open c records index filter starts lengths arena)
  unfolding after_open
  open_case = go (first_no (ask_open c records (length index) (length filter) (length starts) (length lengths) (length arena))) refl
    where
      go : (n : ℕ) → first_no (ask_open c records (length index) (length filter) (length starts) (length lengths) (length arena)) ≡ n
          → OpenCase
          (decided n
          (record { answer = accept (builder_opened c records); index = cleared index (8 * buckets_in c records); filter = cleared filter (filter_words_in c records) })
          (λ m. record { answer = refuse m tt; index = index; filter = filter }))
      go zero e = open_made (open_asked _ _ _ _ _ _ _ e)
      go (suc n) e = open_refused (suc n)

-- ---- push

module _ (b : SegmentCacheBuilder) (h : ℕ) (key value : List ℕ) (ttl : Option Duration) (index filter arena : List ℕ) where
  pub data PushCase : Pushed → Type 0 where
    push_made_law : PushAsked b h key (length value) ttl index (length filter) arena
        → PushCase (push_made (push_slot b h key index arena).value (deadline_for b.config ttl).value b h key value index filter arena)
    push_refused_law : (n : ℕ) → PushCase (push_refused b index filter arena n)

  pub push_case : PushCase (after_push b h key value ttl index filter arena)
  unfolding after_push
  push_case = go (first_no (ask_push b h key (length value) ttl index (length filter) arena)) refl
    where
      go : (n : ℕ) → first_no (ask_push b h key (length value) ttl index (length filter) arena) ≡ n
          → PushCase
          (decided n (push_made (push_slot b h key index arena).value (deadline_for b.config ttl).value b h key value index filter arena)
          (push_refused b index filter arena))
      go zero e = push_made_law (push_asked b h key (length value) ttl index (length filter) arena e)
      go (suc n) e = push_refused_law (suc n)

-- ---- finish

module _ (b : SegmentCacheBuilder) (target : ℕ) (index starts lengths scratch arena : List ℕ) where
  abbrev Asked : Type 0
  Asked = FinishAsked b target index (length starts) (length lengths) (length scratch) (length arena)

  pub data FinishCase : Finished → Type 0 where
    finish_made_law : Asked → length (segment_starts b target index) ≤ 256 → FinishCase (finish_made b target index starts lengths scratch)
    finish_many : Asked → FinishCase record { answer = refuse 7 b; index = index; starts = starts_written b target index starts; lengths = lengths; scratch = scratch }
    finish_refused_law : (n : ℕ) → FinishCase record { answer = refuse n b; index = index; starts = starts; lengths = lengths; scratch = scratch }

  abbrev questions : List (Bool × ℕ)
  questions = ask_finish b target index (length starts) (length lengths) (length scratch) (length arena)

  pub finish_case : FinishCase (after_finish b target index starts lengths scratch arena)
  unfolding after_finish
  finish_case =
      rw (finish_last b target index (length starts) (length lengths) (length scratch) (length arena))
      (go (first_no (take 6 questions)) refl (leb (length (segment_starts b target index)) 256) refl)
    where
      go : (n : ℕ) → first_no (take 6 questions) ≡ n → (t : Bool) → leb (length (segment_starts b target index)) 256 ≡ t
          → FinishCase (decided (decided n (cond t 0 7) (λ m. m)) (finish_made b target index starts lengths scratch) (finish_refused b target index starts lengths scratch))
      go zero e true f = finish_made_law (finish_asked b target index (length starts) (length lengths) (length scratch) (length arena) e) (leb-true _ _ f)
      go zero e false f = finish_many (finish_asked b target index (length starts) (length lengths) (length scratch) (length arena) e)
      go (suc n) e t f =
          let other : suc n ≡ 7 → ⊥ = λ (z : suc n ≡ 7). finish_not_seven b target index (length starts) (length lengths) (length scratch) (length arena) (e ∙ z) in
          rw (ne_eqb (suc n) 7 other) (finish_refused_law (suc n))
