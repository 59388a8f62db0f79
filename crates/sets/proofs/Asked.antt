-- What the questions of open, push and finish tell where all are answered yes. Assumes nothing.
use Rattle.std.proofs.Common.{◌≡◌, ℕ, zero, suc, ◌*◌, ◌<◌, ◌≤◌, Bool, true, false, cond, eqb, ltb, leb, ◌⊎◌, List, [], ◌∷◌, ◌++◌, length, take, refl, inl, inr, ⊎_elim, arith, ltb-true, eq-eqb, ne_eqb, eqb-true, leb-true, Option, Ok}
use Rattle.hash_parts.specs.Hash.{tag_of}
use Rattle.hash_parts.specs.declared.duration.Duration.{Duration}
use Rattle.hash_parts.specs.declared.setting.SegmentCacheConfig.{SegmentCacheConfig}
use Rattle.index.specs.Build.{build_record, cleared, holds_key, slot_for}
use Rattle.index.specs.Segments.{locations_inside}
use Rattle.index.proofs.Slots.{slot_accepted}
use Rattle.sets.specs.Answers.{accept}
use Rattle.sets.specs.Build.{Opened, areas_hold_builder, ask_finish, ask_push, builder_opened, deadline_for, push_end, push_slot, segment_starts}
use Rattle.sets.specs.Questions.{ask_open, buckets_in, counts_fit, decided, filter_words_in, first_no, lifetime_fits, nanoseconds_fit, occupancy_fits, open_areas_hold, scratch_holds, segment_areas_hold, setting_fits, target_fits, tick_runs}
use Rattle.sets.specs.declared.builder.SegmentCacheBuilder.{SegmentCacheBuilder}
use Rattle.sets.proofs.Counts.{both, AreasHoldBuilder, builder_areas_asked}

-- the first question, and those after it
pub then : (b : Bool) (n r : ℕ) → 0 < n → cond b r n ≡ 0 → (b ≡ true) × (r ≡ 0)
then true n r h e = (refl, e)
then false n r h e = absurd (omega (arith, e))

-- the same of a question that is answered no just where its number is not 0
pub then_own : (n r : ℕ) → cond (eqb n 0) r n ≡ 0 → (n ≡ 0) × (r ≡ 0)
then_own zero r e = (refl, e)
then_own (suc n) r e =
    let own : cond (eqb (suc n) 0) r (suc n) ≡ suc n = rw (ne_eqb (suc n) 0 (λ (z : suc n ≡ 0). omega arith)) in
    absurd (omega (arith, own, e))

-- ---- the last question

-- a number that is neither 0 nor another; questions with such numbers
abbrev Other : ℕ → ℕ → Type 0
Other m n = (0 < n) × (n ≡ m → ⊥)

abbrev Apart : ℕ → List (Bool × ℕ) → Type 0
Apart m [] = Unit {0}
Apart m (q ∷ l) = Other m q.1 × Apart m l

module _ (m : ℕ) where
  -- one question more after them
  with_last_law : (l : List (Bool × ℕ)) (b : Bool) → Apart m l → first_no (l ++ ((b, m) ∷ [])) ≡ decided (first_no l) (cond b 0 m) (λ n. n)
  with_last_law [] b a = refl
  with_last_law (q ∷ l) b a = go q.0 q.1 a.0.0 (with_last_law l b a.1)
    where
      go : (t : Bool) (n : ℕ) → 0 < n → first_no (l ++ ((b, m) ∷ [])) ≡ decided (first_no l) (cond b 0 m) (λ n. n)
          → cond t (first_no (l ++ ((b, m) ∷ []))) n ≡ decided (cond t (first_no l) n) (cond b 0 m) (λ n. n)
      go true n p e = e
      go false zero p e = absurd (omega arith)
      go false (suc n) p e = refl

  not_last : (l : List (Bool × ℕ)) → 0 < m → Apart m l → first_no l ≡ m → ⊥
  not_last [] p a e = omega (arith, e)
  not_last (q ∷ l) p a e = go q.0 (not_last l p a.1) e
    where
      go : (t : Bool) → (first_no l ≡ m → ⊥) → cond t (first_no l) q.1 ≡ m → ⊥
      go true rest f = rest f
      go false rest f = a.0.1 f

-- ---- open

module _ (c : SegmentCacheConfig) (records index filter starts lengths arena : ℕ) where
  pub record OpenAsked : Type 0 where
    pub counts : counts_fit c records (buckets_in c records) (filter_words_in c records) ≡ true
    pub index_holds : 8 * buckets_in c records ≤ index
    pub filter_holds : filter_words_in c records ≤ filter
    pub segments_hold : segment_areas_hold starts lengths ≡ true
    pub arena_short : arena ≤ 1073741824

  pub open_asked : first_no (ask_open c records index filter starts lengths arena) ≡ 0 → OpenAsked
  unfolding ask_open counts_fit setting_fits open_areas_hold
  open_asked e =
      let t = then (nanoseconds_fit c.expiry) 9 _ (omega arith) e in
      let u = then (occupancy_fits c.target_occupied_slots) 1 _ (omega arith) t.1 in
      let v = then (tick_runs c.expiry) 2 _ (omega arith) u.1 in
      let w = then (leb records 1048576) 3 _ (omega arith) v.1 in
      let x = then (open_areas_hold c records index filter) 10 _ (omega arith) w.1 in
      let y = then (segment_areas_hold starts lengths) 10 _ (omega arith) x.1 in
      let z = then (leb arena 1073741824) 10 _ (omega arith) y.1 in
      let areas = both (leb (8 * buckets_in c records) index) _ x.0 in
      record {
        counts = rw (t.0, u.0, v.0, w.0, eq-eqb (buckets_in c records) (buckets_in c records) refl, eq-eqb (filter_words_in c records) (filter_words_in c records) refl);
        index_holds = leb-true _ _ areas.0;
        filter_holds = leb-true _ _ areas.1;
        segments_hold = y.0;
        arena_short = leb-true _ _ z.0;
      }

-- what open leaves where it is accepted
pub open_left_law : (c : SegmentCacheConfig) (records : ℕ) (index filter zeroed blank : List ℕ) (b : SegmentCacheBuilder) → b ≡ builder_opened c records
    → zeroed ≡ cleared index (b.bucket_count * 8) → blank ≡ cleared filter b.filter_words
    → ◌≡◌ {A = Opened} (record { answer = accept b; index = zeroed; filter = blank })
    (record { answer = accept (builder_opened c records); index = cleared index (8 * buckets_in c records); filter = cleared filter (filter_words_in c records) })
open_left_law c records index filter zeroed blank b made zeros blanks =
    let e : buckets_in c records * 8 ≡ 8 * buckets_in c records = omega arith in
    rw (zeros, blanks, made, e)

-- ---- push

module _ (b : SegmentCacheBuilder) (h : ℕ) (key : List ℕ) (value : ℕ) (ttl : Option Duration) (index : List ℕ) (filter : ℕ) (arena : List ℕ) where
  -- the words that hold the key
  abbrev pub taken_by : ℕ → Bool
  taken_by = holds_key (build_record b.config.expiry (take b.filled arena)) key (tag_of h)

  pub record PushAsked : Type 0 where
    pub areas : AreasHoldBuilder b (length index) (length arena)
    pub filter_holds : b.filter_words ≤ filter
    pub announced : b.inserted_entries < b.expected_entries
    pub place : slot_for taken_by index b.bucket_count h ≡ Ok (push_slot b h key index arena).value
    pub deadline : (deadline_for b.config ttl).number ≡ 0
    pub fits : push_end b (length key) value ≤ length arena

  pub push_asked : first_no (ask_push b h key value ttl index filter arena) ≡ 0 → PushAsked
  unfolding ask_push
  push_asked e =
      let t = then (areas_hold_builder b (length index) (length arena)) 11 _ (omega arith) e in
      let u = then (leb b.filter_words filter) 11 _ (omega arith) t.1 in
      let v = then (lifetime_fits ttl) 9 _ (omega arith) u.1 in
      let w = then (ltb b.inserted_entries b.expected_entries) 3 _ (omega arith) v.1 in
      let x = then_own (push_slot b h key index arena).number _ w.1 in
      let y = then_own (deadline_for b.config ttl).number _ x.1 in
      let z = then (leb (push_end b (length key) value) (length arena)) 10 _ (omega arith) y.1 in
      record {
        areas = builder_areas_asked b (length index) (length arena) t.0;
        filter_holds = leb-true _ _ u.0;
        announced = ltb-true _ _ w.0;
        place = slot_accepted (slot_for taken_by index b.bucket_count h) x.0;
        deadline = y.0;
        fits = leb-true _ _ z.0;
      }

-- ---- finish

module _ (b : SegmentCacheBuilder) (target : ℕ) (index : List ℕ) (starts lengths scratch arena : ℕ) where
  -- what all questions but the last tell
  pub record FinishAsked : Type 0 where
    pub areas : AreasHoldBuilder b (length index) arena
    pub starts_hold : 256 ≤ starts
    pub lengths_hold : 256 ≤ lengths
    pub complete : b.inserted_entries ≡ b.expected_entries
    pub some_target : 1 ≤ target
    pub scratch_held : scratch_holds b.config b.bucket_count scratch ≡ true
    pub located : locations_inside index b.bucket_count b.filled ≡ true

  pub finish_asked : first_no (take 6 (ask_finish b target index starts lengths scratch arena)) ≡ 0 → FinishAsked
  unfolding ask_finish segment_areas_hold target_fits
  finish_asked e =
      let t = then (areas_hold_builder b (length index) arena) 11 _ (omega arith) e in
      let u = then (segment_areas_hold starts lengths) 11 _ (omega arith) t.1 in
      let v = then (eqb b.inserted_entries b.expected_entries) 3 _ (omega arith) u.1 in
      let w = then (target_fits target) 8 _ (omega arith) v.1 in
      let x = then (scratch_holds b.config b.bucket_count scratch) 10 _ (omega arith) w.1 in
      let y = then (locations_inside index b.bucket_count b.filled) 11 _ (omega arith) x.1 in
      let segments = both (leb 256 starts) _ u.0 in
      record {
        areas = builder_areas_asked b (length index) arena t.0;
        starts_hold = leb-true _ _ segments.0;
        lengths_hold = leb-true _ _ segments.1;
        complete = eqb-true _ _ v.0;
        some_target = leb-true _ _ (both (leb 1 target) _ w.0).0;
        scratch_held = x.0;
        located = y.0;
      }

  -- 7 is the last question's number alone
  others : Apart 7 (take 6 (ask_finish b target index starts lengths scratch arena))
  unfolding ask_finish
  others =
      let not : (n : ℕ) → n < 7 ⊎ 7 < n → n ≡ 7 → ⊥ = λ n h e. ⊎_elim (λ l. omega (arith, l, e)) (λ l. omega (arith, l, e)) h in
      let three : Other 7 3 = (omega arith, not 3 (inl (omega arith))) in
      let eight : Other 7 8 = (omega arith, not 8 (inr (omega arith))) in
      let ten : Other 7 10 = (omega arith, not 10 (inr (omega arith))) in
      let eleven : Other 7 11 = (omega arith, not 11 (inr (omega arith))) in
      (eleven, (eleven, (three, (eight, (ten, (eleven, tt))))))

  pub finish_last : first_no (ask_finish b target index starts lengths scratch arena)
      ≡ decided (first_no (take 6 (ask_finish b target index starts lengths scratch arena))) (cond (leb (length (segment_starts b target index)) 256) 0 7) (λ n. n)
  unfolding ask_finish
  finish_last = with_last_law 7 (take 6 (ask_finish b target index starts lengths scratch arena)) (leb (length (segment_starts b target index)) 256) others

  pub finish_not_seven : first_no (take 6 (ask_finish b target index starts lengths scratch arena)) ≡ 7 → ⊥
  finish_not_seven = not_last 7 (take 6 (ask_finish b target index starts lengths scratch arena)) (omega arith) others
