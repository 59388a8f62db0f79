-- Question 1 stays answered yes in rebuilds: an accepted rebuild open, reused push, copied push or rebuild finish leaves a state and areas that pass it, and
-- none changes the length of an area. Nothing is assumed of the state given but that the call was accepted. Assumes nothing.
use Rattle.std.proofs.Common.{◌≡◌, ℕ, zero, suc, ◌+◌, ◌-◌, ◌*◌, ◌<◌, ◌≤◌, Bool, true, false, cond, eqb, leb, List, [], ◌∷◌, length, get_or, set, sym, refl, ap, ◌∙◌, subst, arith, length-set, get_or-set_other, get_or-take, get_or-set_same, eqb-true, le-leb, leb-true, Option}
use native.Mathlib.Decide.{dec_lt}
use Rattle.hash_parts.specs.declared.duration.Duration.{Duration}
use Rattle.hash_parts.specs.declared.setting.SegmentExpiry.{SegmentExpiry}
use Rattle.records.specs.Record.{record_bytes, record_size}
use Rattle.records.proofs.Parts.{size_is}
use Rattle.records.specs.Area.{over}
use Rattle.index.specs.Build.{empty_slot}
use Rattle.index.specs.Segments.{padded}
use Rattle.index.proofs.Filling.{over_padded_length, filled_back}
use Rattle.index.proofs.Table.{true≢false}
use Rattle.sets.specs.Answers.{accept, RebuildPlaced}
use Rattle.sets.specs.Kept.{chosen, kept_count, kept_of, retained}
use Rattle.sets.specs.Lookup.{areas_hold_lookup, set_fits, areas_hold_set}
use Rattle.sets.specs.Questions.{all, arena_holds, buckets_in, filter_words_in, segment_areas_hold}
use Rattle.sets.specs.Rebuild.{accounted, adds_segment, areas_hold_rebuild, rebuild_filled, segment_for, segments_inside, kept_view, moved_location, rebuild_opened, RebuildOpened, after_rebuild_open, reused_grown, Reused, after_reused, copied_deadline, copied_grown, copied_location, copied_size, Copied, after_copied, build_of, rebuilt_set, with_last, RebuildFinished, after_rebuild_finish}
use Rattle.sets.specs.declared.cache.FrozenSegmentCache.{FrozenSegmentCache}
use Rattle.sets.specs.declared.rebuild.SegmentRecordLocation.{SegmentRecordLocation}
use Rattle.sets.specs.declared.rebuild.SharedSegmentCacheBuild.{SharedSegmentCacheBuild}
use Rattle.sets.specs.declared.rebuild.SharedSegmentCacheBuilder.{SharedSegmentCacheBuilder}
use Rattle.sets.proofs.Closure.{cleared_length, pasted_length, displaced_length, layout_length}
use Rattle.sets.proofs.Counts.{both}
use Rattle.sets.proofs.KeptBits.{chosen_length, retained_256, retained_kept}
use Rattle.sets.proofs.ReadInside.{reused_record}
use Rattle.sets.proofs.RebuildAccepted.{ReopenCase, reopen_made_law, reopen_refused, reopen_case, ReusedCase, reused_made_law, reused_refused, reused_case, CopiedCase, copied_made_law, copied_refused, copied_case, RefinishCase, refinish_made, refinish_refused, refinish_case}
use Rattle.sets.proofs.RebuildAsked.{EachInside, AreasHoldRebuild, ReopenAsked, rebuild_areas_pass, segments_pass}

-- ---- question 1 with every area: index, filter and arena by their lengths

-- what the pushes and the finish of a rebuild ask
unfoldable pub rebuild_passes : SharedSegmentCacheBuilder → ℕ → ℕ → List ℕ → List ℕ → ℕ → Bool
rebuild_passes r index filter starts lengths arena = all (areas_hold_rebuild r index starts lengths arena ∷ leb r.filter_words filter ∷ [])

module _ (r : SharedSegmentCacheBuilder) (index filter : ℕ) (starts lengths : List ℕ) (arena : ℕ) where
  rebuild_pass : AreasHoldRebuild r index starts lengths arena → r.filter_words ≤ filter → rebuild_passes r index filter starts lengths arena ≡ true
  unfolding rebuild_passes
  rebuild_pass f held = rw (rebuild_areas_pass r index starts lengths arena f, le-leb _ _ held)

  module _ (e : rebuild_passes r index filter starts lengths arena ≡ true) where
    passed : (areas_hold_rebuild r index starts lengths arena ≡ true) × (leb r.filter_words filter ≡ true)
    unfolding rebuild_passes
    passed = both (areas_hold_rebuild r index starts lengths arena) _ e

    pub rebuild_filter_holds : r.filter_words ≤ filter
    rebuild_filter_holds = leb-true _ _ passed.1

-- ---- rebuild open

-- the segments that flags keep lie where those of the source do
pub chosen_inside : (filled : ℕ) (flags starts lengths : List ℕ) → length flags ≤ length starts → length flags ≤ length lengths
    → EachInside filled starts lengths (length flags) → EachInside filled (chosen flags starts) (chosen flags lengths) (kept_count flags)
unfolding chosen kept_count
chosen_inside filled [] starts lengths hs hl each g h = absurd (omega arith)
chosen_inside filled (f ∷ flags) [] lengths hs hl each g h = absurd (omega (arith, hs))
chosen_inside filled (f ∷ flags) (a ∷ starts) [] hs hl each g h = absurd (omega (arith, hl))
chosen_inside filled (f ∷ flags) (a ∷ starts) (b ∷ lengths) hs hl each g h =
    go (eqb f 0) g h
    (chosen_inside filled flags starts lengths (omega (arith, hs)) (omega (arith, hl)) (λ (i : ℕ) (k : i < length flags). each (suc i) (omega arith)))
  where
    go : (t : Bool) (i : ℕ) → i < cond t (kept_count flags) (suc (kept_count flags))
        → ((j : ℕ) → j < kept_count flags → get_or (chosen flags starts) j 0 + get_or (chosen flags lengths) j 0 ≤ filled)
        → get_or (cond t (chosen flags starts) (a ∷ chosen flags starts)) i 0 + get_or (cond t (chosen flags lengths) (b ∷ chosen flags lengths)) i 0 ≤ filled
    go true i k rest = rest i k
    go false zero k rest = each 0 (omega arith)
    go false (suc i) k rest = rest i (omega arith)

-- a word that was filled in
filled_at : (l area : List ℕ) (g : ℕ) → length l ≤ 256 → g < length l → get_or (over (padded l) area) g 0 ≡ get_or l g 0
filled_at l area g h k = sym (get_or-take (length l) (over (padded l) area) g 0 k) ∙ ap (λ (m : List ℕ). get_or m g 0) (filled_back l area h)

-- segments that were filled in from two lists lie where those of the lists do
pub filled_inside : (filled n : ℕ) (ss ls starts lengths : List ℕ) → n ≤ 256 → length ss ≡ n → length ls ≡ n → EachInside filled ss ls n
    → EachInside filled (over (padded ss) starts) (over (padded ls) lengths) n
filled_inside filled n ss ls starts lengths few s l each g h =
    omega (arith, each g h, filled_at ss starts g (omega arith) (omega arith), filled_at ls lengths g (omega arith) (omega arith))

module _ (s : FrozenSegmentCache) (source_starts source_lengths : List ℕ) (arena records copied : ℕ) (flags : List ℕ) (tick index filter : ℕ)
    (starts lengths : List ℕ) (a : ReopenAsked s source_starts source_lengths arena records copied flags index filter (length starts) (length lengths)) where
  reopened_inside : EachInside s.filled (over (padded (chosen flags source_starts)) starts) (over (padded (chosen flags source_lengths)) lengths) (kept_count flags)
  reopened_inside =
      let in_starts : length flags ≤ length source_starts = omega (arith, a.same_count, a.areas.few, a.areas.starts_hold) in
      let in_lengths : length flags ≤ length source_lengths = omega (arith, a.same_count, a.areas.few, a.areas.lengths_hold) in
      filled_inside s.filled (kept_count flags) (chosen flags source_starts) (chosen flags source_lengths) starts lengths
      (omega (arith, a.few))
      (chosen_length flags source_starts in_starts)
      (chosen_length flags source_lengths in_lengths)
      (chosen_inside s.filled flags source_starts source_lengths in_starts in_lengths
      (λ (i : ℕ) (k : i < length flags). a.areas.inside i (omega (arith, a.same_count))))

  reopened_areas : AreasHoldRebuild (rebuild_opened s records flags tick) index (over (padded (chosen flags source_starts)) starts) (over (padded (chosen flags source_lengths)) lengths) arena
  reopened_areas =
      let few : length flags ≤ 256 = omega (arith, a.same_count, a.areas.few) in
      record {
        numbers =
            record {
              counts = a.counts;
              announced = omega arith;
              few = omega (arith, retained_256 (kept_of flags));
              key_bytes = omega arith;
              value_bytes = omega arith;
              header_length = omega arith;
            };
        index_holds = a.index_holds;
        starts_hold = omega (arith, over_padded_length (chosen flags source_starts) starts a.starts_hold, a.starts_hold);
        lengths_hold = omega (arith, over_padded_length (chosen flags source_lengths) lengths a.lengths_hold, a.lengths_hold);
        filled_held = omega (arith, a.areas.filled_held);
        arena_short = a.areas.arena_short;
        inside = λ (g : ℕ) (h : g < retained (kept_of flags)). omega (arith, reopened_inside g (omega (arith, retained_kept flags few)));
      }

module _ (s : FrozenSegmentCache) (source_starts source_lengths arena : List ℕ) (records copied : ℕ) (flags : List ℕ) (tick : ℕ)
    (index filter starts lengths : List ℕ) where
  abbrev reopened : RebuildOpened
  reopened = after_rebuild_open s source_starts source_lengths arena records copied flags tick index filter starts lengths

  abbrev Case : RebuildOpened → Type 0
  Case = ReopenCase s source_starts source_lengths arena records copied flags tick index filter starts lengths

  pub reopen_lengths : (length reopened.index ≡ length index) × (length reopened.filter ≡ length filter) × (length reopened.starts ≡ length starts)
      × (length reopened.lengths ≡ length lengths)
  reopen_lengths = go (reopen_case s source_starts source_lengths arena records copied flags tick index filter starts lengths)
    where
      go : {o : RebuildOpened} → Case o
          → (length o.index ≡ length index) × (length o.filter ≡ length filter) × (length o.starts ≡ length starts) × (length o.lengths ≡ length lengths)
      go (reopen_made_law a) = (
        cleared_length index _,
        cleared_length filter _,
        over_padded_length _ starts a.starts_hold,
        over_padded_length _ lengths a.lengths_hold,
      )
      go (reopen_refused n) = (refl, refl, refl, refl)

  -- what an accepted rebuild open leaves passes question 1, with the source's arena
  pub reopen_passes : (r : SharedSegmentCacheBuilder) → reopened.answer ≡ accept r
      → rebuild_passes r (length reopened.index) (length reopened.filter) reopened.starts reopened.lengths (length arena) ≡ true
  reopen_passes r e = go (reopen_case s source_starts source_lengths arena records copied flags tick index filter starts lengths) e
    where
      go : {o : RebuildOpened} → Case o → o.answer ≡ accept r → rebuild_passes r (length o.index) (length o.filter) o.starts o.lengths (length arena) ≡ true
      go (reopen_refused n) e = cc
      go (reopen_made_law a) e =
          let same : rebuild_opened s records flags tick ≡ r = cc in
          let zeros = cleared_length index (8 * buckets_in s.config records) in
          let blanks = cleared_length filter (filter_words_in s.config records) in
          rw (← same)
          (rw (zeros, blanks)
          (rebuild_pass (rebuild_opened s records flags tick) (length index) (length filter) _ _ (length arena)
          (reopened_areas s source_starts source_lengths (length arena) records copied flags tick (length index) (length filter) starts lengths a)
          a.filter_holds))

-- ---- pushes

-- one record more
module _ (r : SharedSegmentCacheBuilder) (header key value copied entries bytes index : ℕ) (starts lengths : List ℕ) (arena : ℕ) where
  accounted_areas : AreasHoldRebuild r index starts lengths arena → r.inserted_entries < r.expected_entries → header + key + value ≤ arena
      → r.copied_bytes ≤ copied → r.source_filled + copied ≤ arena → retained r.kept + segment_for copied ≤ 256
      → AreasHoldRebuild (accounted r header key value copied entries bytes) index starts lengths arena
  accounted_areas f more whole grown fits few =
      record {
        numbers =
            record {
              counts = f.numbers.counts;
              announced = omega arith;
              few = few;
              key_bytes = omega (arith, f.numbers.key_bytes, f.arena_short);
              value_bytes = omega (arith, f.numbers.value_bytes, f.arena_short);
              header_length = omega (arith, f.numbers.header_length, f.arena_short);
            };
        index_holds = f.index_holds;
        starts_hold = f.starts_hold;
        lengths_hold = f.lengths_hold;
        filled_held = fits;
        arena_short = f.arena_short;
        inside = λ (g : ℕ) (h : g < retained r.kept). omega (arith, f.inside g h);
      }

module _ (r : SharedSegmentCacheBuilder) (h : ℕ) (key value : List ℕ) (source : SegmentRecordLocation) (index filter starts lengths arena : List ℕ) where
  abbrev reused : Reused
  reused = after_reused r h key value source index filter starts lengths arena

  pub reused_lengths : (length reused.index ≡ length index) × (length reused.filter ≡ length filter)
  reused_lengths = go (reused_case r h key value source index filter starts lengths arena)
    where
      go : {p : Reused} → ReusedCase r h key value source index filter starts lengths arena p → (length p.index ≡ length index) × (length p.filter ≡ length filter)
      go (reused_refused n) = (refl, refl)
      go (reused_made_law a) = (length-set index _ _, displaced_length filter r.filter_words h _ r.bucket_count)

  -- what an accepted reused push leaves passes question 1
  pub reused_passes : (p : RebuildPlaced) → reused.answer ≡ accept p
      → rebuild_passes p.builder (length reused.index) (length reused.filter) starts lengths (length arena) ≡ true
  reused_passes p e = rw (reused_lengths.0, reused_lengths.1) (go (reused_case r h key value source index filter starts lengths arena) e)
    where
      go : {q : Reused} → ReusedCase r h key value source index filter starts lengths arena q → q.answer ≡ accept p
          → rebuild_passes p.builder (length index) (length filter) starts lengths (length arena) ≡ true
      go (reused_refused n) e = cc
      go (reused_made_law a) e =
          let grown : SharedSegmentCacheBuilder = reused_grown r source.header_bytes (length key) (length value) in
          let made : record { builder = grown; slot = (empty_slot index r.bucket_count h).value; location = moved_location r source.location } ≡ p = cc in
          let same : grown ≡ p.builder = ap (λ (q : RebuildPlaced). q.builder) made in
          let shown = reused_record key value source.header_bytes arena (kept_view r) starts lengths (moved_location r source.location + 1) a.holds in
          rw (← same)
          (rebuild_pass grown (length index) (length filter) starts lengths (length arena)
          (accounted_areas r source.header_bytes (length key) (length value) r.copied_bytes _ _ (length index) starts lengths (length arena)
          a.areas a.announced shown.3 (omega arith) a.areas.filled_held a.areas.numbers.few)
          a.filter_holds)

-- at most one segment for copied bytes
segment_one : (bytes : ℕ) → segment_for bytes ≤ 1
segment_one bytes = go (eqb bytes 0)
  where
    go : (t : Bool) → cond t 0 1 ≤ 1
    go true = omega arith
    go false = omega arith

-- header, key and value are the record's bytes
copied_whole : (e : SegmentExpiry) (key value : ℕ) → record_size e key value - key - value + key + value ≡ record_size e key value
unfolding record_size
copied_whole e key value = omega arith

module _ (r : SharedSegmentCacheBuilder) (h : ℕ) (key value : List ℕ) (ttl : Option Duration) (index filter starts lengths arena : List ℕ) where
  abbrev copied : Copied
  copied = after_copied r h key value ttl index filter starts lengths arena

  pub copied_lengths : (length copied.index ≡ length index) × (length copied.filter ≡ length filter) × (length copied.arena ≡ length arena)
  copied_lengths = go (copied_case r h key value ttl index filter starts lengths arena)
    where
      bytes : List ℕ
      bytes = record_bytes r.config.expiry key value (copied_deadline r ttl).value

      go : {p : Copied} → CopiedCase r h key value ttl index filter starts lengths arena p
          → (length p.index ≡ length index) × (length p.filter ≡ length filter) × (length p.arena ≡ length arena)
      go (copied_refused n) = (refl, refl, refl)
      go (copied_made_law a) = (
        length-set index _ _,
        displaced_length filter r.filter_words h _ r.bucket_count,
        pasted_length (rebuild_filled r) bytes arena (rw (size_is r.config.expiry key value (copied_deadline r ttl).value) a.fits),
      )

  -- what an accepted copied push leaves passes question 1
  pub copied_passes : (p : RebuildPlaced) → copied.answer ≡ accept p
      → rebuild_passes p.builder (length copied.index) (length copied.filter) starts lengths (length copied.arena) ≡ true
  copied_passes p e = rw (copied_lengths.0, copied_lengths.1, copied_lengths.2) (go (copied_case r h key value ttl index filter starts lengths arena) e)
    where
      go : {q : Copied} → CopiedCase r h key value ttl index filter starts lengths arena q → q.answer ≡ accept p
          → rebuild_passes p.builder (length index) (length filter) starts lengths (length arena) ≡ true
      go (copied_refused n) e = cc
      go (copied_made_law a) e =
          let k : ℕ = length key in
          let v : ℕ = length value in
          let size : ℕ = copied_size r k v in
          let grown : SharedSegmentCacheBuilder = copied_grown r size k v in
          let made : record { builder = grown; slot = (empty_slot index r.bucket_count h).value; location = copied_location r } ≡ p = cc in
          let same : grown ≡ p.builder = ap (λ (q : RebuildPlaced). q.builder) made in
          let whole : size - k - v + k + v ≤ length arena = omega (arith, copied_whole r.config.expiry k v, a.fits) in
          rw (← same)
          (rebuild_pass grown (length index) (length filter) starts lengths (length arena)
          (accounted_areas r (size - k - v) k v (r.copied_bytes + size) _ _ (length index) starts lengths (length arena)
          a.areas a.announced whole (omega arith) (omega (arith, a.fits)) (omega (arith, a.room, segment_one (r.copied_bytes + size))))
          a.filter_holds)

-- ---- rebuild finish

-- a rebuilt set has a segment, and no more than 256
rebuilt_segments : (r : SharedSegmentCacheBuilder) → retained r.kept + segment_for r.copied_bytes ≤ 256
    → (1 ≤ retained r.kept + cond (adds_segment r) 1 0) × (retained r.kept + cond (adds_segment r) 1 0 ≤ 256)
unfolding adds_segment
rebuilt_segments r few = go (eqb r.copied_bytes 0) few (eqb (retained r.kept) 0) refl
  where
    n : ℕ
    n = retained r.kept

    go : (t : Bool) → n + cond t 0 1 ≤ 256 → (u : Bool) → eqb n 0 ≡ u → (1 ≤ n + cond (cond t u true) 1 0) × (n + cond (cond t u true) 1 0 ≤ 256)
    go false f u e = (omega arith, f)
    go true f true e = let z : n ≡ 0 = eqb-true _ _ e in (omega arith, omega arith)
    go true f false e = (some n e, f)
      where
        some : (m : ℕ) → eqb m 0 ≡ false → 1 ≤ m + 0
        some zero q = absurd (true≢false q)
        some (suc m) q = omega arith

-- each of them lies in the filled arena
last_inside : (r : SharedSegmentCacheBuilder) (index : ℕ) (starts lengths : List ℕ) (arena : ℕ) → AreasHoldRebuild r index starts lengths arena
    → EachInside (rebuild_filled r) (with_last r starts r.source_filled) (with_last r lengths r.copied_bytes) (retained r.kept + cond (adds_segment r) 1 0)
last_inside r index starts lengths arena f = go (adds_segment r) (rebuilt_segments r f.numbers.few).1
  where
    n : ℕ
    n = retained r.kept

    go : (t : Bool) → n + cond t 1 0 ≤ 256
        → EachInside (rebuild_filled r) (cond t (set starts n r.source_filled) starts) (cond t (set lengths n r.copied_bytes) lengths) (n + cond t 1 0)
    go false few g h = f.inside g (omega arith)
    go true few g h =
        let begin : ℕ = r.source_filled in
        let len : ℕ = r.copied_bytes in
        elim (dec_lt g n) as
        (λ _. get_or (set starts n begin) g 0 + get_or (set lengths n len) g 0 ≤ rebuild_filled r) [
          | yes y ↦ omega
              (arith, f.inside g y, get_or-set_other starts n g begin 0 (λ (q : g ≡ n). omega arith), get_or-set_other lengths n g len 0 (λ (q : g ≡ n). omega arith))
          | no y ↦ let same : n ≡ g = omega arith in
              subst (λ (i : ℕ). get_or (set starts n begin) i 0 + get_or (set lengths n len) i 0 ≤ rebuild_filled r) same
              (omega (arith, get_or-set_same starts n begin 0 (omega (arith, f.starts_hold)), get_or-set_same lengths n len 0 (omega (arith, f.lengths_hold))))
        ]

with_last_length : (r : SharedSegmentCacheBuilder) (area : List ℕ) (word : ℕ) → length (with_last r area word) ≡ length area
with_last_length r area word = go (adds_segment r)
  where
    go : (t : Bool) → length (cond t (set area (retained r.kept) word) area) ≡ length area
    go true = length-set area (retained r.kept) word
    go false = refl

module _ (r : SharedSegmentCacheBuilder) (index starts lengths scratch arena : List ℕ) where
  abbrev refinished : RebuildFinished
  refinished = after_rebuild_finish r index starts lengths scratch arena

  pub refinish_lengths : (length refinished.index ≡ length index) × (length refinished.starts ≡ length starts) × (length refinished.lengths ≡ length lengths)
  refinish_lengths = go (refinish_case r index starts lengths scratch arena)
    where
      go : {f : RebuildFinished} → RefinishCase r index starts lengths scratch arena f
          → (length f.index ≡ length index) × (length f.starts ≡ length starts) × (length f.lengths ≡ length lengths)
      go (refinish_refused n) = (refl, refl, refl)
      go (refinish_made a) = (
        layout_length r.config.packed_bucket_index r.bucket_count index scratch,
        with_last_length r starts r.source_filled,
        with_last_length r lengths r.copied_bytes,
      )

  -- what an accepted rebuild finish leaves passes question 1; the filter is not lent to it
  pub refinish_passes : (b : SharedSegmentCacheBuild) → refinished.answer ≡ accept b → (filter : ℕ) → r.filter_words ≤ filter
      → areas_hold_lookup b.cache (length refinished.index) filter (length refinished.starts) (length refinished.lengths) (length arena) ≡ true
  unfolding areas_hold_lookup areas_hold_set set_fits segment_areas_hold arena_holds
  refinish_passes b e filter held = rw (refinish_lengths.0, refinish_lengths.1, refinish_lengths.2) (go (refinish_case r index starts lengths scratch arena) e)
    where
      go : {f : RebuildFinished} → RefinishCase r index starts lengths scratch arena f → f.answer ≡ accept b
          → all (areas_hold_set b.cache (length index) (length starts) (length lengths) (length arena) ∷ leb b.cache.filter_words filter ∷ []) ≡ true
      go (refinish_refused n) e = cc
      go (refinish_made a) e =
          let h = a.areas in
          let f = h.numbers in
          let made : build_of r lengths ≡ b = cc in
          let same : rebuilt_set r lengths ≡ b.cache = ap (λ (q : SharedSegmentCacheBuild). q.cache) made in
          let few = rebuilt_segments r f.few in
          rw (← same)
          (rw (f.counts, le-leb _ _ few.0, le-leb _ _ few.1, ← a.complete, le-leb _ _ f.key_bytes, le-leb _ _ f.value_bytes, le-leb _ _ f.header_length)
          (rw (le-leb _ _ h.index_holds, le-leb _ _ h.starts_hold, le-leb _ _ h.lengths_hold, le-leb _ _ h.filled_held, le-leb _ _ h.arena_short, le-leb _ _ held)))

  -- and each segment of the set lies in its filled arena, so it may be a source again
  pub refinish_inside : (b : SharedSegmentCacheBuild) → refinished.answer ≡ accept b
      → segments_inside b.cache.segments b.cache.filled refinished.starts refinished.lengths ≡ true
  refinish_inside b e = go (refinish_case r index starts lengths scratch arena) e
    where
      go : {f : RebuildFinished} → RefinishCase r index starts lengths scratch arena f → f.answer ≡ accept b
          → segments_inside b.cache.segments b.cache.filled f.starts f.lengths ≡ true
      go (refinish_refused n) e = cc
      go (refinish_made a) e =
          let made : build_of r lengths ≡ b = cc in
          let same : rebuilt_set r lengths ≡ b.cache = ap (λ (q : SharedSegmentCacheBuild). q.cache) made in
          rw (← same)
          (segments_pass (rebuild_filled r) (with_last r starts r.source_filled) (with_last r lengths r.copied_bytes) (retained r.kept + cond (adds_segment r) 1 0)
          (last_inside r (length index) starts lengths (length arena) a.areas))
