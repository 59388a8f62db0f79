-- Question 1 stays answered yes: an accepted open, push or finish leaves a state and areas that pass it, and no call changes the length of an area. Nothing
-- is assumed of the state given but that the call was accepted. Assumes nothing.
use Rattle.std.proofs.Common.{◌≡◌, ℕ, ◌+◌, ◌*◌, ◌/◌, ◌%◌, ◌<◌, ◌≤◌, Bool, true, false, cond, leb, List, [], ◌∷◌, ◌++◌, map, length, get_or, take, drop, replicate, refl, ap, ◌∙◌, arith, length-append, length-drop, length-set, length-take, le-leb, leb-true, Option, Some, None}
use lib.ListN.{length-map, length-replicate}
use Rattle.hash_parts.specs.Duration.{lives_at}
use Rattle.hash_parts.specs.Hash.{first_bucket}
use Rattle.hash_parts.specs.declared.duration.Duration.{Duration}
use Rattle.hash_parts.specs.declared.setting.SegmentCacheConfig.{SegmentCacheConfig}
use Rattle.hash_parts.specs.declared.setting.SegmentExpiry.{SegmentExpiry}
use Rattle.records.specs.Area.{pasted, over}
use Rattle.records.specs.Record.{record_bytes, record_size}
use Rattle.records.proofs.Area.{over_length}
use Rattle.records.proofs.Parts.{size_is}
use Rattle.index.specs.Build.{cleared}
use Rattle.index.specs.Filter.{displaced, displaced_marked, filter_marked}
use Rattle.index.specs.Packed.{packed, packed_index, marked_byte, unmarked_byte, with_byte}
use Rattle.index.specs.Segments.{split_word, split_words}
use Rattle.index.specs.Word.{marked, unmarked}
use Rattle.index.specs.declared.find.FoundRecord.{FoundRecord}
use Rattle.index.proofs.Filling.{over_padded_length}
use Rattle.index.proofs.Filters.{marked_length}
use Rattle.index.proofs.PackedReads.{packed_length}
use Rattle.index.proofs.Starts.{starts_first}
use Rattle.sets.specs.Answers.{accept, Placed}
use Rattle.sets.specs.Build.{areas_hold_builder, builder_opened, builder_grown, deadline_for, Opened, after_open, Pushed, after_push, set_of, push_slot, segment_starts, Finished, after_finish}
use Rattle.sets.specs.Lookup.{Got, Taken, set_fits, areas_hold_set, areas_hold_lookup, ask_lookup, find_of, slot_marked, slot_cleared, live_marked, gotten, got_refused, after_get, taken_of, take_refused, after_take}
use Rattle.sets.specs.Questions.{all, arena_holds, decided, first_no, segment_areas_hold}
use Rattle.sets.specs.declared.builder.SegmentCacheBuilder.{SegmentCacheBuilder}
use Rattle.sets.specs.declared.cache.FrozenSegmentCache.{FrozenSegmentCache}
use Rattle.sets.proofs.Accepted.{OpenCase, open_made, open_refused, open_case, PushCase, push_made_law, push_refused_law, push_case, FinishCase, finish_made_law, finish_many, finish_refused_law, finish_case}
use Rattle.sets.proofs.Counts.{both, BuilderFits, builder_areas_pass, set_index}
use Rattle.sets.proofs.Decides.{decided_either}

-- ---- question 1 with every area, by their lengths: index, filter, starts, lengths, arena

-- of a builder: what its pushes and its finish ask
unfoldable pub builder_passes : SegmentCacheBuilder → ℕ → ℕ → ℕ → ℕ → ℕ → Bool
builder_passes b index filter starts lengths arena = all (areas_hold_builder b index arena ∷ leb b.filter_words filter ∷ segment_areas_hold starts lengths ∷ [])

-- ---- lengths of areas

pub cleared_length : (area : List ℕ) (count : ℕ) → length (cleared area count) ≡ length area
unfolding cleared
cleared_length area count = go (leb count (length area)) refl
  where
    go : (b : Bool) → leb count (length area) ≡ b → length (cond b (over (replicate count 0) area) area) ≡ length area
    go false e = refl
    go true e = over_length (replicate count 0) area (omega (arith, leb-true count (length area) e, length-replicate {A = ℕ} count 0))

pub pasted_length : (at : ℕ) (s area : List ℕ) → at + length s ≤ length area → length (pasted at s area) ≡ length area
pasted_length at s area h = simp (length-append, length-take, length-drop) (omega arith)

pub displaced_length : (filter : List ℕ) (words h slot buckets : ℕ) → length (displaced_marked filter words h slot buckets) ≡ length filter
unfolding displaced_marked
displaced_length filter words h slot buckets = go (leb 2 (displaced (first_bucket h buckets) (slot / 8) buckets))
  where
    go : (b : Bool) → length (cond b (filter_marked filter words h) filter) ≡ length filter
    go true = marked_length filter words h
    go false = refl

split_length : (index : List ℕ) (buckets : ℕ) (ss : List ℕ) (filled target : ℕ) → length (split_words index buckets ss filled target) ≡ length index
split_length index buckets ss filled target = go (leb filled target)
  where
    go : (b : Bool) → length (cond b index (map (split_word ss) (take (8 * buckets) index) ++ drop (8 * buckets) index)) ≡ length index
    go true = refl
    go false = simp (length-append, length-map, length-take, length-drop) (omega arith)

packed_index_length : (buckets : ℕ) (index scratch : List ℕ) → length (packed_index buckets index scratch) ≡ length index
unfolding packed_index
packed_index_length buckets index scratch = go (leb (8 * buckets) (length index)) refl (leb buckets (length scratch))
  where
    go : (p : Bool) → leb (8 * buckets) (length index) ≡ p → (q : Bool) → length (cond (cond p q false) (packed buckets index) index) ≡ length index
    go true e true = packed_length buckets index (leb-true _ _ e)
    go true e false = refl
    go false e q = refl

pub layout_length : (packed : Bool) (buckets : ℕ) (index scratch : List ℕ) → length (cond packed (packed_index buckets index scratch) index) ≡ length index
layout_length true buckets index scratch = packed_index_length buckets index scratch
layout_length false buckets index scratch = refl

slot_marked_length : (packed : Bool) (index : List ℕ) (slot : ℕ) → length (slot_marked packed index slot) ≡ length index
unfolding slot_marked
slot_marked_length true index slot = length-set index (slot / 8) (with_byte marked_byte (slot % 8) (get_or index (slot / 8) 0))
slot_marked_length false index slot = length-set index slot (marked (get_or index slot 0))

slot_cleared_length : (packed : Bool) (index : List ℕ) (slot : ℕ) → length (slot_cleared packed index slot) ≡ length index
unfolding slot_cleared
slot_cleared_length true index slot = length-set index (slot / 8) (with_byte unmarked_byte (slot % 8) (get_or index (slot / 8) 0))
slot_cleared_length false index slot = length-set index slot (unmarked (get_or index slot 0))

-- ---- open

module _ (c : SegmentCacheConfig) (records : ℕ) (index filter starts lengths arena : List ℕ) where
  abbrev after : Opened
  after = after_open c records index filter starts lengths arena

  pub open_lengths : (length after.index ≡ length index) × (length after.filter ≡ length filter)
  open_lengths = go (open_case c records index filter starts lengths arena)
    where
      go : {o : Opened} → OpenCase c records index filter starts lengths arena o → (length o.index ≡ length index) × (length o.filter ≡ length filter)
      go (open_made a) = (cleared_length index _, cleared_length filter _)
      go (open_refused n) = (refl, refl)

  -- what an accepted open leaves passes question 1
  pub open_passes : (b : SegmentCacheBuilder) → after.answer ≡ accept b
      → builder_passes b (length after.index) (length after.filter) (length starts) (length lengths) (length arena) ≡ true
  unfolding builder_passes
  open_passes b e = rw (open_lengths.0, open_lengths.1) (go (open_case c records index filter starts lengths arena) e)
    where
      go : {o : Opened} → OpenCase c records index filter starts lengths arena o → o.answer ≡ accept b
          → all (areas_hold_builder b (length index) (length arena) ∷ leb b.filter_words (length filter) ∷ segment_areas_hold (length starts) (length lengths) ∷ []) ≡ true
      go (open_refused n) e = cc
      go (open_made a) e =
          let same : builder_opened c records ≡ b = cc in
          rw (← same)
          (rw (
            builder_areas_pass (builder_opened c records) (length index) (length arena)
                record {
                  numbers =
                      record { counts = a.counts; announced = omega arith; key_bytes = omega arith; value_bytes = omega arith; inside = omega arith; header_length = omega arith };
                  index_holds = a.index_holds;
                  filled_held = omega arith;
                  arena_short = a.arena_short;
                },
            le-leb _ _ a.filter_holds,
            a.segments_hold,
          ))

-- ---- push

-- one record more
grown_fits : (b : SegmentCacheBuilder) (e : SegmentExpiry) (k v arena : ℕ) → BuilderFits b → b.inserted_entries < b.expected_entries
    → b.filled + record_size e k v ≤ arena → arena ≤ 1_073_741_824 → BuilderFits (builder_grown b (record_size e k v) k v)
unfolding record_size
grown_fits b e k v arena f more fits short =
    record {
      counts = f.counts;
      announced = omega arith;
      key_bytes = omega (arith, f.key_bytes);
      value_bytes = omega (arith, f.value_bytes);
      inside = omega (arith, f.inside);
      header_length = omega arith;
    }

module _ (b : SegmentCacheBuilder) (h : ℕ) (key value : List ℕ) (ttl : Option Duration) (index filter arena : List ℕ) where
  abbrev pushed : Pushed
  pushed = after_push b h key value ttl index filter arena

  pub push_lengths : (length pushed.index ≡ length index) × (length pushed.filter ≡ length filter) × (length pushed.arena ≡ length arena)
  push_lengths = go (push_case b h key value ttl index filter arena)
    where
      bytes : List ℕ
      bytes = record_bytes b.config.expiry key value (deadline_for b.config ttl).value

      go : {p : Pushed} → PushCase b h key value ttl index filter arena p
          → (length p.index ≡ length index) × (length p.filter ≡ length filter) × (length p.arena ≡ length arena)
      go (push_refused_law n) = (refl, refl, refl)
      go (push_made_law a) = (
        length-set index _ _,
        displaced_length filter b.filter_words h _ b.bucket_count,
        pasted_length b.filled bytes arena (rw (size_is b.config.expiry key value (deadline_for b.config ttl).value) a.fits),
      )

  -- what an accepted push leaves passes question 1; starts and lengths are not lent to it
  pub push_passes : (p : Placed) → pushed.answer ≡ accept p → (starts lengths : ℕ) → segment_areas_hold starts lengths ≡ true
      → builder_passes p.builder (length pushed.index) (length pushed.filter) starts lengths (length pushed.arena) ≡ true
  unfolding builder_passes
  push_passes p e starts lengths segments = rw (push_lengths.0, push_lengths.1, push_lengths.2) (go (push_case b h key value ttl index filter arena) e)
    where
      go : {r : Pushed} → PushCase b h key value ttl index filter arena r → r.answer ≡ accept p
          → all (areas_hold_builder p.builder (length index) (length arena) ∷ leb p.builder.filter_words (length filter) ∷ segment_areas_hold starts lengths ∷ []) ≡ true
      go (push_refused_law n) e = cc
      go (push_made_law a) e =
          let size : ℕ = record_size b.config.expiry (length key) (length value) in
          let grown : SegmentCacheBuilder = builder_grown b size (length key) (length value) in
          let made : record { builder = grown; slot = (push_slot b h key index arena).value; location = b.filled } ≡ p = cc in
          let same : grown ≡ p.builder = ap (λ (q : Placed). q.builder) made in
          rw (← same)
          (rw (
            builder_areas_pass grown (length index) (length arena)
                record {
                  numbers = grown_fits b b.config.expiry (length key) (length value) (length arena) a.areas.numbers a.announced a.fits a.areas.arena_short;
                  index_holds = a.areas.index_holds;
                  filled_held = a.fits;
                  arena_short = a.areas.arena_short;
                },
            le-leb _ _ a.filter_holds,
            segments,
          ))

-- ---- finish

module _ (b : SegmentCacheBuilder) (target : ℕ) (index starts lengths scratch arena : List ℕ) where
  abbrev finished : Finished
  finished = after_finish b target index starts lengths scratch arena

  pub finish_lengths : (length finished.index ≡ length index) × (length finished.starts ≡ length starts) × (length finished.lengths ≡ length lengths)
  finish_lengths = go (finish_case b target index starts lengths scratch arena)
    where
      go : {f : Finished} → FinishCase b target index starts lengths scratch arena f
          → (length f.index ≡ length index) × (length f.starts ≡ length starts) × (length f.lengths ≡ length lengths)
      go (finish_refused_law n) = (refl, refl, refl)
      go (finish_many a) = (refl, over_padded_length _ starts a.starts_hold, refl)
      go (finish_made_law a few) = (
        layout_length b.config.packed_bucket_index b.bucket_count _ scratch ∙ split_length index b.bucket_count _ b.filled target,
        over_padded_length _ starts a.starts_hold,
        over_padded_length _ lengths a.lengths_hold,
      )

  -- what an accepted finish leaves passes question 1; the filter is not lent to it
  pub finish_passes : (s : FrozenSegmentCache) → finished.answer ≡ accept s → (filter : ℕ) → b.filter_words ≤ filter
      → areas_hold_lookup s (length finished.index) filter (length finished.starts) (length finished.lengths) (length arena) ≡ true
  unfolding areas_hold_lookup areas_hold_set set_fits segment_areas_hold arena_holds
  finish_passes s e filter held = rw (finish_lengths.0, finish_lengths.1, finish_lengths.2) (go (finish_case b target index starts lengths scratch arena) e)
    where
      go : {f : Finished} → FinishCase b target index starts lengths scratch arena f → f.answer ≡ accept s
          → all (areas_hold_set s (length index) (length starts) (length lengths) (length arena) ∷ leb s.filter_words filter ∷ []) ≡ true
      go (finish_refused_law n) e = cc
      go (finish_many a) e = cc
      go (finish_made_law a few) e =
          let f = a.areas.numbers in
          let same : set_of b (length (segment_starts b target index)) ≡ s = cc in
          let one : 1 ≤ length (segment_starts b target index) = (starts_first (take (8 * b.bucket_count) index) b.filled target).1 in
          rw (← same)
          (rw (f.counts, le-leb _ _ one, le-leb _ _ few, ← a.complete, le-leb _ _ f.key_bytes, le-leb _ _ f.value_bytes, le-leb _ _ f.header_length)
          (rw (le-leb _ _ a.areas.index_holds, le-leb _ _ a.starts_hold, le-leb _ _ a.lengths_hold, le-leb _ _ a.areas.filled_held, le-leb _ _ a.areas.arena_short, le-leb _ _ held)))

-- ---- lookup and mark clearing

module _ (s : FrozenSegmentCache) (h : ℕ) (key index filter starts lengths arena : List ℕ) where
  pub get_lengths : (tick : ℕ) → length (after_get s h key tick index filter starts lengths arena).index ≡ length index
  unfolding after_get live_marked
  get_lengths tick =
      decided_either (λ (g : Got). length g.index ≡ length index) (first_no (ask_lookup s (length index) (length filter) (length starts) (length lengths) (length arena)))
      (gotten tick s.config.packed_bucket_index index (find_of s h key index filter starts lengths arena)) (got_refused index)
      (go (find_of s h key index filter starts lengths arena)) (λ n. refl)
    where
      live : (b : Bool) (y : FoundRecord) → length (cond b (slot_marked s.config.packed_bucket_index index y.slot) index) ≡ length index
      live true y = slot_marked_length s.config.packed_bucket_index index y.slot
      live false y = refl

      go : (a : Option FoundRecord) → length (gotten tick s.config.packed_bucket_index index a).index ≡ length index
      go (Some y) = live (lives_at y.entry.expires_at tick) y
      go None = refl

  pub take_lengths : length (after_take s h key index filter starts lengths arena).index ≡ length index
  unfolding after_take
  take_lengths =
      decided_either (λ (t : Taken). length t.index ≡ length index) (first_no (ask_lookup s (length index) (length filter) (length starts) (length lengths) (length arena)))
      (taken_of s.config.packed_bucket_index index (find_of s h key index filter starts lengths arena)) (take_refused index)
      (go (find_of s h key index filter starts lengths arena)) (λ n. refl)
    where
      go : (a : Option FoundRecord) → length (taken_of s.config.packed_bucket_index index a).index ≡ length index
      go (Some y) = slot_cleared_length s.config.packed_bucket_index index y.slot
      go None = refl

  -- so a set that passes question 1 passes it after them
  pub get_passes : (tick : ℕ)
      → areas_hold_lookup s (length (after_get s h key tick index filter starts lengths arena).index) (length filter) (length starts) (length lengths) (length arena)
      ≡ areas_hold_lookup s (length index) (length filter) (length starts) (length lengths) (length arena)
  get_passes tick = ap (λ (n : ℕ). areas_hold_lookup s n (length filter) (length starts) (length lengths) (length arena)) (get_lengths tick)

  pub take_passes : areas_hold_lookup s (length (after_take s h key index filter starts lengths arena).index) (length filter) (length starts) (length lengths) (length arena)
      ≡ areas_hold_lookup s (length index) (length filter) (length starts) (length lengths) (length arena)
  take_passes = ap (λ (n : ℕ). areas_hold_lookup s n (length filter) (length starts) (length lengths) (length arena)) take_lengths

-- ---- what question 1 tells

module _ (b : SegmentCacheBuilder) (index filter starts lengths arena : ℕ) (e : builder_passes b index filter starts lengths arena ≡ true) where
  past_areas : (leb b.filter_words filter ≡ true) × (segment_areas_hold starts lengths ≡ true)
  unfolding builder_passes
  past_areas = both (leb b.filter_words filter) _ (both (areas_hold_builder b index arena) _ e).1

  pub builder_lengths : segment_areas_hold starts lengths ≡ true
  builder_lengths = past_areas.1

  pub builder_filter_holds : b.filter_words ≤ filter
  builder_filter_holds = leb-true _ _ past_areas.0

pub set_index_holds : (s : FrozenSegmentCache) (index filter starts lengths arena : ℕ) → areas_hold_lookup s index filter starts lengths arena ≡ true → 8 * s.buckets ≤ index
unfolding areas_hold_lookup
set_index_holds s index filter starts lengths arena e = set_index s index starts lengths arena (both (areas_hold_set s index starts lengths arena) _ e).0

-- a lookup and a mark clearing go on to the find
module _ (s : FrozenSegmentCache) (h : ℕ) (key index filter starts lengths arena : List ℕ)
    (passes : areas_hold_lookup s (length index) (length filter) (length starts) (length lengths) (length arena) ≡ true) where
  lookup_asked : first_no (ask_lookup s (length index) (length filter) (length starts) (length lengths) (length arena)) ≡ 0
  unfolding ask_lookup
  lookup_asked = rw passes

  pub get_asks : (tick : ℕ) → after_get s h key tick index filter starts lengths arena
      ≡ gotten tick s.config.packed_bucket_index index (find_of s h key index filter starts lengths arena)
  unfolding after_get
  get_asks tick = ap (λ (n : ℕ). decided n (gotten tick s.config.packed_bucket_index index (find_of s h key index filter starts lengths arena)) (got_refused index)) lookup_asked

  pub take_asks : after_take s h key index filter starts lengths arena
      ≡ taken_of s.config.packed_bucket_index index (find_of s h key index filter starts lengths arena)
  unfolding after_take
  take_asks = ap (λ (n : ℕ). decided n (taken_of s.config.packed_bucket_index index (find_of s h key index filter starts lengths arena)) (take_refused index)) lookup_asked
