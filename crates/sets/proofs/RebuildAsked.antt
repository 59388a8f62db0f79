-- What the questions of the rebuild calls tell where all are answered yes. Assumes nothing.
use Rattle.std.proofs.Common.{◌≡◌, ℕ, zero, suc, ◌+◌, ◌*◌, ◌/◌, ◌^◌, ◌<◌, ◌≤◌, true, eqb, ltb, leb, List, length, get_or, refl, subst, arith, ltb-true, eq-eqb, eqb-true, le-leb, leb-true, Option, Ok}
use native.Mathlib.Decide.{dec_lt}
use Rattle.hash_parts.specs.declared.duration.Duration.{Duration}
use Rattle.records.specs.declared.record.RecordRef.{RecordRef}
use Rattle.index.specs.Build.{empty_slot, never, slot_for}
use Rattle.index.proofs.Slots.{slot_accepted}
use Rattle.index.specs.View.{record_in}
use Rattle.sets.specs.Kept.{is_kept, kept_count, retained}
use Rattle.sets.specs.Lookup.{set_fits}
use Rattle.sets.specs.Questions.{arena_holds, buckets_in, bytes_fit, counts_fit, filter_words_in, first_no, lifetime_fits, open_areas_hold, scratch_holds, segment_areas_hold}
use Rattle.sets.specs.Rebuild.{areas_hold_rebuild, areas_hold_source, ask_copied, ask_rebuild_finish, ask_rebuild_open, ask_reused, copied_deadline, copied_size, rebuild_filled, holds_record, kept_view, moved_location, rebuild_fits, segment_for, segments_inside}
use Rattle.sets.specs.declared.cache.FrozenSegmentCache.{FrozenSegmentCache}
use Rattle.sets.specs.declared.rebuild.SegmentRecordLocation.{SegmentRecordLocation}
use Rattle.sets.specs.declared.rebuild.SharedSegmentCacheBuilder.{SharedSegmentCacheBuilder}
use Rattle.sets.proofs.Asked.{then, then_own}
use Rattle.sets.proofs.Counts.{both, counts_records, counts_setting, set_counts, set_segments}

-- ---- segments in the filled arena

module _ (filled : ℕ) (starts lengths : List ℕ) where
  -- each of the first n segments of two areas
  abbrev pub EachInside : ℕ → Type 0
  EachInside n = (g : ℕ) → g < n → get_or starts g 0 + get_or lengths g 0 ≤ filled

  pub segments_each : (n : ℕ) → segments_inside n filled starts lengths ≡ true → EachInside n
  unfolding segments_inside
  segments_each zero e g h = absurd (omega arith)
  segments_each (suc n) e g h =
      let t = both (segments_inside n filled starts lengths) _ e in
      elim (dec_lt g n) as
      (λ _. get_or starts g 0 + get_or lengths g 0 ≤ filled) [
        | yes y ↦ segments_each n t.0 g y
        | no y ↦ subst (λ (i : ℕ). get_or starts i 0 + get_or lengths i 0 ≤ filled) (let same : n ≡ g = omega arith in same) (leb-true _ _ t.1)
      ]

  pub segments_pass : (n : ℕ) → EachInside n → segments_inside n filled starts lengths ≡ true
  unfolding segments_inside
  segments_pass zero each = refl
  segments_pass (suc n) each =
      rw (segments_pass n (λ (g : ℕ) (h : g < n). each g (omega arith)), le-leb _ _ (each n (omega arith)))

-- ---- question 1 of a rebuild

pub record RebuildFits (r : SharedSegmentCacheBuilder) : Type 0 where
  pub counts : counts_fit r.config r.expected_entries r.bucket_count r.filter_words ≡ true
  pub announced : r.inserted_entries ≤ r.expected_entries
  pub few : retained r.kept + segment_for r.copied_bytes ≤ 256
  pub key_bytes : r.logical_key_bytes ≤ r.inserted_entries * 2 ^ 30
  pub value_bytes : r.logical_value_bytes ≤ r.inserted_entries * 2 ^ 30
  pub header_length : r.record_header_bytes ≤ r.inserted_entries * 2 ^ 30

pub record AreasHoldRebuild (r : SharedSegmentCacheBuilder) (index : ℕ) (starts lengths : List ℕ) (arena : ℕ) : Type 0 where
  pub numbers : RebuildFits r
  pub index_holds : 8 * r.bucket_count ≤ index
  pub starts_hold : 256 ≤ length starts
  pub lengths_hold : 256 ≤ length lengths
  pub filled_held : rebuild_filled r ≤ arena
  pub arena_short : arena ≤ 1_073_741_824
  pub inside : (g : ℕ) → g < retained r.kept → get_or starts g 0 + get_or lengths g 0 ≤ rebuild_filled r

module _ (r : SharedSegmentCacheBuilder) where
  pub rebuild_asked : rebuild_fits r ≡ true → RebuildFits r
  unfolding rebuild_fits
  rebuild_asked e =
      let a₁ = both (counts_fit r.config r.expected_entries r.bucket_count r.filter_words) _ e in
      let a₂ = both (leb r.inserted_entries r.expected_entries) _ a₁.1 in
      let a₃ = both (leb (retained r.kept + segment_for r.copied_bytes) 256) _ a₂.1 in
      let a₄ = both (bytes_fit r.inserted_entries r.logical_key_bytes) _ a₃.1 in
      let a₅ = both (bytes_fit r.inserted_entries r.logical_value_bytes) _ a₄.1 in
      record {
        counts = a₁.0;
        announced = leb-true _ _ a₂.0;
        few = leb-true _ _ a₃.0;
        key_bytes = leb-true _ _ a₄.0;
        value_bytes = leb-true _ _ a₅.0;
        header_length = leb-true _ _ a₅.1;
      }

  pub rebuild_passes_law : RebuildFits r → rebuild_fits r ≡ true
  unfolding rebuild_fits
  rebuild_passes_law f =
      rw (f.counts, le-leb _ _ f.announced, le-leb _ _ f.few, le-leb _ _ f.key_bytes, le-leb _ _ f.value_bytes, le-leb _ _ f.header_length)

  -- key, value and header bytes are far from 64 bits
  pub bytes_few : rebuild_fits r ≡ true → (r.logical_key_bytes ≤ 2 ^ 50) × (r.logical_value_bytes ≤ 2 ^ 50) × (r.record_header_bytes ≤ 2 ^ 50)
  bytes_few e =
      let f = rebuild_asked e in
      let records = counts_records _ _ _ _ f.counts in
      (omega (arith, records, f.announced, f.key_bytes), omega (arith, records, f.announced, f.value_bytes), omega (arith, records, f.announced, f.header_length))

  module _ (index : ℕ) (starts lengths : List ℕ) (arena : ℕ) where
    pub rebuild_areas_asked : areas_hold_rebuild r index starts lengths arena ≡ true → AreasHoldRebuild r index starts lengths arena
    unfolding areas_hold_rebuild segment_areas_hold arena_holds
    rebuild_areas_asked e =
        let a₁ = both (rebuild_fits r) _ e in
        let a₂ = both (leb (8 * r.bucket_count) index) _ a₁.1 in
        let a₃ = both (segment_areas_hold (length starts) (length lengths)) _ a₂.1 in
        let a₄ = both (arena_holds (rebuild_filled r) arena) _ a₃.1 in
        let segments = both (leb 256 (length starts)) _ a₃.0 in
        let bytes = both (leb (rebuild_filled r) arena) _ a₄.0 in
        record {
          numbers = rebuild_asked a₁.0;
          index_holds = leb-true _ _ a₂.0;
          starts_hold = leb-true _ _ segments.0;
          lengths_hold = leb-true _ _ segments.1;
          filled_held = leb-true _ _ bytes.0;
          arena_short = leb-true _ _ bytes.1;
          inside = segments_each (rebuild_filled r) starts lengths (retained r.kept) a₄.1;
        }

    pub rebuild_areas_pass : AreasHoldRebuild r index starts lengths arena → areas_hold_rebuild r index starts lengths arena ≡ true
    unfolding areas_hold_rebuild segment_areas_hold arena_holds
    rebuild_areas_pass f =
        rw (
          rebuild_passes_law f.numbers,
          le-leb _ _ f.index_holds,
          le-leb _ _ f.starts_hold,
          le-leb _ _ f.lengths_hold,
          le-leb _ _ f.filled_held,
          le-leb _ _ f.arena_short,
          segments_pass (rebuild_filled r) starts lengths (retained r.kept) f.inside,
        )

-- ---- question 1 of a source

pub record SourceHolds (s : FrozenSegmentCache) (starts lengths : List ℕ) (arena : ℕ) : Type 0 where
  pub numbers : set_fits s ≡ true
  pub some : 1 ≤ s.segments
  pub few : s.segments ≤ 256
  pub starts_hold : 256 ≤ length starts
  pub lengths_hold : 256 ≤ length lengths
  pub filled_held : s.filled ≤ arena
  pub arena_short : arena ≤ 1_073_741_824
  pub inside : (g : ℕ) → g < s.segments → get_or starts g 0 + get_or lengths g 0 ≤ s.filled

module _ (s : FrozenSegmentCache) (starts lengths : List ℕ) (arena : ℕ) where
  pub source_areas_asked : areas_hold_source s starts lengths arena ≡ true → SourceHolds s starts lengths arena
  unfolding areas_hold_source segment_areas_hold arena_holds
  source_areas_asked e =
      let a₁ = both (set_fits s) _ e in
      let a₂ = both (segment_areas_hold (length starts) (length lengths)) _ a₁.1 in
      let a₃ = both (arena_holds s.filled arena) _ a₂.1 in
      let segments = both (leb 256 (length starts)) _ a₂.0 in
      let bytes = both (leb s.filled arena) _ a₃.0 in
      record {
        numbers = a₁.0;
        some = (set_segments s a₁.0).0;
        few = (set_segments s a₁.0).1;
        starts_hold = leb-true _ _ segments.0;
        lengths_hold = leb-true _ _ segments.1;
        filled_held = leb-true _ _ bytes.0;
        arena_short = leb-true _ _ bytes.1;
        inside = segments_each s.filled starts lengths s.segments a₃.1;
      }

-- ---- rebuild open

module _ (s : FrozenSegmentCache) (source_starts source_lengths : List ℕ) (arena records copied : ℕ) (flags : List ℕ) (index filter starts lengths : ℕ) where
  pub record ReopenAsked : Type 0 where
    pub areas : SourceHolds s source_starts source_lengths arena
    pub same_count : length flags ≡ s.segments
    pub few : kept_count flags + segment_for copied ≤ 256
    pub counts : counts_fit s.config records (buckets_in s.config records) (filter_words_in s.config records) ≡ true
    pub index_holds : 8 * buckets_in s.config records ≤ index
    pub filter_holds : filter_words_in s.config records ≤ filter
    pub starts_hold : 256 ≤ starts
    pub lengths_hold : 256 ≤ lengths

  pub reopen_asked : first_no (ask_rebuild_open s source_starts source_lengths arena records copied flags index filter starts lengths) ≡ 0 → ReopenAsked
  unfolding ask_rebuild_open open_areas_hold segment_areas_hold counts_fit
  reopen_asked e =
      let t = then (areas_hold_source s source_starts source_lengths arena) 11 _ (omega arith) e in
      let u = then (eqb (length flags) s.segments) 3 _ (omega arith) t.1 in
      let v = then (leb records 1_048_576) 3 _ (omega arith) u.1 in
      let w = then (leb (kept_count flags + segment_for copied) 256) 7 _ (omega arith) v.1 in
      let x = then (open_areas_hold s.config records index filter) 10 _ (omega arith) w.1 in
      let y = then (segment_areas_hold starts lengths) 10 _ (omega arith) x.1 in
      let held = source_areas_asked s source_starts source_lengths arena t.0 in
      let setting = counts_setting s.config s.entries s.buckets s.filter_words (set_counts s held.numbers) in
      let areas = both (leb (8 * buckets_in s.config records) index) _ x.0 in
      let segments = both (leb 256 starts) _ y.0 in
      record {
        areas = held;
        same_count = eqb-true _ _ u.0;
        few = leb-true _ _ w.0;
        counts =
            rw (setting, v.0, eq-eqb (buckets_in s.config records) (buckets_in s.config records) refl, eq-eqb (filter_words_in s.config records) (filter_words_in s.config records) refl);
        index_holds = leb-true _ _ areas.0;
        filter_holds = leb-true _ _ areas.1;
        starts_hold = leb-true _ _ segments.0;
        lengths_hold = leb-true _ _ segments.1;
      }

-- ---- reused push

module _ (r : SharedSegmentCacheBuilder) (h : ℕ) (key value : List ℕ) (source : SegmentRecordLocation) (index : List ℕ) (filter : ℕ) (starts lengths arena : List ℕ) where
  -- what stands under the source's location in the rebuild
  abbrev pub reused_read : Option RecordRef
  reused_read = record_in (kept_view r) arena starts lengths (moved_location r source.location + 1)

  pub record ReusedAsked : Type 0 where
    pub areas : AreasHoldRebuild r (length index) starts lengths (length arena)
    pub filter_holds : r.filter_words ≤ filter
    pub announced : r.inserted_entries < r.expected_entries
    pub kept : is_kept r.kept (source.location / 2 ^ 32) ≡ true
    pub holds : holds_record key value source.header_bytes arena reused_read ≡ true
    pub place : slot_for never index r.bucket_count h ≡ Ok (empty_slot index r.bucket_count h).value

  pub reused_asked : first_no (ask_reused r h key value source index filter starts lengths arena) ≡ 0 → ReusedAsked
  unfolding ask_reused
  reused_asked e =
      let t = then (areas_hold_rebuild r (length index) starts lengths (length arena)) 11 _ (omega arith) e in
      let u = then (leb r.filter_words filter) 11 _ (omega arith) t.1 in
      let v = then (ltb r.inserted_entries r.expected_entries) 3 _ (omega arith) u.1 in
      let w = then (is_kept r.kept (source.location / 2 ^ 32)) 3 _ (omega arith) v.1 in
      let x = then (holds_record key value source.header_bytes arena reused_read) 12 _ (omega arith) w.1 in
      let y = then_own (empty_slot index r.bucket_count h).number _ x.1 in
      record {
        areas = rebuild_areas_asked r (length index) starts lengths (length arena) t.0;
        filter_holds = leb-true _ _ u.0;
        announced = ltb-true _ _ v.0;
        kept = w.0;
        holds = x.0;
        place = slot_accepted (slot_for never index r.bucket_count h) y.0;
      }

-- ---- copied push

module _ (r : SharedSegmentCacheBuilder) (h key value : ℕ) (ttl : Option Duration) (index : List ℕ) (filter : ℕ) (starts lengths : List ℕ) (arena : ℕ) where
  pub record CopiedAsked : Type 0 where
    pub areas : AreasHoldRebuild r (length index) starts lengths arena
    pub filter_holds : r.filter_words ≤ filter
    pub lifetime : lifetime_fits ttl ≡ true
    pub announced : r.inserted_entries < r.expected_entries
    pub deadline : (copied_deadline r ttl).number ≡ 0
    pub fits : rebuild_filled r + copied_size r key value ≤ arena
    pub room : retained r.kept < 256
    pub place : slot_for never index r.bucket_count h ≡ Ok (empty_slot index r.bucket_count h).value

  pub copied_asked : first_no (ask_copied r h key value ttl index filter starts lengths arena) ≡ 0 → CopiedAsked
  unfolding ask_copied
  copied_asked e =
      let t = then (areas_hold_rebuild r (length index) starts lengths arena) 11 _ (omega arith) e in
      let u = then (leb r.filter_words filter) 11 _ (omega arith) t.1 in
      let v = then (lifetime_fits ttl) 9 _ (omega arith) u.1 in
      let w = then (ltb r.inserted_entries r.expected_entries) 3 _ (omega arith) v.1 in
      let x = then_own (copied_deadline r ttl).number _ w.1 in
      let y = then (leb (rebuild_filled r + copied_size r key value) arena) 10 _ (omega arith) x.1 in
      let z = then (ltb (retained r.kept) 256) 7 _ (omega arith) y.1 in
      let f = then_own (empty_slot index r.bucket_count h).number _ z.1 in
      record {
        areas = rebuild_areas_asked r (length index) starts lengths arena t.0;
        filter_holds = leb-true _ _ u.0;
        lifetime = v.0;
        announced = ltb-true _ _ w.0;
        deadline = x.0;
        fits = leb-true _ _ y.0;
        room = ltb-true _ _ z.0;
        place = slot_accepted (slot_for never index r.bucket_count h) f.0;
      }

-- ---- rebuild finish

module _ (r : SharedSegmentCacheBuilder) (index : ℕ) (starts lengths : List ℕ) (scratch arena : ℕ) where
  pub record RefinishAsked : Type 0 where
    pub areas : AreasHoldRebuild r index starts lengths arena
    pub complete : r.inserted_entries ≡ r.expected_entries
    pub scratch_held : scratch_holds r.config r.bucket_count scratch ≡ true

  pub refinish_asked : first_no (ask_rebuild_finish r index starts lengths scratch arena) ≡ 0 → RefinishAsked
  unfolding ask_rebuild_finish
  refinish_asked e =
      let t = then (areas_hold_rebuild r index starts lengths arena) 11 _ (omega arith) e in
      let u = then (eqb r.inserted_entries r.expected_entries) 3 _ (omega arith) t.1 in
      let v = then (scratch_holds r.config r.bucket_count scratch) 10 _ (omega arith) u.1 in
      record { areas = rebuild_areas_asked r index starts lengths arena t.0; complete = eqb-true _ _ u.0; scratch_held = v.0 }
