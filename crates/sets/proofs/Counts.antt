-- What the questions on numbers tell: of a setting, of counts, of a builder and of a finished set. Assumes nothing.
use Rattle.std.proofs.Common.{◌≡◌, ℕ, ◌+◌, ◌-◌, ◌*◌, ◌^◌, ◌≤◌, Bool, true, false, cond, eqb, leb, refl, arith, eqb-true, le-leb, leb-true}
use Rattle.hash_parts.specs.declared.setting.SegmentCacheConfig.{SegmentCacheConfig}
use Rattle.sets.specs.Build.{areas_hold_builder, builder_fits}
use Rattle.sets.specs.Lookup.{areas_hold_set, set_fits}
use Rattle.sets.specs.Questions.{arena_holds, buckets_in, bytes_fit, counts_fit, filter_words_in, setting_fits, occupancy_fits, nanoseconds_fit}
use Rattle.sets.specs.declared.builder.SegmentCacheBuilder.{SegmentCacheBuilder}
use Rattle.sets.specs.declared.cache.FrozenSegmentCache.{FrozenSegmentCache}

-- the first of some conditions, and the others
pub both : (b r : Bool) → cond b r false ≡ true → (b ≡ true) × (r ≡ true)
both true r e = (refl, e)
both false r e = (e, cc)

module _ (c : SegmentCacheConfig) (records buckets words : ℕ) (fits : counts_fit c records buckets words ≡ true) where
  counted : (setting_fits c ≡ true) × (leb records 1048576 ≡ true) × (eqb buckets (buckets_in c records) ≡ true) × (eqb words (filter_words_in c records) ≡ true)
  unfolding counts_fit
  counted =
      let t = both (setting_fits c) _ fits in
      let u = both (leb records 1048576) _ t.1 in
      let v = both (eqb buckets (buckets_in c records)) _ u.1 in
      (t.0, u.0, v.0, v.1)

  pub counts_setting : setting_fits c ≡ true
  counts_setting = counted.0

  pub counts_records : records ≤ 1048576
  counts_records = leb-true _ _ counted.1

  pub counts_buckets : buckets ≡ buckets_in c records
  counts_buckets = eqb-true _ _ counted.2

  pub counts_words : words ≡ filter_words_in c records
  counts_words = eqb-true _ _ counted.3

-- an occupancy that passes
pub setting_occupied : (c : SegmentCacheConfig) → setting_fits c ≡ true → (1 ≤ c.target_occupied_slots) × (c.target_occupied_slots ≤ 7)
unfolding setting_fits occupancy_fits
setting_occupied c fits =
    let t = both (nanoseconds_fit c.expiry) _ fits in
    let u = both (occupancy_fits c.target_occupied_slots) _ t.1 in
    let v = both (leb 1 c.target_occupied_slots) _ u.0 in
    (leb-true _ _ v.0, leb-true _ _ v.1)

-- ---- question 1 of a builder

pub record BuilderFits (b : SegmentCacheBuilder) : Type 0 where
  pub counts : counts_fit b.config b.expected_entries b.bucket_count b.filter_words ≡ true
  pub announced : b.inserted_entries ≤ b.expected_entries
  pub key_bytes : b.logical_key_bytes ≤ b.inserted_entries * 2 ^ 30
  pub value_bytes : b.logical_value_bytes ≤ b.inserted_entries * 2 ^ 30
  pub inside : b.logical_key_bytes + b.logical_value_bytes ≤ b.filled
  pub header_length : b.filled - b.logical_key_bytes - b.logical_value_bytes ≤ b.inserted_entries * 2 ^ 30

pub record AreasHoldBuilder (b : SegmentCacheBuilder) (index arena : ℕ) : Type 0 where
  pub numbers : BuilderFits b
  pub index_holds : 8 * b.bucket_count ≤ index
  pub filled_held : b.filled ≤ arena
  pub arena_short : arena ≤ 1073741824

module _ (b : SegmentCacheBuilder) where
  pub builder_asked : builder_fits b ≡ true → BuilderFits b
  unfolding builder_fits
  builder_asked e =
      let a₁ = both (counts_fit b.config b.expected_entries b.bucket_count b.filter_words) _ e in
      let a₂ = both (leb b.inserted_entries b.expected_entries) _ a₁.1 in
      let a₃ = both (bytes_fit b.inserted_entries b.logical_key_bytes) _ a₂.1 in
      let a₄ = both (bytes_fit b.inserted_entries b.logical_value_bytes) _ a₃.1 in
      let a₅ = both (leb (b.logical_key_bytes + b.logical_value_bytes) b.filled) _ a₄.1 in
      record {
        counts = a₁.0;
        announced = leb-true _ _ a₂.0;
        key_bytes = leb-true _ _ a₃.0;
        value_bytes = leb-true _ _ a₄.0;
        inside = leb-true _ _ a₅.0;
        header_length = leb-true _ _ a₅.1;
      }

  pub builder_passes_law : BuilderFits b → builder_fits b ≡ true
  unfolding builder_fits
  builder_passes_law f =
      rw (f.counts, le-leb _ _ f.announced, le-leb _ _ f.key_bytes, le-leb _ _ f.value_bytes, le-leb _ _ f.inside, le-leb _ _ f.header_length)

  module _ (index arena : ℕ) where
    pub builder_areas_asked : areas_hold_builder b index arena ≡ true → AreasHoldBuilder b index arena
    unfolding areas_hold_builder arena_holds
    builder_areas_asked e =
        let a₁ = both (builder_fits b) _ e in
        let a₂ = both (leb (8 * b.bucket_count) index) _ a₁.1 in
        let a₃ = both (leb b.filled arena) _ a₂.1 in
        record {
          numbers = builder_asked a₁.0;
          index_holds = leb-true _ _ a₂.0;
          filled_held = leb-true _ _ a₃.0;
          arena_short = leb-true _ _ a₃.1;
        }

    -- key and value bytes are far from 64 bits
    pub builder_bytes_few : areas_hold_builder b index arena ≡ true → (b.logical_key_bytes ≤ 2 ^ 50) × (b.logical_value_bytes ≤ 2 ^ 50)
    builder_bytes_few e =
        let f = (builder_areas_asked e).numbers in
        let records = counts_records _ _ _ _ f.counts in
        (omega (arith, records, f.announced, f.key_bytes), omega (arith, records, f.announced, f.value_bytes))

    pub builder_areas_pass : AreasHoldBuilder b index arena → areas_hold_builder b index arena ≡ true
    unfolding areas_hold_builder arena_holds
    builder_areas_pass f =
        rw (builder_passes_law f.numbers, le-leb _ _ f.index_holds, le-leb _ _ f.filled_held, le-leb _ _ f.arena_short)

-- ---- question 1 of a finished set

pub set_index : (s : FrozenSegmentCache) (index starts lengths arena : ℕ) → areas_hold_set s index starts lengths arena ≡ true → 8 * s.buckets ≤ index
unfolding areas_hold_set
set_index s index starts lengths arena e =
    let t = both (set_fits s) _ e in
    leb-true _ _ (both (leb (8 * s.buckets) index) _ t.1).0

pub set_counts : (s : FrozenSegmentCache) → set_fits s ≡ true → counts_fit s.config s.entries s.buckets s.filter_words ≡ true
unfolding set_fits
set_counts s e = (both (counts_fit s.config s.entries s.buckets s.filter_words) _ e).0

pub set_segments : (s : FrozenSegmentCache) → set_fits s ≡ true → (1 ≤ s.segments) × (s.segments ≤ 256)
unfolding set_fits
set_segments s e =
    let t = both (counts_fit s.config s.entries s.buckets s.filter_words) _ e in
    let u = both (leb 1 s.segments) _ t.1 in
    (leb-true _ _ u.0, leb-true _ _ (both (leb s.segments 256) _ u.1).0)
