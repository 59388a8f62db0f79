-- What the numbers of a file tell, and what 15 asks in the order in which it is asked. Assumes nothing.
use mathlib.Core.Path.{◌≡◌, refl, sym, ◌∙◌}
use mathlib.Core.Bool.{Bool, true, false}
use mathlib.Core.List.{List, [], ◌∷◌}
use Prim.Native.Nat.{ℕ, ◌*◌, ◌/◌, ◌%◌, ◌≤◌}
use native.Mathlib.Omega.{arith}
use lib.Dec.{eqb, leb}
use lib.ListN.{length}
use borrow.Author.Tests.{eqb-true, leb-true, eq-eqb, le-leb}
use Rattle.hash_parts.specs.declared.setting.SegmentCacheConfig.{SegmentCacheConfig}
use Rattle.sets.specs.Lookup.{set_fits}
use Rattle.sets.specs.Questions.{all, bytes_fit, counts_fit, setting_fits}
use Rattle.sets.specs.declared.cache.FrozenSegmentCache.{FrozenSegmentCache}
use Rattle.sets.proofs.Counts.{both}
use Rattle.files.specs.Blocks.{content_of}
use Rattle.files.specs.Contents.{buckets_of, content_fits, field, file_set, filter_words_of, records_in, segment_lengths, setting_in}
use Rattle.files.specs.Plan.{blocks_fit, flags_fit}
use Rattle.files.proofs.Asked.{content_asked}
use Rattle.files.proofs.Passes.{segments_are}
use Rattle.index.proofs.PackingLoop.{length_words}

bool_same : {b c : Bool} → (b ≡ true → c ≡ true) → (c ≡ true → b ≡ true) → b ≡ c
bool_same {b} {c} there back = go b c there back
  where
    go : (x y : Bool) → (x ≡ true → y ≡ true) → (y ≡ true → x ≡ true) → x ≡ y
    go true y f g = sym (f refl)
    go false true f g = g refl
    go false false f g = refl

module _ (f : List ℕ) where
  -- ---- kind 1

  pub set_is : (c : SegmentCacheConfig) (records buckets words segments bytes keys values headers : ℕ) → c ≡ setting_in f → records ≡ records_in f → buckets ≡ buckets_of f
      → words ≡ filter_words_of f → segments ≡ length (content_of 1 f) / 8 → bytes ≡ length (content_of 4 f) → keys ≡ field 7 f → values ≡ field 8 f → headers ≡ field 9 f
      → ◌≡◌ {A = FrozenSegmentCache}
      (record {
        config = c;
        entries = records;
        buckets = buckets;
        filter_words = words;
        segments = segments;
        filled = bytes;
        record_bytes = bytes;
        logical_key_bytes = keys;
        logical_value_bytes = values;
        record_header_bytes = headers;
      })
      (file_set f)
  set_is c records buckets words segments bytes keys values headers p q r s t u v w x =
      let n : segments ≡ length (segment_lengths f) = t ∙ sym (length_words (length (content_of 1 f) / 8) (content_of 1 f)) in
      rw (p, q, r, s, n, u, v, w, x)

  -- ---- what 15 asks

  pub record ContentTold : Type 0 where
    pub counts_long : length (content_of 0 f) ≡ 44
    pub flags : flags_fit f ≡ true
    pub numbers : set_fits (file_set f) ≡ true
    pub blocks : blocks_fit (buckets_of f) (filter_words_of f) f ≡ true

  pub content_told : content_fits f ≡ true → ContentTold
  unfolding flags_fit set_fits counts_fit blocks_fit
  content_told e =
      let a = content_asked f e in
      let low : 8 ≤ length (content_of 1 f) = leb-true _ _ a.some_segment in
      let high : length (content_of 1 f) ≤ 2048 = leb-true _ _ a.few_segments in
      let some : 1 ≤ length (segment_lengths f) = omega (arith, segments_are f) in
      let few : length (segment_lengths f) ≤ 256 = omega (arith, segments_are f) in
      let buckets = eq-eqb (buckets_of f) (buckets_of f) refl in
      let words = eq-eqb (filter_words_of f) (filter_words_of f) refl in
      record {
        counts_long = eqb-true _ _ a.counts_long;
        flags = rw (a.expiry_flag, a.packed_flag) a.tick;
        numbers = rw (a.setting, a.records, buckets, words, le-leb _ _ some, le-leb _ _ few, a.key_bytes, a.value_bytes) a.header_length;
        blocks = rw (a.whole_words, a.index, a.filter, a.arena_short) a.adds_up;
      }

  pub content_back : ContentTold → content_fits f ≡ true
  unfolding content_fits flags_fit set_fits counts_fit blocks_fit
  content_back t =
      let a₁ = both (leb (field 0 f) 1) _ t.flags in
      let a₂ = both (leb (field 4 f) 1) _ a₁.1 in
      let b₁ = both (counts_fit (setting_in f) (records_in f) (buckets_of f) (filter_words_of f)) _ t.numbers in
      let b₂ = both (leb 1 (length (segment_lengths f))) _ b₁.1 in
      let b₃ = both (leb (length (segment_lengths f)) 256) _ b₂.1 in
      let b₄ = both (bytes_fit (records_in f) (field 7 f)) _ b₃.1 in
      let b₅ = both (bytes_fit (records_in f) (field 8 f)) _ b₄.1 in
      let c₁ = both (setting_fits (setting_in f)) _ b₁.0 in
      let c₂ = both (leb (records_in f) 1_048_576) _ c₁.1 in
      let d₁ = both (eqb (length (content_of 1 f) % 8) 0) _ t.blocks in
      let d₂ = both (eqb (length (content_of 2 f)) (64 * buckets_of f)) _ d₁.1 in
      let d₃ = both (eqb (length (content_of 3 f)) (8 * filter_words_of f)) _ d₂.1 in
      let d₄ = both (leb (length (content_of 4 f)) 1_073_741_824) _ d₃.1 in
      let words : length (content_of 1 f) % 8 ≡ 0 = eqb-true _ _ d₁.0 in
      let low : 1 ≤ length (segment_lengths f) = leb-true _ _ b₂.0 in
      let high : length (segment_lengths f) ≤ 256 = leb-true _ _ b₃.0 in
      let some : 8 ≤ length (content_of 1 f) = omega (arith, segments_are f) in
      let few : length (content_of 1 f) ≤ 2048 = omega (arith, segments_are f) in
      rw (
        eq-eqb _ _ t.counts_long,
        a₁.0,
        a₂.0,
        a₂.1,
        c₁.0,
        c₂.0,
        b₄.0,
        b₅.0,
        b₅.1,
        d₁.0,
        le-leb _ _ some,
        le-leb _ _ few,
        d₂.0,
        d₃.0,
        d₄.0,
      ) d₄.1

  -- as it is asked
  pub content_is : content_fits f ≡ all (eqb (length (content_of 0 f)) 44 ∷ flags_fit f ∷ set_fits (file_set f) ∷ blocks_fit (buckets_of f) (filter_words_of f) f ∷ [])
  content_is = bool_same there back
    where
      asked : Bool
      asked = all (eqb (length (content_of 0 f)) 44 ∷ flags_fit f ∷ set_fits (file_set f) ∷ blocks_fit (buckets_of f) (filter_words_of f) f ∷ [])

      there : content_fits f ≡ true → asked ≡ true
      there e = let t = content_told e in rw (eq-eqb _ _ t.counts_long, t.flags, t.numbers) t.blocks

      back : asked ≡ true → content_fits f ≡ true
      back e =
          let a = both (eqb (length (content_of 0 f)) 44) _ e in
          let b = both (flags_fit f) _ a.1 in
          let c = both (set_fits (file_set f)) _ b.1 in
          content_back (record { counts_long = eqb-true _ _ a.0; flags = b.0; numbers = c.0; blocks = c.1 })
