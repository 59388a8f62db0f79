-- Laws of the pieces that a file is written of: a block by its header and its content, words as bytes, the index without its marks. Assumes nothing.
use mathlib.Core.Path.{◌≡◌, refl, sym, ap, ap₂, ◌∙◌}
use mathlib.Core.Bool.{true, false}
use mathlib.Core.List.{List, [], ◌∷◌, ◌++◌, map, flat_map, append_assoc}
use Prim.Native.Nat.{ℕ, zero, suc, ◌+◌, ◌≤◌, ◌<◌}
use native.Mathlib.Numerals.{add-one}
use native.Mathlib.Omega.{arith}
use lib.ListN.{length, take, drop, get_or, length-append}
use lib.Seq.{drop-cons}
use Rattle.std.proofs.lemmas.List.{drop_all, get_or-take}
use Rattle.hash_parts.specs.Setting.{setting_numbers}
use Rattle.hash_parts.specs.ZeroBytes.{bytes_of}
use Rattle.hash_parts.proofs.Bytes.{length_bytes}
use Rattle.records.specs.Area.{part}
use Rattle.index.specs.Packed.{word_bytes}
use Rattle.index.specs.Walk.{up_from}
use Rattle.sets.specs.Rebuild.{sum_of}
use Rattle.sets.specs.declared.cache.FrozenSegmentCache.{FrozenSegmentCache}
use Rattle.files.specs.Blocks.{block}
use Rattle.files.specs.Contents.{bytes_for, sum, unmarked_index, widths}
use Rattle.files.specs.Copies.{masked_by}
use Rattle.files.specs.Write.{count_bytes, count_numbers, segment_bytes}
use Rattle.files.proofs.Low.{bytes_low}
use Rattle.files.proofs.Masks.{control_masked, whole_masked, word_masked}

-- a header, and the content behind it
pub block_made : (body : List ℕ) (kind size : ℕ) (header content : List ℕ) → header ≡ bytes_of 4 size ++ bytes_of 2 kind → content ≡ body → size ≡ length body
    → header ++ content ≡ block kind body
block_made body kind size header content e f n = rw (e, f, n) (append_assoc (bytes_of 4 (length body)) (bytes_of 2 kind) body)

pub block_length : (kind : ℕ) (content : List ℕ) → length (block kind content) ≡ 6 + length content
block_length kind content =
    length-append (bytes_of 4 (length content)) (bytes_of 2 kind ++ content)
    ∙ omega (arith, length_bytes 4 (length content), length-append (bytes_of 2 kind) content, length_bytes 2 kind)

-- ---- words

-- words of which all bits travel
pub whole_bytes : (ws : List ℕ) → word_bytes (map (masked_by 0xffff_ffff_ffff_ffff) ws) ≡ word_bytes ws
unfolding word_bytes
whole_bytes [] = refl
whole_bytes (w ∷ l) = ap₂ (λ (x y : List ℕ). x ++ y) (ap (bytes_of 8) (whole_masked w) ∙ bytes_low w) (whole_bytes l)

pub word_bytes_append : (a b : List ℕ) → word_bytes (a ++ b) ≡ word_bytes a ++ word_bytes b
unfolding word_bytes
word_bytes_append [] b = refl
word_bytes_append (w ∷ l) b = ap (λ (x : List ℕ). bytes_of 8 w ++ x) (word_bytes_append l b) ∙ sym (append_assoc (bytes_of 8 w) (word_bytes l) (word_bytes b))

module _ (f g : ℕ → ℕ) (same : (w : ℕ) → f w ≡ g w) where
  pub map_same : (l : List ℕ) → map f l ≡ map g l
  map_same [] = refl
  map_same (w ∷ l) = ap₂ (λ (x : ℕ) (y : List ℕ). x ∷ y) (same w) (map_same l)

-- the index without its marks: in words, and packed, where only the control words have any
pub words_unmarked : (buckets : ℕ) (ws : List ℕ) → word_bytes (map (masked_by 0x7fff_ffff_ffff_ffff) ws) ≡ word_bytes (unmarked_index false buckets ws)
unfolding unmarked_index
words_unmarked buckets ws = ap word_bytes (map_same (masked_by 0x7fff_ffff_ffff_ffff) _ word_masked ws)

pub packed_unmarked_bytes : (buckets : ℕ) (ws : List ℕ)
    → word_bytes (map (masked_by 0x7f7f_7f7f_7f7f_7f7f) (take buckets ws)) ++ word_bytes (map (masked_by 0xffff_ffff_ffff_ffff) (drop buckets ws))
    ≡ word_bytes (unmarked_index true buckets ws)
unfolding unmarked_index
packed_unmarked_bytes buckets ws =
    ap₂ (λ (x y : List ℕ). x ++ y) (ap word_bytes (map_same (masked_by 0x7f7f_7f7f_7f7f_7f7f) _ control_masked (take buckets ws))) (whole_bytes (drop buckets ws))
    ∙ sym (word_bytes_append _ (drop buckets ws))

-- ---- numbers of several widths, and segments, one at a time

pub one_number : (widths numbers : List ℕ) (i : ℕ) → i < length widths → i < length numbers
    → bytes_for (drop i widths) (drop i numbers) ≡ bytes_of (get_or widths i 0) (get_or numbers i 0) ++ bytes_for (drop (i + 1) widths) (drop (i + 1) numbers)
unfolding bytes_for
one_number widths numbers i h g = rw (drop-cons widths i 0 h, drop-cons numbers i 0 g, add-one i)

pub numbers_long : (widths numbers : List ℕ) → length numbers ≡ length widths → length (bytes_for widths numbers) ≡ sum widths
unfolding bytes_for
numbers_long [] numbers h = refl
numbers_long (w ∷ ws) [] h = absurd (omega arith)
numbers_long (w ∷ ws) (n ∷ numbers) h = omega (arith, length-append (bytes_of w n) (bytes_for ws numbers), length_bytes w n, numbers_long ws numbers (omega arith))

pub no_numbers : (i : ℕ) (numbers : List ℕ) → 10 ≤ i → bytes_for (drop i widths) numbers ≡ []
unfolding bytes_for
no_numbers i numbers h = rw (drop_all i widths h)

-- kind 1
pub counts_long : (s : FrozenSegmentCache) → length (count_bytes s) ≡ 44
unfolding count_bytes count_numbers bytes_for bytes_of
counts_long s = refl

-- with the setting's numbers as they were worked out
pub counts_same : (s : FrozenSegmentCache) (ns : List ℕ) → ns ≡ setting_numbers s.config
    → bytes_for widths
    (get_or ns 0 0 ∷ get_or ns 1 0 ∷ get_or ns 2 0 ∷ get_or ns 3 0 ∷ get_or ns 4 0 ∷ get_or ns 5 0 ∷ s.entries
    ∷ s.logical_key_bytes ∷ s.logical_value_bytes ∷ s.record_header_bytes ∷ [])
    ≡ count_bytes s
unfolding count_bytes count_numbers
counts_same s ns e = rw e

-- the bytes of the segments from one on
pub segments_from : ℕ → ℕ → List ℕ → List ℕ → List ℕ → List ℕ
segments_from i n starts lengths arena = flat_map (λ g. part (get_or starts g 0) (get_or lengths g 0) arena) (up_from i n)

module _ (starts lengths arena : List ℕ) where
  pub from_first : (n : ℕ) → segments_from 0 n starts lengths arena ≡ segment_bytes n starts lengths arena
  unfolding segments_from segment_bytes
  from_first n = refl

  pub from_next : (i k n : ℕ) → k ≡ suc n → segments_from i k starts lengths arena ≡ part (get_or starts i 0) (get_or lengths i 0) arena ++ segments_from (i + 1) n starts lengths arena
  unfolding segments_from up_from flat_map
  from_next i k n e = rw (e, add-one i)

  pub from_last : (i k : ℕ) → k ≡ 0 → segments_from i k starts lengths arena ≡ []
  unfolding segments_from up_from flat_map
  from_last i k e = rw e

  -- of starts and lengths by their front
  module _ (count : ℕ) where
    pub from_front : (i k : ℕ) → i + k ≤ count → segments_from i k (take count starts) (take count lengths) arena ≡ segments_from i k starts lengths arena
    unfolding segments_from up_from flat_map
    from_front i zero h = refl
    from_front i (suc k) h =
        let s : get_or (take count starts) i 0 ≡ get_or starts i 0 = get_or-take count starts i 0 (omega arith) in
        let t : get_or (take count lengths) i 0 ≡ get_or lengths i 0 = get_or-take count lengths i 0 (omega arith) in
        let rest : segments_from (suc i) k (take count starts) (take count lengths) arena ≡ segments_from (suc i) k starts lengths arena = from_front (suc i) k (omega arith) in
        ap₂ (λ (x y : ℕ). part x y arena ++ segments_from (suc i) k (take count starts) (take count lengths) arena) s t
        ∙ ap (λ (r : List ℕ). part (get_or starts i 0) (get_or lengths i 0) arena ++ r) rest

    pub sum_front : (n : ℕ) → n ≤ count → sum_of n (take count lengths) ≡ sum_of n lengths
    unfolding sum_of
    sum_front zero h = refl
    sum_front (suc n) h = ap₂ ◌+◌ (sum_front n (omega arith)) (get_or-take count lengths n 0 (omega arith))
