-- What an index stands for is kept when it is packed, when its locations are split, and when marks are set or cleared. Assumes nothing.
use Rattle.std.proofs.Common.{◌≡◌, ℕ, zero, suc, ◌+◌, ◌-◌, ◌*◌, ◌^◌, ◌<◌, ◌≤◌, Bool, true, false, cond, eqb, leb, List, [], ◌∷◌, ◌++◌, map, length, get_or, take, drop, set, replicate, sym, refl, ap, ◌∙◌, arith, length-take-le, get_or-take, take_at, ne_eqb, eqb-true, le-leb, leb-true}
use Rattle.std.specs.Prelude.{Some, None, Option}
use mathlib.Core.List.{map-map, map-append, flatten, Forall₂}
use mathlib.Mathlib.Data.List.Forall2.Forall₂
use mathlib.Mathlib.Data.List.Forall2.{Forall₂-map_left_iff}
use native.Mathlib.Decide.{dec_lt}
use lib.ListN.{length-map, length-replicate}
use lib.Seq.{take-set-lt, take-set-le, map-set_same}
use Rattle.records.specs.Record.{Stored}
use Rattle.index.specs.Build.{cleared}
use Rattle.index.specs.Packed.{packed, with_byte, marked_byte, unmarked_byte}
use Rattle.index.specs.Segments.{no_start, start_after, starts_after, starts_of, segment_of, segmented, split_word, split_words}
use Rattle.index.specs.Slot.{word_slot, packed_tag, IndexSlot}
use Rattle.index.specs.Walk.{buckets_of}
use Rattle.index.specs.Word.{word_tag, word_stored, marked, unmarked}
use Rattle.index.proofs.Contents.{repacked, word_slots}
use Rattle.index.proofs.Entries.{new_slot, Cell, cell_empty, cell_used, Indexed, none_indexed, slots_mapped, reheld, words_long}
use Rattle.index.proofs.Flat.{index_slots}
use Rattle.index.proofs.Walks.{flatten_buckets}
use Rattle.index.proofs.PackedReads.{packed_read, mark_hidden, clear_hidden}
use Rattle.index.proofs.Words.{marked_tag, marked_stored, unmarked_tag, unmarked_stored}

-- ---- cleared words

zeros_empty : (n : ℕ) → map word_slot (replicate n 0) ≡ replicate n None
unfolding word_slot
zeros_empty zero = refl
zeros_empty (suc n) = ap (λ (r : List IndexSlot). None ∷ r) (zeros_empty n)

cleared_slots : (buckets : ℕ) (index : List ℕ) → 8 * buckets ≤ length index → word_slots buckets (cleared index (8 * buckets)) ≡ replicate (8 * buckets) None
unfolding cleared
cleared_slots buckets index long =
    simp (le-leb _ _ long)
    (ap (map word_slot) (take_at (replicate (8 * buckets) 0) _ (8 * buckets) (length-replicate (8 * buckets) 0)) ∙ zeros_empty (8 * buckets))

-- ---- packing

flatten_map : {A B : Type 0} (g : A → B) (l : List (List A)) → flatten (map (map g) l) ≡ map g (flatten l)
unfolding flatten
flatten_map g [] = refl
flatten_map {B = B} g (x ∷ l) = ap (λ (r : List B). map g x ++ r) (flatten_map g l) ∙ sym (map-append g x (flatten l))

pub packed_slots : (buckets : ℕ) (index : List ℕ) → 8 * buckets ≤ length index → index_slots true buckets (packed buckets index) ≡ map repacked (word_slots buckets index)
packed_slots buckets index long =
    ap flatten (packed_read buckets index long)
    ∙ flatten_map (λ w. repacked (word_slot w)) (buckets_of buckets index)
    ∙ ap (map (λ w. repacked (word_slot w))) (flatten_buckets buckets index)
    ∙ sym (map-map repacked word_slot (take (8 * buckets) index))

-- ---- words of the same slots

-- a word replaced by one of the same slot
slots_same : (buckets : ℕ) (index : List ℕ) (i w : ℕ) → word_slot w ≡ word_slot (get_or index i 0) → word_slots buckets (set index i w) ≡ word_slots buckets index
slots_same buckets index i w e = go (dec_lt i (8 * buckets))
  where
    go : Dec (i < 8 * buckets) → word_slots buckets (set index i w) ≡ word_slots buckets index
    go (yes l) = rw (take-set-lt (8 * buckets) index i w l) (map-set_same word_slot (take (8 * buckets) index) i w 0 (e ∙ ap word_slot (sym (get_or-take (8 * buckets) index i 0 l))))
    go (no n) = let l : 8 * buckets ≤ i = omega arith in rw (take-set-le (8 * buckets) index i w l)

marked_slot : (w : ℕ) → (w ≡ 0 → ⊥) → word_slot (marked w) ≡ word_slot w
unfolding word_slot
marked_slot w n = rw (ne_eqb w 0 n, ne_eqb (marked w) 0 (λ (e : marked w ≡ 0). omega arith), marked_tag w, marked_stored w)

-- clearing the mark of a word that names no record could leave 0, an empty slot
unmarked_slot : (w : ℕ) → (word_stored w ≡ 0 → ⊥) → word_slot (unmarked w) ≡ word_slot w
unfolding word_slot
unmarked_slot w n =
    let z : w ≡ 0 → ⊥ = λ (e : w ≡ 0). n (omega arith) in
    let y : unmarked w ≡ 0 → ⊥ = λ (e : unmarked w ≡ 0). n (omega arith) in
    rw (ne_eqb w 0 z, ne_eqb (unmarked w) 0 y, unmarked_tag w, unmarked_stored w)

words_marked : (buckets : ℕ) (index : List ℕ) (i : ℕ) → (get_or index i 0 ≡ 0 → ⊥) → word_slots buckets (set index i (marked (get_or index i 0))) ≡ word_slots buckets index
words_marked buckets index i n = slots_same buckets index i (marked (get_or index i 0)) (marked_slot (get_or index i 0) n)

words_unmarked : (buckets : ℕ) (index : List ℕ) (i : ℕ) → (word_stored (get_or index i 0) ≡ 0 → ⊥)
    → word_slots buckets (set index i (unmarked (get_or index i 0))) ≡ word_slots buckets index
words_unmarked buckets index i n = slots_same buckets index i (unmarked (get_or index i 0)) (unmarked_slot (get_or index i 0) n)

-- ---- the same of an index

module _ {E : Type 0} {stored : E → Stored} {H : List ℕ → ℕ} {Holds : ℕ → E → Type 0} (buckets : ℕ) (index : List ℕ) (filter : List ℕ) (words : ℕ) where
  -- a cleared index stands for no entries, whatever the filter holds
  pub cleared_indexed : 8 * buckets ≤ length index → Indexed stored H false Holds buckets (word_slots buckets (cleared index (8 * buckets))) filter words []
  cleared_indexed long = rw (cleared_slots buckets index long) (none_indexed buckets filter words)

module _ {E : Type 0} {stored : E → Stored} {H : List ℕ → ℕ} {Holds : ℕ → E → Type 0} (buckets : ℕ) (index : List ℕ) {filter : List ℕ} {words : ℕ} {r : List E} where
  module _ (x : Indexed stored H false Holds buckets (word_slots buckets index) filter words r) where
    pub packed_indexed : Indexed stored H true Holds buckets (index_slots true buckets (packed buckets index)) filter words r
    packed_indexed = rw (packed_slots buckets index (words_long buckets index x)) (slots_mapped repacked kept x)
      where
        kept : (s : IndexSlot) (c : Option E) → Cell stored H false Holds s c → Cell stored H true Holds (repacked s) c
        kept s c cell_empty = cell_empty
        kept s c (cell_used p h) = cell_used (ap packed_tag p) h

    pub marked_indexed : (i : ℕ) → (get_or index i 0 ≡ 0 → ⊥) → Indexed stored H false Holds buckets (word_slots buckets (set index i (marked (get_or index i 0)))) filter words r
    marked_indexed i n = rw (words_marked buckets index i n) x

    pub unmarked_indexed : (i : ℕ) → (word_stored (get_or index i 0) ≡ 0 → ⊥)
        → Indexed stored H false Holds buckets (word_slots buckets (set index i (unmarked (get_or index i 0)))) filter words r
    unmarked_indexed i n = rw (words_unmarked buckets index i n) x

  module _ (x : Indexed stored H true Holds buckets (index_slots true buckets index) filter words r) (b j : ℕ) (h : b < buckets) where
    pub control_marked_indexed : Indexed stored H true Holds buckets (index_slots true buckets (set index b (with_byte marked_byte j (get_or index b 0)))) filter words r
    control_marked_indexed = rw (mark_hidden buckets index b j h) x

    pub control_unmarked_indexed : Indexed stored H true Holds buckets (index_slots true buckets (set index b (with_byte unmarked_byte j (get_or index b 0)))) filter words r
    control_unmarked_indexed = rw (clear_hidden buckets index b j h) x

-- ---- splitting

-- what is within the target has one start
after_none : (ws : List ℕ) (filled target last : ℕ) → filled ≤ last + target → start_after ws filled target last ≡ no_start
unfolding start_after
after_none ws filled target last h = rw (le-leb filled (last + target) h) (go (eqb target 0))
  where
    go : (b : Bool) → cond b no_start no_start ≡ no_start
    go true = refl
    go false = refl

starts_none : (n : ℕ) (ws : List ℕ) (filled target last : ℕ) → filled ≤ last + target → starts_after n ws filled target last ≡ []
unfolding starts_after
starts_none zero ws filled target last h = refl
starts_none (suc n) ws filled target last h = rw (after_none ws filled target last h)

pub one_start : (ws : List ℕ) (filled target : ℕ) → filled ≤ target → starts_of ws filled target ≡ 0 ∷ []
unfolding starts_of
one_start ws filled target h = ap (λ (l : List ℕ). 0 ∷ l) (starts_none 256 ws filled target 0 (omega arith))

-- and one segment leaves the locations
one_segment : (l : ℕ) → segmented (0 ∷ []) l ≡ l
unfolding segment_of
one_segment l = omega arith

module _ {E : Type 0} (Holds Holds' : ℕ → E → Type 0) (ss : List ℕ) (located : (e : E) → Holds 0 e → ⊥)
    (moves : (l : ℕ) (e : E) → Holds (l + 1) e → (segmented ss l + 1 < 2 ^ 40) × Holds' (segmented ss l + 1) e) where
  moved : (l : ℕ) (e : E) → Holds l e → (l ≡ 0 → ⊥) × (segmented ss (l - 1) + 1 < 2 ^ 40) × Holds' (segmented ss (l - 1) + 1) e
  moved zero e y = absurd (located e y)
  moved (suc l) e y =
      let n : suc l - 1 ≡ l = omega arith in
      let s : suc l ≡ l + 1 = omega arith in
      let m = moves l e (rw s at y) in
      (λ (z : suc l ≡ 0). omega arith, rw n m.0, rw n m.1)

  module _ {stored : E → Stored} {H : List ℕ → ℕ} where
    split_used : (w : ℕ) {t l : ℕ} {c : Option E} → t ≡ word_tag w → l ≡ word_stored w → Cell stored H false Holds (Some (t, l)) c → Cell stored H false Holds' (word_slot (split_word ss w)) c
    unfolding split_word
    split_used w p q (cell_used {e = e} r y) =
        let m = moved (word_stored w) e (rw q at y) in
        rw (ne_eqb (word_stored w) 0 m.0, new_slot (word_tag w) (segmented ss (word_stored w - 1)) (omega arith) m.1) (cell_used (sym p ∙ r) m.2)

    split_cell : (w : ℕ) (c : Option E) → Cell stored H false Holds (word_slot w) c → Cell stored H false Holds' (word_slot (split_word ss w)) c
    unfolding word_slot split_word
    split_cell w c x = go (eqb w 0) refl x
      where
        empty : {d : Option E} → w ≡ 0 → Cell stored H false Holds None d → Cell stored H false Holds' (word_slot (split_word ss w)) d
        empty z cell_empty = rw z cell_empty

        go : (b : Bool) → eqb w 0 ≡ b → Cell stored H false Holds (cond b None (Some (word_tag w, word_stored w))) c → Cell stored H false Holds' (word_slot (split_word ss w)) c
        go true e y = empty (eqb-true w 0 e) y
        go false e y = split_used w refl refl y

    -- the index with every word split
    pub split_all : (buckets : ℕ) (index : List ℕ) {filter : List ℕ} {words : ℕ} {r : List E} → Indexed stored H false Holds buckets (word_slots buckets index) filter words r
        → Indexed stored H false Holds' buckets (word_slots buckets (map (split_word ss) (take (8 * buckets) index) ++ drop (8 * buckets) index)) filter words r
    split_all buckets index x = record { table = x.table; size = x.size; cells = rw split_slots cells'; placed = x.placed }
      where
        ws : List ℕ
        ws = take (8 * buckets) index

        split_slots : word_slots buckets (map (split_word ss) ws ++ drop (8 * buckets) index) ≡ map word_slot (map (split_word ss) ws)
        split_slots =
            ap (map word_slot)
            (take_at (map (split_word ss) ws) (drop (8 * buckets) index) (8 * buckets) (length-map ws (split_word ss) ∙ length-take-le (8 * buckets) index (words_long buckets index x)))

        cells' : Forall₂ (Cell stored H false Holds') (map word_slot (map (split_word ss) ws)) x.table
        cells' =
            (Forall₂-map_left_iff word_slot {l = map (split_word ss) ws}).1
            ((Forall₂-map_left_iff (split_word ss) {l = ws}).1 (Forall₂.imp split_cell ((Forall₂-map_left_iff word_slot {l = ws}).0 x.cells)))

    -- where all is within one segment, no word changes
    pub split_indexed : (buckets : ℕ) (index : List ℕ) (filled target : ℕ) → (filled ≤ target → ss ≡ 0 ∷ []) → {filter : List ℕ} {words : ℕ} {r : List E}
        → Indexed stored H false Holds buckets (word_slots buckets index) filter words r
        → Indexed stored H false Holds' buckets (word_slots buckets (split_words index buckets ss filled target)) filter words r
    split_indexed buckets index filled target one {filter} {words} {r} x = go (leb filled target) refl
      where
        stays : filled ≤ target → (l : ℕ) (e : E) → Holds l e → Holds' l e
        stays h l e y =
            let m = moved l e y in
            let n : segmented ss (l - 1) + 1 ≡ l = rw (one h) (omega (arith, one_segment (l - 1), m.0)) in
            rw n at m.2

        go : (b : Bool) → leb filled target ≡ b
            → Indexed stored H false Holds' buckets (word_slots buckets (cond b index (map (split_word ss) (take (8 * buckets) index) ++ drop (8 * buckets) index))) filter words r
        go true e = reheld (stays (leb-true filled target e)) x
        go false e = split_all buckets index x
