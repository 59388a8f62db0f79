-- Slots in a row and slots by buckets: the buckets of a walk, one after the other, are the slots from the first bucket's on, around. Assumes nothing.
use Rattle.std.proofs.Common.{◌≡◌, ℕ, zero, suc, ◌+◌, ◌-◌, ◌*◌, ◌<◌, ◌≤◌, Bool, true, false, cond, List, [], ◌∷◌, ◌++◌, map, length, take, drop, sym, refl, ap, ◌∙◌, ap₂, add-zero, arith, length-drop, length-take-le, take-take, drop-drop, take_at, drop_at}
use Rattle.std.specs.Prelude.{}
use mathlib.Core.List.{map-append, flatten}
use Rattle.index.specs.Find.{slots_of}
use Rattle.index.specs.Packed.{packed_bucket}
use Rattle.index.specs.Slot.{word_slot, IndexSlot}
use Rattle.index.specs.Walk.{buckets_of, rot, up_from}
use Rattle.index.proofs.Contents.{packed_buckets, word_slots}
use Rattle.index.proofs.Around.{around, walk_around}
use Rattle.index.proofs.PackedReads.{bucket_length}
use Rattle.index.proofs.Views.{part_front}
use Rattle.index.proofs.Walks.{drop_take, walk_flat, next_below}

module _ {A B : Type 0} (f : A → B) where
  map_take : (n : ℕ) (l : List A) → map f (take n l) ≡ take n (map f l)
  map_take zero l = refl
  map_take (suc n) [] = refl
  map_take (suc n) (x ∷ l) = ap (λ (r : List B). f x ∷ r) (map_take n l)

  map_drop : (n : ℕ) (l : List A) → map f (drop n l) ≡ drop n (map f l)
  map_drop zero l = refl
  map_drop (suc n) [] = refl
  map_drop (suc n) (x ∷ l) = map_drop n l

  map_rot : (a : ℕ) (l : List A) → map f (rot a l) ≡ rot a (map f l)
  map_rot a l = map-append f (drop a l) (take a l) ∙ ap₂ ◌++◌ (map_drop a l) (map_take a l)

module _ {A : Type 0} where
  -- bucket b of a row of slots
  abbrev pub bucket_at : List A → ℕ → List A
  bucket_at l b = take 8 (drop (8 * b) l)

  pub bucket_eight : (l : List A) (b : ℕ) → 8 * b + 8 ≤ length l → length (bucket_at l b) ≡ 8
  bucket_eight l b h = length-take-le 8 (drop (8 * b) l) (omega (arith, length-drop (8 * b) l))

  buckets_up : (l : List A) (a n : ℕ) → map (bucket_at l) (up_from a n) ≡ buckets_of n (drop (8 * a) l)
  unfolding up_from buckets_of
  buckets_up l a zero = refl
  buckets_up l a (suc n) =
      let e : 8 * a + 8 ≡ 8 * suc a = omega arith in
      ap (λ (r : List (List A)). bucket_at l a ∷ r) (buckets_up l (suc a) n ∙ ap (buckets_of n) (ap (λ (k : ℕ). drop k l) (sym e) ∙ sym (drop-drop 8 (8 * a) l)))

  buckets_front : (n : ℕ) (l : List A) → buckets_of n (take (8 * n) l) ≡ buckets_of n l
  unfolding buckets_of
  buckets_front zero l = refl
  buckets_front (suc n) l =
      let e : 8 * suc n ≡ 8 + 8 * n = omega arith in
      rw e (ap₂ (λ (x : List A) (y : List (List A)). x ∷ y) (take-take 8 (8 + 8 * n) l (omega arith)) (ap (buckets_of n) (drop_take 8 (8 * n) l) ∙ buckets_front n (drop 8 l)))

  -- the slots of the buckets that a walk visits
  abbrev pub walked : List A → List ℕ → List A
  walked l bs = flatten (map (bucket_at l) bs)

  pub walk_slots : (l : List A) (buckets f : ℕ) → 8 * buckets ≤ length l → walked l (rot f (up_from 0 buckets)) ≡ rot (8 * f) (take (8 * buckets) l)
  walk_slots l buckets f h =
      ap flatten (map_rot (bucket_at l) f (up_from 0 buckets) ∙ ap (rot f) (buckets_up l 0 buckets ∙ sym (buckets_front buckets l)))
      ∙ walk_flat (take (8 * buckets) l) buckets f (length-take-le (8 * buckets) l h)

-- ---- the slots of a finished index

-- in either layout, in a row
abbrev pub index_slots : Bool → ℕ → List ℕ → List IndexSlot
index_slots packed buckets index = cond packed (flatten (packed_buckets buckets index 0 buckets)) (word_slots buckets index)

packed_bucket_law : (buckets : ℕ) (index : List ℕ) (a n b : ℕ) → b < n → bucket_at (flatten (packed_buckets buckets index a n)) b ≡ packed_bucket buckets index (a + b)
unfolding flatten packed_buckets
packed_bucket_law buckets index a zero b h = absurd (omega arith)
packed_bucket_law buckets index a (suc n) zero h = rw (add-zero a) (take_at (packed_bucket buckets index a) _ 8 (bucket_length buckets index a))
packed_bucket_law buckets index a (suc n) (suc b) h =
    let e : 8 * suc b ≡ 8 + 8 * b = omega arith in
    let f : suc a + b ≡ a + suc b = omega arith in
    rw (
      e,
      ← drop-drop (8 * b) 8 (packed_bucket buckets index a ++ flatten (packed_buckets buckets index (suc a) n)),
      drop_at (packed_bucket buckets index a)
          (flatten (packed_buckets buckets index (suc a) n)) 8 (bucket_length buckets index a),
    )
    (packed_bucket_law buckets index (suc a) n b (omega arith) ∙ ap (packed_bucket buckets index) f)

-- bucket b of the row is the bucket that a lookup reads
pub index_bucket : (packed : Bool) (buckets : ℕ) (index : List ℕ) (b : ℕ) → b < buckets → bucket_at (index_slots packed buckets index) b ≡ slots_of packed buckets index b
index_bucket true buckets index b h =
    let e : 0 + b ≡ b = omega arith in
    packed_bucket_law buckets index 0 buckets b h ∙ ap (packed_bucket buckets index) e
index_bucket false buckets index b h =
    sym (map_take word_slot 8 (drop (8 * b) (take (8 * buckets) index)) ∙ ap (take 8) (map_drop word_slot (8 * b) (take (8 * buckets) index)))
    ∙ ap (map word_slot) (part_front (8 * b) 8 (8 * buckets) index (omega arith))

-- ---- a walk stays inside

pub data Below (n : ℕ) : List ℕ → Type 0 where
  no_more : Below n []
  one_more : {b : ℕ} {l : List ℕ} → b < n → Below n l → Below n (b ∷ l)

around_below : (n b buckets : ℕ) → b < buckets → Below buckets (around n b buckets)
unfolding around
around_below zero b buckets h = no_more
around_below (suc n) b buckets h = one_more h (around_below n _ buckets (next_below b buckets h))

pub walk_below : (buckets f : ℕ) → f ≤ buckets - 1 → Below buckets (rot f (up_from 0 buckets))
unfolding around
walk_below zero f h = rw (walk_around 0 f h) no_more
walk_below (suc n) f h = rw (walk_around (suc n) f h) (around_below (suc n) f (suc n) (omega arith))
