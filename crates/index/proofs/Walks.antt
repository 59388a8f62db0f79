-- The walk over the buckets as a loop makes it: bucket after bucket, around. Assumes nothing.
use Rattle.std.proofs.Common.{◌≡◌, ℕ, zero, suc, ◌+◌, ◌-◌, ◌*◌, ◌<◌, ◌≤◌, List, [], ◌∷◌, ◌++◌, length, get_or, take, drop, sym, refl, ap, ◌∙◌, ap₂, append_assoc, not-suc-le-zero, add-zero, add-suc, suc-add, zero-add, add-one, arith, length-drop, drop_of_length-le, take_all, drop-cons, drop-drop, take_at, take-add, drop_at, le-leb}
use mathlib.Core.List.{flatten}
use native.Mathlib.Decide.{dec_le}
use lib.Seq.{take-nil}
use borrow.Author.Tests.{lt-leb}
use Rattle.index.specs.Build.{next_bucket}
use Rattle.index.specs.Walk.{buckets_of, rot}

-- ---- the next bucket

pub next_on : (b buckets : ℕ) → b + 1 < buckets → next_bucket b buckets ≡ b + 1
unfolding next_bucket
next_on b buckets h = simp (lt-leb buckets (b + 1) h)

pub next_around : (b buckets : ℕ) → buckets ≤ b + 1 → next_bucket b buckets ≡ 0
unfolding next_bucket
next_around b buckets h = simp (le-leb buckets (b + 1) h)

-- it is a bucket where there are any, as the first bucket of a hash is
pub next_within : (b buckets : ℕ) → next_bucket b buckets ≤ buckets - 1
next_within b buckets = go (dec_le buckets (b + 1))
  where
    go : Dec (buckets ≤ b + 1) → next_bucket b buckets ≤ buckets - 1
    go (yes p) = omega (arith, next_around b buckets p)
    go (no q) = omega (arith, next_on b buckets (omega arith))

pub next_below : (b buckets : ℕ) → b < buckets → next_bucket b buckets < buckets
next_below b buckets h = omega (arith, next_within b buckets)

-- ---- parts of lists

module _ {A : Type 0} where
  pub drop_take : (a n : ℕ) (l : List A) → drop a (take (a + n) l) ≡ take n (drop a l)
  drop_take zero n l = rw (zero-add n)
  drop_take (suc a) n [] = rw (suc-add a n) (sym (take-nil n))
  drop_take (suc a) n (x ∷ l) = rw (suc-add a n) (drop_take a n l)

  -- one slot more of a bucket, for the loop over its slots
  pub part_cons : (l : List A) (n i : ℕ) (d : A) → 0 < n → i < length l → take n (drop i l) ≡ get_or l i d ∷ take (n - 1) (drop (i + 1) l)
  part_cons l zero i d h k = absurd (not-suc-le-zero h)
  part_cons l (suc n) i d h k = let e : suc n - 1 ≡ n = omega arith in rw (drop-cons l i d k, e, add-one i)

  -- ---- the buckets of a list of slots

  pub length_buckets : (n : ℕ) (l : List A) → length (buckets_of n l) ≡ n
  unfolding buckets_of
  length_buckets zero l = refl
  length_buckets (suc n) l = ap suc (length_buckets n (drop 8 l))

  buckets_split : (f n : ℕ) (l : List A) → buckets_of (n + f) l ≡ buckets_of f l ++ buckets_of n (drop (8 * f) l)
  unfolding buckets_of
  buckets_split zero n l = rw (add-zero n)
  buckets_split (suc f) n l =
      let e : 8 + 8 * f ≡ 8 * suc f = omega arith in
      rw (add-suc n f)
      (ap (λ (r : List (List A)). take 8 l ∷ r)
      (buckets_split f n (drop 8 l) ∙ ap (λ (s : List A). buckets_of f (drop 8 l) ++ buckets_of n s) (drop-drop (8 * f) 8 l ∙ ap (λ (k : ℕ). drop k l) e)))

  rot_buckets : (f n : ℕ) (l : List A) → rot f (buckets_of (n + f) l) ≡ buckets_of n (drop (8 * f) l) ++ buckets_of f l
  rot_buckets f n l =
      let front : List (List A) = buckets_of f l in
      let back : List (List A) = buckets_of n (drop (8 * f) l) in
      let len : length front ≡ f = length_buckets f l in
      ap (rot f) (buckets_split f n l) ∙ ap₂ ◌++◌ (drop_at front back f len) (take_at front back f len)

  -- ---- slot by slot, the walk is the slots from the first bucket's on, around

  flatten_append : (s t : List (List A)) → flatten (s ++ t) ≡ flatten s ++ flatten t
  unfolding flatten
  flatten_append [] t = refl
  flatten_append (x ∷ s) t = ap (λ (r : List A). x ++ r) (flatten_append s t) ∙ sym (append_assoc x (flatten s) (flatten t))

  pub flatten_buckets : (n : ℕ) (l : List A) → flatten (buckets_of n l) ≡ take (8 * n) l
  unfolding flatten buckets_of
  flatten_buckets zero l = refl
  flatten_buckets (suc n) l =
      let e : 8 + 8 * n ≡ 8 * suc n = omega arith in
      ap (λ (r : List A). take 8 l ++ r) (flatten_buckets n (drop 8 l)) ∙ sym (take-add 8 (8 * n) l) ∙ ap (λ (k : ℕ). take k l) e

  pub walk_flat : (l : List A) (buckets f : ℕ) → length l ≡ 8 * buckets → flatten (rot f (buckets_of buckets l)) ≡ rot (8 * f) l
  walk_flat l buckets f h = go (dec_le f buckets)
    where
      go : Dec (f ≤ buckets) → flatten (rot f (buckets_of buckets l)) ≡ rot (8 * f) l
      go (yes p) =
          let n : ℕ = buckets - f in
          let split : n + f ≡ buckets = omega arith in
          ap (λ (j : ℕ). flatten (rot f (buckets_of j l))) (sym split)
          ∙ ap flatten (rot_buckets f n l)
          ∙ flatten_append (buckets_of n (drop (8 * f) l)) (buckets_of f l)
          ∙ ap₂ ◌++◌ (flatten_buckets n (drop (8 * f) l) ∙ take_all (8 * n) (drop (8 * f) l) (omega (arith, length-drop (8 * f) l))) (flatten_buckets f l)
      go (no q) =
          let bs : List (List A) = buckets_of buckets l in
          let past_buckets : length bs ≤ f = omega (arith, length_buckets buckets l) in
          let past_slots : length l ≤ 8 * f = omega arith in
          ap₂ (λ (s t : List (List A)). flatten (s ++ t)) (drop_of_length-le bs past_buckets) (take_all f bs past_buckets)
          ∙ flatten_buckets buckets l
          ∙ take_all (8 * buckets) l (omega arith)
          ∙ sym (ap₂ ◌++◌ (drop_of_length-le l past_slots) (take_all (8 * f) l past_slots))
