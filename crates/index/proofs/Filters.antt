-- Laws of the negative filter: a marked hash may be there, and marks are never lost. Assumes nothing.
use Rattle.std.proofs.Common.{◌≡◌, ℕ, ◌+◌, ◌-◌, ◌*◌, ◌/◌, ◌%◌, ◌^◌, ◌<◌, ◌≤◌, min, max, true, eqb, List, length, get_or, set, sym, refl, ap, ◌∙◌, ap₂, mod-lt, one-mul, div-add-mod', zero-mul, arith, lit<, length-set, get_or-set_other, get_or-set_same, pow_pos, shl_exact, eq-eqb, ne_eqb, eqb-true, le-leb}
use native.Mathlib.Decide.{dec_le, ℕ_discrete}
use lib.Arith.{digits_mod, bin_ind}
use lib.Bits.{bit_and, bit_or, and_step, or_step, or_shr, and_shr, and_zero_r, and_self, or_comm, xor_lt}
use borrow.Author.Tests.{lt-leb}
use Rattle.hash_parts.specs.Hash.{first_bucket, mixed_hash, rotated}
use Rattle.hash_parts.proofs.Products.{first_bucket_below}
use Rattle.index.specs.Filter.{bit_past, filter_word, filter_mask, filter_marked, filter_has}

-- `1 << i` at 64 bits
pub one_shl : (i : ℕ) → i < 64 → (1 * 2 ^ i) % 2 ^ 64 ≡ 2 ^ i
one_shl i h = shl_exact {a = 1} 1 i 64 (lit< tt) (omega arith) ∙ one-mul (2 ^ i)

-- ---- the bits of a mask in a word

or_odd : (a b : ℕ) → bit_or a b % 2 ≡ max (a % 2) (b % 2)
or_odd a b =
    let h : max (a % 2) (b % 2) < 2 = omega arith in
    ap (λ (x : ℕ). x % 2) (or_step a b) ∙ digits_mod (bit_or (a / 2) (b / 2)) h

and_odd : (a b : ℕ) → bit_and a b % 2 ≡ min (a % 2) (b % 2)
and_odd a b =
    let h : min (a % 2) (b % 2) < 2 = omega arith in
    ap (λ (x : ℕ). x % 2) (and_step a b) ∙ digits_mod (bit_and (a / 2) (b / 2)) h

-- a word that has all bits of a mask has them when more are set
mask_kept : (mask w v : ℕ) → bit_and w mask ≡ mask → bit_and (bit_or w v) mask ≡ mask
mask_kept =
    bin_ind (λ (m : ℕ). (w v : ℕ) → bit_and w m ≡ m → bit_and (bit_or w v) m ≡ m) (λ w v e. and_zero_r (bit_or w v))
    (λ m ih w v e.
    let o : min (w % 2) (m % 2) ≡ m % 2 = sym (and_odd w m) ∙ ap (λ (x : ℕ). x % 2) e in
    let h : min (max (w % 2) (v % 2)) (m % 2) ≡ m % 2 = omega arith in
    and_step (bit_or w v) m
    ∙ ap₂ (λ (x y : ℕ). bit_and x (m / 2) * 2 + min y (m % 2)) (or_shr w v 1) (or_odd w v)
    ∙ ap₂ (λ (x y : ℕ). x * 2 + y) (ih (w / 2) (v / 2) (sym (and_shr w m 1) ∙ ap (λ (x : ℕ). x / 2) e)) h
    ∙ div-add-mod' m 2)

mask_set : (mask w : ℕ) → bit_and (bit_or w mask) mask ≡ mask
mask_set mask w = ap (λ (x : ℕ). bit_and x mask) (or_comm w mask) ∙ mask_kept mask mask w (and_self mask)

-- and so has each word of a filter when bits of one are set
words_kept : (f : List ℕ) (i v : ℕ) → i < length f → (j mask : ℕ) → bit_and (get_or f j 0) mask ≡ mask
    → bit_and (get_or (set f i (bit_or (get_or f i 0) v)) j 0) mask ≡ mask
words_kept f i v below j mask had = go (ℕ_discrete j i)
  where
    go : Dec (j ≡ i) → bit_and (get_or (set f i (bit_or (get_or f i 0) v)) j 0) mask ≡ mask
    go (yes e) =
        rw e
        (ap (λ (x : ℕ). bit_and x mask) (get_or-set_same f i (bit_or (get_or f i 0) v) 0 below)
        ∙ mask_kept mask (get_or f i 0) v (ap (λ (k : ℕ). bit_and (get_or f k 0) mask) (sym e) ∙ had))
    go (no n) = rw (get_or-set_other f i j (bit_or (get_or f i 0) v) 0 n) had

-- ---- the word of a hash

mixed_small : (h : ℕ) → h < 2 ^ 64 → mixed_hash h < 2 ^ 64
unfolding mixed_hash
mixed_small h l =
    xor_lt 64 (rotated h * 0x9e37_79b9_7f4a_7c15 % 2 ^ 64) (h / 2 ^ 29) (mod-lt (rotated h * 0x9e37_79b9_7f4a_7c15) (pow_pos 64)) (omega arith)

pub filter_word_below : (n h : ℕ) → h < 2 ^ 64 → filter_word n h ≤ n - 1
unfolding filter_word
filter_word_below n h l = first_bucket_below (mixed_hash h) n (mixed_small h l)

-- ---- marking and asking, by the tests of the code

module _ (f : List ℕ) (n h : ℕ) where
  pub marked_none : n ≡ 0 → filter_marked f n h ≡ f
  unfolding filter_marked
  marked_none e = simp (eq-eqb _ _ e)

  pub marked_short : length f < n → filter_marked f n h ≡ f
  unfolding filter_marked
  marked_short l = let z : n ≡ 0 → ⊥ = λ (e : n ≡ 0). omega arith in simp (ne_eqb _ _ z, lt-leb _ _ l)

  pub marked_is : (n ≡ 0 → ⊥) → n ≤ length f → filter_marked f n h ≡ set f (filter_word n h) (bit_or (get_or f (filter_word n h) 0) (filter_mask h))
  unfolding filter_marked
  marked_is z l = simp (ne_eqb _ _ z, le-leb _ _ l)

  pub has_none : n ≡ 0 → filter_has f n h ≡ true
  unfolding filter_has
  has_none e = simp (eq-eqb _ _ e)

  pub has_short : length f < n → filter_has f n h ≡ true
  unfolding filter_has
  has_short l = let z : n ≡ 0 → ⊥ = λ (e : n ≡ 0). omega arith in simp (ne_eqb _ _ z, lt-leb _ _ l)

  pub has_is : (n ≡ 0 → ⊥) → n ≤ length f → filter_has f n h ≡ eqb (bit_and (get_or f (filter_word n h) 0) (filter_mask h)) (filter_mask h)
  unfolding filter_has
  has_is z l = simp (ne_eqb _ _ z, le-leb _ _ l)

  -- a mark keeps the filter's length
  pub marked_length : length (filter_marked f n h) ≡ length f
  marked_length = go (dec_le n 0) (dec_le n (length f))
    where
      go : Dec (n ≤ 0) → Dec (n ≤ length f) → length (filter_marked f n h) ≡ length f
      go (yes z) d = ap length (marked_none (omega arith))
      go (no p) (yes q) =
          ap length (marked_is (λ (e : n ≡ 0). omega arith) q) ∙ length-set f (filter_word n h) (bit_or (get_or f (filter_word n h) 0) (filter_mask h))
      go (no p) (no q) = ap length (marked_short (omega arith))

-- ---- no false negatives

-- a marked hash may be there
pub own_mark : (f : List ℕ) (n h : ℕ) → h < 2 ^ 64 → filter_has (filter_marked f n h) n h ≡ true
own_mark f n h l = go (dec_le n 0) (dec_le n (length f))
  where
    word : ℕ
    word = filter_word n h

    go : Dec (n ≤ 0) → Dec (n ≤ length f) → filter_has (filter_marked f n h) n h ≡ true
    go (yes z) d = has_none (filter_marked f n h) n h (omega arith)
    go (no p) (yes q) =
        let some : n ≡ 0 → ⊥ = λ (e : n ≡ 0). omega arith in
        let v : ℕ = bit_or (get_or f word 0) (filter_mask h) in
        let below : word < length f = omega (arith, filter_word_below n h l) in
        ap (λ (g : List ℕ). filter_has g n h) (marked_is f n h some q)
        ∙ has_is (set f word v) n h some (omega (arith, length-set f word v))
        ∙ eq-eqb _ _ (ap (λ (x : ℕ). bit_and x (filter_mask h)) (get_or-set_same f word v 0 below) ∙ mask_set (filter_mask h) (get_or f word 0))
    go (no p) (no q) = ap (λ (g : List ℕ). filter_has g n h) (marked_short f n h (omega arith)) ∙ has_short f n h (omega arith)

-- what may be there may be there after any mark
pub mark_grows : (f : List ℕ) (n g h : ℕ) → g < 2 ^ 64 → filter_has f n h ≡ true → filter_has (filter_marked f n g) n h ≡ true
mark_grows f n g h l t = go (dec_le n 0) (dec_le n (length f))
  where
    go : Dec (n ≤ 0) → Dec (n ≤ length f) → filter_has (filter_marked f n g) n h ≡ true
    go (yes z) d = has_none (filter_marked f n g) n h (omega arith)
    go (no p) (yes q) =
        let some : n ≡ 0 → ⊥ = λ (e : n ≡ 0). omega arith in
        let i : ℕ = filter_word n g in
        let v : ℕ = bit_or (get_or f i 0) (filter_mask g) in
        let below : i < length f = omega (arith, filter_word_below n g l) in
        let had : bit_and (get_or f (filter_word n h) 0) (filter_mask h) ≡ filter_mask h = eqb-true _ _ (sym (has_is f n h some q) ∙ t) in
        ap (λ (k : List ℕ). filter_has k n h) (marked_is f n g some q)
        ∙ has_is (set f i v) n h some (omega (arith, length-set f i v))
        ∙ eq-eqb _ _ (words_kept f i (filter_mask g) below (filter_word n h) (filter_mask h) had)
    go (no p) (no q) = ap (λ (k : List ℕ). filter_has k n h) (marked_short f n g (omega arith)) ∙ t

-- ---- a trial: hash 0 has word 0, whatever their count, and bits 0, 1 and 2

pub filter_zero : (n : ℕ) → filter_word n 0 ≡ 0
unfolding filter_word mixed_hash rotated first_bucket
filter_zero n = rw (zero-mul n)

pub mask_zero : filter_mask 0 ≡ 7
unfolding filter_mask mixed_hash rotated bit_past
mask_zero = refl
