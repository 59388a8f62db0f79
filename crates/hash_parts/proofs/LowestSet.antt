-- The lowest set bit of a word: its byte by the trailing zeros, and the word without it. Assumes nothing.
use Rattle.std.proofs.Common.{◌≡◌, ℕ, zero, suc, ◌+◌, ◌-◌, ◌*◌, ◌/◌, ◌%◌, ◌^◌, ◌<◌, eqb, List, ◌∷◌, map, sym, refl, ap, ◌∙◌, ap₂, suc-add, pow-suc, div-add-mod', zero-add, mul-one, arith, lit<, eqb→eq, eq-eqb, ne_eqb}
use native.Mathlib.Decide.{dec_lt}
use lib.Bits.{bit_and, and_block, and_self, block_half, block_odd, shifted_half, shifted_even}
use lib.Count.{count_trailing_zeros, under}
use Rattle.hash_parts.specs.ZeroBytes.{bytes_of, number_of, is_set, first_mark, lowest_set, lowest_cleared, without_lowest}
use Rattle.hash_parts.proofs.Bytes.{number_all}
use Rattle.hash_parts.proofs.Table.{at}

-- ---- trailing zeros

no_digits : (n : ℕ) → count_trailing_zeros 0 n ≡ 0
unfolding count_trailing_zeros
no_digits n = refl

even : (k n : ℕ) → n % 2 ≡ 0 → count_trailing_zeros (suc k) n ≡ suc (count_trailing_zeros k (n / 2))
unfolding count_trailing_zeros
even k n e = ap (λ (x : ℕ). under x (count_trailing_zeros k (n / 2))) e

odd : (k n : ℕ) → n % 2 ≡ 1 → count_trailing_zeros (suc k) n ≡ zero
unfolding count_trailing_zeros
odd k n e = ap (λ (x : ℕ). under x (count_trailing_zeros k (n / 2))) e

-- j digits of which one is set: what stands above them does not matter
low : (j k a r : ℕ) → 0 < r → r < 2 ^ j → (count_trailing_zeros (j + k) (a * 2 ^ j + r) ≡ count_trailing_zeros j r) × (count_trailing_zeros j r < j)
low zero k a r p h = absurd (omega arith)
low (suc j) k a r p h =
    let more = ap (λ (x : ℕ). count_trailing_zeros x (a * 2 ^ suc j + r)) (suc-add j k) in
    elim (dec_lt 0 (r % 2)) as (λ _. (count_trailing_zeros (suc j + k) (a * 2 ^ suc j + r) ≡ count_trailing_zeros (suc j) r) × (count_trailing_zeros (suc j) r < suc j)) [
      | yes l ↦
          let e : r % 2 ≡ 1 = omega arith in
          (more ∙ odd (j + k) (a * 2 ^ suc j + r) (block_odd a j r ∙ e) ∙ sym (odd j r e), omega (arith, odd j r e))
      | no n ↦
          let e : r % 2 ≡ 0 = omega arith in
          let half : r / 2 < 2 ^ j = omega (arith, pow-suc 2 j) in
          let i = low j k a (r / 2) (omega arith) half in
          let up = even (j + k) (a * 2 ^ suc j + r) (block_odd a j r ∙ e) ∙ ap (λ (x : ℕ). suc (count_trailing_zeros (j + k) x)) (block_half a j r) in
          (more ∙ up ∙ ap suc i.0 ∙ sym (even j r e), omega (arith, even j r e, i.1))
    ]

-- j digits of which none is set
high : (j k a : ℕ) → count_trailing_zeros (j + k) (a * 2 ^ j) ≡ j + count_trailing_zeros k a
high zero k a = ap₂ count_trailing_zeros (zero-add k) (mul-one a) ∙ sym (zero-add (count_trailing_zeros k a))
high (suc j) k a =
    ap (λ (x : ℕ). count_trailing_zeros x (a * 2 ^ suc j)) (suc-add j k)
    ∙ even (j + k) (a * 2 ^ suc j) (shifted_even a j)
    ∙ ap suc (ap (count_trailing_zeros (j + k)) (shifted_half a j) ∙ high j k a)
    ∙ sym (suc-add j (count_trailing_zeros k a))

-- ---- the byte of the lowest set bit

first_set : (b : ℕ) (l : List ℕ) → 0 < b → first_mark (map is_set (b ∷ l)) ≡ 0
unfolding first_mark
first_set b l h = rw (ne_eqb b 0 (λ e. omega arith))

first_zero : (b : ℕ) (l : List ℕ) → b ≡ 0 → first_mark (map is_set (b ∷ l)) ≡ suc (first_mark (map is_set l))
unfolding first_mark
first_zero b l e = rw (eq-eqb b 0 e)

zeros_by_bytes : (k w : ℕ) → count_trailing_zeros (8 * k) w / 8 ≡ first_mark (map is_set (bytes_of k w))
unfolding bytes_of first_mark
zeros_by_bytes zero w = ap (λ (x : ℕ). x / 8) (no_digits w)
zeros_by_bytes (suc k) w =
    let digits : 8 * suc k ≡ 8 + 8 * k = omega arith in
    elim (dec_lt 0 (w % 256)) as (λ _. count_trailing_zeros (8 * suc k) w / 8 ≡ first_mark (map is_set (bytes_of (suc k) w))) [
      | yes l ↦
          let i = low 8 (8 * k) (w / 256) (w % 256) l (omega arith) in
          let t : count_trailing_zeros (8 * suc k) w ≡ count_trailing_zeros 8 (w % 256) = ap₂ count_trailing_zeros digits (sym (div-add-mod' w 256)) ∙ i.0 in
          let none : count_trailing_zeros (8 * suc k) w / 8 ≡ 0 = omega (arith, t, i.1) in
          none ∙ sym (first_set (w % 256) (bytes_of k (w / 256)) l)
      | no n ↦
          let z : w % 256 ≡ 0 = omega arith in
          let blocks : w ≡ w / 256 * 256 = omega arith in
          let t : count_trailing_zeros (8 * suc k) w ≡ 8 + count_trailing_zeros (8 * k) (w / 256) = ap₂ count_trailing_zeros digits blocks ∙ high 8 (8 * k) (w / 256) in
          let next : count_trailing_zeros (8 * suc k) w / 8 ≡ suc (first_mark (map is_set (bytes_of k (w / 256)))) = omega (arith, t, zeros_by_bytes k (w / 256)) in
          next ∙ sym (first_zero (w % 256) (bytes_of k (w / 256)) z)
    ]

pub lowest_right : (w : ℕ) → count_trailing_zeros 64 w / 8 ≡ lowest_set w
unfolding lowest_set
lowest_right w = zeros_by_bytes 8 w

-- ---- the word without it

cleared_set : (b : ℕ) (l : List ℕ) → 0 < b → lowest_cleared (b ∷ l) ≡ (b - 2 ^ count_trailing_zeros 8 b) ∷ l
unfolding lowest_cleared
cleared_set b l h = rw (ne_eqb b 0 (λ e. omega arith))

cleared_zero : (b : ℕ) (l : List ℕ) → b ≡ 0 → lowest_cleared (b ∷ l) ≡ 0 ∷ lowest_cleared l
unfolding lowest_cleared
cleared_zero b l e = rw (eq-eqb b 0 e)

byte_cleared : (r : ℕ) → r < 256 → bit_and r (r - 1) ≡ r - 2 ^ count_trailing_zeros 8 r
unfolding count_trailing_zeros
byte_cleared r h =
    eqb→eq (bit_and r (r - 1)) (r - 2 ^ count_trailing_zeros 8 r) (at (λ (x : ℕ). eqb (bit_and x (x - 1)) (x - 2 ^ count_trailing_zeros 8 x)) 256 tt r h)

front : (b l a : ℕ) → l ≡ a → b + 256 * l ≡ a * 256 + b
front b l a e = omega arith

cleared_by_bytes : (k w : ℕ) → 0 < w → w < 256 ^ k → number_of (lowest_cleared (bytes_of k w)) ≡ bit_and w (w - 1)
unfolding bytes_of number_of
cleared_by_bytes zero w p h = absurd (omega arith)
cleared_by_bytes (suc k) w p h =
    let a : ℕ = w / 256 in
    let r : ℕ = w % 256 in
    let small : a < 256 ^ k = omega (arith, pow-suc 256 k) in
    elim (dec_lt 0 r) as (λ _. number_of (lowest_cleared (bytes_of (suc k) w)) ≡ bit_and w (w - 1)) [
      | yes l ↦
          let before : w - 1 ≡ a * 256 + (r - 1) = omega arith in
          ap number_of (cleared_set r (bytes_of k a) l)
          ∙ front (r - 2 ^ count_trailing_zeros 8 r) (number_of (bytes_of k a)) a (number_all k a small)
          ∙ sym
          (ap₂ bit_and (sym (div-add-mod' w 256)) before
          ∙ and_block 8 a a r (r - 1) (omega arith) (omega arith)
          ∙ ap₂ (λ (x y : ℕ). x * 256 + y) (and_self a) (byte_cleared r (omega arith)))
      | no n ↦
          let blocks : w ≡ a * 256 + 0 = omega arith in
          let before : w - 1 ≡ (a - 1) * 256 + 255 = omega arith in
          ap number_of (cleared_zero r (bytes_of k a) (omega arith))
          ∙ front 0 (number_of (lowest_cleared (bytes_of k a))) (bit_and a (a - 1)) (cleared_by_bytes k a (omega arith) small)
          ∙ sym (ap₂ bit_and blocks before ∙ and_block 8 a (a - 1) 0 255 (lit< tt) (lit< tt))
    ]

pub cleared_none : without_lowest 0 ≡ 0
unfolding without_lowest number_of lowest_cleared bytes_of
cleared_none = refl

pub cleared_right : (w : ℕ) → 0 < w → w < 2 ^ 64 → bit_and w (w - 1) ≡ without_lowest w
unfolding without_lowest
cleared_right w p h = sym (cleared_by_bytes 8 w p h)
