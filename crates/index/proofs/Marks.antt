-- The mark of a control byte, the top bit, set and cleared by bit operations on the control word. Assumes nothing.
use Rattle.std.proofs.Common.{◌≡◌, ℕ, zero, suc, ◌+◌, ◌-◌, ◌*◌, ◌/◌, ◌%◌, ◌^◌, ◌<◌, ◌≤◌, eqb, get_or, set, sym, refl, ap, ◌∙◌, ap₂, mod-eq_of_lt, zero-lt-suc, suc-mul, pow-suc, div-add-mod', arith, lit<, eqb→eq, pow-add, shl_exact}
use native.Mathlib.Nat.{pow-le-pow_right, one-le-pow}
use lib.Bits.{bit_and, bit_or, and_block, or_block, and_mask, or_zero_r}
use Rattle.hash_parts.specs.ZeroBytes.{bytes_of, number_of}
use Rattle.hash_parts.proofs.Table.{at}
use Rattle.hash_parts.proofs.Bytes.{number_all}
use Rattle.index.specs.Packed.{with_byte, marked_byte, unmarked_byte}

pow_bytes : (n : ℕ) → 2 ^ (n * 8) ≡ 256 ^ n
pow_bytes zero = refl
pow_bytes (suc n) = ap (λ (x : ℕ). 2 ^ x) (suc-mul n 8) ∙ pow-add 2 (n * 8) 8 ∙ ap (λ (x : ℕ). x * 256) (pow_bytes n) ∙ sym (pow-suc 256 n)

-- the mark's bit, as the program shifts it
bit_at : (j : ℕ) → j < 8 → 128 * 2 ^ (j * 8) % 2 ^ 64 ≡ 128 * 256 ^ j
bit_at j h = shl_exact {a = 128} 8 (j * 8) 64 (lit< tt) (omega arith) ∙ ap (λ (x : ℕ). 128 * x) (pow_bytes j)

-- ---- setting

or_byte : (r : ℕ) → r < 256 → bit_or r 128 ≡ marked_byte r
or_byte r h = eqb→eq (bit_or r 128) (marked_byte r) (at (λ (x : ℕ). eqb (bit_or x 128) (marked_byte x)) 256 tt r h)

or_bytes : (n j w : ℕ) → j < n → w < 256 ^ n → bit_or w (128 * 256 ^ j) ≡ number_of (set (bytes_of n w) j (marked_byte (get_or (bytes_of n w) j 0)))
unfolding bytes_of number_of
or_bytes zero j w h l = absurd (omega arith)
or_bytes (suc n) zero w h l =
    let p : w / 256 < 256 ^ n = omega (arith, pow-suc 256 n) in
    ap (λ (x : ℕ). bit_or x 128) (sym (div-add-mod' w 256))
    ∙ or_block 8 (w / 256) 0 (w % 256) 128 (omega arith) (lit< tt)
    ∙ rw (or_zero_r (w / 256), or_byte (w % 256) (omega arith), number_all n (w / 256) p) (omega arith)
or_bytes (suc n) (suc j) w h l =
    let p : w / 256 < 256 ^ n = omega (arith, pow-suc 256 n) in
    let m : 128 * 256 ^ suc j ≡ 128 * 256 ^ j * 2 ^ 8 + 0 = omega (arith, pow-suc 256 j) in
    ap₂ bit_or (sym (div-add-mod' w 256)) m
    ∙ or_block 8 (w / 256) (128 * 256 ^ j) (w % 256) 0 (omega arith) (lit< tt)
    ∙ rw (or_zero_r (w % 256), or_bytes n j (w / 256) (omega arith) p) (omega arith)

-- ---- clearing

and_byte : (r : ℕ) → r < 256 → bit_and r 255 ≡ r
and_byte r h = and_mask r 8 ∙ mod-eq_of_lt h

and_bytes : (n j w : ℕ) → j < n → w < 256 ^ n → bit_and w (256 ^ n - 1 - 128 * 256 ^ j) ≡ number_of (set (bytes_of n w) j (unmarked_byte (get_or (bytes_of n w) j 0)))
unfolding bytes_of number_of
and_bytes zero j w h l = absurd (omega arith)
and_bytes (suc n) zero w h l =
    let p : w / 256 < 256 ^ n = omega (arith, pow-suc 256 n) in
    let m : 256 ^ suc n - 1 - 128 ≡ (256 ^ n - 1) * 2 ^ 8 + 127 = omega (arith, pow-suc 256 n) in
    let q : bit_and (w / 256) (256 ^ n - 1) ≡ w / 256 = ap (λ (x : ℕ). bit_and (w / 256) (x - 1)) (sym (pow_bytes n)) ∙ and_mask (w / 256) (n * 8) ∙ rw (pow_bytes n) (mod-eq_of_lt p) in
    ap₂ bit_and (sym (div-add-mod' w 256)) m
    ∙ and_block 8 (w / 256) (256 ^ n - 1) (w % 256) 127 (omega arith) (lit< tt)
    ∙ rw (q, and_mask (w % 256) 7, number_all n (w / 256) p) (omega arith)
and_bytes (suc n) (suc j) w h l =
    let p : w / 256 < 256 ^ n = omega (arith, pow-suc 256 n) in
    let b : 256 ^ suc j ≤ 256 ^ n = pow-le-pow_right (zero-lt-suc 255) {i = suc j} {j = n} (omega arith) in
    let o : 1 ≤ 256 ^ j = one-le-pow j 256 (zero-lt-suc 255) in
    let m : 256 ^ suc n - 1 - 128 * 256 ^ suc j ≡ (256 ^ n - 1 - 128 * 256 ^ j) * 2 ^ 8 + 255 = omega (arith, pow-suc 256 n, pow-suc 256 j) in
    ap₂ bit_and (sym (div-add-mod' w 256)) m
    ∙ and_block 8 (w / 256) (256 ^ n - 1 - 128 * 256 ^ j) (w % 256) 255 (omega arith) (lit< tt)
    ∙ rw (and_byte (w % 256) (omega arith), and_bytes n j (w / 256) (omega arith) p) (omega arith)

-- ---- as the program computes them

pub mark_is : (w j : ℕ) → w < 2 ^ 64 → j < 8 → bit_or w (128 * 2 ^ (j * 8) % 2 ^ 64) ≡ with_byte marked_byte j w
unfolding with_byte
mark_is w j h l = rw (bit_at j l) (or_bytes 8 j w l h)

pub clear_is : (w j : ℕ) → w < 2 ^ 64 → j < 8 → bit_and w (2 ^ 64 - 1 - 128 * 2 ^ (j * 8) % 2 ^ 64) ≡ with_byte unmarked_byte j w
unfolding with_byte
clear_is w j h l = rw (bit_at j l) (and_bytes 8 j w l h)
