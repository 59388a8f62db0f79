-- Bytes of words, and numbers of bytes. Assumes nothing.
use Rattle.std.proofs.Common.{◌≡◌, ℕ, zero, suc, ◌+◌, ◌*◌, ◌/◌, ◌%◌, ◌^◌, ◌<◌, List, [], ◌∷◌, ◌++◌, length, take, drop, set, sym, refl, ap, ◌∙◌, mod-eq_of_lt, zero-lt-suc, mul_assoc, pow-suc, arith}
use native.Mathlib.Nat.{pow-succ', mod-one, one-le-pow}
use lib.Arith.{mod-mul}
use Rattle.hash_parts.specs.ZeroBytes.{bytes_of, number_of}

-- ---- lists of bytes

pub data Bytes : List ℕ → Type 0 where
  no_bytes : Bytes []
  one_byte : {b : ℕ} {l : List ℕ} → b < 256 → Bytes l → Bytes (b ∷ l)

pub bytes_append : {l m : List ℕ} → Bytes l → Bytes m → Bytes (l ++ m)
bytes_append no_bytes s = s
bytes_append (one_byte h r) s = one_byte h (bytes_append r s)

pub bytes_take : (n : ℕ) {l : List ℕ} → Bytes l → Bytes (take n l)
bytes_take zero r = no_bytes
bytes_take (suc n) no_bytes = no_bytes
bytes_take (suc n) (one_byte h r) = one_byte h (bytes_take n r)

pub bytes_drop : (n : ℕ) {l : List ℕ} → Bytes l → Bytes (drop n l)
bytes_drop zero r = r
bytes_drop (suc n) no_bytes = no_bytes
bytes_drop (suc n) (one_byte h r) = bytes_drop n r

pub bytes_set : (i a : ℕ) {l : List ℕ} → a < 256 → Bytes l → Bytes (set l i a)
bytes_set zero a h no_bytes = no_bytes
bytes_set (suc i) a h no_bytes = no_bytes
bytes_set zero a h (one_byte x r) = one_byte h r
bytes_set (suc i) a h (one_byte x r) = one_byte x (bytes_set i a h r)

pub bytes_of_law : (n w : ℕ) → Bytes (bytes_of n w)
unfolding bytes_of
bytes_of_law zero w = no_bytes
bytes_of_law (suc n) w = one_byte {b = w % 256} (omega arith) (bytes_of_law n (w / 256))

pub length_bytes : (n w : ℕ) → length (bytes_of n w) ≡ n
unfolding bytes_of
length_bytes zero w = refl
length_bytes (suc n) w = ap suc (length_bytes n (w / 256))

-- ---- their numbers

-- bytes are those of their number
pub bytes_number : {l : List ℕ} (n : ℕ) → Bytes l → length l ≡ n → bytes_of n (number_of l) ≡ l
unfolding bytes_of number_of
bytes_number zero no_bytes e = refl
bytes_number (suc n) no_bytes e = absurd (omega arith)
bytes_number zero (one_byte {l = l} h r) e = absurd (omega arith)
bytes_number (suc n) (one_byte {b = b} {l = l} h r) e =
    let m : (b + 256 * number_of l) % 256 ≡ b = omega arith in
    let d : (b + 256 * number_of l) / 256 ≡ number_of l = omega arith in
    rw (m, d, bytes_number n r (omega arith))

pub number_small : {l : List ℕ} → Bytes l → number_of l < 256 ^ length l
unfolding number_of
number_small no_bytes = omega arith
number_small (one_byte {l = l} h r) = rw (pow-succ' 256 (length l)) (omega (arith, number_small r))

pub number_bytes : (n w : ℕ) → number_of (bytes_of n w) ≡ w % 256 ^ n
unfolding bytes_of number_of
number_bytes zero w = sym (mod-one w)
number_bytes (suc n) w =
    let m : w % (256 ^ n * 256) ≡ w / 256 % 256 ^ n * 256 + w % 256 = mod-mul w (one-le-pow n 256 (zero-lt-suc 255)) (zero-lt-suc 255) in
    rw (number_bytes n (w / 256), pow-suc 256 n) (omega arith)

-- a number that fits its bytes
pub number_all : (n w : ℕ) → w < 256 ^ n → number_of (bytes_of n w) ≡ w
number_all n w h = number_bytes n w ∙ mod-eq_of_lt h

pub number_append : (l m : List ℕ) → number_of (l ++ m) ≡ number_of l + 256 ^ length l * number_of m
unfolding number_of
number_append [] m = omega arith
number_append (b ∷ l) m = rw (number_append l m, pow-succ' 256 (length l)) (omega (arith, mul_assoc 256 (256 ^ length l) (number_of m)))

-- some bytes of one number, then some of another
pub number_two : (n m a b : ℕ) → number_of (bytes_of n a ++ bytes_of m b) ≡ a % 256 ^ n + 256 ^ n * (b % 256 ^ m)
number_two n m a b =
    number_append (bytes_of n a) (bytes_of m b) ∙ rw (length_bytes n a, number_bytes n a, number_bytes m b)
