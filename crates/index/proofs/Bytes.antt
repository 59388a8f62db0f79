-- Bytes of words and of references, by division and by shifts. Assumes nothing.
use Rattle.std.proofs.Common.{◌≡◌, ℕ, zero, suc, ◌+◌, ◌-◌, ◌*◌, ◌/◌, ◌%◌, ◌^◌, ◌<◌, ◌≤◌, List, [], ◌∷◌, ◌++◌, length, get_or, take, drop, sym, refl, ap, ◌∙◌, ap₂, sub-add_cancel, arith, length-append, length-drop, length-take, pow_pos, pow-add}
use native.Mathlib.Nat.{mul-div-mul_right}
use lib.Pow.{mod-mod-pow}
use Rattle.hash_parts.specs.ZeroBytes.{bytes_of, number_of}
use Rattle.hash_parts.proofs.Bytes.{Bytes, no_bytes, one_byte, bytes_append, bytes_take, bytes_drop, bytes_of_law, length_bytes, number_small, number_two}
use Rattle.index.specs.Packed.{words_of, reference_in}

-- the front two bytes of a number and the rest, by division
pub number_front : {l : List ℕ} → Bytes l → (number_of (take 2 l) ≡ number_of l % 0x1_0000) × (number_of (drop 2 l) ≡ number_of l / 0x1_0000)
unfolding number_of
number_front no_bytes = (refl, refl)
number_front (one_byte h no_bytes) = (omega arith, omega arith)
number_front (one_byte h (one_byte {l = l} k r)) = (omega arith, omega arith)

-- what a law says of each number below eight
pub below_eight : (P : ℕ → Type 0) → P 0 → P 1 → P 2 → P 3 → P 4 → P 5 → P 6 → P 7 → (j : ℕ) → j < 8 → P j
below_eight P a b c d e f g h zero l = a
below_eight P a b c d e f g h (suc zero) l = b
below_eight P a b c d e f g h (suc (suc zero)) l = c
below_eight P a b c d e f g h (suc (suc (suc zero))) l = d
below_eight P a b c d e f g h (suc (suc (suc (suc zero)))) l = e
below_eight P a b c d e f g h (suc (suc (suc (suc (suc zero))))) l = f
below_eight P a b c d e f g h (suc (suc (suc (suc (suc (suc zero)))))) l = g
below_eight P a b c d e f g h (suc (suc (suc (suc (suc (suc (suc zero))))))) l = h
below_eight P a b c d e f g h (suc (suc (suc (suc (suc (suc (suc (suc j)))))))) l = absurd (omega arith)

-- byte j of a word, by division
pub byte_at : (w j : ℕ) → j < 8 → get_or (bytes_of 8 w) j 0 ≡ w / 2 ^ (j * 8) % 256
unfolding bytes_of
byte_at w =
    below_eight (λ j. get_or (bytes_of 8 w) j 0 ≡ w / 2 ^ (j * 8) % 256) (omega arith) (omega arith) (omega arith) (omega arith) (omega arith) (omega arith) (omega arith) (omega arith)

pub byte_low : (w j : ℕ) → j < 8 → w / 2 ^ (j * 8) % 128 ≡ get_or (bytes_of 8 w) j 0 % 128
byte_low w j h = rw (byte_at w j h) (omega arith)

-- the upper bits of a word
pub upper_bits : (w k : ℕ) → k ≤ 64 → w / 2 ^ (64 - k) ≡ w * 2 ^ k / 2 ^ 64
upper_bits w k h =
    let e : 2 ^ 64 ≡ 2 ^ (64 - k) * 2 ^ k = ap (λ (x : ℕ). 2 ^ x) (sym (sub-add_cancel h)) ∙ pow-add 2 (64 - k) k in
    sym (ap (λ (x : ℕ). w * 2 ^ k / x) e ∙ mul-div-mul_right w (2 ^ (64 - k)) (pow_pos k))

pub bytes_in_law : (before word j : ℕ) → Bytes (reference_in before word j)
unfolding reference_in
bytes_in_law before word j = bytes_take 7 (bytes_drop (8 - j) (bytes_append (bytes_of_law 8 before) (bytes_of_law 8 word)))

length_in : (before word j : ℕ) → j < 8 → length (reference_in before word j) ≡ 7
unfolding reference_in
length_in before word j l =
    length-take 7 (drop (8 - j) (bytes_of 8 before ++ bytes_of 8 word))
    ∙ omega (arith, length-drop (8 - j) (bytes_of 8 before ++ bytes_of 8 word), length-append (bytes_of 8 before) (bytes_of 8 word), length_bytes 8 before, length_bytes 8 word)

-- the number of a reference's seven bytes, by shifts
reference_number : (before word j : ℕ) → before < 2 ^ 64 → j < 8
    → number_of (reference_in before word j) ≡ before * 2 ^ (j * 8) / 2 ^ 64 + word * 2 ^ (j * 8) % 2 ^ 56
unfolding bytes_of number_of reference_in
reference_number before word j h =
    below_eight (λ i. number_of (reference_in before word i) ≡ before * 2 ^ (i * 8) / 2 ^ 64 + word * 2 ^ (i * 8) % 2 ^ 56)
    (number_two 0 7 0 word ∙ omega arith)
    (number_two 1 6 (before / 256 / 256 / 256 / 256 / 256 / 256 / 256) word ∙ omega arith)
    (number_two 2 5 (before / 256 / 256 / 256 / 256 / 256 / 256) word ∙ omega arith)
    (number_two 3 4 (before / 256 / 256 / 256 / 256 / 256) word ∙ omega arith)
    (number_two 4 3 (before / 256 / 256 / 256 / 256) word ∙ omega arith)
    (number_two 5 2 (before / 256 / 256 / 256) word ∙ omega arith)
    (number_two 6 1 (before / 256 / 256) word ∙ omega arith)
    (number_two 7 0 (before / 256) word ∙ omega arith)
    j

-- so the program computes it
pub reference_at : (before word j front : ℕ) → before < 2 ^ 64 → j < 8 → front ≡ before * 2 ^ (j * 8) / 2 ^ 64
    → (front + word * 2 ^ (j * 8) % 2 ^ 64 % 2 ^ 56 ≡ number_of (reference_in before word j)) × (front + word * 2 ^ (j * 8) % 2 ^ 64 % 2 ^ 56 < 2 ^ 56)
reference_at before word j front h l e =
    let n : front + word * 2 ^ (j * 8) % 2 ^ 64 % 2 ^ 56 ≡ number_of (reference_in before word j) =
    ap₂ ◌+◌ e (mod-mod-pow (word * 2 ^ (j * 8)) 8 56) ∙ sym (reference_number before word j h l) in
    (n, rw n (rw (length_in before word j l) at (number_small (bytes_in_law before word j))))

-- a word of references: the bytes that the one before leaves, and the first of the next
word_0 : (a b : ℕ) → a < 2 ^ 56 → number_of (bytes_of 7 a ++ bytes_of 1 b) ≡ a + b % 0x100 * 0x100_0000_0000_0000
word_0 a b h = number_two 7 1 a b ∙ omega arith

word_1 : (a b : ℕ) → a < 2 ^ 56 → number_of (bytes_of 6 (a / 256) ++ bytes_of 2 b) ≡ a / 0x100 + b % 0x1_0000 * 0x1_0000_0000_0000
word_1 a b h = number_two 6 2 (a / 256) b ∙ omega arith

word_2 : (a b : ℕ) → a < 2 ^ 56 → number_of (bytes_of 5 (a / 256 / 256) ++ bytes_of 3 b) ≡ a / 0x1_0000 + b % 0x100_0000 * 0x100_0000_0000
word_2 a b h = number_two 5 3 (a / 256 / 256) b ∙ omega arith

word_3 : (a b : ℕ) → a < 2 ^ 56 → number_of (bytes_of 4 (a / 256 / 256 / 256) ++ bytes_of 4 b) ≡ a / 0x100_0000 + b % 0x1_0000_0000 * 0x1_0000_0000
word_3 a b h = number_two 4 4 (a / 256 / 256 / 256) b ∙ omega arith

word_4 : (a b : ℕ) → a < 2 ^ 56 → number_of (bytes_of 3 (a / 256 / 256 / 256 / 256) ++ bytes_of 5 b) ≡ a / 0x1_0000_0000 + b % 0x100_0000_0000 * 0x100_0000
word_4 a b h = number_two 3 5 (a / 256 / 256 / 256 / 256) b ∙ omega arith

word_5 : (a b : ℕ) → a < 2 ^ 56 → number_of (bytes_of 2 (a / 256 / 256 / 256 / 256 / 256) ++ bytes_of 6 b) ≡ a / 0x100_0000_0000 + b % 0x1_0000_0000_0000 * 0x1_0000
word_5 a b h = number_two 2 6 (a / 256 / 256 / 256 / 256 / 256) b ∙ omega arith

word_6 : (a b : ℕ) → a < 2 ^ 56 → b < 2 ^ 56 → number_of (bytes_of 1 (a / 256 / 256 / 256 / 256 / 256 / 256) ++ bytes_of 7 b) ≡ a / 0x1_0000_0000_0000 + b * 0x100
word_6 a b h l = number_two 1 7 (a / 256 / 256 / 256 / 256 / 256 / 256) b ∙ omega arith

-- the seven words of eight references
pub seven_words : (r0 r1 r2 r3 r4 r5 r6 r7 : ℕ) → r0 < 2 ^ 56 → r1 < 2 ^ 56 → r2 < 2 ^ 56 → r3 < 2 ^ 56 → r4 < 2 ^ 56 → r5 < 2 ^ 56 → r6 < 2 ^ 56 → r7 < 2 ^ 56
    → words_of 7 (bytes_of 7 r0 ++ (bytes_of 7 r1 ++ (bytes_of 7 r2 ++ (bytes_of 7 r3 ++ (bytes_of 7 r4 ++ (bytes_of 7 r5 ++ (bytes_of 7 r6 ++ (bytes_of 7 r7 ++ []))))))))
    ≡ (r0 + r1 % 0x100 * 0x100_0000_0000_0000)
    ∷ (r1 / 0x100 + r2 % 0x1_0000 * 0x1_0000_0000_0000)
    ∷ (r2 / 0x1_0000 + r3 % 0x100_0000 * 0x100_0000_0000)
    ∷ (r3 / 0x100_0000 + r4 % 0x1_0000_0000 * 0x1_0000_0000)
    ∷ (r4 / 0x1_0000_0000 + r5 % 0x100_0000_0000 * 0x100_0000)
    ∷ (r5 / 0x100_0000_0000 + r6 % 0x1_0000_0000_0000 * 0x1_0000)
    ∷ (r6 / 0x1_0000_0000_0000 + r7 * 0x100)
    ∷ []
unfolding bytes_of words_of number_of
seven_words r0 r1 r2 r3 r4 r5 r6 r7 h0 h1 h2 h3 h4 h5 h6 h7 =
    both (word_0 r0 r1 h0) (both (word_1 r1 r2 h1) (both (word_2 r2 r3 h2) (both (word_3 r3 r4 h3) (both (word_4 r4 r5 h4) (both (word_5 r5 r6 h5) (both (word_6 r6 r7 h6 h7) refl))))))
  where
    both : {x y : ℕ} {l m : List ℕ} → x ≡ y → l ≡ m → x ∷ l ≡ y ∷ m
    both p q = ap₂ ◌∷◌ p q
