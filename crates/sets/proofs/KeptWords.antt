-- Bits of words, and flags taken one at a time. Assumes nothing.
use Rattle.std.proofs.Common.{◌≡◌, ℕ, zero, suc, ◌+◌, ◌-◌, ◌*◌, ◌/◌, ◌%◌, ◌^◌, ◌<◌, ◌≤◌, Bool, true, false, cond, not, eqb, List, [], ◌∷◌, ◌++◌, length, get_or, take, drop, sym, refl, ap, ◌∙◌, ap₂, add-zero, zero-add, add-one, arith, length-append, drop_of_length-le, length-take, drop-cons, get_or-append-add, pow_pos, eq-eqb, ne_eqb, eqb-true}
use mathlib.Core.List.{flat_map}
use native.Mathlib.Nat.{pow-succ', div-div-eq-div-mul, zero-div}
use borrow.Author.Tests.{eqb-false}
use lib.ListN.{get_or-append}
use lib.Count.{ones, ones_in, ones_step}
use lib.Pow.{mod-pow-add}
use lib.Seq.{take-append-le, take-append-add}
use Rattle.std.specs.List.{count_by}
use Rattle.std.proofs.lemmas.List.Recursion.{is_count_by}
use Rattle.records.specs.Area.{part}
use Rattle.index.specs.Segments.{most_segments}
use Rattle.sets.specs.Kept.{bits_of, chosen, count_true, flag_word, is_kept, kept_count, kept_flags, kept_words, new_number, retained}
use Rattle.sets.specs.declared.kept.KeptSegments.{KeptSegments}

-- ---- flags

-- the flags that keep their segment, counted
pub kept_count_by : (flags : List ℕ) → kept_count flags ≡ count_by (λ f. not (eqb f 0)) flags
unfolding kept_count
kept_count_by = is_count_by kept_count (λ f. not (eqb f 0)) refl (λ f l. go (eqb f 0) (kept_count l))
  where
    go : (b : Bool) (n : ℕ) → cond b n (suc n) ≡ cond (not b) (1 + n) n
    go true n = refl
    go false n = omega arith

-- ---- flags and their words from the first to the last

module _ (flags words : List ℕ) (i : ℕ) (h : i < length flags) (k : i < length words) where
  chosen_step : chosen (drop i flags) (drop i words)
      ≡ cond (eqb (get_or flags i 0) 0) (chosen (drop (i + 1) flags) (drop (i + 1) words)) (get_or words i 0 ∷ chosen (drop (i + 1) flags) (drop (i + 1) words))
  unfolding chosen
  chosen_step = rw (drop-cons flags i 0 h, drop-cons words i 0 k, add-one i)

  pub chosen_dropped : get_or flags i 0 ≡ 0 → chosen (drop i flags) (drop i words) ≡ chosen (drop (i + 1) flags) (drop (i + 1) words)
  chosen_dropped e = chosen_step ∙ rw (eq-eqb (get_or flags i 0) 0 e)

  pub chosen_kept : (get_or flags i 0 ≡ 0 → ⊥) → chosen (drop i flags) (drop i words) ≡ get_or words i 0 ∷ chosen (drop (i + 1) flags) (drop (i + 1) words)
  chosen_kept n = chosen_step ∙ rw (ne_eqb (get_or flags i 0) 0 n)

pub chosen_end : (flags words : List ℕ) (i : ℕ) → length flags ≤ i → chosen (drop i flags) (drop i words) ≡ []
unfolding chosen
chosen_end flags words i h = rw (drop_of_length-le flags h)

-- ---- the set bits of a word

bits_step : (n w : ℕ) → count_true (bits_of (suc n) w) ≡ w % 2 + count_true (bits_of n (w / 2))
unfolding bits_of
bits_step n w = go (eqb (w % 2) 1) refl
  where
    go : (t : Bool) → eqb (w % 2) 1 ≡ t → cond t (suc (count_true (bits_of n (w / 2)))) (count_true (bits_of n (w / 2))) ≡ w % 2 + count_true (bits_of n (w / 2))
    go true e = omega (arith, eqb-true (w % 2) 1 e)
    go false e =
        let z : w % 2 ≡ 0 = one_bit (eqb-false (w % 2) 1 e) in
        omega arith
      where
        one_bit : (w % 2 ≡ 1 → ⊥) → w % 2 ≡ 0
        one_bit n = omega arith

pub bits_ones : (n w : ℕ) → ones (w % 2 ^ n) ≡ count_true (bits_of n w)
unfolding bits_of ones ones_in
bits_ones zero w =
    let e : w % 2 ^ 0 ≡ 0 = omega arith in
    ap ones e
bits_ones (suc n) w =
    let e : w % 2 ^ suc n ≡ w / 2 % 2 ^ n * 2 + w % 2 = ap (λ (k : ℕ). w % 2 ^ k) (sym (add-one n)) ∙ mod-pow-add w n 1 in
    let low : w % 2 ^ suc n % 2 ≡ w % 2 = omega arith in
    let rest : w % 2 ^ suc n / 2 ≡ w / 2 % 2 ^ n = omega arith in
    ones_step (w % 2 ^ suc n) ∙ ap₂ (λ (x y : ℕ). x + ones y) low rest ∙ ap (λ (x : ℕ). w % 2 + x) (bits_ones n (w / 2)) ∙ sym (bits_step n w)

pub bits_length : (n w : ℕ) → length (bits_of n w) ≡ n
unfolding bits_of
bits_length zero w = refl
bits_length (suc n) w = ap suc (bits_length n (w / 2))

bits_take : (n m w : ℕ) → m ≤ n → take m (bits_of n w) ≡ bits_of m w
unfolding bits_of
bits_take n zero w h = refl
bits_take zero (suc m) w h = absurd (omega arith)
bits_take (suc n) (suc m) w h = ap (λ (l : List Bool). eqb (w % 2) 1 ∷ l) (bits_take n m (w / 2) (omega arith))

pub count_append : (a b : List Bool) → count_true (a ++ b) ≡ count_true a + count_true b
count_append [] b = omega arith
count_append (true ∷ a) b = omega (arith, count_append a b)
count_append (false ∷ a) b = count_append a b

pub count_most : (l : List Bool) → count_true l ≤ length l
count_most [] = omega arith
count_most (true ∷ l) = omega (arith, count_most l)
count_most (false ∷ l) = omega (arith, count_most l)

-- a bit of a word
pub bit_at : (n w i : ℕ) → i < n → eqb (w / 2 ^ i % 2) 1 ≡ get_or (bits_of n w) i false
unfolding bits_of
bit_at zero w i h = absurd (omega arith)
bit_at (suc n) w zero h =
    let e : w / 2 ^ 0 ≡ w = omega arith in
    rw e
bit_at (suc n) w (suc i) h =
    ap (λ (x : ℕ). eqb (w / x % 2) 1) (pow-succ' 2 i)
    ∙ ap (λ (x : ℕ). eqb (x % 2) 1) (sym (div-div-eq-div-mul w 2 (2 ^ i)))
    ∙ bit_at n (w / 2) i (omega arith)

-- ---- words of bits, one behind the other

abbrev bits : List ℕ → List Bool
bits ws = flat_map (bits_of 64) ws

words_length : (ws : List ℕ) → length (bits ws) ≡ 64 * length ws
unfolding flat_map
words_length [] = refl
words_length (w ∷ ws) = length-append (bits_of 64 w) (bits ws) ∙ omega (arith, bits_length 64 w, words_length ws)

-- a position in the words behind the first
behind : (w q r : ℕ) → 64 * suc q + r ≡ length (bits_of 64 w) + (64 * q + r)
behind w q r = omega (arith, bits_length 64 w)

bit_in_words : (ws : List ℕ) (q r : ℕ) → r < 64 → get_or (bits ws) (64 * q + r) false ≡ get_or (bits_of 64 (get_or ws q 0)) r false
unfolding flat_map
bit_in_words [] q r h = sym (sym (bit_at 64 0 r h) ∙ ap (λ (x : ℕ). eqb (x % 2) 1) (zero-div (2 ^ r)))
bit_in_words (w ∷ ws) zero r h = rw (zero-add r) (get_or-append (bits_of 64 w) (bits ws) false r (omega (arith, bits_length 64 w)))
bit_in_words (w ∷ ws) (suc q) r h =
    ap (λ (x : ℕ). get_or (bits (w ∷ ws)) x false) (behind w q r)
    ∙ get_or-append-add (bits_of 64 w) (bits ws) (64 * q + r) false
    ∙ bit_in_words ws q r h

count_in_words : (ws : List ℕ) (q r : ℕ) → q < length ws → r < 64
    → count_true (take (64 * q + r) (bits ws)) ≡ count_true (bits (take q ws)) + count_true (bits_of r (get_or ws q 0))
unfolding flat_map
count_in_words [] q r h k = absurd (omega arith)
count_in_words (w ∷ ws) zero r h k =
    rw (zero-add r, zero-add (count_true (bits_of r w)))
    (ap count_true (take-append-le r (bits_of 64 w) (bits ws) (omega (arith, bits_length 64 w)) ∙ bits_take 64 r w (omega arith)))
count_in_words (w ∷ ws) (suc q) r h k =
    ap (λ (x : ℕ). count_true (take x (bits (w ∷ ws)))) (behind w q r)
    ∙ ap count_true (take-append-add (bits_of 64 w) (bits ws) (64 * q + r))
    ∙ omega (arith, count_append (bits_of 64 w) (take (64 * q + r) (bits ws)), count_in_words ws q r (omega arith) k, count_append (bits_of 64 w) (bits (take q ws)))

pub count_next_word : (ws : List ℕ) (q : ℕ) → q < length ws → count_true (bits (take q ws)) + count_true (bits_of 64 (get_or ws q 0)) ≡ count_true (bits (take (q + 1) ws))
unfolding flat_map
count_next_word [] q h = absurd (omega arith)
count_next_word (w ∷ ws) zero h = omega (arith, count_append (bits_of 64 w) [])
count_next_word (w ∷ ws) (suc q) h =
    let e : suc q + 1 ≡ suc (q + 1) = omega arith in
    rw e (omega (arith, count_append (bits_of 64 w) (bits (take q ws)), count_append (bits_of 64 w) (bits (take (q + 1) ws)), count_next_word ws q (omega arith)))

-- ---- a word of flags

pub flag_out : (flags : List ℕ) (at : ℕ) → length flags ≤ at → 0 ≡ flag_word (part at 1 flags)
unfolding flag_word
flag_out flags at h = rw (drop_of_length-le flags h)

flag_in : (flags : List ℕ) (at : ℕ) → at < length flags → flag_word (part at 1 flags) ≡ cond (eqb (get_or flags at 0) 0) 0 1
unfolding flag_word
flag_in flags at h = rw (drop-cons flags at 0 h) (add-zero (cond (eqb (get_or flags at 0) 0) 0 1))

pub flag_dropped : (flags : List ℕ) (at : ℕ) → at < length flags → get_or flags at 0 ≡ 0 → 0 ≡ flag_word (part at 1 flags)
flag_dropped flags at h e = sym (flag_in flags at h ∙ rw (eq-eqb (get_or flags at 0) 0 e))

pub flag_kept : (flags : List ℕ) (at : ℕ) → at < length flags → (get_or flags at 0 ≡ 0 → ⊥) → 1 ≡ flag_word (part at 1 flags)
flag_kept flags at h n = sym (flag_in flags at h ∙ rw (ne_eqb (get_or flags at 0) 0 n))

flag_none : (at n : ℕ) → flag_word (part at n []) ≡ 0
unfolding flag_word
flag_none zero zero = refl
flag_none zero (suc n) = refl
flag_none (suc at) zero = refl
flag_none (suc at) (suc n) = refl

flag_step : (flags : List ℕ) (at n : ℕ) → flag_word (part (at + 1) n flags) * 2 + flag_word (part at 1 flags) ≡ flag_word (part at (suc n) flags)
unfolding flag_word
flag_step [] at n = omega (arith, flag_none (at + 1) n, flag_none at 1, flag_none at (suc n))
flag_step (f ∷ l) zero n =
    let e : flag_word (part (0 + 1) n (f ∷ l)) ≡ flag_word (take n l) = refl in
    omega arith
flag_step (f ∷ l) (suc at) n =
    let e : suc at + 1 ≡ suc (at + 1) = omega arith in
    ap (λ (m : ℕ). flag_word (part m n (f ∷ l)) * 2 + flag_word (part at 1 l)) e ∙ flag_step l at n

word_short : (n : ℕ) (l : List ℕ) → length l ≤ n → flag_word l < 2 ^ n
unfolding flag_word
word_short n [] h = pow_pos n
word_short zero (f ∷ l) h = absurd (omega arith)
word_short (suc n) (f ∷ l) h = go (eqb f 0) (word_short n l (omega arith))
  where
    go : (t : Bool) → flag_word l < 2 ^ n → cond t 0 1 + 2 * flag_word l < 2 ^ suc n
    go true k = omega (arith, pow-succ' 2 n)
    go false k = omega (arith, pow-succ' 2 n)

part_short : (flags : List ℕ) (at n m : ℕ) → n ≤ m → length (part at n flags) ≤ m
part_short flags at n m h = omega (arith, length-take n (drop at flags))

pub flag_bound : (flags : List ℕ) (at : ℕ) → flag_word (part at 1 flags) ≤ 1
flag_bound flags at = omega (arith, word_short 1 (part at 1 flags) (part_short flags at 1 1 (omega arith)))

pub word_none : (flags : List ℕ) (at : ℕ) → 0 ≡ flag_word (part at 0 flags)
unfolding flag_word
word_none flags at = refl

module _ (flags : List ℕ) (from left word : ℕ) (made : word ≡ flag_word (part (from + left) (64 - left) flags)) where
  pub word_bound : 0 < left → word < 2 ^ 63
  word_bound h =
      let b : flag_word (part (from + left) (64 - left) flags) < 2 ^ 63
      = word_short 63 (part (from + left) (64 - left) flags) (part_short flags (from + left) (64 - left) 63 (omega arith)) in
      omega arith

  pub word_more : (bit : ℕ) → 0 < left → left ≤ 64 → bit ≡ flag_word (part (from + (left - 1)) 1 flags) → word * 2 + bit ≡ flag_word (part (from + (left - 1)) (64 - (left - 1)) flags)
  word_more bit h k e =
      let a : from + left ≡ from + (left - 1) + 1 = omega arith in
      let n : suc (64 - left) ≡ 64 - (left - 1) = omega arith in
      ap₂ (λ (x y : ℕ). x * 2 + y) (made ∙ ap (λ (x : ℕ). flag_word (part x (64 - left) flags)) a) e
      ∙ flag_step flags (from + (left - 1)) (64 - left)
      ∙ ap (λ (x : ℕ). flag_word (part (from + (left - 1)) x flags)) n

-- ---- a state

module _ (k : KeptSegments) where
  pub flags_length : length (kept_flags k) ≡ 256
  unfolding kept_flags
  flags_length = words_length (kept_words k)

  pub retained_words : count_true (flat_map (bits_of 64) (take 4 (kept_words k))) ≡ retained k
  unfolding retained kept_flags
  retained_words = refl

  pub is_kept_bit : (g : ℕ) → get_or (bits_of 64 (get_or (kept_words k) (g / 64) 0)) (g % 64) false ≡ is_kept k g
  unfolding is_kept kept_flags
  is_kept_bit g =
      let e : 64 * (g / 64) + g % 64 ≡ g = omega arith in
      sym (bit_in_words (kept_words k) (g / 64) (g % 64) (omega arith)) ∙ ap (λ (x : ℕ). get_or (bits (kept_words k)) x false) e

  pub new_number_sum : (g : ℕ) → g < most_segments
      → count_true (flat_map (bits_of 64) (take (g / 64) (kept_words k))) + count_true (bits_of (g % 64) (get_or (kept_words k) (g / 64) 0)) ≡ new_number k g
  unfolding new_number kept_flags
  new_number_sum g h =
      let e : 64 * (g / 64) + g % 64 ≡ g = omega arith in
      sym (count_in_words (kept_words k) (g / 64) (g % 64) (omega arith) (omega arith)) ∙ ap (λ (x : ℕ). count_true (take x (bits (kept_words k)))) e

  pub new_number_256 : (g : ℕ) → new_number k g ≤ 256
  unfolding new_number
  new_number_256 g = omega (arith, count_most (take g (kept_flags k)), length-take g (kept_flags k), flags_length)
