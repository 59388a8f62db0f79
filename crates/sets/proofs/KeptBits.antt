-- Laws of the kept segments: of any state, of the words that flags choose, and of the state that flags make. Assumes nothing.
use Rattle.std.proofs.Common.{◌≡◌, ℕ, zero, suc, ◌+◌, ◌*◌, ◌/◌, ◌%◌, ◌<◌, ◌≤◌, Bool, true, false, cond, not, eqb, List, [], ◌∷◌, ◌++◌, length, get_or, take, drop, replicate, sym, refl, ap, ◌∙◌, ap₂, le_of_eq, arith, take_all, drop-drop}
use mathlib.Core.List.{flat_map}
use borrow.Author.Tests.{not-true}
use lib.Seq.{drop-nil}
use Rattle.records.specs.Area.{part}
use Rattle.index.proofs.Table.{true≢false}
use Rattle.sets.specs.Kept.{bits_of, chosen, count_true, flag_word, is_kept, kept_count, kept_flags, kept_of, new_number, retained}
use Rattle.sets.specs.declared.kept.KeptSegments.{KeptSegments}
use Rattle.sets.proofs.KeptWords.{count_most, flags_length}

-- ---- any state

count_below : (l : List Bool) (g : ℕ) → get_or l g false ≡ true → count_true (take g l) < count_true l
count_below [] g e = absurd (true≢false (sym e))
count_below (true ∷ l) zero e = omega arith
count_below (false ∷ l) zero e = absurd (true≢false (sym e))
count_below (true ∷ l) (suc g) e = omega (arith, count_below l g e)
count_below (false ∷ l) (suc g) e = count_below l g e

set_below : (l : List Bool) (g : ℕ) → get_or l g false ≡ true → g < length l
set_below [] g e = absurd (true≢false (sym e))
set_below (b ∷ l) zero e = omega arith
set_below (b ∷ l) (suc g) e = omega (arith, set_below l g e)

pub number_below : (k : KeptSegments) (g : ℕ) → is_kept k g ≡ true → new_number k g < retained k
unfolding is_kept new_number retained
number_below k g e = count_below (kept_flags k) g e

pub retained_256 : (k : KeptSegments) → retained k ≤ 256
unfolding retained
retained_256 k = omega (arith, count_most (kept_flags k), flags_length k)

pub kept_below : (k : KeptSegments) (g : ℕ) → is_kept k g ≡ true → g < 256
unfolding is_kept
kept_below k g e = omega (arith, set_below (kept_flags k) g e, flags_length k)

-- ---- the words that flags choose

-- as many words are chosen as flags keep
pub chosen_length : (flags words : List ℕ) → length flags ≤ length words → length (chosen flags words) ≡ kept_count flags
unfolding chosen kept_count
chosen_length [] words h = refl
chosen_length (f ∷ flags) [] h = absurd (omega (arith, h))
chosen_length (f ∷ flags) (w ∷ words) h = go (eqb f 0) (chosen_length flags words (omega (arith, h)))
  where
    go : (t : Bool) → length (chosen flags words) ≡ kept_count flags
        → length (cond t (chosen flags words) (w ∷ chosen flags words)) ≡ cond t (kept_count flags) (suc (kept_count flags))
    go true e = e
    go false e = ap suc e

pub chosen_at : (flags words : List ℕ) (g : ℕ) → length flags ≤ length words
    → not (eqb (get_or flags g 0) 0) ≡ true → get_or (chosen flags words) (kept_count (take g flags)) 0 ≡ get_or words g 0
unfolding chosen kept_count
chosen_at [] words g h e = absurd (true≢false (sym e))
chosen_at (f ∷ flags) [] g h e = absurd (omega (arith, h))
chosen_at (f ∷ flags) (w ∷ words) zero h e = rw (not-true (eqb f 0) e)
chosen_at (f ∷ flags) (w ∷ words) (suc g) h e = go (eqb f 0) (chosen_at flags words g (omega (arith, h)) e)
  where
    go : (t : Bool) → get_or (chosen flags words) (kept_count (take g flags)) 0 ≡ get_or words g 0
        → get_or (cond t (chosen flags words) (w ∷ chosen flags words)) (cond t (kept_count (take g flags)) (suc (kept_count (take g flags)))) 0 ≡ get_or words g 0
    go true q = q
    go false q = q

-- ---- so many bits of flags, those past the last false

unfoldable pub flag_bits : ℕ → List ℕ → List Bool
flag_bits zero l = []
flag_bits (suc n) [] = false ∷ flag_bits n []
flag_bits (suc n) (f ∷ l) = not (eqb f 0) ∷ flag_bits n l

zero_bits : (n : ℕ) → bits_of n 0 ≡ flag_bits n []
unfolding bits_of flag_bits
zero_bits zero = refl
zero_bits (suc n) = ap (λ (l : List Bool). false ∷ l) (zero_bits n)

word_bits : (n : ℕ) (l : List ℕ) → bits_of n (flag_word (take n l)) ≡ flag_bits n l
unfolding bits_of flag_bits flag_word
word_bits zero l = refl
word_bits (suc n) [] = zero_bits (suc n)
word_bits (suc n) (f ∷ l) = go (eqb f 0) (word_bits n l)
  where
    go : (t : Bool) → bits_of n (flag_word (take n l)) ≡ flag_bits n l
        → ◌≡◌ {A = List Bool} (eqb ((cond t 0 1 + 2 * flag_word (take n l)) % 2) 1 ∷ bits_of n ((cond t 0 1 + 2 * flag_word (take n l)) / 2)) (not t ∷ flag_bits n l)
    go true q =
        let r : (0 + 2 * flag_word (take n l)) % 2 ≡ 0 = omega arith in
        let d : (0 + 2 * flag_word (take n l)) / 2 ≡ flag_word (take n l) = omega arith in
        ap₂ (λ (b x : ℕ). eqb b 1 ∷ bits_of n x) r d ∙ ap (λ (m : List Bool). false ∷ m) q
    go false q =
        let r : (1 + 2 * flag_word (take n l)) % 2 ≡ 1 = omega arith in
        let d : (1 + 2 * flag_word (take n l)) / 2 ≡ flag_word (take n l) = omega arith in
        ap₂ (λ (b x : ℕ). eqb b 1 ∷ bits_of n x) r d ∙ ap (λ (m : List Bool). true ∷ m) q

bits_split : (m n s : ℕ) (l : List ℕ) → s ≡ m + n → flag_bits s l ≡ flag_bits m l ++ flag_bits n (drop m l)
unfolding flag_bits
bits_split zero n s l e =
    let q : s ≡ n = omega arith in
    ap (λ (x : ℕ). flag_bits x l) q
bits_split (suc m) n zero l e = absurd (omega arith)
bits_split (suc m) n (suc s) [] e =
    ap (λ (t : List Bool). false ∷ t) (bits_split m n s [] (omega arith) ∙ ap (λ (d : List ℕ). flag_bits m [] ++ flag_bits n d) (drop-nil m))
bits_split (suc m) n (suc s) (f ∷ l) e = ap (λ (t : List Bool). not (eqb f 0) ∷ t) (bits_split m n s l (omega arith))

kept_bits : (flags : List ℕ) → kept_flags (kept_of flags) ≡ flag_bits 256 flags
unfolding kept_flags flat_map flag_bits
kept_bits flags =
    before 0 192 (before 64 128 (before 128 64 (before 192 0 refl)))
  where
    -- a word of flags before the words of those behind it
    before : (at n : ℕ) {rest : List Bool} → rest ≡ flag_bits n (drop (at + 64) flags) → bits_of 64 (flag_word (part at 64 flags)) ++ rest ≡ flag_bits (64 + n) (drop at flags)
    before at n e =
        ap₂ (λ (x y : List Bool). x ++ y) (word_bits 64 (drop at flags)) (e ∙ ap (flag_bits n) (sym (drop-drop 64 at flags)))
        ∙ sym (bits_split 64 n (64 + n) (drop at flags) refl)

-- ---- the bits of flags, one by one

no_bits : (n : ℕ) → flag_bits n [] ≡ replicate n false
unfolding flag_bits
no_bits zero = refl
no_bits (suc n) = ap (λ (t : List Bool). false ∷ t) (no_bits n)

none_counted : (n g : ℕ) → count_true (take g (flag_bits n [])) ≡ 0
unfolding flag_bits
none_counted n zero = refl
none_counted zero (suc g) = refl
none_counted (suc n) (suc g) = none_counted n g

bits_counted : (n : ℕ) (l : List ℕ) (g : ℕ) → length l ≤ n → count_true (take g (flag_bits n l)) ≡ kept_count (take g l)
unfolding flag_bits kept_count
bits_counted n l zero h = refl
bits_counted n [] (suc g) h = none_counted n (suc g)
bits_counted zero (f ∷ l) (suc g) h = absurd (omega arith)
bits_counted (suc n) (f ∷ l) (suc g) h = go (eqb f 0) (bits_counted n l g (omega arith))
  where
    go : (t : Bool) → count_true (take g (flag_bits n l)) ≡ kept_count (take g l)
        → count_true (not t ∷ take g (flag_bits n l)) ≡ cond t (kept_count (take g l)) (suc (kept_count (take g l)))
    go true q = q
    go false q = ap suc q

none_set : (n g : ℕ) → get_or (flag_bits n []) g false ≡ false
unfolding flag_bits
none_set zero g = refl
none_set (suc n) zero = refl
none_set (suc n) (suc g) = none_set n g

bit_set : (n : ℕ) (l : List ℕ) (g : ℕ) → length l ≤ n → get_or (flag_bits n l) g false ≡ not (eqb (get_or l g 0) 0)
unfolding flag_bits
bit_set n [] g h = none_set n g
bit_set zero (f ∷ l) g h = absurd (omega arith)
bit_set (suc n) (f ∷ l) zero h = refl
bit_set (suc n) (f ∷ l) (suc g) h = bit_set n l g (omega arith)

-- ---- the state that flags make

pub number_kept : (flags : List ℕ) (g : ℕ) → length flags ≤ 256 → new_number (kept_of flags) g ≡ kept_count (take g flags)
unfolding new_number
number_kept flags g h = ap (λ (l : List Bool). count_true (take g l)) (kept_bits flags) ∙ bits_counted 256 flags g h

pub retained_kept : (flags : List ℕ) → length flags ≤ 256 → retained (kept_of flags) ≡ kept_count flags
unfolding retained new_number
retained_kept flags h =
    ap count_true (sym (take_all 256 (kept_flags (kept_of flags)) (le_of_eq (flags_length (kept_of flags)))))
    ∙ number_kept flags 256 h
    ∙ ap kept_count (take_all 256 flags h)

pub is_kept_flag : (flags : List ℕ) (g : ℕ) → length flags ≤ 256 → is_kept (kept_of flags) g ≡ not (eqb (get_or flags g 0) 0)
unfolding is_kept
is_kept_flag flags g h = ap (λ (l : List Bool). get_or l g false) (kept_bits flags) ∙ bit_set 256 flags g h
