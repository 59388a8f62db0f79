-- Words and numbers of a file one at a time, sums of words, and areas that are filled with them. Assumes nothing.
use mathlib.Core.Path.{◌≡◌, refl, ap, ◌∙◌}
use mathlib.Core.Bool.{Bool, true, false}
use mathlib.Core.List.{List, [], ◌∷◌, ◌++◌}
use Prim.Native.Nat.{ℕ, zero, suc, ◌+◌, ◌/◌, ◌≤◌, ◌<◌}
use native.Mathlib.Numerals.{add-one}
use native.Mathlib.Omega.{arith}
use borrow.Author.Tests.{eqb-true, eqb-false}
use lib.Dec.{eqb}
use lib.ListN.{length, take, drop, get_or, length-append}
use lib.Seq.{drop-drop, drop_at, take_at}
use Rattle.hash_parts.specs.ZeroBytes.{number_of}
use Rattle.records.specs.Area.{part}
use Rattle.index.specs.Packed.{words_of}
use Rattle.files.specs.Kinds.{count_place}
use Rattle.files.specs.declared.counts.Count.{Count}
use Rattle.files.specs.Contents.{numbers_in, sum}

-- ---- words

abbrev pub all_words : List ℕ → List ℕ
all_words l = words_of (length l / 8) l

-- ---- sums

rest : (l : List ℕ) (i : ℕ) → sum (drop i l) ≡ get_or l i 0 + sum (drop (suc i) l)
rest [] zero = refl
rest [] (suc i) = refl
rest (x ∷ l) zero = refl
rest (x ∷ l) (suc i) = rest l i

pub sum_rest : (l : List ℕ) (i : ℕ) → sum (drop i l) ≡ get_or l i 0 + sum (drop (i + 1) l)
sum_rest l i = rw (add-one i) (rest l i)

-- the first word of some bytes, and those behind it
pub sum_chunk : (l w rest : List ℕ) (n : ℕ) → l ≡ w ++ rest → length w ≡ 8 → n ≡ number_of w → sum (all_words l) ≡ n + sum (all_words rest)
unfolding words_of
sum_chunk l w more n e h f =
    let long : length l / 8 ≡ suc (length more / 8) = omega (arith, ap length e, length-append w more) in
    rw (long, e, take_at w more 8 h, drop_at w more 8 h, f)

pub sum_short : (l : List ℕ) → length l < 8 → sum (all_words l) ≡ 0
unfolding words_of
sum_short l h = let none : length l / 8 ≡ 0 = omega arith in rw none

pub sum_within : (l : List ℕ) (i : ℕ) → sum (take i l) + get_or l i 0 ≤ sum l
sum_within [] zero = omega arith
sum_within [] (suc i) = omega arith
sum_within (x ∷ l) zero = omega arith
sum_within (x ∷ l) (suc i) = omega (arith, sum_within l i)

-- ---- the numbers of kind 1

pub number_in : (ws bytes : List ℕ) (i : ℕ) → i < length ws → get_or (numbers_in ws bytes) i 0 ≡ number_of (part (sum (take i ws)) (get_or ws i 0) bytes)
unfolding numbers_in
number_in [] bytes i h = absurd (omega arith)
number_in (w ∷ ws) bytes zero h = refl
number_in (w ∷ ws) bytes (suc i) h =
    number_in ws (drop w bytes) i (omega arith) ∙ ap (λ (l : List ℕ). number_of (take (get_or ws i 0) l)) (drop-drop (sum (take i ws)) w bytes)

pub place_few : (c : Count) → count_place c < 10
place_few c = grind arith

-- ---- tests

pub eqb_same : (a b c d : ℕ) → (a ≡ b → c ≡ d) → (c ≡ d → a ≡ b) → eqb a b ≡ eqb c d
eqb_same a b c d f g = go (eqb a b) refl (eqb c d) refl
  where
    go : (x : Bool) → eqb a b ≡ x → (y : Bool) → eqb c d ≡ y → x ≡ y
    go true p true q = refl
    go false p false q = refl
    go true p false q = absurd (eqb-false c d q (f (eqb-true a b p)))
    go false p true q = absurd (eqb-false a b p (g (eqb-true c d q)))
