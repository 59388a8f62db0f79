-- Marks are visited from the lowest up: the lowest set bit of a word of marks is its first mark, and the word without it holds the others.
-- Assumes nothing.
use Rattle.std.proofs.Common.{◌≡◌, ℕ, suc, ◌+◌, ◌*◌, ◌/◌, ◌%◌, ◌<◌, Bool, true, false, List, [], ◌∷◌, map, length, sym, refl, ap, ◌∙◌, add-zero, arith}
use lib.Count.{count_trailing_zeros}
use Rattle.hash_parts.specs.ZeroBytes.{bytes_of, number_of, marks, is_set, first_mark, lowest_set, lowest_cleared, without_lowest}

-- the marks without the first
unfoldable pub rest_marks : List Bool → List Bool
rest_marks [] = []
rest_marks (true ∷ bs) = false ∷ bs
rest_marks (false ∷ bs) = false ∷ rest_marks bs

-- The marked places, counted from i, one after the other: f gives a place's answer, where the answer of the places after it is known, and c is the
-- answer after the last.
module _ {A : Type 0} where
  unfoldable pub visited : (ℕ → A → A) → List Bool → ℕ → A → A
  visited f [] i c = c
  visited f (true ∷ bs) i c = f i (visited f bs (suc i) c)
  visited f (false ∷ bs) i c = visited f bs (suc i) c

-- ---- the bytes of a word of marks

lowest_byte : (m b : ℕ) → b < 256 → (m * 256 + b) % 256 ≡ b
lowest_byte m b h = omega arith

other_bytes : (m b : ℕ) → b < 256 → (m * 256 + b) / 256 ≡ m
other_bytes m b h = omega arith

set_marks : (bs : List Bool) → map is_set (bytes_of (length bs) (marks bs)) ≡ bs
unfolding bytes_of marks
set_marks [] = refl
set_marks (true ∷ bs) = rw (lowest_byte (marks bs) 128 (omega arith), other_bytes (marks bs) 128 (omega arith), set_marks bs)
set_marks (false ∷ bs) = rw (lowest_byte (marks bs) 0 (omega arith), other_bytes (marks bs) 0 (omega arith), set_marks bs)

number_marks : (bs : List Bool) → number_of (bytes_of (length bs) (marks bs)) ≡ marks bs
unfolding bytes_of number_of marks
number_marks [] = refl
number_marks (true ∷ bs) = rw (lowest_byte (marks bs) 128 (omega arith), other_bytes (marks bs) 128 (omega arith), number_marks bs) (omega arith)
number_marks (false ∷ bs) = rw (lowest_byte (marks bs) 0 (omega arith), other_bytes (marks bs) 0 (omega arith), number_marks bs) (omega arith)

one_cleared : (l : List ℕ) → lowest_cleared (128 ∷ l) ≡ 0 ∷ l
unfolding lowest_cleared count_trailing_zeros
one_cleared l = refl

no_bytes_cleared : lowest_cleared [] ≡ []
unfolding lowest_cleared
no_bytes_cleared = refl

none_cleared : (l : List ℕ) → lowest_cleared (0 ∷ l) ≡ 0 ∷ lowest_cleared l
unfolding lowest_cleared
none_cleared l = refl

cleared_marks : (bs : List Bool) → number_of (lowest_cleared (bytes_of (length bs) (marks bs))) ≡ marks (rest_marks bs)
unfolding bytes_of number_of marks rest_marks
cleared_marks [] = ap number_of no_bytes_cleared
cleared_marks (true ∷ bs) =
    rw (lowest_byte (marks bs) 128 (omega arith), other_bytes (marks bs) 128 (omega arith), one_cleared (bytes_of (length bs) (marks bs)), number_marks bs) (omega arith)
cleared_marks (false ∷ bs) =
    rw (lowest_byte (marks bs) 0 (omega arith), other_bytes (marks bs) 0 (omega arith), none_cleared (bytes_of (length bs) (marks bs)), cleared_marks bs) (omega arith)

-- ---- the first mark, and the others

pub first_right : (bs : List Bool) → length bs ≡ 8 → lowest_set (marks bs) ≡ first_mark bs
unfolding lowest_set
first_right bs e = ap (λ (k : ℕ). first_mark (map is_set (bytes_of k (marks bs)))) (sym e) ∙ ap first_mark (set_marks bs)

pub rest_right : (bs : List Bool) → length bs ≡ 8 → without_lowest (marks bs) ≡ marks (rest_marks bs)
unfolding without_lowest
rest_right bs e = ap (λ (k : ℕ). number_of (lowest_cleared (bytes_of k (marks bs)))) (sym e) ∙ cleared_marks bs

pub first_lt : (bs : List Bool) → 0 < marks bs → first_mark bs < length bs
unfolding marks first_mark
first_lt [] h = omega arith
first_lt (true ∷ bs) h = omega arith
first_lt (false ∷ bs) h = omega (arith, first_lt bs (omega arith))

pub rest_length : (bs : List Bool) → length (rest_marks bs) ≡ length bs
unfolding rest_marks
rest_length [] = refl
rest_length (true ∷ bs) = refl
rest_length (false ∷ bs) = ap suc (rest_length bs)

pub rest_less : (bs : List Bool) → 0 < marks bs → marks (rest_marks bs) < marks bs
unfolding marks rest_marks
rest_less [] h = absurd (omega arith)
rest_less (true ∷ bs) h = omega arith
rest_less (false ∷ bs) h = omega (arith, rest_less bs (omega arith))

-- ---- a visit from the lowest mark up
module _ {A : Type 0} where
  pub visit_first : (f : ℕ → A → A) (bs : List Bool) (i : ℕ) (c : A) → 0 < marks bs → visited f bs i c ≡ f (i + first_mark bs) (visited f (rest_marks bs) i c)
  unfolding marks first_mark rest_marks visited
  visit_first f [] i c h = absurd (omega arith)
  visit_first f (true ∷ bs) i c h = rw (add-zero i)
  visit_first f (false ∷ bs) i c h =
      let e : i + suc (first_mark bs) ≡ suc i + first_mark bs = omega arith in
      rw e (visit_first f bs (suc i) c (omega arith))

  pub visit_none : (f : ℕ → A → A) (bs : List Bool) (i : ℕ) (c : A) → marks bs ≡ 0 → visited f bs i c ≡ c
  unfolding marks visited
  visit_none f [] i c h = refl
  visit_none f (true ∷ bs) i c h = absurd (omega arith)
  visit_none f (false ∷ bs) i c h = visit_none f bs (suc i) c (omega arith)
