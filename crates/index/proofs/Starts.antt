-- Laws of segment starts: the next start, the starts one by one, and that they ascend. Assumes nothing.
use Rattle.std.proofs.Common.{◌≡◌, ℕ, zero, suc, ◌+◌, ◌-◌, ◌*◌, ◌/◌, ◌<◌, ◌≤◌, min, Bool, true, false, cond, eqb, ltb, leb, List, [], ◌∷◌, length, get_or, take, refl, ◌∙◌, not-suc-le-zero, arith, ltb-true, le-ltb, lt-ltb, eq-eqb, ne_eqb, le-leb, ◌++◌, ◌&&◌, ap}
use Rattle.std.specs.List.{list_all}
use native.Mathlib.Decide.{dec_le}
use borrow.Author.Tests.{eqb-false, lt-leb}
use Rattle.index.specs.Word.{word_stored}
use Rattle.index.specs.Segments.{no_start, starts_at, next_start, start_in, start_after, starts_after, starts_of, inside, all_inside, locations_inside}
use Rattle.index.specs.SegmentStarts.{Ascends}

-- ---- the next start is the location of a word, and not below the bound

pub record Located (words : List ℕ) (bound location : ℕ) : Type 0 where
  pub at : ℕ
  pub within : at < length words
  pub stored : word_stored (get_or words at 0) ≡ location + 1
  pub from : bound ≤ location

further : (w : ℕ) (words : List ℕ) (bound location : ℕ) → Located words bound location → Located (w ∷ words) bound location
further w words bound location s = record { at = suc s.at; within = omega (arith, s.within); stored = s.stored; from = s.from }

pub next_start_most : (words : List ℕ) (bound : ℕ) → next_start words bound ≤ no_start
unfolding next_start
next_start_most [] bound = omega arith
next_start_most (w ∷ words) bound = go (starts_at bound w) (next_start_most words bound)
  where
    go : (b : Bool) → next_start words bound ≤ no_start → cond b (min (word_stored w - 1) (next_start words bound)) (next_start words bound) ≤ no_start
    go true h = omega arith
    go false h = h

pub next_start_from : (words : List ℕ) (bound : ℕ) → next_start words bound < no_start → Located words bound (next_start words bound)
unfolding next_start
next_start_from [] bound h = absurd (omega arith)
next_start_from (w ∷ words) bound h = go (starts_at bound w) refl h (next_start_from words bound)
  where
    rest : ℕ
    rest = next_start words bound

    go : (b : Bool) → starts_at bound w ≡ b → cond b (min (word_stored w - 1) rest) rest < no_start → (rest < no_start → Located words bound rest)
        → Located (w ∷ words) bound (cond b (min (word_stored w - 1) rest) rest)
    go false e h f = further w words bound rest (f h)
    go true e h f =
        let above : bound < word_stored w = ltb-true bound (word_stored w) e in
        elim (dec_le (word_stored w - 1) rest) as (λ _. Located (w ∷ words) bound (min (word_stored w - 1) rest)) [
          | yes l ↦ let m : min (word_stored w - 1) rest ≡ word_stored w - 1 = omega arith in rw m (record { at = 0; within = omega arith; stored = omega arith; from = omega arith })
          | no l ↦ let m : min (word_stored w - 1) rest ≡ rest = omega arith in rw m (further w words bound rest (f (omega arith)))
        ]

-- ---- the scan for it

-- the lowest start so far, and a word more
abbrev pub lower : ℕ → ℕ → ℕ → ℕ
lower w bound lowest = cond (starts_at bound w) (min (word_stored w - 1) lowest) lowest

-- the next start of a word more at the end
pub lower_last : (words : List ℕ) (w bound : ℕ) → next_start (words ++ (w ∷ [])) bound ≡ lower w bound (next_start words bound)
unfolding next_start
lower_last [] w bound = refl
lower_last (v ∷ words) w bound =
    ap (λ (rest : ℕ). cond (starts_at bound v) (min (word_stored v - 1) rest) rest) (lower_last words w bound)
    ∙ go (starts_at bound v) (starts_at bound w) (word_stored v - 1) (word_stored w - 1) (next_start words bound)
  where
    go : (x y : Bool) (m n rest : ℕ) → cond x (min m (cond y (min n rest) rest)) (cond y (min n rest) rest) ≡ cond y (min n (cond x (min m rest) rest)) (cond x (min m rest) rest)
    go true true m n rest = omega arith
    go true false m n rest = refl
    go false y m n rest = refl

module _ (index : List ℕ) (buckets bound : ℕ) where
  pub start_in_law : 8 * buckets ≤ length index → start_in index buckets bound ≡ next_start (take (8 * buckets) index) bound
  unfolding start_in
  start_in_law h = simp (le-leb (8 * buckets) (length index) h)

  pub start_short : length index / 8 < buckets → start_in index buckets bound ≡ no_start
  unfolding start_in
  start_short h = let s : length index < 8 * buckets = omega arith in simp (lt-leb (8 * buckets) (length index) s)

-- ---- the starts one by one

module _ (words : List ℕ) (filled target last : ℕ) where
  pub after_untargeted : target ≡ 0 → start_after words filled target last ≡ no_start
  unfolding start_after
  after_untargeted e = simp (eq-eqb target 0 e)

  module _ (targeted : target ≡ 0 → ⊥) where
    pub after_within : filled ≤ last + target → start_after words filled target last ≡ no_start
    unfolding start_after
    after_within h = simp (ne_eqb target 0 targeted, le-leb filled (last + target) h)

    pub after_next : last + target < filled → start_after words filled target last ≡ next_start words (last + target)
    unfolding start_after
    after_next h = simp (ne_eqb target 0 targeted, lt-leb filled (last + target) h)

  -- a start is above the one before it
  after_above : start_after words filled target last < no_start → last < start_after words filled target last
  unfolding start_after
  after_above h = go (eqb target 0) (leb filled (last + target)) refl h
    where
      next : ℕ
      next = next_start words (last + target)

      go : (z w : Bool) → eqb target 0 ≡ z → cond z no_start (cond w no_start next) < no_start → last < cond z no_start (cond w no_start next)
      go true w e h = absurd (omega arith)
      go false true e h = absurd (omega arith)
      go false false e h =
          let n : target ≡ 0 → ⊥ = eqb-false target 0 e in
          omega (arith, (next_start_from words (last + target) h).from, n)

-- the starts from one on, and at most so many after it
abbrev pub starts_from : ℕ → List ℕ → ℕ → ℕ → ℕ → List ℕ
starts_from n words filled target next = cond (ltb next no_start) (next ∷ starts_after n words filled target next) []

module _ (words : List ℕ) (filled target : ℕ) where
  pub starts_from_law : starts_of words filled target ≡ starts_from 256 words filled target 0
  unfolding starts_of
  starts_from_law = refl

  pub from_none : (n next : ℕ) → no_start ≤ next → starts_from n words filled target next ≡ []
  from_none n next h = simp (le-ltb next no_start h)

  pub from_next : (n m next next' : ℕ) → next < no_start → n ≡ suc m → next' ≡ start_after words filled target next
      → starts_from n words filled target next ≡ next ∷ starts_from m words filled target next'
  unfolding starts_after
  from_next n m next next' h e f = rw (e, f) (simp (lt-ltb next no_start h))

  pub from_last : (n next : ℕ) → next < no_start → n ≡ 0 → starts_from n words filled target next ≡ next ∷ []
  unfolding starts_after
  from_last n next h e = rw e (simp (lt-ltb next no_start h))

-- ---- they ascend

alone : (a : ℕ) → Ascends (a ∷ [])
alone a i k = absurd (omega (arith, k))

above_all : (a b : ℕ) (ss : List ℕ) → a < b → Ascends (b ∷ ss) → Ascends (a ∷ b ∷ ss)
above_all a b ss h asc zero k = h
above_all a b ss h asc (suc i) k = asc i (omega (arith, k))

module _ (words : List ℕ) (filled target : ℕ) where
  after_ascend : (n last : ℕ) → Ascends (last ∷ starts_after n words filled target last)
  unfolding starts_after
  after_ascend zero last = alone last
  after_ascend (suc n) last = go (ltb next no_start) refl (after_ascend n next)
    where
      next : ℕ
      next = start_after words filled target last

      go : (b : Bool) → ltb next no_start ≡ b → Ascends (next ∷ starts_after n words filled target next) → Ascends (last ∷ cond b (next ∷ starts_after n words filled target next) [])
      go true e asc = above_all last next (starts_after n words filled target next) (after_above words filled target last (ltb-true next no_start e)) asc
      go false e asc = alone last

  pub starts_ascend : Ascends (starts_of words filled target)
  unfolding starts_of
  starts_ascend = after_ascend 256 0

  after_length : (n last : ℕ) → length (starts_after n words filled target last) ≤ n
  unfolding starts_after
  after_length zero last = omega arith
  after_length (suc n) last = go (ltb next no_start) (after_length n next)
    where
      next : ℕ
      next = start_after words filled target last

      go : (b : Bool) → length (starts_after n words filled target next) ≤ n → length (cond b (next ∷ starts_after n words filled target next) []) ≤ suc n
      go true h = omega arith
      go false h = omega arith

  pub starts_first : (get_or (starts_of words filled target) 0 0 ≡ 0) × (0 < length (starts_of words filled target)) × (length (starts_of words filled target) ≤ 257)
  unfolding starts_of
  starts_first = (refl, omega arith, omega (arith, after_length 256 0))

-- ---- the question on locations

module _ (filled : ℕ) where
  pub inside_at : (words : List ℕ) → all_inside filled words ≡ true → (i : ℕ) → i < length words → inside filled (get_or words i 0) ≡ true
  unfolding all_inside
  inside_at [] e i h = absurd (not-suc-le-zero h)
  inside_at (w ∷ words) e i h = go (inside filled w) refl e (inside_at words) i h
    where
      go : (b : Bool) → inside filled w ≡ b → cond b (all_inside filled words) false ≡ true
          → (all_inside filled words ≡ true → (i : ℕ) → i < length words → inside filled (get_or words i 0) ≡ true)
          → (i : ℕ) → i < length (w ∷ words) → inside filled (get_or (w ∷ words) i 0) ≡ true
      go true q e rest zero h = q
      go true q e rest (suc i) h = rest e i (omega (arith, h))
      go false q e rest i h = absurd (let z : ◌≡◌ {A = ℕ} 0 1 = cc in omega arith)

  pub all_are_inside : (words : List ℕ) → list_all (inside filled) words ≡ all_inside filled words
  unfolding all_inside
  all_are_inside [] = refl
  all_are_inside (w ∷ words) = go (inside filled w) (all_are_inside words)
    where
      go : (b : Bool) → list_all (inside filled) words ≡ all_inside filled words → (b && list_all (inside filled) words) ≡ cond b (all_inside filled words) false
      go true e = e
      go false e = refl

  module _ (index : List ℕ) (buckets : ℕ) where
    pub locations_in : 8 * buckets ≤ length index → locations_inside index buckets filled ≡ all_inside filled (take (8 * buckets) index)
    unfolding locations_inside
    locations_in h = simp (le-leb (8 * buckets) (length index) h)

    pub locations_short : length index / 8 < buckets → locations_inside index buckets filled ≡ false
    unfolding locations_inside
    locations_short h = let s : length index < 8 * buckets = omega arith in simp (lt-leb (8 * buckets) (length index) s)
