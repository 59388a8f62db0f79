-- The bytes of a segment in what is written of a set's segments, one after the other. Assumes nothing.
use mathlib.Core.Path.{◌≡◌, refl, sym, ap, ap₂, ◌∙◌}
use mathlib.Core.List.{List, [], ◌∷◌, ◌++◌, append_assoc, map, flat_map}
use Prim.Native.Nat.{ℕ, zero, suc, ◌+◌, ◌-◌, ◌≤◌, ◌<◌}
use native.Mathlib.Omega.{arith}
use lib.ListN.{length, take, drop, get_or, length-append, length-drop}
use lib.Seq.{take-suc, take_at, drop_at, length-take-le, get_or-take}
use Rattle.records.specs.Area.{part, over}
use Rattle.index.specs.Segments.{padded}
use Rattle.index.specs.Walk.{up_from}
use Rattle.index.proofs.Filling.{filled_back, over_padded_length}
use Rattle.index.proofs.Walks.{part_cons}
use Rattle.sets.specs.Rebuild.{sum_of}
use Rattle.files.specs.Contents.{starts_by, sum}
use Rattle.files.specs.Write.{segment_bytes}

-- pieces one after the other
abbrev pub joined_up : List (List ℕ) → List ℕ
joined_up [] = []
joined_up (p ∷ ps) = p ++ joined_up ps

abbrev pub sizes : List (List ℕ) → List ℕ
sizes [] = []
sizes (p ∷ ps) = length p ∷ sizes ps

-- piece g stands at its start, by the sizes
pub piece_at : (ps : List (List ℕ)) (pre : List ℕ) (g : ℕ) → g < length ps
    → part (get_or (starts_by (length pre) (sizes ps)) g 0) (get_or (sizes ps) g 0) (pre ++ joined_up ps) ≡ get_or ps g []
unfolding starts_by
piece_at [] pre g h = absurd (omega arith)
piece_at (p ∷ ps) pre zero h = ap (take (length p)) (drop_at pre (p ++ joined_up ps) (length pre) refl) ∙ take_at p (joined_up ps) (length p) refl
piece_at (p ∷ ps) pre (suc g) h =
    let q = piece_at ps (pre ++ p) g (omega arith) in
    rw (length-append pre p, append_assoc pre p (joined_up ps)) at q

pub joined_length : (ps : List (List ℕ)) → length (joined_up ps) ≡ sum (sizes ps)
joined_length [] = refl
joined_length (p ∷ ps) = omega (arith, length-append p (joined_up ps), joined_length ps)

-- ---- sums

sum_snoc : (l : List ℕ) (n : ℕ) → sum (l ++ (n ∷ [])) ≡ sum l + n
sum_snoc [] n = omega arith
sum_snoc (m ∷ l) n = omega (arith, sum_snoc l n)

pub sum_taken : (n : ℕ) (l : List ℕ) → n ≤ length l → sum (take n l) ≡ sum_of n l
unfolding sum_of
sum_taken zero l h = refl
sum_taken (suc n) l h = ap sum (take-suc l n 0 (omega arith)) ∙ sum_snoc (take n l) (get_or l n 0) ∙ ap (λ (k : ℕ). k + get_or l n 0) (sum_taken n l (omega arith))

-- the words that an area was filled with from its front
pub sum_filled : (l area : List ℕ) → length l ≤ 256 → 256 ≤ length area → sum_of (length l) (over (padded l) area) ≡ sum l
sum_filled l area few held =
    sym (sum_taken (length l) (over (padded l) area) (omega (arith, over_padded_length l area held))) ∙ ap sum (filled_back l area few)

-- one of them
pub filled_at : (l area : List ℕ) (i : ℕ) → length l ≤ 256 → i < length l → get_or (over (padded l) area) i 0 ≡ get_or l i 0
filled_at l area i few h = sym (get_or-take (length l) (over (padded l) area) i 0 h) ∙ ap (λ (m : List ℕ). get_or m i 0) (filled_back l area few)

-- every segment ends within the sum
pub starts_within : (l : List ℕ) (start g : ℕ) → g < length l → get_or (starts_by start l) g 0 + get_or l g 0 ≤ start + sum l
unfolding starts_by
starts_within [] start g h = absurd (omega arith)
starts_within (n ∷ l) start zero h = omega arith
starts_within (n ∷ l) start (suc g) h = omega (arith, starts_within l (start + n) g (omega arith))

pub starts_length : (l : List ℕ) (start : ℕ) → length (starts_by start l) ≡ length l
unfolding starts_by
starts_length [] start = refl
starts_length (n ∷ l) start = ap suc (starts_length l (start + n))

-- ---- the segments of a set, one after the other

joined_is : (f : ℕ → List ℕ) (l : List ℕ) → joined_up (map f l) ≡ flat_map f l
unfolding flat_map
joined_is f [] = refl
joined_is f (x ∷ l) = ap (λ (r : List ℕ). f x ++ r) (joined_is f l)

piece_get : (f : ℕ → List ℕ) (a n g : ℕ) → g < n → get_or (map f (up_from a n)) g [] ≡ f (a + g)
unfolding up_from
piece_get f a zero g h = absurd (omega arith)
piece_get f a (suc n) zero h = let e : a + 0 ≡ a = omega arith in ap f (sym e)
piece_get f a (suc n) (suc g) h = let e : suc a + g ≡ a + suc g = omega arith in piece_get f (suc a) n g (omega arith) ∙ ap f e

many : (f : ℕ → List ℕ) (a n : ℕ) → length (map f (up_from a n)) ≡ n
unfolding up_from
many f a zero = refl
many f a (suc n) = ap suc (many f (suc a) n)

module _ (starts lengths arena : List ℕ) where
  abbrev piece : ℕ → List ℕ
  piece g = part (get_or starts g 0) (get_or lengths g 0) arena

  sizes_are : (a n : ℕ) → a + n ≤ length lengths → ((g : ℕ) → g < a + n → get_or starts g 0 + get_or lengths g 0 ≤ length arena) → sizes (map piece (up_from a n)) ≡ take n (drop a lengths)
  unfolding up_from
  sizes_are a zero h inside = refl
  sizes_are a (suc n) h inside =
      let i = inside a (omega arith) in
      let size : length (piece a) ≡ get_or lengths a 0 = length-take-le (get_or lengths a 0) (drop (get_or starts a 0) arena) (omega (arith, length-drop (get_or starts a 0) arena)) in
      let one : suc n - 1 ≡ n = omega arith in
      let next : a + 1 ≡ suc a = omega arith in
      ap₂ (λ (x : ℕ) (r : List ℕ). x ∷ r) size (sizes_are (suc a) n (omega arith) (λ g l. inside g (omega arith)))
      ∙ sym (part_cons lengths (suc n) a 0 (omega arith) (omega arith) ∙ ap₂ (λ (k j : ℕ). get_or lengths a 0 ∷ take k (drop j lengths)) one next)

  -- segment g of n stands in what is written where the lengths say
  pub segment_written : (n : ℕ) → n ≤ length lengths → ((g : ℕ) → g < n → get_or starts g 0 + get_or lengths g 0 ≤ length arena) → (g : ℕ) → g < n
      → part (get_or (starts_by 0 (take n lengths)) g 0) (get_or (take n lengths) g 0) (segment_bytes n starts lengths arena) ≡ piece g
  unfolding segment_bytes
  segment_written n h inside g l =
      let ss : sizes (map piece (up_from 0 n)) ≡ take n lengths = sizes_are 0 n (omega arith) (λ k m. inside k (omega arith)) in
      let p = piece_at (map piece (up_from 0 n)) [] g (rw (many piece 0 n) l) in
      let e : 0 + g ≡ g = omega arith in
      rw (← ss, ← joined_is piece (up_from 0 n)) (p ∙ piece_get piece 0 n g l ∙ ap piece e)

  -- what is written has as many bytes as the lengths add up to
  pub segments_length : (n : ℕ) → n ≤ length lengths → ((g : ℕ) → g < n → get_or starts g 0 + get_or lengths g 0 ≤ length arena) → length (segment_bytes n starts lengths arena) ≡ sum_of n lengths
  unfolding segment_bytes
  segments_length n h inside =
      ap length (sym (joined_is piece (up_from 0 n)))
      ∙ joined_length (map piece (up_from 0 n))
      ∙ ap sum (sizes_are 0 n (omega arith) (λ k m. inside k (omega arith)))
      ∙ sum_taken n lengths h
