-- Laws of blocks: whether they are whole, what stands behind them, what they hold. Assumes nothing.
use mathlib.Core.Path.{◌≡◌, refl, sym, ◌∙◌}
use mathlib.Core.Bool.{Bool, true, false, cond}
use mathlib.Core.List.{List, [], ◌∷◌}
use Prim.Native.Nat.{ℕ, suc, ◌+◌, ◌≤◌, ◌<◌}
use native.Mathlib.Omega.{arith}
use borrow.Author.Tests.{eqb-true, leb-true, leb-false, ne_eqb}
use lib.Dec.{eqb, leb}
use lib.ListN.{length, drop_of_length-le}
use Rattle.sets.proofs.Counts.{both}
use Rattle.files.specs.Blocks.{behind, frames_well, is_whole, kind_in, kinds_from, size_in}

-- ---- g is the file from the block on

module _ (g : List ℕ) where
  pub whole_room : is_whole g ≡ true → 6 + size_in g ≤ length g
  unfolding is_whole
  whole_room e = leb-true _ _ (both (leb 6 (length g)) (leb (6 + size_in g) (length g)) e).1

  -- nothing stands behind a block that is not whole
  pub broken_behind : is_whole g ≡ false → behind g ≡ []
  unfolding is_whole
  broken_behind e = go (leb 6 (length g)) refl e
    where
      go : (b : Bool) → leb 6 (length g) ≡ b → cond b (leb (6 + size_in g) (length g)) false ≡ false → behind g ≡ []
      go true p q = let h : length g ≤ 6 + size_in g = omega (arith, leb-false (6 + size_in g) (length g) q) in drop_of_length-le g h
      go false p q = let h : length g ≤ 6 + size_in g = omega (arith, leb-false 6 (length g) p) in drop_of_length-le g h

  -- the questions of framing and of kinds, one block at a time
  pub frames_next : (n : ℕ) → 0 < length g → frames_well (suc n) g ≡ cond (is_whole g) (frames_well n (behind g)) false
  unfolding frames_well
  frames_next n h = go g h
    where
      go : (l : List ℕ) → 0 < length l → frames_well (suc n) l ≡ cond (is_whole l) (frames_well n (behind l)) false
      go [] h = absurd (omega arith)
      go (b ∷ l) h = refl

  pub kinds_next : (kind n : ℕ) → 0 < length g → kinds_from kind (suc n) g ≡ cond (eqb (kind_in g) kind) (kinds_from (suc kind) n (behind g)) false
  unfolding kinds_from
  kinds_next kind n h = go g h
    where
      go : (l : List ℕ) → 0 < length l → kinds_from kind (suc n) l ≡ cond (eqb (kind_in l) kind) (kinds_from (suc kind) n (behind l)) false
      go [] h = absurd (omega arith)
      go (b ∷ l) h = refl

  -- a block of a file that is framed well is whole
  pub framed_whole : (n : ℕ) → 0 < length g → frames_well (suc n) g ≡ true → (is_whole g ≡ true) × (frames_well n (behind g) ≡ true)
  framed_whole n h e = both (is_whole g) (frames_well n (behind g)) (sym (frames_next n h) ∙ e)

pub frames_last : (g : List ℕ) → frames_well 0 g ≡ eqb (length g) 0
unfolding frames_well
frames_last [] = refl
frames_last (b ∷ g) = sym (ne_eqb (suc (length g)) 0 (λ e. omega arith))

pub kinds_none : (kind n : ℕ) → kinds_from kind (suc n) [] ≡ false
unfolding kinds_from
kinds_none kind n = refl

pub kinds_last : (kind : ℕ) (g : List ℕ) → kinds_from kind 0 g ≡ true
unfolding kinds_from
kinds_last kind g = refl

-- ---- whether anything is left

pub none_left : (g : List ℕ) → eqb (length g) 0 ≡ true → g ≡ []
none_left [] e = refl
none_left (b ∷ g) e = absurd (let z = eqb-true (suc (length g)) 0 e in omega arith)

pub some_left : (g : List ℕ) → eqb (length g) 0 ≡ false → 0 < length g
some_left [] e = cc
some_left (b ∷ g) e = omega arith
