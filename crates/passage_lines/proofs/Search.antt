-- Laws of looking for a byte. Assumes nothing.
use Rattle.std.proofs.Common.{◌≡◌, ℕ, suc, ◌+◌, ◌≤◌, ◌<◌, Bool, true, false, cond, eqb, ltb, Option, Some, None, List, [], ◌∷◌, length, take, unwrap_or, refl, sym, ap, arith}
use Rattle.std.specs.List.{position, position_or_len}
use Rattle.std.proofs.lemmas.List.Recursion.{is_position_or_len}
use borrow.Author.Tests.{ltb-true, ltb-false}
use Rattle.passage_lines.specs.Bytes.{before}

module _ (byte : ℕ) where
  -- what stands before the byte is the front
  pub before_front : (s : List ℕ) → before byte s ≡ take (length (before byte s)) s
  unfolding before
  before_front [] = refl
  before_front (c ∷ s) = go (eqb c byte) (before_front s)
    where
      go : (t : Bool) → before byte s ≡ take (length (before byte s)) s → cond t [] (c ∷ before byte s) ≡ take (length (cond t [] (c ∷ before byte s))) (c ∷ s)
      go true e = refl
      go false e = ap (λ (l : List ℕ). c ∷ l) e

  pub before_within : (s : List ℕ) → length (before byte s) ≤ length s
  unfolding before
  before_within [] = omega arith
  before_within (c ∷ s) = go (eqb c byte) (before_within s)
    where
      go : (t : Bool) → length (before byte s) ≤ length s → length (cond t [] (c ∷ before byte s)) ≤ suc (length s)
      go true e = omega arith
      go false e = omega arith

  -- ---- what stands before the byte, by where it was found

  length-before : (s : List ℕ) → length (before byte s) ≡ position_or_len (λ c. eqb c byte) s
  unfolding before
  length-before = is_position_or_len (λ (t : List ℕ). length (before byte t)) (λ c. eqb c byte) refl step
    where
      step : (c : ℕ) (t : List ℕ) → length (cond (eqb c byte) [] (c ∷ before byte t)) ≡ cond (eqb c byte) 0 (1 + length (before byte t))
      step c t = go (eqb c byte)
        where
          go : (b : Bool) → length (cond b [] (c ∷ before byte t)) ≡ cond b 0 (1 + length (before byte t))
          go true = refl
          go false = omega arith

  pub before_found : (s : List ℕ) (i : ℕ) → position (λ c. eqb c byte) s ≡ Some i → (length (before byte s) ≡ i) × (i < length s)
  before_found s i e = go (ltb n (length s)) refl e
    where
      n : ℕ
      n = position_or_len (λ c. eqb c byte) s

      go : (t : Bool) → ltb n (length s) ≡ t → cond t (Some n) None ≡ Some i → (length (before byte s) ≡ i) × (i < length s)
      go true l q = let z : n ≡ i = cc in (omega (arith, length-before s), omega (arith, ltb-true _ _ l))
      go false l q = cc

  pub before_none : (s : List ℕ) → position (λ c. eqb c byte) s ≡ None → length (before byte s) ≡ length s
  before_none s e = go (ltb n (length s)) refl e
    where
      n : ℕ
      n = position_or_len (λ c. eqb c byte) s

      go : (t : Bool) → ltb n (length s) ≡ t → cond t (Some n) None ≡ None → length (before byte s) ≡ length s
      go true l q = cc
      go false l q = omega (arith, length-before s, before_within s, ltb-false _ _ l)

  pub before_or_all : (s : List ℕ) (r : Option ℕ) → r ≡ position (λ c. eqb c byte) s → unwrap_or r (length s) ≡ length (before byte s)
  before_or_all s None e = sym (before_none s (sym e))
  before_or_all s (Some i) e = sym (before_found s i (sym e)).0
