-- Looking for a byte. Assumes nothing.
use Rattle.std.specs.Prelude.{ℕ, ◌+◌, cond, List, [], ◌∷◌, eqb, length, drop}

-- what stands before the first such byte; all where there is none
unfoldable pub before : ℕ → List ℕ → List ℕ
before byte [] = []
before byte (c ∷ s) = cond (eqb c byte) [] (c ∷ before byte s)

-- where the first such byte stands from a position on; the list's end where there is none
unfoldable pub first_from : ℕ → List ℕ → ℕ → ℕ
first_from byte s at = at + length (before byte (drop at s))
