-- What the starts that were written are. Only private functions cite it.
-- Assumes nothing.
use Rattle.std.specs.Prelude.{◌≡◌, ℕ, suc, ◌<◌, List, length, slice_index, slice_index_or}

-- each start above the one before it
abbrev pub Ascends : List ℕ → Type 0
Ascends ss = (i : ℕ) → suc i < length ss → slice_index ss i < slice_index ss (suc i)

-- some starts, the first 0, each above the one before it
pub record AreStarts (ss : List ℕ) : Type 0 where
  pub some : 0 < length ss
  pub first : slice_index_or ss 0 0 ≡ 0
  pub ascend : Ascends ss
