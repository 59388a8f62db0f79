-- The walk over the buckets of an index. "The index is 64-bit words, eight to a bucket", "walking on from the first bucket and
-- around".
-- Assumes nothing.
use Rattle.std.specs.Prelude.{ℕ, zero, suc, List, [], ◌∷◌, ◌++◌, take, drop}
use Rattle.hash_parts.specs.Hash.{first_bucket}

module _ {A : Type 0} where
  -- so many buckets of eight slots
  unfoldable pub buckets_of : ℕ → List A → List (List A)
  buckets_of zero slots = []
  buckets_of (suc n) slots = take 8 slots ∷ buckets_of n (drop 8 slots)

  -- a list from place a on, and around to it
  abbrev pub rot : ℕ → List A → List A
  rot a l = drop a l ++ take a l

-- the numbers from a on, so many
unfoldable pub up_from : ℕ → ℕ → List ℕ
up_from a zero = []
up_from a (suc n) = a ∷ up_from (suc a) n

-- the buckets' numbers in the order in which the walk of a hash visits them
abbrev pub bucket_walk : ℕ → ℕ → List ℕ
bucket_walk h buckets = rot (first_bucket h buckets) (up_from 0 buckets)
