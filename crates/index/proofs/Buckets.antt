-- How many buckets records take at most. Assumes nothing.
use Rattle.std.proofs.Common.{ℕ, ◌+◌, ◌-◌, ◌≤◌, max, Bool, true, false, cond, eqb, div-le_self, arith}
use Rattle.hash_parts.specs.Duration.{ceil_div}
use Rattle.index.specs.Build.{buckets_for}

pub buckets_few : (records occupied : ℕ) → buckets_for records occupied ≤ max 1 (records + (occupied - 1))
unfolding buckets_for
buckets_few records occupied = go (eqb occupied 0)
  where
    go : (t : Bool) → cond t 1 (max 1 (ceil_div records occupied)) ≤ max 1 (records + (occupied - 1))
    go true = omega arith
    go false = omega (arith, div-le_self (records + (occupied - 1)) occupied)
