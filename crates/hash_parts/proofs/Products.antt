-- The upper half of a product of two 64-bit numbers. Assumes nothing.
use Rattle.std.proofs.Common.{◌≡◌, ℕ, ◌-◌, ◌*◌, ◌/◌, ◌^◌, ◌<◌, ◌≤◌, mul_comm, div-lt_iff_lt-mul, mul-lt-mul_of_pos_right, mul-zero, arith, pow_pos}
use native.Mathlib.Decide.{dec_lt}
use Rattle.hash_parts.specs.Hash.{first_bucket}

-- a hash is reduced below the number of buckets, and to 0 where there are none
pub first_bucket_below : (h buckets : ℕ) → h < 2 ^ 64 → first_bucket h buckets ≤ buckets - 1
unfolding first_bucket
first_bucket_below h buckets hh = go (dec_lt 0 buckets)
  where
    go : Dec (0 < buckets) → h * buckets / 2 ^ 64 ≤ buckets - 1
    go (yes p) =
        let l : h * buckets / 2 ^ 64 < buckets = (div-lt_iff_lt-mul (pow_pos 64)).1 (rw (mul_comm buckets (2 ^ 64)) (mul-lt-mul_of_pos_right hh p)) in
        omega arith
    go (no q) =
        let z : buckets ≡ 0 = omega arith in
        rw (z, mul-zero) (omega arith)
