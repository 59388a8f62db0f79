-- The library's rotation of 64 bits, by numbers. Assumes nothing.
use Rattle.std.proofs.Common.{◌≡◌, ℕ, ◌*◌, ◌/◌, ◌%◌, ◌^◌, ◌<◌, w64, arith}
use Rattle.std.proofs.lemmas.Nat.{or_shifted}
use Rattle.std.specs.Int.{rotate_left}
use Rattle.hash_parts.specs.Hash.{rotated}

-- the lower 37 bits move up, the upper 27 come down, and they share none
pub rotated_law : (h : ℕ) → h < 2 ^ 64 → rotate_left w64 h 27 ≡ rotated h
unfolding rotated
rotated_law h f =
    let up : h * 2 ^ 27 % 2 ^ 64 ≡ h % 2 ^ 37 * 2 ^ 27 = omega arith in
    rw up (or_shifted (h % 2 ^ 37) 27 (h / 2 ^ 37) (omega arith))
