-- `zero_byte_high_bits` meets its contract: no byte's sum carries, so the test is right byte by byte. Assumes nothing.
use Rattle.std.proofs.Common.{ℕ, ◌-◌, ◌^◌, ap, ◌∙◌}
use lib.Bits.{bit_and, bit_or}
use Rattle.hash_parts.specs.ZeroBytes.{zero_marks, zero_bytes}
use Rattle.hash_parts.proofs.ZeroBytes.{lo, hi, test_right, no_wrap}
use Rattle.hash_parts.proofs.zero_bytes.zero_byte_high_bits.Goals as goal

pub returns : goal.returns
unfolding zero_marks zero_bytes
returns c =
    let v = c.args.value in
    ap (λ (x : ℕ). bit_and ((2 ^ 64 - 1) - bit_or (bit_or x v) (lo 8)) (hi 8)) (no_wrap v)
    ∙ test_right 8 v c.ranges.value.fits
