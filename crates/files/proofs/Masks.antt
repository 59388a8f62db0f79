-- Words of which a mask clears bits, as numbers and by their bytes. Assumes nothing.
use mathlib.Core.Path.{◌≡◌, sym, ap, ap₂, ◌∙◌}
use mathlib.Core.List.{map}
use Prim.Native.Nat.{ℕ, zero, suc, ◌+◌, ◌*◌, ◌/◌, ◌%◌, ◌^◌}
use native.Mathlib.Nat.{div-add-mod'}
use native.Mathlib.Omega.{arith}
use lib.Bits.{bit_and, and_block, and_mask, and_zero_r}
use lib.Dec.{lit<}
use Rattle.hash_parts.specs.ZeroBytes.{bytes_of, number_of}
use Rattle.index.specs.Packed.{unmarked_byte}
use Rattle.index.specs.Word.{unmarked}
use Rattle.files.specs.Copies.{masked_by}

pub word_masked : (w : ℕ) → masked_by 0x7fff_ffff_ffff_ffff w ≡ unmarked w
word_masked w = and_mask w 63

pub whole_masked : (w : ℕ) → masked_by 0xffff_ffff_ffff_ffff w ≡ w % 2 ^ 64
whole_masked w = and_mask w 64

-- so many bytes of 0x7f
abbrev sevens : ℕ → ℕ
sevens zero = 0
sevens (suc k) = sevens k * 256 + 127

by_bytes : (k w : ℕ) → bit_and w (sevens k) ≡ number_of (map unmarked_byte (bytes_of k w))
unfolding bytes_of number_of
by_bytes zero w = and_zero_r w
by_bytes (suc k) w =
    let a : ℕ = w / 256 in
    let r : ℕ = w % 256 in
    ap (λ (x : ℕ). bit_and x (sevens k * 256 + 127)) (sym (div-add-mod' w 256))
    ∙ and_block 8 a (sevens k) r 127 (omega arith) (lit< tt)
    ∙ ap₂ (λ (x y : ℕ). x * 256 + y) (by_bytes k a) (and_mask r 7)
    ∙ omega arith

-- the marks of control bytes
pub control_masked : (w : ℕ) → masked_by 0x7f7f_7f7f_7f7f_7f7f w ≡ number_of (map unmarked_byte (bytes_of 8 w))
control_masked w = by_bytes 8 w
