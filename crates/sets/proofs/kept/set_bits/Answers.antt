-- `set_bits` meets its contract: the ones of the lowest bits are their count of set bits. Assumes nothing.
use Rattle.std.proofs.Common.{◌≡◌, ℕ, ◌*◌, ◌%◌, ◌^◌, ◌≤◌, ap, ◌∙◌, mod-lt, arith, pow_pos}
use lib.Count.{ones, ones-le}
use Rattle.index.proofs.Filters.{one_shl}
use Rattle.sets.proofs.KeptWords.{bits_ones}
use Rattle.sets.proofs.kept.set_bits.Goals as goal

-- the lowest bits of a word, so many, as the code takes them
lowest : (n w : ℕ) → n ≤ 63 → w % (1 * 2 ^ n % 2 ^ 64) ≡ w % 2 ^ n
lowest n w h = ap (λ (x : ℕ). w % x) (one_shl n (omega arith))

pub nonzero_rem-result : goal.nonzero_rem-result
nonzero_rem-result c = omega (arith, one_shl c.args.count (omega arith), pow_pos c.args.count)

pub overflow_cast-result : goal.overflow_cast-result
overflow_cast-result c =
    let a = c.args in
    rw (lowest a.count a.word c.requires) (omega (arith, ones-le a.count (a.word % 2 ^ a.count) (mod-lt a.word (pow_pos a.count))))

pub returns : goal.returns
returns c = ap ones (lowest c.args.count c.args.word c.requires) ∙ bits_ones c.args.count c.args.word
