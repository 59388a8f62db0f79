-- The zero-byte test, byte by byte. Assumes nothing.
use Rattle.std.proofs.Common.{◌≡◌, ℕ, zero, suc, ◌+◌, ◌-◌, ◌*◌, ◌/◌, ◌%◌, ◌^◌, ◌<◌, ◌≤◌, cond, eqb, map, sym, ap, ◌∙◌, subst, div-add-mod', mul-suc, arith, lit<, eqb→eq, pow-add, shr_lt}
use lib.Bits.{bit_and, bit_or, and_block, or_block, or_lt, and_le_r, and_zero_r}
use Rattle.hash_parts.specs.ZeroBytes.{bytes_of, is_zero, marks}
use Rattle.hash_parts.proofs.Table.{at}

-- k bytes of 0x7f, and of 0x80
abbrev pub lo : ℕ → ℕ
lo zero = 0
lo (suc k) = lo k * 256 + 127

abbrev pub hi : ℕ → ℕ
hi zero = 0
hi (suc k) = hi k * 256 + 128

pow_next : (k : ℕ) → 2 ^ (8 * suc k) ≡ 2 ^ (8 * k) * 256
pow_next k = ap (λ (x : ℕ). 2 ^ x) (mul-suc 8 k) ∙ pow-add 2 (8 * k) 8

lo_small : (k : ℕ) → lo k * 2 + 1 ≤ 2 ^ (8 * k)
lo_small zero = omega arith
lo_small (suc k) = omega (arith, lo_small k, pow_next k)

-- the test on one byte
abbrev byte : ℕ → ℕ
byte r = bit_and (255 - bit_or (bit_or (bit_and r 127 + 127) r) 127) 128

byte_right : (r : ℕ) → r < 256 → byte r ≡ cond (is_zero r) 0x80 0
byte_right r h = eqb→eq (byte r) (cond (is_zero r) 0x80 0) (at (λ (x : ℕ). eqb (byte x) (cond (is_zero x) 0x80 0)) 256 tt r h)

-- the test on k bytes
abbrev pub test : ℕ → ℕ → ℕ
test k v = bit_and ((2 ^ (8 * k) - 1) - bit_or (bit_or (bit_and v (lo k) + lo k) v) (lo k)) (hi k)

step : (k a r : ℕ) → a < 2 ^ (8 * k) → r < 256 → test (suc k) (a * 256 + r) ≡ test k a * 256 + byte r
step k a r ha hr =
    let X : ℕ = bit_and a (lo k) in
    let s : ℕ = bit_and r 127 in
    let Y : ℕ = bit_or (bit_or (X + lo k) a) (lo k) in
    let t : ℕ = bit_or (bit_or (s + 127) r) 127 in
    let hs : s ≤ 127 = and_le_r r 127 in
    let h_x : X ≤ lo k = and_le_r a (lo k) in
    let hl : lo k * 2 + 1 ≤ 2 ^ (8 * k) = lo_small k in
    let hu : bit_or (s + 127) r < 256 = or_lt 8 (s + 127) r (omega arith) hr in
    let ht : t < 256 = or_lt 8 (bit_or (s + 127) r) 127 hu (lit< tt) in
    let h_y : Y < 2 ^ (8 * k) = or_lt (8 * k) (bit_or (X + lo k) a) (lo k) (or_lt (8 * k) (X + lo k) a (omega arith) ha) (omega arith) in
    let e₁ : bit_and (a * 256 + r) (lo k * 256 + 127) ≡ X * 256 + s = and_block 8 a (lo k) r 127 hr (lit< tt) in
    let e₂ : (X * 256 + s) + (lo k * 256 + 127) ≡ (X + lo k) * 256 + (s + 127) = omega arith in
    let e₃ : bit_or ((X + lo k) * 256 + (s + 127)) (a * 256 + r) ≡ bit_or (X + lo k) a * 256 + bit_or (s + 127) r = or_block 8 (X + lo k) a (s + 127) r (omega arith) hr in
    let e₄ : bit_or (bit_or (X + lo k) a * 256 + bit_or (s + 127) r) (lo k * 256 + 127) ≡ Y * 256 + t = or_block 8 (bit_or (X + lo k) a) (lo k) (bit_or (s + 127) r) 127 hu (lit< tt) in
    let e₅ : (2 ^ (8 * suc k) - 1) - (Y * 256 + t) ≡ ((2 ^ (8 * k) - 1) - Y) * 256 + (255 - t) = omega (arith, pow_next k) in
    ap (λ (x : ℕ). bit_and ((2 ^ (8 * suc k) - 1) - bit_or (bit_or (x + lo (suc k)) (a * 256 + r)) (lo (suc k))) (hi (suc k))) e₁
    ∙ ap (λ (x : ℕ). bit_and ((2 ^ (8 * suc k) - 1) - bit_or (bit_or x (a * 256 + r)) (lo (suc k))) (hi (suc k))) e₂
    ∙ ap (λ (x : ℕ). bit_and ((2 ^ (8 * suc k) - 1) - bit_or x (lo (suc k))) (hi (suc k))) e₃
    ∙ ap (λ (x : ℕ). bit_and ((2 ^ (8 * suc k) - 1) - x) (hi (suc k))) e₄
    ∙ ap (λ (x : ℕ). bit_and x (hi (suc k))) e₅
    ∙ and_block 8 ((2 ^ (8 * k) - 1) - Y) (hi k) (255 - t) 128 (omega arith) (lit< tt)

pub test_right : (k v : ℕ) → v < 2 ^ (8 * k) → test k v ≡ marks (map is_zero (bytes_of k v))
unfolding bytes_of marks
test_right zero v h = and_zero_r ((2 ^ (8 * 0) - 1) - bit_or (bit_or (bit_and v 0 + 0) v) 0)
test_right (suc k) v h =
    let hr : v % 256 < 256 = omega arith in
    let ha : v / 256 < 2 ^ (8 * k) = shr_lt (8 * k) 8 (subst (λ (x : ℕ). v < 2 ^ x) (mul-suc 8 k) h) in
    ap (test (suc k)) (sym (div-add-mod' v 256))
    ∙ step k (v / 256) (v % 256) ha hr
    ∙ ap (λ (x : ℕ). x * 256 + byte (v % 256)) (test_right k (v / 256) ha)
    ∙ ap (λ (x : ℕ). marks (map is_zero (bytes_of k (v / 256))) * 256 + x) (byte_right (v % 256) hr)

-- the sum does not wrap
pub no_wrap : (v : ℕ) → (bit_and v (lo 8) + lo 8) % 2 ^ 64 ≡ bit_and v (lo 8) + lo 8
no_wrap v = omega (arith, and_le_r v (lo 8))
