-- Laws of durations in two words of 64 bits, as C is given them, and of lifetimes in ticks: what a machine without numbers of 128 bits would
-- go by. No function cites them: hash_parts has numbers of 128 bits. Assumes nothing.
use Rattle.std.proofs.Common.{◌≡◌, ℕ, ◌+◌, ◌-◌, ◌*◌, ◌/◌, ◌%◌, ◌^◌, ◌<◌, ◌≤◌, min, ltb, leb, sym, refl, ap, ◌∙◌, add-mul, mul-le-mul, mul-zero, mul-one, mul_right_comm, arith, le-ltb, lt-ltb, le-leb}
use native.Mathlib.Nat.{add-div_right, div-eq_of_lt}
use native.Mathlib.Decide.{dec_le, dec_lt}
use borrow.Author.Tests.{lt-leb}
use Rattle.hash_parts.specs.declared.duration.Duration.{Duration}
use Rattle.hash_parts.specs.declared.error.SegmentCacheBuildError.TheVariants.{ExpiryOutOfRange}
use Rattle.hash_parts.specs.Outcome.{accepted, refused}
use Rattle.hash_parts.specs.Duration.{Nanoseconds, nanos_of, nanos_in, nanos_words, ceil_div, deadline_at}
use Rattle.hash_parts.proofs.Deadlines.{ceil_is}

-- two tests that say the same
same_test : (a b c d : ℕ) → (a < b → c ≤ d) → (c ≤ d → a < b) → ltb a b ≡ leb c d
same_test a b c d f g = go (dec_lt a b)
  where
    go : Dec (a < b) → ltb a b ≡ leb c d
    go (yes p) = lt-ltb a b p ∙ sym (le-leb c d (f p))
    go (no q) =
        let x : b ≤ a = omega arith in
        let y : c ≤ d → ⊥ = λ h. q (g h) in
        le-ltb a b x ∙ sym (lt-leb c d (omega arith))

-- so many times a number in two parts, of which one counts m
scaled : (m s n k : ℕ) → (s * m + n) * k ≡ s * k * m + n * k
scaled m s n k = add-mul (s * m) n k ∙ ap (λ (x : ℕ). x + n * k) (mul_right_comm s m k)

-- how the two words come about: high and whole are the product of the seconds, and low has the nanoseconds too
pub record Summed (d : Duration) (high whole low : ℕ) : Type 0 where
  pub secs : d.secs < 2 ^ 64
  pub nanos : d.nanos < 2 ^ 32
  pub upper : high ≡ d.secs * 1_000_000_000 / 2 ^ 64
  pub lower : whole ≡ d.secs * 1_000_000_000 % 2 ^ 64
  pub sum : low ≡ (whole + d.nanos) % 2 ^ 64

module _ {d : Duration} {high whole low : ℕ} (k : Summed d high whole low) where
  pub carry_fits : high + 1 < 2 ^ 30
  carry_fits = omega arith

  pub nanos_kept : whole ≤ low → record { high = high; low = low } ≡ nanos_words (nanos_of d)
  nanos_kept c =
      let e : high ≡ nanos_of d / 2 ^ 64 = omega arith in
      let f : low ≡ nanos_of d % 2 ^ 64 = omega arith in
      rw (e, f)

  pub nanos_carried : low < whole → record { high = high + 1; low = low } ≡ nanos_words (nanos_of d)
  nanos_carried c =
      let e : high + 1 ≡ nanos_of d / 2 ^ 64 = omega arith in
      let f : low ≡ nanos_of d % 2 ^ 64 = omega arith in
      rw (e, f)

-- ---- k times two words H and L, against two words h and l
module _ (H L k : ℕ) where
  -- the product's upper word
  abbrev upper : ℕ
  upper = H * k + L * k / 2 ^ 64

  words_times : (H * 2 ^ 64 + L) * k ≡ upper * 2 ^ 64 + L * k % 2 ^ 64
  words_times = omega (arith, scaled (2 ^ 64) H L k)

  -- it stays in 64 bits
  pub upper_fits : H < 2 ^ 30 → L < 2 ^ 64 → k ≤ 65534 → (H * k ≤ 2 ^ 46) × (L * k / 2 ^ 64 ≤ 65534)
  upper_fits hh hl hk =
      let p : H * k ≤ 2 ^ 30 * 65534 = mul-le-mul {n₁ = H} {n₂ = 2 ^ 30} (omega arith) hk in
      let q : L * k ≤ 2 ^ 64 * 65534 = mul-le-mul {n₁ = L} {n₂ = 2 ^ 64} (omega arith) hk in
      (omega arith, omega arith)

  -- upper words that differ decide
  pub words_differ : (h l : ℕ) → l < 2 ^ 64 → (h ≡ upper → ⊥) → ltb h upper ≡ leb (h * 2 ^ 64 + l) ((H * 2 ^ 64 + L) * k)
  words_differ h l hl ne =
      rw words_times (same_test h upper (h * 2 ^ 64 + l) (upper * 2 ^ 64 + L * k % 2 ^ 64) (λ p. omega arith) (λ p. omega arith))

  -- where they are the same, the lower ones decide
  pub words_same : (h l : ℕ) → h ≡ upper → leb l (L * k % 2 ^ 64) ≡ leb (h * 2 ^ 64 + l) ((H * 2 ^ 64 + L) * k)
  words_same h l e = rw words_times (go (dec_le l (L * k % 2 ^ 64)))
    where
      go : Dec (l ≤ L * k % 2 ^ 64) → leb l (L * k % 2 ^ 64) ≡ leb (h * 2 ^ 64 + l) (upper * 2 ^ 64 + L * k % 2 ^ 64)
      go (yes p) =
          let x : h * 2 ^ 64 + l ≤ upper * 2 ^ 64 + L * k % 2 ^ 64 = omega arith in
          le-leb l (L * k % 2 ^ 64) p ∙ sym (le-leb _ _ x)
      go (no q) =
          let x : upper * 2 ^ 64 + L * k % 2 ^ 64 < h * 2 ^ 64 + l = omega arith in
          lt-leb l (L * k % 2 ^ 64) (omega arith) ∙ sym (lt-leb _ _ x)

-- ---- a lifetime of one word in ticks: none, one, or by division
nanos_one : (n : Nanoseconds) → n.high ≤ 0 → nanos_in n ≡ n.low
unfolding nanos_in
nanos_one n h = omega arith

nanos_two : (n : Nanoseconds) → 0 < n.high → 2 ^ 64 ≤ nanos_in n
unfolding nanos_in
nanos_two n h = omega arith

pub some_low : (n : Nanoseconds) → 0 < nanos_in n → n.high ≤ 0 → 0 < n.low
some_low n p h = omega (arith, nanos_one n h)

module _ (lifetime tick : Nanoseconds) (one : lifetime.high ≤ 0) (pos : 0 < nanos_in tick) where
  pub ticks_none : lifetime.low ≡ 0 → ceil_div (nanos_in lifetime) (nanos_in tick) ≡ 0
  ticks_none z = rw (nanos_one lifetime one, z) (div-eq_of_lt (omega arith))

  pub ticks_once : 0 < lifetime.low → lifetime.low < 2 ^ 64 → 0 < tick.high → ceil_div (nanos_in lifetime) (nanos_in tick) ≡ 1
  ticks_once p f h =
      ceil_is (nanos_in lifetime) (nanos_in tick) 0 1 refl
      (rw (mul-zero (nanos_in tick)) (omega (arith, nanos_one lifetime one)))
      (rw (mul-one (nanos_in tick)) (omega (arith, nanos_one lifetime one, nanos_two tick h)))

  pub ticks_divided : 0 < lifetime.low → tick.high ≤ 0 → ceil_div (nanos_in lifetime) (nanos_in tick) ≡ (lifetime.low - 1) / tick.low + 1
  ticks_divided p h =
      let q : 0 < tick.low = some_low tick pos h in
      let e : lifetime.low + (tick.low - 1) ≡ lifetime.low - 1 + tick.low = omega arith in
      rw (nanos_one lifetime one, nanos_one tick h, e) (add-div_right (lifetime.low - 1) q)

-- ---- the deadline of so many ticks
pub deadline_in_law : (base l t ticks : ℕ) → base ≤ 65534 → ticks ≡ min (ceil_div l t) (65534 - base + 1) → ticks ≤ 65534 - base → accepted (base + ticks) ≡ deadline_at base l t
unfolding deadline_at
deadline_in_law base l t ticks h e i =
    let f : ceil_div l t ≡ ticks = omega arith in
    rw f (simp (le-leb (base + ticks) 65534 (omega arith)))

pub deadline_out : (base l t : ℕ) → 65534 < base + ceil_div l t → refused ExpiryOutOfRange ≡ deadline_at base l t
unfolding deadline_at
deadline_out base l t h = simp (lt-leb (base + ceil_div l t) 65534 h)
