-- Laws of durations, deadlines and the time that is left. Assumes nothing.
use Rattle.std.proofs.Common.{◌≡◌, ℕ, ◌+◌, ◌-◌, ◌*◌, ◌/◌, ◌%◌, ◌^◌, ◌<◌, ◌≤◌, min, sym, ap, ◌∙◌, arith, lit<}
use Rattle.std.proofs.Common.{add-mul, one-mul, mul-one, mul-zero, mul-add, mul_comm, suc-mul, le-div_iff_mul-le, mul_right_comm, div-add-mod'}
use native.Mathlib.Decide.{dec_le}
use Rattle.std.proofs.lemmas.Grind.{div_ceil_times}
use native.Mathlib.Nat.{div-eq_of_lt-le, div-eq_of_lt, mul-add-div_right, mul-add-mod_self_right}
use Rattle.hash_parts.specs.declared.duration.Duration.{Duration}
use Rattle.hash_parts.specs.Duration.{Nanoseconds, nanos_of, nanos_words, nanos_in, ceil_div}

-- the words of a number hold that number
pub words_number : {words : Nanoseconds} (n : ℕ) → words ≡ nanos_words n → nanos_in words ≡ n
unfolding nanos_in
words_number n e = ap nanos_in e ∙ div-add-mod' n (2 ^ 64)

-- no duration has more nanoseconds than 94 bits hold
pub high_small : (d : Duration) → d.secs < 2 ^ 64 → d.nanos < 2 ^ 32 → nanos_of d / 2 ^ 64 < 2 ^ 30
high_small d s n = omega arith

-- the library's quotient, rounded up
pub rounded_up : (n m : ℕ) → 0 < m → n / m + min 1 (n % m) ≡ ceil_div n m
rounded_up n m p =
    let q : ℕ = n / m + min 1 (n % m) in
    let next : (q + 1) * m ≡ q * m + m = add-mul q 1 m ∙ ap (λ (x : ℕ). q * m + x) (one-mul m) in
    let bounds = div_ceil_times n m p in
    sym (div-eq_of_lt-le m (omega (arith, bounds)) (omega (arith, bounds, next)))

-- as many ticks as cover a lifetime, where one tick less is too short
pub ceil_is : (l t short enough : ℕ) → short + 1 ≡ enough → t * short < l → l ≤ t * enough → ceil_div l t ≡ enough
ceil_is l t short enough e a b =
    let f : t * enough ≡ t * short + t = ap (λ (x : ℕ). t * x) (sym e) ∙ mul-add t short 1 ∙ ap (λ (x : ℕ). t * short + x) (mul-one t) in
    let g : (enough + 1) * t ≡ enough * t + t = add-mul enough 1 t ∙ ap (λ (x : ℕ). enough * t + x) (one-mul t) in
    div-eq_of_lt-le t (omega (arith, mul_comm enough t)) (omega (arith, mul_comm enough t))

ceil_above : (l t k : ℕ) → 0 < t → t * k < l → k < ceil_div l t
ceil_above l t k p h = (le-div_iff_mul-le p).1 (omega (arith, suc-mul k t, mul_comm t k))

-- a lifetime that is no longer than a tick
pub ticks_once : (l t : ℕ) → 0 < t → l ≤ t → ceil_div l t ≡ min 1 l
ticks_once l t p h = go (dec_le l 0)
  where
    go : Dec (l ≤ 0) → ceil_div l t ≡ min 1 l
    go (yes z) = let none : (l + (t - 1)) / t ≡ 0 = div-eq_of_lt (omega arith) in omega arith
    go (no q) = omega (arith, ceil_is l t 0 1 (omega arith) (rw (mul-zero t) (omega arith)) (rw (mul-one t) h))

-- where a search ends: short is too few, and enough covers or is past the limit
pub search_ends : (l t short enough limit : ℕ) → 0 < t → t * short < l → (enough ≤ limit → l ≤ t * enough) → short < enough → enough ≤ short + 1 → enough ≤ limit + 1
    → enough ≡ min (ceil_div l t) (limit + 1)
search_ends l t short enough limit p a b c d h = go (dec_le enough limit)
  where
    go : Dec (enough ≤ limit) → enough ≡ min (ceil_div l t) (limit + 1)
    go (yes y) = omega (arith, ceil_is l t short enough (omega arith) a (b y))
    go (no q) = omega (arith, ceil_above l t short p a)

-- so many times a duration: its nanoseconds carry into the seconds
module _ (d : Duration) (m : ℕ) where
  scaled : nanos_of d * m ≡ d.secs * m * 1_000_000_000 + d.nanos * m
  scaled = add-mul (d.secs * 1_000_000_000) d.nanos m ∙ ap (λ (x : ℕ). x + d.nanos * m) (mul_right_comm d.secs 1_000_000_000 m)

  pub secs_are : nanos_of d * m / 1_000_000_000 ≡ d.secs * m + d.nanos * m / 1_000_000_000
  secs_are = ap (λ (x : ℕ). x / 1_000_000_000) scaled ∙ mul-add-div_right (lit< tt) (d.secs * m) (d.nanos * m)

  pub nanos_are : nanos_of d * m % 1_000_000_000 ≡ d.nanos * m % 1_000_000_000
  nanos_are = ap (λ (x : ℕ). x % 1_000_000_000) scaled ∙ mul-add-mod_self_right (d.secs * m) 1_000_000_000 (d.nanos * m)
