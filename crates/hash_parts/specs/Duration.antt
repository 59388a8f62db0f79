-- Durations as numbers of nanoseconds, deadlines, and the time that is left.
-- Assumes nothing.
use Rattle.std.specs.Prelude.{ℕ, ◌+◌, ◌-◌, ◌*◌, ◌/◌, ◌%◌, ◌^◌, Bool, true, cond, ◌==◌, nat_le, nat_lt, Option, Some, None, option_map}
use Rattle.hash_parts.specs.declared.duration.Duration.{Duration}
use Rattle.hash_parts.specs.declared.duration.SegmentRemainingTtl.{SegmentRemainingTtl}
use Rattle.hash_parts.specs.declared.duration.SegmentRemainingTtl.TheVariants.{Never, Finite}
use Rattle.hash_parts.specs.declared.error.SegmentCacheBuildError.TheVariants.{ZeroExpiryTick, ExpiryDisabled, ExpiryOutOfRange}
use Rattle.hash_parts.specs.declared.setting.SegmentExpiry.{SegmentExpiry}
use Rattle.hash_parts.specs.declared.setting.SegmentExpiry.TheVariants as setting
use Rattle.hash_parts.specs.Outcome.{Outcome, accepted, refused}

-- "A duration is whole seconds (64 bits) and nanoseconds". Nanoseconds of a second or more count with their value.
abbrev pub nanos_of : Duration → ℕ
nanos_of d = d.secs * 1_000_000_000 + d.nanos

-- "its nanoseconds in two 64-bit words", as the number goes to C
pub record Nanoseconds : Type 0 where
  pub high : ℕ
  pub low : ℕ

abbrev pub nanos_words : ℕ → Nanoseconds
nanos_words n = record { high = n / 2 ^ 64; low = n % 2 ^ 64 }

-- the number in two such words
unfoldable pub nanos_in : Nanoseconds → ℕ
nanos_in n = n.high * 2 ^ 64 + n.low

-- n divided by m, rounded up
abbrev pub ceil_div : ℕ → ℕ → ℕ
ceil_div n m = (n + (m - 1)) / m

-- "Deadline: base tick plus lifetime divided by tick length, rounded up"; "Deadline at most 65,534? 6."
unfoldable pub deadline_at : ℕ → ℕ → ℕ → Outcome
deadline_at base lifetime tick =
    cond (nat_le (base + ceil_div lifetime tick) 65534) (accepted (base + ceil_div lifetime tick)) (refused ExpiryOutOfRange)

-- "No lifetime is 65,535, never."
abbrev pub never_expires : ℕ
never_expires = 65535

-- "No lifetime where expiry is off? 5." A tick of no length is refused as in the Rust; a set with such a tick is refused before.
unfoldable pub encoded_expiry : SegmentExpiry → Option Duration → ℕ → Outcome
encoded_expiry e None base = accepted never_expires
encoded_expiry setting.None (Some lifetime) base = refused ExpiryDisabled
encoded_expiry (setting.Relative16 tick) (Some lifetime) base =
    cond (nanos_of tick == 0) (refused ZeroExpiryTick) (deadline_at base (nanos_of lifetime) (nanos_of tick))

-- a record lives before its deadline, and always where it never expires
unfoldable pub lives_at : ℕ → ℕ → Bool
lives_at deadline tick = cond (deadline == never_expires) true (nat_lt tick deadline)

-- so many times a duration; "None also stands where the product passes the largest duration."
unfoldable pub product : Duration → ℕ → Option Duration
product d times =
    cond (nat_lt (nanos_of d * times / 1_000_000_000) (2 ^ 64))
    (Some record { secs = nanos_of d * times / 1_000_000_000; nanos = nanos_of d * times % 1_000_000_000 })
    None

-- so many ticks as a duration
abbrev pub ticks_left : SegmentExpiry → ℕ → Option SegmentRemainingTtl
ticks_left setting.None n = Some Never
ticks_left (setting.Relative16 tick) n = option_map Finite (product tick n)

-- "the remaining time: never, a duration, or none"
unfoldable pub remaining : SegmentExpiry → ℕ → ℕ → Option SegmentRemainingTtl
remaining e deadline tick = cond (deadline == never_expires) (Some Never) (cond (nat_le deadline tick) None (ticks_left e (deadline - tick)))
