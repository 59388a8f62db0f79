-- Worked trials, as one table of tests on the definitions that the contracts cite; worked values of long durations.
-- Assumes nothing.
use Rattle.std.specs.Prelude.{Some}
use mathlib.Core.Path.{◌≡◌}
use mathlib.Core.Bool.{Bool, true, false, cond, not, ◌&&◌}
use mathlib.Core.List.{List, [], ◌∷◌}
use Prim.Native.Nat.{ℕ, ◌+◌, ◌-◌, ◌^◌, ◌<◌}
use native.Mathlib.Omega.{arith}
use borrow.Author.Tests.{le-ltb}
use lib.Dec.{T, eqb}
use Rattle.hash_parts.specs.Duration.{encoded_expiry, deadline_at, lives_at, nanos_of, nanos_words}
use Rattle.hash_parts.specs.Hash.{tag_of, first_bucket, control_tag, secondary_tag, mixed_hash, rotated}
use Rattle.hash_parts.specs.Outcome.{Outcome}
use Rattle.hash_parts.specs.ZeroBytes.{zero_marks, zero_bytes, marks, bytes_of}
use Rattle.hash_parts.specs.declared.setting.SegmentExpiry.TheVariants.{Relative16}
use Rattle.index.specs.Filter.{bit_past, filter_word, filter_mask}
use Rattle.index.specs.Packed.{control_byte, reference_bytes}
use Rattle.index.specs.Word.{word_of}
use Rattle.index.proofs.Filters.{filter_zero, mask_zero}
use Rattle.index.proofs.PackedReads.{tags_alike}
use Rattle.records.specs.Area.{same_bytes}
use Rattle.records.specs.Uleb128.{uleb128, uleb_in}

abbrev all : List Bool → Bool
all [] = true
all (b ∷ bs) = cond b (all bs) false

-- the outcome has this number and this value
abbrev gives : Outcome → ℕ → ℕ → Bool
gives o number value = eqb o.number number && eqb o.value value

-- the deadline of a lifetime in a build, with ticks of one second
abbrev of_lifetime : ℕ → ℕ → Outcome
of_lifetime secs nanos = encoded_expiry (Relative16 record { secs = 1; nanos = 0 }) (Some record { secs = secs; nanos = nanos }) 0

pub p_trials : T
    (all
    (same_bytes (uleb128 127) (0x7f ∷ [])
    ∷ same_bytes (uleb128 128) (0x80 ∷ 0x01 ∷ [])
    ∷ same_bytes (uleb128 16383) (0xff ∷ 0x7f ∷ [])
    ∷ same_bytes (uleb128 16384) (0x80 ∷ 0x80 ∷ 0x01 ∷ [])
    ∷ eqb (first_bucket (2 ^ 63) 3) 1
    ∷ eqb (first_bucket (2 ^ 64 - 1) 3) 2
    ∷ eqb (tag_of (2 ^ 64 - 1)) 0x7fffff
    ∷ eqb (control_tag 0x7fffff) 1
    ∷ eqb (secondary_tag 0x7fffff) 0xffff
    ∷ eqb (tag_of 0x0000fe0000000000) 127
    ∷ eqb (control_tag 127) 1
    ∷ eqb (secondary_tag 127) 0
    ∷ eqb (control_tag (tag_of 0)) (control_tag 127)
    ∷ eqb (secondary_tag (tag_of 0)) (secondary_tag 127)
    ∷ eqb (zero_marks 0x0100) 0x8080808080800080
    ∷ eqb (filter_word 1 0) 0
    ∷ eqb (filter_mask 0) 7
    ∷ gives (of_lifetime 65534 0) 0 65534
    ∷ gives (of_lifetime 65534 1) 6 0
    ∷ gives (of_lifetime 0 0) 0 0
    ∷ not (lives_at 0 0)
    ∷ []))
unfolding uleb128 uleb_in same_bytes first_bucket zero_marks zero_bytes marks bytes_of encoded_expiry deadline_at lives_at filter_word filter_mask bit_past mixed_hash rotated
p_trials = tt

-- the two words of a duration's nanoseconds, as they go to C
abbrev in_words : ℕ → ℕ → ℕ → ℕ → Bool
in_words secs nanos high low =
    let words = nanos_words (nanos_of record { secs = secs; nanos = nanos }) in
    eqb words.high high && eqb words.low low

pub words_worked : T
    (all
    (in_words 1 0 0 1000000000
    ∷ in_words 18446744073 709551615 0 (2 ^ 64 - 1)
    ∷ in_words 18446744073 709551616 1 0
    ∷ in_words 18446744074 0 1 290448384
    ∷ in_words (2 ^ 64 - 1) 999999999 999999999 (2 ^ 64 - 1)
    ∷ in_words (2 ^ 64 - 1) (2 ^ 32 - 1) 1000000000 3294967295
    ∷ []))
words_worked = tt

-- deadlines with a tick of 2^64 nanoseconds
abbrev by_long_tick : ℕ → ℕ → ℕ → Outcome
by_long_tick secs nanos base = encoded_expiry (Relative16 record { secs = 18446744073; nanos = 709551616 }) (Some record { secs = secs; nanos = nanos }) base

pub long_ticks : T
    (all
    (gives (by_long_tick 0 0 0) 0 0
    ∷ gives (by_long_tick 0 1 0) 0 1
    ∷ gives (by_long_tick 18446744073 709551616 0) 0 1
    ∷ gives (by_long_tick 18446744073 709551617 0) 0 2
    ∷ gives (by_long_tick 1208888926126481 755602944 0) 0 65534
    ∷ gives (by_long_tick 1208888926126481 755602945 0) 6 0
    ∷ gives (by_long_tick 1208888926126481 755602944 1) 6 0
    ∷ []))
unfolding encoded_expiry deadline_at
long_ticks = tt

-- "lapsed from tick 0": a record with deadline 0 lives at no tick whatever
pub lapsed_from_start : (tick : ℕ) → lives_at 0 tick ≡ false
unfolding lives_at
lapsed_from_start tick = le-ltb tick 0 (omega arith)

-- "Filter, hash 0: word 0, mask 7", whatever the number of words
pub filter_of_zero : (words : ℕ) → (filter_word words 0 ≡ 0) × (filter_mask 0 ≡ 7)
filter_of_zero words = (filter_zero words, mask_zero)

-- "in the packed index alike with hash 0": the tags 127 and 0 are kept alike, at every location
pub kept_alike : (location : ℕ) → location + 1 < 2 ^ 40 → (reference_bytes (word_of 127 location) ≡ reference_bytes (word_of 0 location))
    × (control_byte (word_of 127 location) ≡ control_byte (word_of 0 location))
kept_alike location h = tags_alike location h
