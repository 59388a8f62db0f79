-- The kinds of a field as text: "Layout is `packed` or `words`; tick length may be `none`, lifetime `never`.
-- Hash, key and value hexadecimal in small letters, `-` for no bytes, else decimal; a duration has nine digits after its point."
-- A number past its width, or a text of another form, is `None`.
-- Assumes nothing.
use Rattle.std.specs.Prelude.{ℕ, ◌+◌, ◌*◌, ◌-◌, ◌^◌, Bool, true, false, cond, Option, Some, None, List, [], ◌∷◌, eqb, leb, ltb, length, take, drop, get_or, bytes_eq, codes}
use Rattle.hash_parts.specs.declared.duration.Duration.{Duration}
use Rattle.hash_parts.specs.declared.setting.SegmentExpiry.{SegmentExpiry}
use Rattle.hash_parts.specs.declared.setting.SegmentExpiry.TheVariants as expiry

-- the value of a digit, `0` to `9` (48 to 57) and `a` to `f` (97 to 102); 16, which no base here has, for any other character
unfoldable pub digit_of : ℕ → ℕ
digit_of c = cond (ltb c 48) 16 (cond (leb c 57) (c - 48) (cond (ltb c 97) 16 (cond (leb c 102) (c - 87) 16)))

-- a character as a digit of a base of at most 16
unfoldable pub digit_in : ℕ → ℕ → Option ℕ
digit_in base c = cond (ltb (digit_of c) base) (Some (digit_of c)) None

-- the number that digits of n and then a text spell
unfoldable pub spelled : ℕ → ℕ → List ℕ → Option ℕ
spelled base n [] = Some n
spelled base n (c ∷ s) = cond (ltb (digit_of c) base) (spelled base (n * base + digit_of c) s) None

abbrev pub at_most : ℕ → Option ℕ → Option ℕ
at_most max None = None
at_most max (Some n) = cond (leb n max) (Some n) None

-- the number that one digit or more spell, where it is at most max
unfoldable pub number_in : ℕ → ℕ → List ℕ → Option ℕ
number_in base max [] = None
number_in base max (c ∷ s) = at_most max (spelled base 0 (c ∷ s))

-- ---- durations

abbrev pub timed : Option ℕ → Option ℕ → Option Duration
timed None nanos = None
timed (Some secs) None = None
timed (Some secs) (Some nanos) = Some (record { secs = secs; nanos = nanos })

-- "a duration has nine digits after its point" (46): seconds of 64 bits before it, nanoseconds after it
unfoldable pub duration_of : List ℕ → Option Duration
duration_of text =
    cond (ltb (length text) 11) None
    (cond (eqb (get_or text (length text - 10) 0) 46)
    (timed (number_in 10 (2 ^ 64 - 1) (take (length text - 10) text)) (number_in 10 999_999_999 (drop (length text - 9) text)))
    None)

-- ---- layout, tick length and lifetime

-- "Layout is `packed` or `words`": whether it is packed
unfoldable pub layout_of : List ℕ → Option Bool
layout_of text = cond (bytes_eq text (codes "packed")) (Some true) (cond (bytes_eq text (codes "words")) (Some false) None)

abbrev pub ticks_of : Option Duration → Option SegmentExpiry
ticks_of None = None
ticks_of (Some tick) = Some (expiry.Relative16 tick)

-- "tick length may be `none`"
unfoldable pub tick_length_of : List ℕ → Option SegmentExpiry
tick_length_of text = cond (bytes_eq text (codes "none")) (Some expiry.None) (ticks_of (duration_of text))

abbrev pub ending_after : Option Duration → Option (Option Duration)
ending_after None = None
ending_after (Some d) = Some (Some d)

-- "lifetime `never`", which is `Some None`: a lifetime without end
unfoldable pub lifetime_of : List ℕ → Option (Option Duration)
lifetime_of text = cond (bytes_eq text (codes "never")) (Some None) (ending_after (duration_of text))
