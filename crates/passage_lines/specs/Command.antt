-- What a line says: "In: `open` records occupancy layout filter-bits tick-length; `put` hash key value
-- lifetime; `close` target; `get` hash key tick. [..] A line of another form, over 8,192 bytes, with a number past its width [..] prints `bad`."
-- Assumes nothing.
use Rattle.std.specs.Prelude.{ℕ, Bool, cond, Option, Some, None, List, [], ◌∷◌, ltb, length, bytes_eq, codes}
use Rattle.hash_parts.specs.declared.setting.SegmentCacheConfig.{SegmentCacheConfig}
use Rattle.hash_parts.specs.declared.setting.SegmentExpiry.{SegmentExpiry}
use Rattle.passage_lines.specs.Fields.{Field, fields_of, decimal, hash, bytes, layout, tick_length, lifetime}
use Rattle.passage_lines.specs.declared.command.Command.{Command}
use Rattle.passage_lines.specs.declared.command.Command.TheVariants.{Open, Put, Close, Get, Bad}

-- ---- forms

abbrev pub given : {A : Type 0} → Option A → (A → Command) → Command
given None f = Bad
given (Some v) f = f v

-- a field of a kind, and then the form that its value asks for
unfoldable pub next : {A : Type 0} → (Field → Option A) → (A → List Field → Command) → List Field → Command
next kind form [] = Bad
next kind form (f ∷ fs) = given (kind f) (λ v. form v fs)

-- no field more
unfoldable pub done : Command → List Field → Command
done c [] = c
done c (f ∷ fs) = Bad

abbrev pub setting : SegmentExpiry → ℕ → Bool → ℕ → SegmentCacheConfig
setting expiry occupancy packed filter =
    record { expiry = expiry; target_occupied_slots = occupancy; packed_bucket_index = packed; negative_filter_bits_per_entry = filter }

-- "occupancy layout filter-bits tick-length"
unfoldable pub setting_form : ℕ → List Field → Command
setting_form records =
    next (decimal 8) λ occupancy. next layout λ packed. next (decimal 8) λ filter. next tick_length λ expiry. done (Open records (setting expiry occupancy packed filter))

-- "`open` records occupancy layout filter-bits tick-length"
unfoldable pub open_form : List Field → Command
open_form = next (decimal 64) setting_form

-- "`put` hash key value lifetime"
unfoldable pub put_form : List Field → Command
put_form = next hash λ h. next bytes λ key. next bytes λ value. next lifetime λ ttl. done (Put h key value ttl)

-- "`close` target"
unfoldable pub close_form : List Field → Command
close_form = next (decimal 64) λ target. done (Close target)

-- "`get` hash key tick"
unfoldable pub get_form : List Field → Command
get_form = next hash λ h. next bytes λ key. next (decimal 64) λ tick. done (Get h key tick)

-- the form that a word asks for
unfoldable pub word_form : List ℕ → List Field → Command
word_form word fields =
    cond (bytes_eq word (codes "open")) (open_form fields)
    (cond (bytes_eq word (codes "put")) (put_form fields)
    (cond (bytes_eq word (codes "close")) (close_form fields)
    (cond (bytes_eq word (codes "get")) (get_form fields) Bad)))

abbrev pub command_in : List Field → Command
command_in [] = Bad
command_in (word ∷ fields) = word_form word.text fields

-- the command of a line
unfoldable pub command_of : List ℕ → Command
command_of line = cond (ltb 8192 (length line)) Bad (command_in (fields_of line))
