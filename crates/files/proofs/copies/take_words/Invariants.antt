-- What each turn of the loop keeps.
use mathlib.Core.Path.{◌≡◌}
use mathlib.Core.List.{List, map}
use Prim.Native.Nat.{ℕ, ◌-◌, ◌*◌, ◌^◌}
use lib.ListN.{length, drop}
use Rattle.records.proofs.Area.{Writing}
use Rattle.index.specs.Packed.{words_of}
use Rattle.files.specs.Copies.{masked_by}
use Rattle.files.proofs.copies.take_words.Given as goal

-- so many words from a word on
abbrev pub from : List ℕ → ℕ → ℕ → List ℕ
from bytes n i = words_of (n - i) (drop (8 * i) bytes)

-- words of 64 bits
abbrev pub Fitting : List ℕ → Type 0
Fitting l = map (masked_by (2 ^ 64 - 1)) l ≡ l

abbrev pub invariant-loop-i : goal.invariant-loop-i
invariant-loop-i l =
    Writing (map (masked_by l.mask) (words_of (length l.initial.words) l.bytes)) (map (masked_by l.mask) (from l.bytes (length l.initial.words) l.i)) l.initial.words l.words l.i
    × (Fitting (from l.bytes (length l.initial.words) l.i) → Fitting (words_of (length l.initial.words) l.bytes))
