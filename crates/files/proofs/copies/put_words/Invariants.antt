-- What each turn of the loop keeps.
use mathlib.Core.List.{List, map}
use Prim.Native.Nat.{ℕ, ◌*◌}
use lib.ListN.{drop}
use Rattle.records.proofs.Area.{Writing}
use Rattle.index.specs.Packed.{word_bytes}
use Rattle.files.specs.Copies.{masked_by}
use Rattle.files.proofs.copies.put_words.Given as goal

-- the bytes of some words, masked
abbrev pub bytes : ℕ → List ℕ → List ℕ
bytes mask words = word_bytes (map (masked_by mask) words)

abbrev pub invariant-loop-i : goal.invariant-loop-i
invariant-loop-i l = Writing (bytes l.mask l.words) (bytes l.mask (drop l.i l.words)) l.initial.out l.out (8 * l.i)
