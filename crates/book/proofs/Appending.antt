-- A record appended to the tape, and a set that joins the others: what both keep of the relation of world and book. Assumes nothing.
use mathlib.Core.Path.{◌≡◌, refl, sym, ap, ◌∙◌}
use mathlib.Core.List.{List, [], ◌∷◌, ◌++◌, append_assoc}
use mathlib.Mathlib.Data.List.Forall2.Forall₂
use Prim.Native.Nat.{ℕ, ◌+◌, ◌≤◌}
use native.Mathlib.Omega.{arith}
use lib.ListN.{length, take, drop, length-append}
use lib.Seq.{take_at, take-take, take-append-le, length-take-le}
use Rattle.records.specs.Area.{pasted, over}
use Rattle.records.specs.Record.{record_bytes}
use Rattle.sets.proofs.Closure.{pasted_length}
use Rattle.book.specs.Book.{Book, joined, closed, filled_in}
use Rattle.book.specs.Calls.{newest}
use Rattle.book.specs.World.{Current, idle, FinishedSet, World}
use Rattle.book.proofs.Asking.{set_arena}
use Rattle.book.proofs.Pairs.{pairs_snoc, newest_snoc}
use Rattle.book.proofs.Relation.{SetHolds, CurrentHolds, is_idle, Holds}

-- ---- bytes

-- what is written past a position leaves what stands before it
take_pasted : (at n : ℕ) (bytes arena : List ℕ) → n ≤ at → at ≤ length arena → take n (pasted at bytes arena) ≡ take n arena
take_pasted at n bytes arena h l =
    let len : length (take at arena) ≡ at = length-take-le at arena l in
    take-append-le n (take at arena) (over bytes (drop at arena)) (omega arith) ∙ take-take n at arena h

-- bytes written after the tape are appended to it
appended_memory : (arena tape bytes : List ℕ) → take (length tape) arena ≡ tape → length tape + length bytes ≤ length arena
    → take (length (tape ++ bytes)) (pasted (length tape) bytes arena) ≡ tape ++ bytes
appended_memory arena tape bytes m h =
    let rest : List ℕ = drop (length bytes) (drop (length tape) arena) in
    ap (λ (t : List ℕ). take (length (tape ++ bytes)) (t ++ (bytes ++ rest))) m
    ∙ ap (take (length (tape ++ bytes))) (sym (append_assoc tape bytes rest))
    ∙ take_at (tape ++ bytes) rest (length (tape ++ bytes)) refl

module _ (H : List ℕ → ℕ) where
  -- a record is appended; it lies past the bytes of every set
  pub appended : (w : World) (k : Book) → Holds H w k → (at : ℕ) (bytes key value : List ℕ) (deadline : ℕ) → at ≡ length k.tape → bytes ≡ record_bytes k.expiry key value deadline
      → at + length bytes ≤ length w.arena → (c : Current) → CurrentHolds H (length (pasted at bytes w.arena)) (joined k key value deadline) c
      → Holds H (record { arena = pasted at bytes w.arena; current = c; sets = w.sets; files = w.files }) (joined k key value deadline)
  appended w k m at bytes key value deadline place content fits c ok =
      record {
        memory = rw (place, ← content) (appended_memory w.arena k.tape bytes m.memory (omega arith));
        top = omega (arith, m.top, length-append k.tape (record_bytes k.expiry key value deadline));
        current = ok;
        sets =
            Forall₂.imp
            (λ s l. set_arena H k.expiry w.arena (pasted at bytes w.arena) top top s l (take_pasted at top bytes w.arena (omega (arith, m.top)) (omega arith))
            (pasted_length at bytes w.arena fits) (omega arith))
            m.sets;
        files = m.files;
      }
    where
      top : ℕ
      top = filled_in (newest k.sets)

  -- a set joins the others, the newest then
  pub joins : (w : World) (k : Book) → Holds H w k → (s : FinishedSet) (starts : List ℕ)
      → SetHolds H k.expiry w.arena (length k.tape) s record { list = k.list; starts = starts; filled = length k.tape }
      → Holds H (record { arena = w.arena; current = idle; sets = w.sets ++ (s ∷ []); files = w.files }) (closed k starts)
  joins w k m s starts ok =
      record {
        memory = m.memory;
        top = omega (arith, newer);
        current = is_idle;
        sets = rw newer (pairs_snoc (Forall₂.imp (λ d l. set_arena H k.expiry w.arena w.arena (filled_in (newest k.sets)) (length k.tape) d l refl refl m.top) m.sets) ok);
        files = m.files;
      }
    where
      newer : filled_in (newest (closed k starts).sets) ≡ length k.tape
      newer = ap filled_in (newest_snoc k.sets record { list = k.list; starts = starts; filled = length k.tape })
