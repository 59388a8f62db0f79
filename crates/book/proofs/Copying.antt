-- An accepted copied push keeps what the open rebuild stands for: its entry, whose bytes are appended to the tape, joins the list. Assumes nothing.
use Rattle.std.specs.Prelude.{Ok, Some}
use mathlib.Core.Path.{◌≡◌, refl, sym, ap, ◌∙◌}
use mathlib.Core.Bool.{true}
use mathlib.Core.List.{List, ◌++◌}
use Prim.Native.Nat.{ℕ, ◌+◌, ◌-◌, ◌^◌, ◌≤◌, ◌<◌}
use native.Mathlib.Omega.{arith}
use lib.ListN.{length, set, length-append}
use lib.Seq.{take_at}
use Rattle.hash_parts.specs.Hash.{tag_of}
use Rattle.hash_parts.specs.declared.setting.SegmentExpiry.{SegmentExpiry}
use Rattle.records.specs.Area.{part}
use Rattle.records.specs.Record.{record_bytes, stored_at}
use Rattle.index.specs.Build.{never, slot_for}
use Rattle.index.specs.Filter.{displaced_marked}
use Rattle.index.specs.Word.{word_of}
use Rattle.index.proofs.Entries.{reheld}
use Rattle.index.proofs.Pushes.{pushed}
use Rattle.index.proofs.Views.{part_front}
use Rattle.sets.specs.Kept.{retained}
use Rattle.sets.specs.Rebuild.{copied_grown, copied_location}
use Rattle.sets.specs.declared.rebuild.SharedSegmentCacheBuilder.{SharedSegmentCacheBuilder}
use Rattle.sets.proofs.RebuildClosure.{rebuild_passes}
use Rattle.book.specs.Book.{Entry, Book, joined}
use Rattle.book.specs.World.{Areas}
use Rattle.book.proofs.Relation.{Rests, rests_kept, rests_copied, RebuildHolds}
use Rattle.book.proofs.Standing.{written_on, written_new}

-- a part of a list is a part of every longer one
part_on : (at len : ℕ) (tape new : List ℕ) → at + len ≤ length tape → part at len tape ≡ part at len (tape ++ new)
part_on at len tape new h = ap (part at len) (sym (take_at tape new (length tape) refl)) ∙ part_front at len (length tape) (tape ++ new) h

-- so entries of a rebuild stay where they are
rests_on : {x : SegmentExpiry} {tape : List ℕ} (new : List ℕ) {base n : ℕ} {starts lengths : List ℕ} (l : ℕ) (e : Entry) → Rests x tape base n starts lengths l e
    → Rests x (tape ++ new) base n starts lengths l e
rests_on {x} {tape} new l e (rests_kept g o p q h f) =
    rests_kept g o p q (omega (arith, h, length-append tape new)) (ap (λ (s : List ℕ). stored_at x s o) (sym (part_on _ _ tape new h)) ∙ f)
rests_on {x} {tape} new l e (rests_copied p w) = rests_copied p (written_on x tape new e w)

module _ (H : List ℕ → ℕ) where
  -- the slot found, the entry's deadline, how many bytes it takes, and how long the arena is then
  pub rebuild_copy : (r : SharedSegmentCacheBuilder) (a : Areas) (arena : ℕ) (k : Book) → RebuildHolds H r a arena k
      → (key value : List ℕ) (h slot deadline size after : ℕ) → h ≡ H key → h < 2 ^ 64 → slot_for never a.index r.bucket_count h ≡ Ok slot
      → stored_at k.expiry (record_bytes k.expiry key value deadline) 0 ≡ Some record { key = key; value = value; deadline = deadline }
      → size ≡ length (record_bytes k.expiry key value deadline) → r.copied_bytes ≤ 1_073_741_824 → retained r.kept < 256
      → rebuild_passes (copied_grown r size (length key) (length value)) (length (set a.index slot (word_of (tag_of h) (copied_location r))))
      (length (displaced_marked a.filter r.filter_words h slot r.bucket_count)) a.starts a.lengths after ≡ true
      → RebuildHolds H (copied_grown r size (length key) (length value))
      record {
        index = set a.index slot (word_of (tag_of h) (copied_location r));
        filter = displaced_marked a.filter r.filter_words h slot r.bucket_count;
        starts = a.starts;
        lengths = a.lengths;
      }
      after (joined k key value deadline)
  unfolding displaced_marked
  rebuild_copy r a arena k ok key value h slot deadline size after hash bound found back type_size short room passes =
      record {
        typed = ok.typed;
        sums = ok.sums;
        expiry = ok.expiry;
        base = ok.base;
        filled = omega (arith, ok.filled, type_size, length-append k.tape new);
        tick = ok.tick;
        passes = passes;
        kept = ok.kept;
        sourced = ok.sourced;
        index =
            pushed a.index r.bucket_count a.filter r.filter_words (reheld (rests_on new) ok.index) never h slot bound found e (copied_location r) hash rests
            (omega (arith, short, room));
      }
    where
      x : SegmentExpiry
      x = k.expiry

      new : List ℕ
      new = record_bytes x key value deadline

      e : Entry
      e = record { at = length k.tape; key = key; value = value; deadline = deadline }

      past : length k.tape - r.source_filled ≡ r.copied_bytes
      past = omega (arith, ok.filled)

      rests : Rests x (k.tape ++ new) r.source_filled (retained r.kept) a.starts a.lengths (copied_location r + 1) e
      rests = rw (← past) (rests_copied {e = e} (omega (arith, ok.filled)) (written_new x k.tape e refl back))
