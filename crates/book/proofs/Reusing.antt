-- An accepted reused push keeps what the open rebuild stands for: its entry, which stands in a kept segment, joins the list. Assumes nothing.
use Rattle.std.specs.Prelude.{Some}
use mathlib.Core.Path.{◌≡◌, ap, ◌∙◌}
use mathlib.Core.Bool.{true}
use mathlib.Core.List.{List}
use Prim.Native.Nat.{ℕ, ◌+◌, ◌/◌, ◌%◌, ◌^◌, ◌≤◌, ◌<◌}
use native.Mathlib.Omega.{arith}
use lib.ListN.{length, take, set, get_or, length-take}
use Rattle.hash_parts.specs.Hash.{tag_of}
use Rattle.hash_parts.specs.declared.setting.SegmentExpiry.{SegmentExpiry}
use Rattle.records.specs.Area.{part}
use Rattle.records.proofs.Stored.{stored_inside}
use Rattle.index.specs.Build.{empty_slot, never}
use Rattle.index.specs.Filter.{displaced_marked}
use Rattle.index.specs.Word.{word_of}
use Rattle.index.proofs.Pushes.{pushed}
use Rattle.sets.specs.Kept.{new_number, retained}
use Rattle.sets.specs.Rebuild.{kept_view, moved_location, reused_grown}
use Rattle.sets.specs.declared.rebuild.SegmentRecordLocation.{SegmentRecordLocation}
use Rattle.sets.specs.declared.rebuild.SharedSegmentCacheBuilder.{SharedSegmentCacheBuilder}
use Rattle.sets.proofs.RebuildAsked.{ReusedAsked}
use Rattle.sets.proofs.RebuildClosure.{rebuild_passes}
use Rattle.book.specs.Book.{Entry, Book, starts_in, place_of, deadline_on, rejoined}
use Rattle.book.specs.Calls.{newest}
use Rattle.book.specs.World.{Areas}
use Rattle.book.proofs.Finishing.{location_small}
use Rattle.book.proofs.Relation.{Rests, rests_kept, RebuildHolds}
use Rattle.book.proofs.Shown.{ShownAt, shown_at}

module _ (H : List ℕ → ℕ) where
  pub rebuild_reuse : (r : SharedSegmentCacheBuilder) (a : Areas) (arena : List ℕ) (k : Book) → RebuildHolds H r a (length arena) k → take (length k.tape) arena ≡ k.tape
      → (key value : List ℕ) (h : ℕ) (source : SegmentRecordLocation) → h ≡ H key → h < 2 ^ 64 → ReusedAsked r h key value source a.index (length a.filter) a.starts a.lengths arena
      → rebuild_passes (reused_grown r source.header_bytes (length key) (length value))
      (length (set a.index (empty_slot a.index r.bucket_count h).value (word_of (tag_of h) (moved_location r source.location))))
      (length (displaced_marked a.filter r.filter_words h (empty_slot a.index r.bucket_count h).value r.bucket_count)) a.starts a.lengths (length arena) ≡ true
      → RebuildHolds H (reused_grown r source.header_bytes (length key) (length value))
      record {
        index = set a.index (empty_slot a.index r.bucket_count h).value (word_of (tag_of h) (moved_location r source.location));
        filter = displaced_marked a.filter r.filter_words h (empty_slot a.index r.bucket_count h).value r.bucket_count;
        starts = a.starts;
        lengths = a.lengths;
      }
      (length arena) (rejoined k key value (place_of (starts_in (newest k.sets)) source.location))
  unfolding displaced_marked
  rebuild_reuse r a arena k ok memory key value h source hash bound asked passes =
      record {
        typed = ok.typed;
        sums = ok.sums;
        expiry = ok.expiry;
        base = ok.base;
        filled = ok.filled;
        tick = ok.tick;
        passes = passes;
        kept = ok.kept;
        sourced = ok.sourced;
        index =
            pushed a.index r.bucket_count a.filter r.filter_words ok.index never h (empty_slot a.index r.bucket_count h).value bound asked.place e
            (moved_location r source.location) hash rests (location_small g o (retained r.kept) shown.number (omega (arith, asked.areas.numbers.few)) short);
      }
    where
      x : SegmentExpiry
      x = k.expiry

      -- its segment's number in the newest set
      from : ℕ
      from = source.location / 2 ^ 32

      g : ℕ
      g = new_number r.kept from

      o : ℕ
      o = source.location % 2 ^ 32

      e : Entry
      e =
          record {
            at = place_of (starts_in (newest k.sets)) source.location;
            key = key;
            value = value;
            deadline = deadline_on x k.tape
                (place_of (starts_in (newest k.sets)) source.location);
          }

      filled_bytes : take (r.source_filled + r.copied_bytes) arena ≡ k.tape
      filled_bytes = ap (λ (n : ℕ). take n arena) ok.filled ∙ memory

      shown : ShownAt r.config.expiry k.tape a.starts a.lengths key value (retained r.kept) g o
      shown = shown_at (kept_view r) arena a.starts a.lengths k.tape key value source.header_bytes g o filled_bytes (omega arith) asked.holds

      short : o ≤ 2 ^ 30
      short =
          let i = stored_inside r.config.expiry (part (get_or a.starts g 0) (get_or a.lengths g 0) k.tape) o _ shown.reads in
          let t : length (part (get_or a.starts g 0) (get_or a.lengths g 0) k.tape) ≤ get_or a.lengths g 0 = rw length-take (omega arith) in
          omega (arith, i, t, shown.inside, ok.filled, asked.areas.filled_held, asked.areas.arena_short)

      rests : Rests x k.tape r.source_filled (retained r.kept) a.starts a.lengths (moved_location r source.location + 1) e
      rests =
          rests_kept g o (omega arith) shown.number shown.inside
          (rw ok.expiry at shown.reads ∙ ap (λ (s : ℕ). Some record { key = key; value = value; deadline = deadline_on x k.tape (s + o) }) (ok.sourced from asked.kept))
