-- An accepted push keeps what the open builder stands for: its entry joins the list. Assumes nothing.
use Rattle.std.specs.Prelude.{None, Ok, Option, Some}
use mathlib.Core.Path.{◌≡◌, refl}
use mathlib.Core.Bool.{true}
use mathlib.Core.List.{List, [], ◌∷◌, ◌++◌}
use Prim.Native.Nat.{ℕ, ◌+◌, ◌^◌, ◌≤◌, ◌<◌}
use native.Mathlib.Omega.{arith}
use lib.ListN.{length, take, set, length-append}
use Rattle.hash_parts.specs.Duration.{encoded_expiry}
use Rattle.hash_parts.specs.Hash.{tag_of}
use Rattle.hash_parts.specs.declared.setting.SegmentExpiry.{SegmentExpiry}
use Rattle.hash_parts.specs.declared.setting.SegmentExpiry.TheVariants as setting
use Rattle.records.specs.Record.{record_bytes, record_size, stored_at}
use Rattle.records.proofs.Stored.{stored_back}
use Rattle.index.specs.Build.{build_record, holds_key, slot_for}
use Rattle.index.specs.Filter.{displaced_marked}
use Rattle.index.specs.Word.{word_of}
use Rattle.index.proofs.Entries.{reheld}
use Rattle.index.proofs.Pushes.{pushed}
use Rattle.sets.specs.Build.{builder_grown}
use Rattle.sets.specs.declared.builder.SegmentCacheBuilder.{SegmentCacheBuilder}
use Rattle.sets.proofs.Closure.{builder_passes}
use Rattle.book.specs.Book.{Entry, Book, joined}
use Rattle.book.specs.World.{Areas}
use Rattle.book.proofs.Standing.{every_map, every_snoc, written_on, written_new, written_end, some_bytes, places, places_snoc, Stands}
use Rattle.book.proofs.Relation.{BuilderHolds}
use Rattle.hash_parts.specs.declared.duration.Duration.{Duration}

-- the deadline of an accepted push is 65,535 where records keep none
never_off : (e : SegmentExpiry) (ttl : Option Duration) (base : ℕ) → (encoded_expiry e ttl base).number ≡ 0 → e ≡ setting.None → (encoded_expiry e ttl base).value ≡ 65535
unfolding encoded_expiry
never_off e None base n off = refl
never_off setting.None (Some d) base n off = absurd (omega arith)
never_off (setting.Relative16 tick) (Some d) base n off = cc

-- a record that fits an arena reads back
pub new_back : (e : SegmentExpiry) (key value : List ℕ) (ttl : Option Duration) (base : ℕ) → (encoded_expiry e ttl base).number ≡ 0
    → record_size e (length key) (length value) ≤ 1_073_741_824
    → stored_at e (record_bytes e key value (encoded_expiry e ttl base).value) 0 ≡ Some record { key = key; value = value; deadline = (encoded_expiry e ttl base).value }
unfolding record_size
new_back e key value ttl base n fits = stored_back e key value (encoded_expiry e ttl base).value (omega arith) (omega arith) (never_off e ttl base n)

module _ (H : List ℕ → ℕ) where
  -- the slot found, the entry's deadline, how many bytes it takes, and how long the arena is then
  pub builder_push : (b : SegmentCacheBuilder) (a : Areas) (arena : List ℕ) (k : Book) → BuilderHolds H b a (length arena) k
      → (key value : List ℕ) (h slot deadline size after : ℕ) → h ≡ H key → h < 2 ^ 64
      → slot_for (holds_key (build_record b.config.expiry (take b.filled arena)) key (tag_of h)) a.index b.bucket_count h ≡ Ok slot
      → stored_at k.expiry (record_bytes k.expiry key value deadline) 0 ≡ Some record { key = key; value = value; deadline = deadline }
      → size ≡ length (record_bytes k.expiry key value deadline) → b.filled ≤ 1_073_741_824
      → builder_passes (builder_grown b size (length key) (length value)) (length (set a.index slot (word_of (tag_of h) b.filled)))
      (length (displaced_marked a.filter b.filter_words h slot b.bucket_count)) (length a.starts) (length a.lengths) after ≡ true
      → BuilderHolds H (builder_grown b size (length key) (length value))
      record {
        index = set a.index slot (word_of (tag_of h) b.filled);
        filter = displaced_marked a.filter b.filter_words h slot b.bucket_count;
        starts = a.starts;
        lengths = a.lengths;
      }
      after (joined k key value deadline)
  unfolding displaced_marked
  builder_push b a arena k ok key value h slot deadline size after hash bound found back type_size short passes =
      record {
        typed = ok.typed;
        expiry = ok.expiry;
        filled = omega (arith, ok.filled, type_size, length-append k.tape new);
        passes = passes;
        below = rw (places_snoc k.list e) (every_snoc (every_map (λ v z. omega (arith, z, longer)) ok.below) longer);
        index =
            pushed a.index b.bucket_count a.filter b.filter_words (reheld grown ok.index)
            (holds_key (build_record b.config.expiry (take b.filled arena)) key (tag_of h)) h slot bound found e b.filled hash stands (omega arith);
      }
    where
      x : SegmentExpiry
      x = k.expiry

      new : List ℕ
      new = record_bytes x key value deadline

      e : Entry
      e = record { at = length k.tape; key = key; value = value; deadline = deadline }

      longer : length k.tape < length (k.tape ++ new)
      longer = omega (arith, length-append k.tape new, some_bytes x e back)

      grown : (l : ℕ) (d : Entry) → Stands x k.tape (places k.list) l d → Stands x (k.tape ++ new) (places (k.list ++ (e ∷ []))) l d
      grown l d s =
          record {
            flat = s.flat;
            written = written_on x k.tape new d s.written;
            apart = rw (places_snoc k.list e) (every_snoc s.apart (λ _. written_end x k.tape d s.written));
          }

      stands : Stands x (k.tape ++ new) (places (k.list ++ (e ∷ []))) (b.filled + 1) e
      stands =
          record {
            flat = omega (arith, ok.filled);
            written = written_new x k.tape e refl back;
            apart = rw (places_snoc k.list e) (every_snoc (every_map (λ v z y. omega arith) ok.below) (λ y. omega arith));
          }
