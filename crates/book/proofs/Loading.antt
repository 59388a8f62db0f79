-- A set with the same slots, filter and readings holds to the same list. Assumes nothing.
use mathlib.Core.Path.{◌≡◌, sym, ap, ◌∙◌}
use mathlib.Core.Bool.{Bool, true}
use mathlib.Core.List.{List}
use Prim.Native.Nat.{ℕ}
use native.Mathlib.Omega.{arith}
use lib.ListN.{length, take}
use Rattle.hash_parts.specs.declared.setting.SegmentCacheConfig.{SegmentCacheConfig}
use Rattle.hash_parts.specs.declared.setting.SegmentExpiry.{SegmentExpiry}
use Rattle.index.specs.Filter.{filter_has}
use Rattle.index.proofs.Contents.{stored_in}
use Rattle.index.proofs.Entries.{Indexed, reheld}
use Rattle.index.proofs.Flat.{index_slots}
use Rattle.sets.specs.Lookup.{areas_hold_lookup, view_of}
use Rattle.files.proofs.SmallWords.{SmallIf}
use Rattle.book.specs.Book.{Entry, ListedSet}
use Rattle.book.specs.World.{FinishedSet}
use Rattle.book.proofs.Keys.{stored_of}
use Rattle.book.proofs.Relation.{SetHolds, SegmentsHold}
use Rattle.index.specs.Slot.{IndexSlot}

-- other slots that are the same, and a filter that answers alike
refiltered : {H : List ℕ → ℕ} {packed : Bool} {Holds : ℕ → Entry → Type 0} {buckets : ℕ} (slots slots' : List IndexSlot) (filter filter' : List ℕ) (words : ℕ) {r : List Entry}
    → slots' ≡ slots → ((key : List ℕ) → filter_has filter' words (H key) ≡ filter_has filter words (H key))
    → Indexed stored_of H packed Holds buckets slots filter words r → Indexed stored_of H packed Holds buckets slots' filter' words r
refiltered {H} slots slots' filter filter' words same alike x =
    record {
      table = x.table;
      size = x.size;
      cells = rw same x.cells;
      placed =
          record {
            whole = x.placed.whole;
            front = x.placed.front;
            beyond = λ k e. x.placed.beyond k (sym (alike k) ∙ e);
            count = x.placed.count;
            folds = x.placed.folds;
          };
    }

module _ (H : List ℕ → ℕ) (x : SegmentExpiry) (arena : List ℕ) (top : ℕ) (s : FinishedSet) (l : ListedSet) (ok : SetHolds H x arena top s l) where
  pub alike_holds : (s' : FinishedSet) (arena' : List ℕ) (l' : ListedSet)
      → s'.cache.config ≡ s.cache.config → s'.cache.buckets ≡ s.cache.buckets → s'.cache.filter_words ≡ s.cache.filter_words
      → index_slots s.cache.config.packed_bucket_index s.cache.buckets s'.areas.index ≡ index_slots s.cache.config.packed_bucket_index s.cache.buckets s.areas.index
      → ((key : List ℕ) → filter_has s'.areas.filter s.cache.filter_words (H key) ≡ filter_has s.areas.filter s.cache.filter_words (H key))
      → ((m : ℕ) → stored_in (view_of s'.cache) arena' s'.areas.starts s'.areas.lengths m ≡ stored_in (view_of s.cache) arena s.areas.starts s.areas.lengths m)
      → l'.list ≡ l.list → s'.cache.filled ≡ l'.filled → take s'.cache.segments s'.areas.starts ≡ l'.starts
      → areas_hold_lookup s'.cache (length s'.areas.index) (length s'.areas.filter) (length s'.areas.starts) (length s'.areas.lengths) (length arena') ≡ true
      → SmallIf s'.cache.config.packed_bucket_index s'.cache.buckets s'.areas.index → SegmentsHold s'.cache s'.areas.starts s'.areas.lengths
      → SetHolds H x arena' l'.filled s' l'
  alike_holds s' arena' l' config buckets words slots alike reads list filled starts passes small segments =
      record {
        typed = rw config ok.typed;
        segments = segments;
        small = small;
        expiry = ap (λ (c : SegmentCacheConfig). c.expiry) config ∙ ok.expiry;
        low = omega (arith, filled);
        filled = filled;
        starts = starts;
        passes = passes;
        index =
            rw (ap (λ (c : SegmentCacheConfig). c.packed_bucket_index) config, buckets, words, list)
            (refiltered _ _ _ _ _ slots alike (reheld (λ m e y. reads m ∙ y) ok.index));
      }
