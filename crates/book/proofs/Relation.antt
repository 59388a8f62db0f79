-- How the world and the book go together: what an open builder or rebuild, a finished set and their areas are to the book's lists and tape, and a file to the
-- list that was noted for it. Assumes nothing.
use Rattle.std.specs.Prelude.{Some}
use mathlib.Core.Path.{◌≡◌}
use mathlib.Core.Bool.{true, false}
use mathlib.Core.List.{List, Forall₂}
use Prim.Native.Nat.{ℕ, ◌+◌, ◌-◌, ◌*◌, ◌^◌, ◌≤◌, ◌<◌}
use lib.ListN.{length, take, get_or}
use Rattle.hash_parts.specs.declared.setting.SegmentExpiry.{SegmentExpiry}
use Rattle.records.specs.Area.{part}
use Rattle.records.specs.Record.{stored_at}
use Rattle.index.proofs.Contents.{word_slots, stored_in}
use Rattle.index.proofs.Entries.{Indexed}
use Rattle.index.proofs.Flat.{index_slots}
use Rattle.sets.specs.Answers.{accept}
use Rattle.sets.specs.Kept.{is_kept, new_number, retained}
use Rattle.sets.specs.Lookup.{areas_hold_lookup, view_of}
use Rattle.sets.specs.Rebuild.{segments_inside, sum_of}
use Rattle.sets.specs.declared.builder.SegmentCacheBuilder.{SegmentCacheBuilder}
use Rattle.sets.specs.declared.cache.FrozenSegmentCache.{FrozenSegmentCache}
use Rattle.sets.specs.declared.rebuild.SharedSegmentCacheBuilder.{SharedSegmentCacheBuilder}
use Rattle.sets.proofs.Closure.{builder_passes}
use Rattle.sets.proofs.RebuildClosure.{rebuild_passes}
use Rattle.files.specs.Typed.{Typed}
use Rattle.files.specs.Write.{after_write}
use Rattle.files.proofs.SmallWords.{SmallIf}
use Rattle.book.specs.Book.{Entry, ListedSet, ListedFile, Book, starts_in, filled_in, kind_content, numbers_in, running_sums}
use Rattle.book.specs.Calls.{newest}
use Rattle.book.specs.World.{Areas, Current, idle, building, rebuilding, FinishedSet, World, load_in}
use Rattle.book.proofs.Keys.{stored_of}
use Rattle.book.proofs.Standing.{Every, places, Stands, Written}

-- An entry of an open rebuild and its stored location: in one of the n kept segments, whose bytes on the tape read back as the entry, or among the copied
-- records, which follow the first `base` bytes of the tape and whose segment is not in the areas before finish.
pub data Rests (x : SegmentExpiry) (tape : List ℕ) (base n : ℕ) (starts lengths : List ℕ) : ℕ → Entry → Type 0 where
  rests_kept : {e : Entry} (g o : ℕ) → o < 2 ^ 32 → g < n → get_or starts g 0 + get_or lengths g 0 ≤ length tape
      → stored_at x (part (get_or starts g 0) (get_or lengths g 0) tape) o ≡ Some (stored_of e) → Rests x tape base n starts lengths (g * 2 ^ 32 + o + 1) e
  rests_copied : {e : Entry} → base ≤ e.at → Written x tape e → Rests x tape base n starts lengths (n * 2 ^ 32 + (e.at - base) + 1) e

-- the segments of a finished set: each lies in its filled bytes; they add up to its record bytes, and to no more than the filled
pub record SegmentsHold (s : FrozenSegmentCache) (starts lengths : List ℕ) : Type 0 where
  pub inside : segments_inside s.segments s.filled starts lengths ≡ true
  pub bytes : s.record_bytes ≡ sum_of s.segments lengths
  pub sums : sum_of s.segments lengths ≤ s.filled

-- H gives each key's hash
module _ (H : List ℕ → ℕ) where
  -- an open builder with its areas, in an arena of so many bytes: it passes question 1, and its index stands for the open list
  pub record BuilderHolds (b : SegmentCacheBuilder) (a : Areas) (arena : ℕ) (k : Book) : Type 0 where
    pub typed : Typed b.config
    pub expiry : b.config.expiry ≡ k.expiry
    pub filled : b.filled ≡ length k.tape
    pub passes : builder_passes b (length a.index) (length a.filter) (length a.starts) (length a.lengths) arena ≡ true
    pub below : Every (λ v. v < length k.tape) (places k.list)
    pub index : Indexed stored_of H false (Stands k.expiry k.tape (places k.list)) b.bucket_count (word_slots b.bucket_count a.index) a.filter b.filter_words k.list

  -- an open rebuild with its areas: it passes question 1, its base, its tick and its kept starts are the book's, also by the numbers that the kept segments
  -- have in the newest set, the kept segments add up to no more than its base, and its index stands for the open list
  pub record RebuildHolds (r : SharedSegmentCacheBuilder) (a : Areas) (arena : ℕ) (k : Book) : Type 0 where
    pub typed : Typed r.config
    pub expiry : r.config.expiry ≡ k.expiry
    pub base : r.source_filled ≡ filled_in (newest k.sets)
    pub filled : r.source_filled + r.copied_bytes ≡ length k.tape
    pub tick : r.source_now_tick ≡ k.tick
    pub passes : rebuild_passes r (length a.index) (length a.filter) a.starts a.lengths arena ≡ true
    pub sums : sum_of (retained r.kept) a.lengths ≤ r.source_filled
    pub kept : take (retained r.kept) a.starts ≡ k.kept
    pub sourced : (g : ℕ) → is_kept r.kept g ≡ true → get_or a.starts (new_number r.kept g) 0 ≡ get_or (starts_in (newest k.sets)) g 0
    pub index : Indexed stored_of H false (Rests k.expiry k.tape r.source_filled (retained r.kept) a.starts a.lengths)
        r.bucket_count (word_slots r.bucket_count a.index) a.filter r.filter_words k.list

  -- a finished set, whose bytes are among the first so many of the arena: it passes question 1, its segments and filled bytes are the book's, words of a packed
  -- index are of 64 bits, and the index stands for the book's list, each entry where a lookup reads it
  pub record SetHolds (x : SegmentExpiry) (arena : List ℕ) (top : ℕ) (s : FinishedSet) (l : ListedSet) : Type 0 where
    pub typed : Typed s.cache.config
    pub expiry : s.cache.config.expiry ≡ x
    pub segments : SegmentsHold s.cache s.areas.starts s.areas.lengths
    pub small : SmallIf s.cache.config.packed_bucket_index s.cache.buckets s.areas.index
    pub low : s.cache.filled ≤ top
    pub filled : s.cache.filled ≡ l.filled
    pub starts : take s.cache.segments s.areas.starts ≡ l.starts
    pub passes : areas_hold_lookup s.cache (length s.areas.index) (length s.areas.filter) (length s.areas.starts) (length s.areas.lengths) (length arena) ≡ true
    pub index : Indexed stored_of H s.cache.config.packed_bucket_index
        (λ m e. stored_in (view_of s.cache) arena s.areas.starts s.areas.lengths m ≡ Some (stored_of e))
        s.cache.buckets (index_slots s.cache.config.packed_bucket_index s.cache.buckets s.areas.index)
        s.areas.filter s.cache.filter_words l.list

  -- a file, and the list that was noted for it: the writer made it, in an area that was lent, of a set that then held to that list
  pub record FileHolds (file : List ℕ) (l : ListedFile) : Type 0 where
    pub arena : List ℕ
    pub top : ℕ
    pub source : FinishedSet
    pub listed : ListedSet
    pub holds : SetHolds l.expiry arena top source listed
    pub list : listed.list ≡ l.list
    pub out : List ℕ
    pub size : ℕ
    pub accepted : (after_write source.cache source.areas.index source.areas.filter source.areas.starts source.areas.lengths arena out).answer ≡ accept size
    pub made : take size (after_write source.cache source.areas.index source.areas.filter source.areas.starts source.areas.lengths arena out).file ≡ file

  pub data CurrentHolds (arena : ℕ) (k : Book) : Current → Type 0 where
    is_idle : CurrentHolds arena k idle
    is_building : {b : SegmentCacheBuilder} {a : Areas} → BuilderHolds b a arena k → CurrentHolds arena k (building b a)
    is_rebuilding : {r : SharedSegmentCacheBuilder} {a : Areas} → RebuildHolds r a arena k → CurrentHolds arena k (rebuilding r a)

  -- the tape is what the arena begins with, and no set has bytes past those of the newest: cutting the tape to them takes nothing from any set
  pub record Holds (w : World) (k : Book) : Type 0 where
    pub memory : take (length k.tape) w.arena ≡ k.tape
    pub top : filled_in (newest k.sets) ≤ length k.tape
    pub current : CurrentHolds (length w.arena) k w.current
    pub sets : Forall₂ (SetHolds k.expiry w.arena (filled_in (newest k.sets))) w.sets k.sets
    pub files : Forall₂ FileHolds w.files k.written

  -- what a load of a written file leaves: kind 5 is what the arena begins with, and the set holds to the list that was noted
  abbrev pub loaded_set : List ℕ → List ℕ → Areas → FrozenSegmentCache → FinishedSet
  loaded_set file arena a s =
      let o = load_in file arena a in
      record { cache = s; areas = record { index = o.index; filter = o.filter; starts = o.starts; lengths = o.lengths } }

  pub record LoadHolds (file : List ℕ) (l : ListedFile) (arena : List ℕ) (a : Areas) (s : FrozenSegmentCache) : Type 0 where
    pub memory : take (length (kind_content 4 file)) (load_in file arena a).arena ≡ kind_content 4 file
    pub holds : SetHolds l.expiry (load_in file arena a).arena (length (kind_content 4 file)) (loaded_set file arena a s)
        record { list = l.list; starts = running_sums 0 (numbers_in 256 (kind_content 1 file)); filled = length (kind_content 4 file) }
