-- Lookups and mark clearings in a finished set: the answer is the book's, and the set stands for the same list after them. Assumes nothing.
use Rattle.std.specs.Prelude.{None, Option, Some, slice_get}
use mathlib.Core.Path.{◌≡◌, refl, sym, ap, ◌∙◌}
use mathlib.Core.Bool.{Bool, true, false, cond}
use mathlib.Core.List.{List, [], ◌∷◌}
use Prim.Native.Nat.{ℕ, ◌+◌, ◌*◌, ◌/◌, ◌%◌, ◌^◌, ◌≤◌, ◌<◌}
use native.Mathlib.Omega.{arith}
use lib.Dec.{eqb, ltb}
use lib.ListN.{length, take, length-take}
use lib.Seq.{take-take}
use borrow.Author.Tests.{le-leb}
use Rattle.hash_parts.specs.Duration.{lives_at}
use Rattle.hash_parts.specs.declared.setting.SegmentExpiry.{SegmentExpiry}
use Rattle.records.specs.Area.{part, spanned}
use Rattle.records.specs.Record.{Stored, contents}
use Rattle.index.specs.Find.{find_in}
use Rattle.index.specs.declared.find.FoundRecord.{FoundRecord}
use Rattle.index.specs.declared.view.SegmentView.{SegmentView}
use Rattle.index.proofs.Contents.{stored_in}
use Rattle.index.proofs.Entries.{Indexed, keyed, reheld}
use Rattle.index.proofs.Flat.{index_slots}
use Rattle.index.proofs.FoundSlots.{find_slot, find_word}
use Rattle.index.proofs.Kept.{marked_indexed, unmarked_indexed, control_marked_indexed, control_unmarked_indexed}
use Rattle.index.proofs.Lookups.{find_nothing, find_found}
use Rattle.index.proofs.Table.{only}
use Rattle.sets.specs.Answers.{accept}
use Rattle.sets.specs.Lookup.{areas_hold_lookup, view_of, find_of, slot_marked, slot_cleared, live_value, live_marked, Got, gotten, after_get, taken_of, after_take}
use Rattle.sets.proofs.Closure.{set_index_holds, get_asks, take_asks, get_passes, take_passes}
use Rattle.sets.proofs.ReadInside.{read_inside}
use Rattle.files.proofs.SmallWords.{SmallIf, small_marked, small_cleared}
use Rattle.book.specs.Book.{Entry, ListedSet, first_of, ruled}
use Rattle.book.specs.Calls.{value, nothing}
use Rattle.book.specs.World.{FinishedSet, with_index, answer_of}
use Rattle.book.proofs.Keys.{stored_of, first_is}
use Rattle.book.proofs.Reading.{same_stored}
use Rattle.book.proofs.Relation.{SetHolds}

-- what the find of a set comes to
abbrev found_in : List ℕ → FinishedSet → List ℕ → ℕ → Option FoundRecord
found_in arena s key h = find_of s.cache h key s.areas.index s.areas.filter s.areas.starts s.areas.lengths arena

-- ---- the answer

-- "live at a tick" by the deadline, as a lookup and as the book say it
live_ruled : (arena : List ℕ) (tick : ℕ) (y : FoundRecord) (e : Entry) → y.entry.expires_at ≡ e.deadline → spanned arena y.entry.value ≡ e.value
    → answer_of arena (live_value tick y) ≡ ruled tick (Some e)
unfolding live_value lives_at
live_ruled arena tick y e same bytes = rw same (go (eqb e.deadline 65535) (ltb tick e.deadline))
  where
    go : (never before : Bool)
        → answer_of arena (cond (cond never true before) (accept (Some y.entry.value)) (accept None)) ≡ cond never (value e.value) (cond before (value e.value) nothing)
    go true before = ap value bytes
    go false true = ap value bytes
    go false false = refl

module _ (H : List ℕ → ℕ) (x : SegmentExpiry) (arena : List ℕ) (top : ℕ) (s : FinishedSet) (l : ListedSet) (ok : SetHolds H x arena top s l) (key : List ℕ) (h : ℕ)
    (hash : h ≡ H key) (bound : h < 2 ^ 64) where
  long : 8 * s.cache.buckets ≤ length s.areas.index
  long = set_index_holds s.cache (length s.areas.index) (length s.areas.filter) (length s.areas.starts) (length s.areas.lengths) (length arena) ok.passes

  -- the value handed out lies in the arena
  value_bytes : (y : FoundRecord) (e : Entry) → found_in arena s key h ≡ Some y → contents arena (Some y.entry) ≡ Some (stored_of e)
      → (y.entry.expires_at ≡ e.deadline) × (spanned arena y.entry.value ≡ e.value)
  unfolding spanned
  value_bytes y e f c =
      let at =
      find_slot (view_of s.cache) s.cache.config.packed_bucket_index s.areas.index s.cache.buckets s.areas.filter s.cache.filter_words
      s.areas.starts s.areas.lengths arena key h y bound f in
      let i = read_inside (view_of s.cache) arena s.areas.starts s.areas.lengths at.0.location y.entry at.0.reads in
      let whole : y.entry.value.at + y.entry.value.len ≤ length arena = omega (arith, i.value_inside, length-take s.cache.filled arena) in
      let t : Stored = record { key = part y.entry.key.at y.entry.key.len arena; value = part y.entry.value.at y.entry.value.len arena; deadline = y.entry.expires_at } in
      let same : t ≡ stored_of e = cc in
      (ap (λ (r : Stored). r.deadline) same, rw (le-leb _ _ whole) (ap (λ (r : Stored). r.value) same))

  pub set_answer : (tick : ℕ)
      → answer_of arena (after_get s.cache h key tick s.areas.index s.areas.filter s.areas.starts s.areas.lengths arena).answer ≡ ruled tick (first_of key l.list)
  set_answer tick =
      ap (λ (g : Got). answer_of arena g.answer) (get_asks s.cache h key s.areas.index s.areas.filter s.areas.starts s.areas.lengths arena ok.passes tick)
      ∙ go (only (keyed stored_of key) l.list) refl
      ∙ ap (ruled tick) (sym (first_is key l.list))
    where
      go : (m : List Entry) → only (keyed stored_of key) l.list ≡ m
          → answer_of arena (gotten tick s.cache.config.packed_bucket_index s.areas.index (found_in arena s key h)).answer
          ≡ ruled tick (slice_get (only (keyed stored_of key) l.list) 0)
      go [] e =
          let f = find_nothing (view_of s.cache) s.areas.index s.cache.buckets s.areas.starts s.areas.lengths arena ok.index long (λ m d y. y) key h hash bound e in
          rw (f, e)
      go (d ∷ r) e =
          let f = find_found (view_of s.cache) s.areas.index s.cache.buckets s.areas.starts s.areas.lengths arena ok.index long (λ m c y. y) key h hash bound e in
          let v = value_bytes f.0 d f.1 f.2 in
          rw (f.1, e) (live_ruled arena tick f.0 d v.0 v.1)

-- ---- marks

-- the index stands for the same list after the mark of a found slot is set or cleared
module _ {H : List ℕ → ℕ} {Holds : ℕ → Entry → Type 0} (view : SegmentView) (index : List ℕ) (buckets : ℕ) (filter : List ℕ) (words : ℕ) (starts lengths arena key : List ℕ) (h : ℕ)
    (y : FoundRecord) (bound : h < 2 ^ 64) {r : List Entry} where
  slot_marked_law : (packed : Bool) → find_in view packed index buckets filter words starts lengths arena key h ≡ Some y
      → Indexed stored_of H packed Holds buckets (index_slots packed buckets index) filter words r
      → Indexed stored_of H packed Holds buckets (index_slots packed buckets (slot_marked packed index y.slot)) filter words r
  unfolding slot_marked
  slot_marked_law true f x =
      let below : y.slot < 8 * buckets = (find_slot view true index buckets filter words starts lengths arena key h y bound f).1 in
      control_marked_indexed buckets index x (y.slot / 8) (y.slot % 8) (omega arith)
  slot_marked_law false f x = marked_indexed buckets index x y.slot (find_word view index buckets filter words starts lengths arena key h y bound f).0

  slot_cleared_law : (packed : Bool) → find_in view packed index buckets filter words starts lengths arena key h ≡ Some y
      → Indexed stored_of H packed Holds buckets (index_slots packed buckets index) filter words r
      → Indexed stored_of H packed Holds buckets (index_slots packed buckets (slot_cleared packed index y.slot)) filter words r
  unfolding slot_cleared
  slot_cleared_law true f x =
      let below : y.slot < 8 * buckets = (find_slot view true index buckets filter words starts lengths arena key h y bound f).1 in
      control_unmarked_indexed buckets index x (y.slot / 8) (y.slot % 8) (omega arith)
  slot_cleared_law false f x = unmarked_indexed buckets index x y.slot (find_word view index buckets filter words starts lengths arena key h y bound f).1

module _ (H : List ℕ → ℕ) (x : SegmentExpiry) (arena : List ℕ) (top : ℕ) (s : FinishedSet) (l : ListedSet) (ok : SetHolds H x arena top s l) where
  -- another index of the same length that stands for the same list
  reindexed : (index : List ℕ)
      → areas_hold_lookup s.cache (length index) (length s.areas.filter) (length s.areas.starts) (length s.areas.lengths) (length arena) ≡ true
      → Indexed stored_of H s.cache.config.packed_bucket_index
      (λ m e. stored_in (view_of s.cache) arena s.areas.starts s.areas.lengths m ≡ Some (stored_of e))
      s.cache.buckets (index_slots s.cache.config.packed_bucket_index s.cache.buckets index)
      s.areas.filter s.cache.filter_words l.list
      → SmallIf s.cache.config.packed_bucket_index s.cache.buckets index → SetHolds H x arena top (with_index s index) l
  reindexed index passes i small =
      record {
        typed = ok.typed;
        expiry = ok.expiry;
        segments = ok.segments;
        small = small;
        low = ok.low;
        filled = ok.filled;
        starts = ok.starts;
        passes = passes;
        index = i;
      }

  module _ (key : List ℕ) (h : ℕ) (bound : h < 2 ^ 64) where
    abbrev Small : List ℕ → Type 0
    Small index = SmallIf s.cache.config.packed_bucket_index s.cache.buckets index

    abbrev Same : List ℕ → Type 0
    Same index =
        Indexed stored_of H s.cache.config.packed_bucket_index
        (λ m e. stored_in (view_of s.cache) arena s.areas.starts s.areas.lengths m ≡ Some (stored_of e))
        s.cache.buckets (index_slots s.cache.config.packed_bucket_index s.cache.buckets index)
        s.areas.filter s.cache.filter_words l.list

    pub set_got : (tick : ℕ) → SetHolds H x arena top (with_index s (after_get s.cache h key tick s.areas.index s.areas.filter s.areas.starts s.areas.lengths arena).index) l
    unfolding live_marked
    set_got tick =
        reindexed _ (get_passes s.cache h key s.areas.index s.areas.filter s.areas.starts s.areas.lengths arena tick ∙ ok.passes)
        (rw (get_asks s.cache h key s.areas.index s.areas.filter s.areas.starts s.areas.lengths arena ok.passes tick) (go (found_in arena s key h) refl))
        (rw (get_asks s.cache h key s.areas.index s.areas.filter s.areas.starts s.areas.lengths arena ok.passes tick) (still (found_in arena s key h)))
      where
        still_live : (y : FoundRecord) (b : Bool) → Small (cond b (slot_marked s.cache.config.packed_bucket_index s.areas.index y.slot) s.areas.index)
        still_live y true = small_marked s.cache.config.packed_bucket_index s.cache.buckets s.areas.index y.slot ok.small
        still_live y false = ok.small

        still : (a : Option FoundRecord) → Small (gotten tick s.cache.config.packed_bucket_index s.areas.index a).index
        still None = ok.small
        still (Some y) = still_live y (lives_at y.entry.expires_at tick)

        live : (y : FoundRecord) → found_in arena s key h ≡ Some y → (b : Bool)
            → Same (cond b (slot_marked s.cache.config.packed_bucket_index s.areas.index y.slot) s.areas.index)
        live y f true =
            slot_marked_law (view_of s.cache) s.areas.index s.cache.buckets s.areas.filter s.cache.filter_words s.areas.starts s.areas.lengths arena key h y bound
            s.cache.config.packed_bucket_index f ok.index
        live y f false = ok.index

        go : (a : Option FoundRecord) → found_in arena s key h ≡ a → Same (gotten tick s.cache.config.packed_bucket_index s.areas.index a).index
        go None f = ok.index
        go (Some y) f = live y f (lives_at y.entry.expires_at tick)

    pub set_taken : SetHolds H x arena top (with_index s (after_take s.cache h key s.areas.index s.areas.filter s.areas.starts s.areas.lengths arena).index) l
    set_taken =
        reindexed _ (take_passes s.cache h key s.areas.index s.areas.filter s.areas.starts s.areas.lengths arena ∙ ok.passes)
        (rw (take_asks s.cache h key s.areas.index s.areas.filter s.areas.starts s.areas.lengths arena ok.passes) (go (found_in arena s key h) refl))
        (rw (take_asks s.cache h key s.areas.index s.areas.filter s.areas.starts s.areas.lengths arena ok.passes) (still (found_in arena s key h)))
      where
        still : (a : Option FoundRecord) → Small (taken_of s.cache.config.packed_bucket_index s.areas.index a).index
        still None = ok.small
        still (Some y) = small_cleared s.cache.config.packed_bucket_index s.cache.buckets s.areas.index y.slot ok.small

        go : (a : Option FoundRecord) → found_in arena s key h ≡ a → Same (taken_of s.cache.config.packed_bucket_index s.areas.index a).index
        go None f = ok.index
        go (Some y) f =
            slot_cleared_law (view_of s.cache) s.areas.index s.cache.buckets s.areas.filter s.cache.filter_words s.areas.starts s.areas.lengths arena key h y bound
            s.cache.config.packed_bucket_index f ok.index

-- ---- the arena

-- bytes past those of the set may change
pub set_arena : (H : List ℕ → ℕ) (x : SegmentExpiry) (arena arena' : List ℕ) (top top' : ℕ) (s : FinishedSet) (l : ListedSet)
    → take top arena' ≡ take top arena → length arena' ≡ length arena → top ≤ top' → SetHolds H x arena top s l → SetHolds H x arena' top' s l
set_arena H x arena arena' top top' s l same size more ok =
    record {
      typed = ok.typed;
      segments = ok.segments;
      small = ok.small;
      expiry = ok.expiry;
      low = omega (arith, ok.low);
      filled = ok.filled;
      starts = ok.starts;
      passes = rw size ok.passes;
      index = reheld (λ m e y. same_stored (view_of s.cache) arena arena' s.areas.starts s.areas.lengths bytes_same m (stored_of e) y) ok.index;
    }
  where
    bytes_same : take s.cache.filled arena' ≡ take s.cache.filled arena
    bytes_same = sym (take-take s.cache.filled top arena' ok.low) ∙ ap (take s.cache.filled) same ∙ take-take s.cache.filled top arena ok.low
