-- `load_set` meets its contract. Assumes nothing.
use mathlib.Core.Bool.{true}
use mathlib.Core.List.{List}
use mathlib.Core.Path.{◌≡◌, refl, sym, ap, ap₂, subst, ◌∙◌}
use Prim.Native.Nat.{ℕ, ◌*◌, ◌/◌, ◌≤◌}
use native.Mathlib.Omega.{arith}
use lib.ListN.{length, take, length-take}
use Rattle.std.proofs.lemmas.List.{length-take-le}
use Rattle.records.specs.Area.{over}
use Rattle.index.specs.Packed.{words_of}
use Rattle.index.specs.Segments.{padded}
use Rattle.sets.proofs.Said.{answered_no, answered_yes}
use Rattle.sets.specs.Lookup.{areas_hold_lookup}
use Rattle.sets.specs.declared.cache.FrozenSegmentCache.{FrozenSegmentCache}
use Rattle.records.proofs.Area.{copied_law}
use Rattle.files.specs.Blocks.{content_of}
use Rattle.files.specs.Contents.{file_set, starts_by, unmarked_index}
use Rattle.files.specs.Load.{load_areas_hold}
use Rattle.files.proofs.Loading.{AreasHold, areas_same, areas_told, blocks_told, load_done, load_short}
use Rattle.files.proofs.Copying.{front_home, padded_front}
use Rattle.index.proofs.PackingLoop.{length_words}
use Rattle.files.proofs.Reading.{all_words}
use Rattle.files.proofs.load.load_set.Goals as goal
use Rattle.files.proofs.load.load_set.Goals.{After-load_lengths, Else-not-lookup_areas_hold}

pub returns-then-not-lookup_areas_hold : goal.returns-then-not-lookup_areas_hold
returns-then-not-lookup_areas_hold c =
    let a = c.args in
    let f = a.file.now in
    let areas = areas_same f (length a.index.now) (length a.filter.now) (length a.starts.now) (length a.lengths.now) (length a.arena.now) c.requires.1 in
    load_short f a.index.now a.filter.now a.starts.now a.lengths.now a.arena.now c.requires.1
    (answered_no
    (c.lookup_areas_hold.ensures
    ∙ ap
    (λ (s : FrozenSegmentCache). areas_hold_lookup s (length a.index.now) (length a.filter.now) (length a.starts.now) (length a.lengths.now) (length a.arena.now))
    c.requires.0
    ∙ areas)
    c.if-not-lookup_areas_hold.true)

-- the areas hold the set
held : (c : Else-not-lookup_areas_hold) → let a = c.args in
    load_areas_hold a.file.now (length a.index.now) (length a.filter.now) (length a.starts.now) (length a.lengths.now) (length a.arena.now) ≡ true
held c =
    let a = c.args in
    let f = a.file.now in
    let areas = areas_same f (length a.index.now) (length a.filter.now) (length a.starts.now) (length a.lengths.now) (length a.arena.now) c.requires.1 in
    answered_yes
    (c.lookup_areas_hold.ensures
    ∙ ap
    (λ (s : FrozenSegmentCache). areas_hold_lookup s (length a.index.now) (length a.filter.now) (length a.starts.now) (length a.lengths.now) (length a.arena.now))
    c.requires.0
    ∙ areas)
    c.if-not-lookup_areas_hold.false

told : (c : Else-not-lookup_areas_hold) → let a = c.args in
    AreasHold a.file.now (length a.index.now) (length a.filter.now) (length a.starts.now) (length a.lengths.now) (length a.arena.now)
told c =
    let a = c.args in
    areas_told a.file.now (length a.index.now) (length a.filter.now) (length a.starts.now) (length a.lengths.now) (length a.arena.now) (held c)

-- the segments' lengths are the set's, and read again from their area
segments_are : (f : List ℕ) (s : FrozenSegmentCache) → s ≡ file_set f → length (all_words (content_of 1 f)) ≡ s.segments
segments_are f s e = sym (ap (λ (x : FrozenSegmentCache). x.segments) e)

lengths_back : (f area : List ℕ) (s : FrozenSegmentCache) → s ≡ file_set f → length (content_of 1 f) / 8 ≤ 256
    → take s.segments (over (padded (all_words (content_of 1 f))) area) ≡ all_words (content_of 1 f)
lengths_back f area s e few =
    padded_front (all_words (content_of 1 f)) area s.segments (segments_are f s e) (omega (arith, segments_are f s e, length_words (length (content_of 1 f) / 8) (content_of 1 f)))

pub load_index-requires : goal.load_index-requires
load_index-requires c =
    let n = ap (λ (s : FrozenSegmentCache). s.buckets) c.requires.0 in (
      ap length c.content_of.ensures ∙ (blocks_told c.args.file.now c.requires.1).index ∙ ap (λ (k : ℕ). 64 * k) (sym n),
      subst (λ (k : ℕ). 8 * k ≤ length c.args.index.now) (sym n) (told (goal.at.load_index-requires c).Else-not-lookup_areas_hold).index_holds,
    )

-- the filter's words in its area
filter_held : (c : Else-not-lookup_areas_hold) → c.args.set ≡ file_set c.args.file.now → c.args.set.filter_words ≤ length c.args.filter.now
filter_held c e = subst (λ (k : ℕ). k ≤ length c.args.filter.now) (sym (ap (λ (s : FrozenSegmentCache). s.filter_words) e)) (told c).filter_holds

pub slice_bounds-take_words-end : goal.slice_bounds-take_words-end
slice_bounds-take_words-end c = filter_held (goal.at.slice_bounds-take_words-end c).Else-not-lookup_areas_hold c.requires.0

pub slice_bounds-take_words-end-2 : goal.slice_bounds-take_words-end-2
slice_bounds-take_words-end-2 c = sym (length-take-le c.args.set.filter_words c.args.filter.now (filter_held (goal.at.slice_bounds-take_words-end-2 c).Else-not-lookup_areas_hold c.requires.0))

pub take_words-requires : goal.take_words-requires
take_words-requires c =
    let n = ap (λ (s : FrozenSegmentCache). s.filter_words) c.requires.0 in
    let front = length-take-le c.args.set.filter_words c.args.filter.now (filter_held (goal.at.take_words-requires c).Else-not-lookup_areas_hold c.requires.0) in
    omega (arith, front, ap length c.content_of-filter_bytes.ensures, (blocks_told c.args.file.now c.requires.1).filter, n)

pub load_lengths-requires : goal.load_lengths-requires
load_lengths-requires c =
    let at = goal.at.load_lengths-requires c in
    let t = blocks_told c.args.file.now c.requires.1 in
    (subst (λ (l : List ℕ). length l / 8 ≤ 256) (sym c.content_of-2.ensures) t.segments, (told at.Else-not-lookup_areas_hold).lengths_hold)

-- what is read again of the lengths that were loaded
module _ (c : After-load_lengths) where
  loaded : c.load_lengths.new.lengths ≡ over (padded (all_words (content_of 1 c.args.file.now))) c.args.lengths.now
  loaded = c.load_lengths.ensures ∙ ap (λ (l : List ℕ). over (padded (all_words l)) c.args.lengths.now) c.content_of-2.ensures

  front : c.args.set ≡ file_set c.args.file.now → length (content_of 1 c.args.file.now) / 8 ≤ 256 → take c.args.set.segments c.load_lengths.new.lengths ≡ all_words (content_of 1 c.args.file.now)
  front e few = ap (take c.args.set.segments) loaded ∙ lengths_back c.args.file.now c.args.lengths.now c.args.set e few

  count : c.args.set ≡ file_set c.args.file.now → length (content_of 1 c.args.file.now) / 8 ≤ 256 → length (take c.args.set.segments c.load_lengths.new.lengths) ≡ c.args.set.segments
  count e few = ap length (front e few) ∙ segments_are c.args.file.now c.args.set e

pub slice_bounds-load_starts-end : goal.slice_bounds-load_starts-end
slice_bounds-load_starts-end c =
    let n = count (goal.at.slice_bounds-load_starts-end c).After-load_lengths c.requires.0 (blocks_told c.args.file.now c.requires.1).segments in
    omega (arith, n, length-take c.args.set.segments c.load_lengths.new.lengths)

pub slice_bounds-load_starts-end-2 : goal.slice_bounds-load_starts-end-2
slice_bounds-load_starts-end-2 c = sym (count (goal.at.slice_bounds-load_starts-end-2 c).After-load_lengths c.requires.0 (blocks_told c.args.file.now c.requires.1).segments)

pub load_starts-requires : goal.load_starts-requires
load_starts-requires c =
    let at = goal.at.load_starts-requires c in
    let t = blocks_told c.args.file.now c.requires.1 in
    let words = front at.After-load_lengths c.requires.0 t.segments in
    let few = length_words (length (content_of 1 c.args.file.now) / 8) (content_of 1 c.args.file.now) in
    rw words (omega (arith, few, t.segments), (told at.Else-not-lookup_areas_hold).starts_hold, t.adds_up)

-- the bytes in the arena
records_held : (c : Else-not-lookup_areas_hold) (records : List ℕ) → records ≡ content_of 4 c.args.file.now → length records ≤ length c.args.arena.now
records_held c records e = subst (λ (l : List ℕ). length l ≤ length c.args.arena.now) (sym e) (told c).arena_held

pub slice_bounds-copy_bytes-end : goal.slice_bounds-copy_bytes-end
slice_bounds-copy_bytes-end c = records_held (goal.at.slice_bounds-copy_bytes-end c).Else-not-lookup_areas_hold _ c.content_of-records.ensures

pub slice_bounds-copy_bytes-end-2 : goal.slice_bounds-copy_bytes-end-2
slice_bounds-copy_bytes-end-2 c =
    sym (length-take-le _ c.args.arena.now (records_held (goal.at.slice_bounds-copy_bytes-end-2 c).Else-not-lookup_areas_hold _ c.content_of-records.ensures))

pub returns : goal.returns
returns c =
    let at = goal.at.returns c in
    let a = c.args in
    let f = a.file.now in
    let t = blocks_told f c.requires.1 in
    let n = ap (λ (s : FrozenSegmentCache). s.filter_words) c.requires.0 in
    let some = length-take-le a.set.filter_words a.filter.now (filter_held at.Else-not-lookup_areas_hold c.requires.0) in
    let words : c.take_words.new.words ≡ words_of a.set.filter_words c.content_of-filter_bytes.result.now = rw some at (c.take_words.ensures.0 ∙ c.take_words.ensures.1) in
    load_done f a.index.now a.filter.now a.starts.now a.lengths.now a.arena.now a.set c.load_index.new.index
    _ c.load_starts.new.starts c.load_lengths.new.lengths _ c.requires.1 (held at.Else-not-lookup_areas_hold) c.requires.0
    (c.load_index.ensures
    ∙ ap₂ (λ (s : FrozenSegmentCache) (l : List ℕ). over (unmarked_index s.config.packed_bucket_index s.buckets (words_of (8 * s.buckets) l)) a.index.now) c.requires.0
    c.content_of.ensures)
    (front_home (words_of a.set.filter_words c.content_of-filter_bytes.result.now) c.take_words.new.words a.filter.now a.set.filter_words words (length_words _ _)
    ∙ ap₂ (λ (s : FrozenSegmentCache) (l : List ℕ). over (words_of s.filter_words l) a.filter.now) c.requires.0 c.content_of-filter_bytes.ensures)
    (c.load_starts.ensures ∙ ap (λ (l : List ℕ). over (padded (starts_by 0 l)) a.starts.now) (front at.After-load_lengths c.requires.0 t.segments))
    (loaded at.After-load_lengths)
    (front_home c.content_of-records.result.now c.copy_bytes.new.out a.arena.now (length c.content_of-records.result.now)
    (c.copy_bytes.ensures ∙ copied_law _ _ (length-take-le _ a.arena.now (records_held at.Else-not-lookup_areas_hold _ c.content_of-records.ensures))) refl
    ∙ ap (λ (l : List ℕ). over l a.arena.now) c.content_of-records.ensures)
