-- A load of a written file keeps the relation: its set holds to the list that was noted at the write. Assumes nothing.
use Rattle.std.proofs.lemmas.Option.{none-some}
use Rattle.std.specs.Prelude.{Some}
use mathlib.Core.Path.{◌≡◌, refl, sym, ap, ap₂, subst, ◌∙◌}
use mathlib.Core.Bool.{Bool}
use mathlib.Core.List.{List, [], ◌∷◌}
use Prim.Native.Nat.{ℕ, zero, suc, ◌+◌, ◌*◌, ◌/◌, ◌^◌, ◌≤◌, ◌<◌}
use native.Mathlib.Omega.{arith}
use lib.ListN.{length, take, drop, length-drop}
use lib.Seq.{take_at, length-take-le}
use Rattle.hash_parts.specs.ZeroBytes.{number_of}
use Rattle.hash_parts.specs.declared.setting.SegmentCacheConfig.{SegmentCacheConfig}
use Rattle.records.specs.Area.{over}
use Rattle.index.specs.Filter.{filter_has}
use Rattle.index.specs.Packed.{words_of}
use Rattle.index.specs.Segments.{padded}
use Rattle.index.specs.View.{record_in}
use Rattle.index.proofs.Contents.{stored_in}
use Rattle.index.proofs.Filling.{filled_back}
use Rattle.index.proofs.Flat.{index_slots}
use Rattle.sets.specs.Answers.{accept}
use Rattle.sets.specs.Lookup.{view_of}
use Rattle.sets.specs.Rebuild.{sum_of}
use Rattle.sets.specs.declared.cache.FrozenSegmentCache.{FrozenSegmentCache}
use Rattle.files.specs.Blocks.{content_of}
use Rattle.files.specs.Contents.{file_index, file_set, segment_lengths, starts_by, unmarked_index, buckets_of}
use Rattle.files.specs.Load.{Loaded}
use Rattle.files.specs.Write.{after_write, file_of, file_size}
use Rattle.files.proofs.Asked.{WriteAsked, FileAsked, LoadAsked, load_made, load_made_law, write_made}
use Rattle.files.proofs.Front.{slots_front, slots_taken}
use Rattle.files.proofs.LoadReads.{stored_loaded}
use Rattle.files.proofs.Low.{filter_loaded, slots_loaded}
use Rattle.files.proofs.Moved.{starts_length, sum_filled}
use Rattle.files.proofs.Passes.{few_segments, segments_inside_law, index_long, load_passes}
use Rattle.files.proofs.Round.{buckets_back, file_taken, filter_back, index_back, setting_back, words_back}
use Rattle.files.proofs.SmallWords.{SmallIf, small_loaded}
use Rattle.book.specs.Book.{Entry, ListedSet, ListedFile, kind_content, little_endian, numbers_in, running_sums}
use Rattle.book.specs.World.{Areas, FinishedSet, load_in}
use Rattle.book.proofs.Keys.{stored_of}
use Rattle.book.proofs.Loading.{alike_holds}
use Rattle.book.proofs.Relation.{SetHolds, FileHolds, LoadHolds, SegmentsHold}

-- ---- the book's reading of a file is the loader's

little_is : (l : List ℕ) → little_endian l ≡ number_of l
unfolding little_endian number_of
little_is [] = refl
little_is (b ∷ l) = ap (λ (n : ℕ). b + 256 * n) (little_is l)

content_is : (n : ℕ) (f : List ℕ) → kind_content n f ≡ content_of n f
unfolding kind_content content_of
content_is zero f = ap (λ (k : ℕ). take k (drop 6 f)) (little_is (take 4 f))
content_is (suc n) f = ap (λ (k : ℕ). kind_content n (drop (6 + k) f)) (little_is (take 4 f)) ∙ content_is n (drop (6 + number_of (take 4 f)) f)

numbers_are : (n most : ℕ) (bytes : List ℕ) → length bytes ≡ 8 * n → n ≤ most → numbers_in most bytes ≡ words_of n bytes
unfolding numbers_in words_of
numbers_are zero zero bytes e h = refl
numbers_are zero (suc most) [] e h = refl
numbers_are zero (suc most) (b ∷ bytes) e h = absurd (omega arith)
numbers_are (suc n) zero bytes e h = absurd (omega arith)
numbers_are (suc n) (suc most) [] e h = absurd (omega arith)
numbers_are (suc n) (suc most) (b ∷ bytes) e h =
    ap₂ (λ (x : ℕ) (r : List ℕ). x ∷ r) (little_is (take 8 (b ∷ bytes))) (numbers_are n most (drop 8 (b ∷ bytes)) (omega (arith, length-drop 8 (b ∷ bytes))) (omega arith))

sums_are : (start : ℕ) (l : List ℕ) → running_sums start l ≡ starts_by start l
unfolding running_sums starts_by
sums_are start [] = refl
sums_are start (n ∷ l) = ap (λ (r : List ℕ). start ∷ r) (sums_are (start + n) l)

lengths_are : (f : List ℕ) → FileAsked f → numbers_in 256 (kind_content 1 f) ≡ segment_lengths f
lengths_are f a =
    ap (numbers_in 256) (content_is 1 f)
    ∙ numbers_are (length (content_of 1 f) / 8) 256 (content_of 1 f) (omega (arith, a.whole_words)) (omega (arith, a.few_segments))

starts_are : (f area : List ℕ) → FileAsked f → take (length (segment_lengths f)) (over (padded (starts_by 0 (segment_lengths f))) area) ≡ running_sums 0 (numbers_in 256 (kind_content 1 f))
starts_are f area a =
    let n = starts_length (segment_lengths f) 0 in
    ap (λ (k : ℕ). take k (over (padded (starts_by 0 (segment_lengths f))) area)) (sym n)
    ∙ filled_back (starts_by 0 (segment_lengths f)) area (omega (arith, n, few_segments f a))
    ∙ sym (ap (running_sums 0) (lengths_are f a) ∙ sums_are 0 (segment_lengths f))

-- the segments of a loaded set lie in its bytes and add up to them
segments_loaded : (f starts lengths : List ℕ) → FileAsked f → 256 ≤ length lengths
    → SegmentsHold (file_set f) (over (padded (starts_by 0 (segment_lengths f))) starts) (over (padded (segment_lengths f)) lengths)
segments_loaded f starts lengths a held =
    record {
      inside = segments_inside_law f a starts lengths;
      bytes = sym total;
      sums = omega (arith, total);
    }
  where
    l : List ℕ
    l = segment_lengths f

    few : length l ≤ 256
    few = few_segments f a

    total : sum_of (length l) (over (padded l) lengths) ≡ length (content_of 4 f)
    total = sum_filled l lengths few held ∙ a.adds_up

-- ---- the file of a set that holds, loaded

-- no entry stands at no location
nowhere_stored : (s : FrozenSegmentCache) (arena starts lengths : List ℕ) (e : Entry) → stored_in (view_of s) arena starts lengths 0 ≡ Some (stored_of e) → ⊥
unfolding stored_in record_in
nowhere_stored s arena starts lengths e q = none-some (stored_of e) q

module _ (H : List ℕ → ℕ) (bound : (key : List ℕ) → H key < 2 ^ 64) (l : ListedFile) (top : ℕ) (source : FinishedSet) (listed : ListedSet) (arena out : List ℕ)
    (ok : SetHolds H l.expiry arena top source listed) (list : listed.list ≡ l.list)
    (asked : WriteAsked source.cache source.areas.index source.areas.filter source.areas.starts source.areas.lengths arena out) where
  abbrev s : FrozenSegmentCache
  s = source.cache

  abbrev a : Areas
  a = source.areas

  abbrev packed : Bool
  packed = s.config.packed_bucket_index

  abbrev f : List ℕ
  f = file_of s a.index a.filter a.starts a.lengths arena

  same_slots : (area : List ℕ) → FileAsked f → index_slots packed s.buckets (over (file_index f) area) ≡ index_slots packed s.buckets a.index
  same_slots area fa =
      let taken = slots_taken packed s.buckets a.index asked.index_holds in
      let b = buckets_back s a.index a.filter a.starts a.lengths arena out ok.typed asked in
      let long : length (file_index f) ≡ 8 * s.buckets = index_long f fa ∙ ap (λ (n : ℕ). 8 * n) b in
      slots_front s.buckets (file_index f) (drop (length (file_index f)) area) long packed
      ∙ ap (index_slots packed s.buckets) (index_back s a.index a.filter a.starts a.lengths arena out ok.typed asked)
      ∙ slots_loaded stored_of H (λ m e. stored_in (view_of s) arena a.starts a.lengths m ≡ Some (stored_of e)) (nowhere_stored s arena a.starts a.lengths) packed s.buckets
      (take (8 * s.buckets) a.index) (length-take-le (8 * s.buckets) a.index asked.index_holds) {table = ok.index.table} (rw taken ok.index.cells)
      ∙ taken

  same_small : (area : List ℕ) → FileAsked f → SmallIf (file_set f).config.packed_bucket_index (buckets_of f) (over (file_index f) area)
  same_small area fa =
      let b = buckets_back s a.index a.filter a.starts a.lengths arena out ok.typed asked in
      let long : length (file_index f) ≡ 8 * s.buckets = index_long f fa ∙ ap (λ (n : ℕ). 8 * n) b in
      subst (λ (c : SegmentCacheConfig). SmallIf c.packed_bucket_index (buckets_of f) (over (file_index f) area))
      (sym (setting_back s a.index a.filter a.starts a.lengths arena out ok.typed asked))
      (subst (λ (n : ℕ). SmallIf packed n (over (file_index f) area)) (sym b)
      (small_loaded packed s.buckets (unmarked_index packed s.buckets (take (8 * s.buckets) a.index)) area (file_index f)
      (index_back s a.index a.filter a.starts a.lengths arena out ok.typed asked) long))

  module _ (arena' : List ℕ) (a' : Areas) (load : LoadAsked f a'.index a'.filter a'.starts a'.lengths arena') where
    abbrev o : Loaded
    o = load_made f a'.index a'.filter a'.starts a'.lengths arena'

    memory : take (length (kind_content 4 f)) o.arena ≡ kind_content 4 f
    memory =
        ap (λ (c : List ℕ). take (length c) (over (content_of 4 f) arena')) (content_is 4 f)
        ∙ take_at (content_of 4 f) (drop (length (content_of 4 f)) arena') (length (content_of 4 f)) refl
        ∙ sym (content_is 4 f)

    holds : SetHolds H l.expiry o.arena (length (kind_content 4 f))
        (record { cache = file_set f; areas = record { index = o.index; filter = o.filter; starts = o.starts; lengths = o.lengths } })
        record { list = l.list; starts = running_sums 0 (numbers_in 256 (kind_content 1 f)); filled = length (kind_content 4 f) }
    holds =
        alike_holds H l.expiry arena top source listed ok
        (record { cache = file_set f; areas = record { index = o.index; filter = o.filter; starts = o.starts; lengths = o.lengths } }) o.arena
        (record { list = l.list; starts = running_sums 0 (numbers_in 256 (kind_content 1 f)); filled = length (kind_content 4 f) })
        (setting_back s a.index a.filter a.starts a.lengths arena out ok.typed asked) (buckets_back s a.index a.filter a.starts a.lengths arena out ok.typed asked)
        (words_back s a.index a.filter a.starts a.lengths arena out ok.typed asked) (same_slots a'.index load.file)
        (λ key.
        ap (λ (x : List ℕ). filter_has (over x a'.filter) s.filter_words (H key)) (filter_back s a.index a.filter a.starts a.lengths arena out ok.typed asked)
        ∙ filter_loaded a.filter a'.filter s.filter_words (H key) (bound key) asked.filter_holds)
        (stored_loaded s a.index a.filter a.starts a.lengths arena out ok.typed asked a'.starts a'.lengths arena' load.starts_hold load.lengths_hold) (sym list)
        (ap length (sym (content_is 4 f))) (starts_are f a'.starts load.file) (load_passes f load.file a'.index a'.filter a'.starts a'.lengths arena' load)
        (same_small a'.index load.file) (segments_loaded f a'.starts a'.lengths load.file load.lengths_hold)

  load_of : (arena' : List ℕ) (a' : Areas) (s' : FrozenSegmentCache) → (load_in f arena' a').answer ≡ accept s' → LoadHolds H f l arena' a' s'
  load_of arena' a' s' e =
      let m = load_made_law f a'.index a'.filter a'.starts a'.lengths arena' s' e in
      subst (λ (t : FrozenSegmentCache). LoadHolds H f l arena' a' t) m.2
      record {
        memory = subst (λ (o : Loaded). take (length (kind_content 4 f)) o.arena ≡ kind_content 4 f) (sym m.1) (memory arena' a' m.0);
        holds =
            subst
            (λ (o : Loaded).
            SetHolds H l.expiry o.arena (length (kind_content 4 f))
            (record { cache = file_set f; areas = record { index = o.index; filter = o.filter; starts = o.starts; lengths = o.lengths } })
            record { list = l.list; starts = running_sums 0 (numbers_in 256 (kind_content 1 f)); filled = length (kind_content 4 f) })
            (sym m.1) (holds arena' a' m.0);
      }

-- a file that was written is the writer's, of a set whose questions were all answered yes
module _ (H : List ℕ → ℕ) (file : List ℕ) (l : ListedFile) (h : FileHolds H file l) where
  abbrev c : FrozenSegmentCache
  c = h.source.cache

  abbrev b : Areas
  b = h.source.areas

  made : WriteAsked c b.index b.filter b.starts b.lengths h.arena h.out
      × ((after_write c b.index b.filter b.starts b.lengths h.arena h.out).file ≡ over (file_of c b.index b.filter b.starts b.lengths h.arena) h.out)
      × (file_size c b.lengths ≡ h.size)
  made = write_made c b.index b.filter b.starts b.lengths h.arena h.out h.size h.accepted

  pub file_asked_law : WriteAsked c b.index b.filter b.starts b.lengths h.arena h.out
  file_asked_law = made.0

  pub file_is : file_of c b.index b.filter b.starts b.lengths h.arena ≡ file
  file_is =
      sym (file_taken c b.index b.filter b.starts b.lengths h.arena h.out h.holds.typed file_asked_law) ∙ ap₂ take made.2 (sym made.1) ∙ h.made

-- the load of a file that holds
pub loads : (H : List ℕ → ℕ) → ((key : List ℕ) → H key < 2 ^ 64) → (file : List ℕ) (l : ListedFile) → FileHolds H file l → (arena : List ℕ) (a : Areas) (s : FrozenSegmentCache)
    → (load_in file arena a).answer ≡ accept s → LoadHolds H file l arena a s
loads H bound file l h arena a s =
    subst (λ (f : List ℕ). (load_in f arena a).answer ≡ accept s → LoadHolds H f l arena a s) (file_is H file l h)
    (load_of H bound l h.top h.source h.listed h.arena h.out h.holds h.list (file_asked_law H file l h) arena a s)
