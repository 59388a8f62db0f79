-- What the claim on lists of calls gives for files. "Under the mission's premises, loading a written file gives a set with the same lookups, statistics and
-- index words, marks aside". And the writer refuses no set of a list, and the loader no file of it, but for the areas that are lent.
-- Assumes nothing.
use Rattle.std.proofs.lemmas.Option.{none-some}
use Rattle.std.specs.Prelude.{Option, Some, slice_get}
use mathlib.Core.Path.{◌≡◌, refl, sym, ap, subst, ◌∙◌}
use mathlib.Core.Bool.{Bool, true, false, cond}
use mathlib.Core.List.{List, ◌∷◌}
use Prim.Native.Nat.{ℕ, ◌+◌, ◌*◌, ◌^◌, ◌≤◌, ◌<◌}
use native.Mathlib.Omega.{arith}
use lib.Dec.{leb}
use lib.ListN.{length, take, drop}
use lib.Seq.{length-take-le, take_at}
use borrow.Author.Tests.{le-leb, leb-true}
use Rattle.hash_parts.specs.Setting.{without_expiry}
use Rattle.hash_parts.specs.declared.setting.SegmentExpiry.{SegmentExpiry}
use Rattle.records.specs.Area.{over}
use Rattle.sets.specs.Answers.{accept, refuse}
use Rattle.sets.specs.Lookup.{after_get, areas_hold_lookup, areas_hold_set, ask_stats, set_fits, stats_answer}
use Rattle.sets.specs.Questions.{arena_holds, decided, first_no, segment_areas_hold}
use Rattle.sets.specs.Rebuild.{sum_of}
use Rattle.sets.specs.Stats.{stats_of}
use Rattle.sets.specs.declared.cache.FrozenSegmentCache.{FrozenSegmentCache}
use Rattle.sets.specs.declared.stats.SegmentCacheStats.{SegmentCacheStats}
use Rattle.sets.proofs.Counts.{both}
use Rattle.files.specs.Contents.{file_index, file_set, unmarked_index}
use Rattle.files.specs.Load.{Loaded, after_load, ask_load, load_areas_hold}
use Rattle.files.specs.Write.{FileWritten, after_write, ask_write, file_of, file_size}
use Rattle.files.proofs.Accepts.{load_answer}
use Rattle.files.proofs.Asked.{WriteAsked, FileAsked, load_made, load_made_law}
use Rattle.files.proofs.Passes.{index_long}
use Rattle.files.proofs.SmallWords.{index_same, small_taken}
use Rattle.files.proofs.Round as round
use Rattle.book.specs.Book.{Book, ListedSet, ListedFile, blank, book_after}
use Rattle.book.specs.Calls.{Call, lookup}
use Rattle.book.specs.Premise.{EqualHashes, Hashes64, TypedSettings}
use Rattle.book.specs.World.{Areas, FinishedSet, World, answer_of, answer_from, load_in, told, unopened, world_after, write_in}
use Rattle.book.proofs.Asking.{set_answer}
use Rattle.book.proofs.Consequences.{at_end}
use Rattle.book.proofs.Hashing.{hashed}
use Rattle.book.proofs.Loads.{file_asked_law, file_is, loads}
use Rattle.book.proofs.Pairs.{Both, both_none, both_some, pairs_get}
use Rattle.book.proofs.Relation.{SetHolds, FileHolds, Holds}
use Rattle.book.proofs.Steps.{unopened_holds}

-- ---- of what holds

held_parts : (s : FrozenSegmentCache) (index filter starts lengths arena : ℕ) → areas_hold_lookup s index filter starts lengths arena ≡ true
    → (set_fits s ≡ true) × (s.filled ≤ arena) × (arena ≤ 1_073_741_824)
unfolding areas_hold_lookup areas_hold_set arena_holds
held_parts s index filter starts lengths arena e =
    let a = both (areas_hold_set s index starts lengths arena) _ e in
    let b = both (set_fits s) _ a.0 in
    let c = both (leb (8 * s.buckets) index) _ b.1 in
    let d = both (segment_areas_hold starts lengths) _ c.1 in
    let r = both (leb s.filled arena) _ d.1 in
    (b.0, leb-true _ _ r.0, leb-true _ _ r.1)

module _ (H : List ℕ → ℕ) where
  -- the writer refuses with 10 alone, where its area is too short
  write_answered : (x : SegmentExpiry) (arena : List ℕ) (top : ℕ) (s : FinishedSet) (l : ListedSet) → SetHolds H x arena top s l → (out : List ℕ)
      → (after_write s.cache s.areas.index s.areas.filter s.areas.starts s.areas.lengths arena out).answer
      ≡ cond (leb (file_size s.cache s.areas.lengths) (length out)) (accept (file_size s.cache s.areas.lengths)) (refuse 10 tt)
  unfolding after_write ask_write
  write_answered x arena top s l ok out =
      let held = held_parts s.cache _ _ _ _ (length arena) ok.passes in
      let sum : leb (sum_of s.cache.segments s.areas.lengths) 1_073_741_824 ≡ true =
      le-leb (sum_of s.cache.segments s.areas.lengths) 1_073_741_824 (omega (arith, ok.segments.sums, held.1, held.2)) in
      rw (ok.passes, ok.segments.inside, sum) (go (leb (file_size s.cache s.areas.lengths) (length out)))
    where
      left : ℕ → FileWritten
      left q =
          decided q
          (record {
            answer = accept (file_size s.cache s.areas.lengths);
            file = over (file_of s.cache s.areas.index s.areas.filter s.areas.starts s.areas.lengths arena) out;
          })
          (λ n. record { answer = refuse n tt; file = out })

      go : (b : Bool) → (left (cond b 0 10)).answer ≡ cond b (accept (file_size s.cache s.areas.lengths)) (refuse 10 tt)
      go true = refl
      go false = refl

  -- the loader a file that was written with 10 alone, for its areas
  own_answered : (file : List ℕ) → (arena : List ℕ) (a : Areas)
      → first_no (ask_load file (length a.index) (length a.filter) (length a.starts) (length a.lengths) (length arena))
      ≡ cond (load_areas_hold file (length a.index) (length a.filter) (length a.starts) (length a.lengths) (length arena)) 0 10
      → (load_in file arena a).answer
      ≡ cond (load_areas_hold file (length a.index) (length a.filter) (length a.starts) (length a.lengths) (length arena)) (accept (file_set file)) (refuse 10 tt)
  unfolding after_load
  own_answered file arena a e =
      rw e (go (load_areas_hold file (length a.index) (length a.filter) (length a.starts) (length a.lengths) (length arena)))
    where
      left : ℕ → Loaded
      left q =
          decided q (load_made file a.index a.filter a.starts a.lengths arena)
          (λ n. record { answer = refuse n tt; index = a.index; filter = a.filter; starts = a.starts; lengths = a.lengths; arena = arena })

      go : (b : Bool) → (left (cond b 0 10)).answer ≡ cond b (accept (file_set file)) (refuse 10 tt)
      go true = refl
      go false = refl

  load_answered : (file : List ℕ) (l : ListedFile) → FileHolds H file l → (arena : List ℕ) (a : Areas)
      → (load_in file arena a).answer
      ≡ cond (load_areas_hold file (length a.index) (length a.filter) (length a.starts) (length a.lengths) (length arena)) (accept (file_set file)) (refuse 10 tt)
  load_answered file l h arena a =
      own_answered file arena a
      (subst
      (λ (f : List ℕ).
      first_no (ask_load f (length a.index) (length a.filter) (length a.starts) (length a.lengths) (length arena))
      ≡ cond (load_areas_hold f (length a.index) (length a.filter) (length a.starts) (length a.lengths) (length arena)) 0 10)
      (file_is H file l h)
      (load_answer h.source.cache h.source.areas.index h.source.areas.filter h.source.areas.starts h.source.areas.lengths h.arena h.out
      h.holds.typed (file_asked_law H file l h)
      (length a.index) (length a.filter) (length a.starts) (length a.lengths) (length arena)))

  -- ---- the same statistics

  abbrev stats_by : ℕ → ℕ → ℕ → ℕ → ℕ → ℕ → ℕ → SegmentCacheStats
  stats_by entries buckets words bytes keys values headers =
      record {
        entries = entries;
        buckets = buckets;
        index_slots = 8 * buckets;
        index_bytes = 64 * buckets + 8 * words;
        record_bytes = bytes;
        logical_key_bytes = keys;
        logical_value_bytes = values;
        record_header_bytes = headers;
      }

  same_stats : {n n' b b' w w' r r' k k' v v' h h' : ℕ} → n' ≡ n → b' ≡ b → w' ≡ w → r' ≡ r → k' ≡ k → v' ≡ v → h' ≡ h
      → stats_by n' b' w' r' k' v' h' ≡ stats_by n b w r k v h
  same_stats a b c d e f g = rw (a, b, c, d, e, f, g)

  stats_of_law : (file : List ℕ) (l : ListedFile) (h : FileHolds H file l) → stats_of (file_set file) ≡ stats_of h.source.cache
  stats_of_law file l h =
      let c = h.source.cache in
      let b = h.source.areas in
      let typed = h.holds.typed in
      let asked = file_asked_law H file l h in
      let back = round.back c b.index b.filter b.starts b.lengths h.arena h.out typed asked in
      subst (λ (f : List ℕ). stats_of (file_set f) ≡ stats_of c) (file_is H file l h)
      (same_stats back.records (round.buckets_back c b.index b.filter b.starts b.lengths h.arena h.out typed asked)
      (round.words_back c b.index b.filter b.starts b.lengths h.arena h.out typed asked)
      (ap length (round.segments_back c b.index b.filter b.starts b.lengths h.arena h.out typed asked)
      ∙ round.five_long c b.index b.filter b.starts b.lengths h.arena h.out typed asked
      ∙ sym h.holds.segments.bytes)
      back.keys back.values back.headers)

  -- ---- the same index words, marks aside

  index_words : (file : List ℕ) (l : ListedFile) (h : FileHolds H file l) (area : List ℕ) → FileAsked file
      → unmarked_index h.source.cache.config.packed_bucket_index h.source.cache.buckets (take (8 * h.source.cache.buckets) (over (file_index file) area))
      ≡ unmarked_index h.source.cache.config.packed_bucket_index h.source.cache.buckets (take (8 * h.source.cache.buckets) h.source.areas.index)
  index_words file l h area =
      subst
      (λ (f : List ℕ).
      FileAsked f
      → unmarked_index c.config.packed_bucket_index c.buckets (take (8 * c.buckets) (over (file_index f) area))
      ≡ unmarked_index c.config.packed_bucket_index c.buckets (take (8 * c.buckets) b.index))
      (file_is H file l h) own
    where
      c : FrozenSegmentCache
      c = h.source.cache

      b : Areas
      b = h.source.areas

      f : List ℕ
      f = file_of c b.index b.filter b.starts b.lengths h.arena

      ws : List ℕ
      ws = take (8 * c.buckets) b.index

      asked : WriteAsked c b.index b.filter b.starts b.lengths h.arena h.out
      asked = file_asked_law H file l h

      long : length ws ≡ 8 * c.buckets
      long = length-take-le (8 * c.buckets) b.index asked.index_holds

      own : FileAsked f
          → unmarked_index c.config.packed_bucket_index c.buckets (take (8 * c.buckets) (over (file_index f) area)) ≡ unmarked_index c.config.packed_bucket_index c.buckets ws
      own a =
          let n : length (file_index f) ≡ 8 * c.buckets =
          index_long f a ∙ ap (λ (k : ℕ). 8 * k) (round.buckets_back c b.index b.filter b.starts b.lengths h.arena h.out h.holds.typed asked) in
          ap (unmarked_index c.config.packed_bucket_index c.buckets)
          (take_at (file_index f) (drop (length (file_index f)) area) (8 * c.buckets) n ∙ round.index_back c b.index b.filter b.starts b.lengths h.arena h.out h.holds.typed asked)
          ∙ index_same c.config.packed_bucket_index c.buckets ws long (small_taken c.config.packed_bucket_index c.buckets b.index h.holds.small)

  stats_fit : (s t : FrozenSegmentCache) → set_fits s ≡ true → set_fits t ≡ true → stats_of s ≡ stats_of t → stats_answer s ≡ stats_answer t
  unfolding stats_answer ask_stats
  stats_fit s t p q e = rw (p, q) (ap accept e)

-- ---- of every list of calls

both_of : {A B : Type 0} {P : A → B → Type 0} {o : Option A} {p : Option B} (a : A) → Both P o p → o ≡ Some a → (b : B) × P a b
both_of a both_none e = absurd (none-some a e)
both_of {P = P} a (both_some {a = c} {b = b} x) e = let same : c ≡ a = cc in (b, rw same at x)

-- the book before the first open, with any setting
abbrev before : Book
before = blank without_expiry

module _ (empty : List ℕ) (calls : List (Call (List ℕ) ℕ)) where
  abbrev end : World
  end = world_after (unopened empty) calls

  module _ (equal : EqualHashes calls) (small : Hashes64 calls) (typed : TypedSettings calls) where
    ends : (H : List ℕ → ℕ) × ((key : List ℕ) → H key < 2 ^ 64) × Holds H end (book_after before (told (unopened empty) calls))
    ends =
        let h = hashed calls equal small typed in
        (h.0, h.1, at_end h.0 h.1 calls (unopened empty) before (unopened_holds h.0 empty without_expiry) h.2)

    -- the writer refuses a set of the list with nothing but 10, and only where the file is longer than the area lent
    pub write_by_the_list : (j : ℕ) (s : FinishedSet) → slice_get end.sets j ≡ Some s → (out : List ℕ)
        → (write_in end s out).answer ≡ cond (leb (file_size s.cache s.areas.lengths) (length out)) (accept (file_size s.cache s.areas.lengths)) (refuse 10 tt)
    write_by_the_list j s e out =
        let y = both_of s (pairs_get j ends.2.sets) e in
        write_answered ends.0 _ end.arena _ s y.0 y.1 out

    -- and the loader a file of the list with nothing but 10, for the areas lent
    pub load_by_the_list : (i : ℕ) (file : List ℕ) → slice_get end.files i ≡ Some file → (arena : List ℕ) (a : Areas)
        → (load_in file arena a).answer
        ≡ cond (load_areas_hold file (length a.index) (length a.filter) (length a.starts) (length a.lengths) (length arena)) (accept (file_set file)) (refuse 10 tt)
    load_by_the_list i file e arena a =
        let y = both_of file (pairs_get i ends.2.files) e in
        load_answered ends.0 file y.0 y.1 arena a

  -- a set of the list, written and loaded
  module _ (j : ℕ) (s : FinishedSet) (is : slice_get end.sets j ≡ Some s) (out : List ℕ) (n : ℕ) (written : (write_in end s out).answer ≡ accept n)
      (arena : List ℕ) (a : Areas) (s' : FrozenSegmentCache) (loaded : (load_in (take n (write_in end s out).file) arena a).answer ≡ accept s') where
    -- what the writer left, and what the loader leaves
    abbrev file : List ℕ
    file = take n (write_in end s out).file

    abbrev o : Loaded
    o = load_in file arena a

    filed : (H : List ℕ → ℕ) (x : SegmentExpiry) (top : ℕ) (l : ListedSet) → SetHolds H x end.arena top s l → FileHolds H file record { expiry = x; list = l.list }
    filed H x top l ok = record { arena = end.arena; top = top; source = s; listed = l; holds = ok; list = refl; out = out; size = n; accepted = written; made = refl }

    -- "the same lookups": for any key, hash and tick, where equal keys carry equal hashes with this lookup too
    pub same_lookups : (key : List ℕ) (h tick : ℕ) → EqualHashes (lookup j key h tick ∷ calls) → Hashes64 (lookup j key h tick ∷ calls) → TypedSettings calls
        → answer_of o.arena (after_get s' h key tick o.index o.filter o.starts o.lengths o.arena).answer ≡ answer_from end (Some s) key h tick
    same_lookups key h tick equal small typed =
        let g = hashed (lookup j key h tick ∷ calls) equal small (tt, typed) in
        let H : List ℕ → ℕ = g.0 in
        let holds = at_end H g.1 calls (unopened empty) before (unopened_holds H empty without_expiry) g.2.1 in
        let y = both_of s (pairs_get j holds.sets) is in
        let l = loads H g.1 file _ (filed H _ _ y.0 y.1) arena a s' loaded in
        set_answer H _ o.arena _ _ _ l.holds key h g.2.0.0 g.2.0.1 tick ∙ sym (set_answer H _ end.arena _ s y.0 y.1 key h g.2.0.0 g.2.0.1 tick)

    -- the same "statistics"
    pub same_statistics : EqualHashes calls → Hashes64 calls → TypedSettings calls → stats_answer s' ≡ stats_answer s.cache
    unfolding filed
    same_statistics equal small typed =
        let e = ends equal small typed in
        let y = both_of s (pairs_get j e.2.sets) is in
        let f = filed e.0 _ _ y.0 y.1 in
        let l = loads e.0 e.1 file _ f arena a s' loaded in
        let m = load_made_law file a.index a.filter a.starts a.lengths arena s' loaded in
        stats_fit e.0 s' s.cache (held_parts s' _ _ _ _ _ l.holds.passes).0 (held_parts s.cache _ _ _ _ _ y.1.passes).0 (ap stats_of (sym m.2) ∙ stats_of_law e.0 file _ f)

    -- the same "index words, marks aside": those in use
    pub same_index : EqualHashes calls → Hashes64 calls → TypedSettings calls
        → unmarked_index s.cache.config.packed_bucket_index s.cache.buckets (take (8 * s.cache.buckets) o.index)
        ≡ unmarked_index s.cache.config.packed_bucket_index s.cache.buckets (take (8 * s.cache.buckets) s.areas.index)
    unfolding filed
    same_index equal small typed =
        let e = ends equal small typed in
        let y = both_of s (pairs_get j e.2.sets) is in
        let f = filed e.0 _ _ y.0 y.1 in
        let m = load_made_law file a.index a.filter a.starts a.lengths arena s' loaded in
        ap (λ (r : Loaded). unmarked_index s.cache.config.packed_bucket_index s.cache.buckets (take (8 * s.cache.buckets) r.index)) m.1
        ∙ index_words e.0 file _ f a.index m.0.file
