-- The steps of a rebuild: its segments one by one, its new segment areas, and what its pushes and its finish leave. Assumes nothing.
use Rattle.std.proofs.Common.{◌≡◌, ℕ, zero, suc, ◌+◌, ◌-◌, ◌*◌, ◌%◌, ◌^◌, ◌<◌, ◌≤◌, Bool, true, false, cond, eqb, leb, List, [], ◌∷◌, ◌++◌, length, get_or, drop, take, set, subst, sym, replicate, refl, ap, ap₂, ◌∙◌, append_assoc, arith, length-append, take_all, eqb-true, le-leb, leb-true}
use lib.ListN.{length-replicate}
use Rattle.std.specs.Bool.{MatchBool}
use Rattle.std.specs.List.{AllWithin, HoldsAt, zip}
use Rattle.std.proofs.lemmas.List.{get_or-take, length-take, length-take-le}
use Rattle.std.proofs.lemmas.Slice.Zip.{get_or-zip, length-zip}
use Rattle.hash_parts.specs.Hash.{tag_of}
use Rattle.records.specs.Area.{over, pasted}
use Rattle.records.specs.Record.{record_bytes}
use Rattle.index.specs.Build.{cleared}
use Rattle.index.specs.Filter.{displaced_marked}
use Rattle.index.specs.Packed.{packed_index, packed_scratch}
use Rattle.index.specs.Segments.{padded}
use Rattle.index.specs.Word.{word_of}
use Rattle.sets.specs.Answers.{accept}
use Rattle.sets.specs.Kept.{kept_count, retained}
use Rattle.sets.specs.Questions.{arena_holds, buckets_in, filter_words_in, segment_areas_hold}
use Rattle.sets.specs.Rebuild.{Copied, RebuildFinished, RebuildOpened, Reused, adds_segment, build_of, copied_grown, copied_location, copied_made, copied_size, rebuild_filled, moved_location, rebuild_finish_made, rebuild_opened, reused_grown, reused_made, segment_for, segments_inside, sum_of, with_last}
use Rattle.sets.specs.declared.cache.FrozenSegmentCache.{FrozenSegmentCache}
use Rattle.sets.specs.declared.rebuild.SegmentRecordLocation.{SegmentRecordLocation}
use Rattle.sets.specs.declared.rebuild.SharedSegmentCacheBuild.{SharedSegmentCacheBuild}
use Rattle.sets.specs.declared.rebuild.SharedSegmentCacheBuilder.{SharedSegmentCacheBuilder}
use Rattle.sets.proofs.Counts.{both}
use Rattle.sets.proofs.RebuildAsked.{segments_each, segments_pass}

-- ---- segments

module _ (count filled : ℕ) (starts lengths : List ℕ) (some : count ≤ length starts) (others : count ≤ length lengths) where
  -- the first so many segments, each with its start and its length
  abbrev pub pairs : List (ℕ × ℕ)
  pairs = zip (take count starts) (take count lengths)

  pairs_length : length pairs ≡ count
  pairs_length = length-zip (take count starts) (take count lengths) ∙ omega (arith, length-take count starts, length-take count lengths)

  pair_at : (g : ℕ) → g < count → get_or pairs g (0, 0) ≡ (get_or starts g 0, get_or lengths g 0)
  pair_at g h =
      get_or-zip (take count starts) (take count lengths) g (0, 0) (omega (arith, length-take count starts)) (omega (arith, length-take count lengths))
      ∙ rw (get_or-take count starts g 0 h, get_or-take count lengths g 0 h)

  -- whether each lies inside, as a test of one after the other tells
  pub pairs_inside : (r : Bool)
      → MatchBool r (AllWithin (λ p. p.0 + p.1 ≤ filled) pairs 0 (length pairs)) ((k : ℕ) × (k < length pairs) × HoldsAt (λ p. filled < p.0 + p.1) pairs k)
      → r ≡ segments_inside count filled starts lengths
  pairs_inside true each =
      sym (segments_pass filled starts lengths count
      (λ g h. subst (λ (p : ℕ × ℕ). p.0 + p.1 ≤ filled) (pair_at g h) (each g (0, 0) (omega arith) (omega (arith, h, pairs_length)))))
  pairs_inside false (k, h, out) =
      let inside : k < count = omega (arith, h, pairs_length) in
      sym (segments_not k inside (subst (λ (p : ℕ × ℕ). filled < p.0 + p.1) (pair_at k inside) (out (0, 0))))
    where
      segments_not : (i : ℕ) → i < count → filled < get_or starts i 0 + get_or lengths i 0 → segments_inside count filled starts lengths ≡ false
      segments_not i h out = go (segments_inside count filled starts lengths) refl
        where
          go : (b : Bool) → segments_inside count filled starts lengths ≡ b → b ≡ false
          go true e = absurd (omega (arith, segments_each filled starts lengths count e i h))
          go false e = refl

module _ (filled : ℕ) (starts lengths : List ℕ) where
  -- their bytes
  pub sum_inside : (n : ℕ) → filled ≤ 2 ^ 30 → ((g : ℕ) → g < n → get_or starts g 0 + get_or lengths g 0 ≤ filled) → sum_of n lengths ≤ n * 2 ^ 30
  unfolding sum_of
  sum_inside zero short each = omega arith
  sum_inside (suc n) short each =
      let s : sum_of n lengths ≤ n * 2 ^ 30 = sum_inside n short (λ (g : ℕ) (h : g < n). each g (omega arith)) in
      let t : get_or starts n 0 + get_or lengths n 0 ≤ filled = each n (omega arith) in
      omega arith

pub sum_more : (n : ℕ) (words : List ℕ) → sum_of (n + 1) words ≡ sum_of n words + get_or words n 0
unfolding sum_of
sum_more n words =
    let s : n + 1 ≡ suc n = omega arith in
    rw s

-- of the front of an area
pub sum_front : (n i : ℕ) (words : List ℕ) → i ≤ n → sum_of i (take n words) ≡ sum_of i words
unfolding sum_of
sum_front n zero words h = refl
sum_front n (suc i) words h = ap₂ ◌+◌ (sum_front n i words (omega arith)) (get_or-take n words i 0 (omega arith))

-- what is summed of it is the sum, where that fits 64 bits
pub sum_part : (n : ℕ) (words : List ℕ) → n ≤ length words → sum_of n words < 2 ^ 64 → sum_of (length (take n words)) (take n words) % 2 ^ 64 ≡ sum_of n words
sum_part n words inside fits =
    let front = ap (λ (i : ℕ). sum_of i (take n words)) (length-take-le n words inside) ∙ sum_front n n words (omega arith) in
    omega (arith, front, fits)

-- ---- the new segment areas

drop_zeros : (n m : ℕ) (l : List ℕ) → n ≤ m → drop n (replicate m 0 ++ l) ≡ replicate (m - n) 0 ++ l
drop_zeros zero m l h =
    let e : m - 0 ≡ m = omega arith in
    rw e
drop_zeros (suc n) zero l h = absurd (omega arith)
drop_zeros (suc n) (suc m) l h =
    let e : suc m - suc n ≡ m - n = omega arith in
    rw e (drop_zeros n m l (omega arith))

-- words over a cleared area: the words, and 0 in the rest of its 256
pub over_cleared : (s area zeroed : List ℕ) → length s ≤ 256 → 256 ≤ length area → zeroed ≡ cleared area 256 → over s zeroed ≡ over (padded s) area
unfolding cleared padded
over_cleared s area zeroed few long e =
    let z : zeroed ≡ replicate 256 0 ++ drop 256 area = e ∙ rw (le-leb 256 (length area) long, length-replicate {A = ℕ} 256 0) in
    let k : length (s ++ replicate (256 - length s) 0) ≡ 256 = omega (arith, length-append s (replicate (256 - length s) 0), length-replicate {A = ℕ} (256 - length s) 0) in
    rw (take_all 256 s few, k, append_assoc s (replicate (256 - length s) 0) (drop 256 area))
    (ap (λ (t : List ℕ). s ++ drop (length s) t) z ∙ ap (λ (t : List ℕ). s ++ t) (drop_zeros (length s) 256 (drop 256 area) few))

-- ---- numbers

pub segment_most : (bytes : ℕ) → segment_for bytes ≤ 1
segment_most bytes = go (eqb bytes 0)
  where
    go : (b : Bool) → cond b 0 1 ≤ 1
    go true = omega arith
    go false = omega arith

pub kept_most : (flags : List ℕ) → kept_count flags ≤ length flags
unfolding kept_count
kept_most [] = omega arith
kept_most (f ∷ l) = go (eqb f 0) (kept_most l)
  where
    go : (b : Bool) → kept_count l ≤ length l → cond b (kept_count l) (suc (kept_count l)) ≤ suc (length l)
    go true h = omega arith
    go false h = omega arith

pub areas_256 : (starts lengths : ℕ) → segment_areas_hold starts lengths ≡ true → (256 ≤ starts) × (256 ≤ lengths)
unfolding segment_areas_hold
areas_256 starts lengths e =
    let t = both (leb 256 starts) _ e in
    (leb-true _ _ t.0, leb-true _ _ t.1)

pub arena_held : (filled arena : ℕ) → arena_holds filled arena ≡ true → (filled ≤ arena) × (arena ≤ 1_073_741_824)
unfolding arena_holds
arena_held filled arena e =
    let t = both (leb filled arena) _ e in
    (leb-true _ _ t.0, leb-true _ _ t.1)

-- ---- what a push leaves

module _ (slot : ℕ) (r : SharedSegmentCacheBuilder) (h key value : ℕ) (source : SegmentRecordLocation) (index filter : List ℕ) where
  pub reused_left_law : (grown : SharedSegmentCacheBuilder) (location : ℕ) (indexed marked : List ℕ) → grown ≡ reused_grown r source.header_bytes key value
      → location ≡ moved_location r source.location → indexed ≡ set index slot (word_of (tag_of h) location)
      → marked ≡ displaced_marked filter r.filter_words h slot r.bucket_count
      → ◌≡◌ {A = Reused} (record { answer = accept record { builder = grown; slot = slot; location = location }; index = indexed; filter = marked })
      (reused_made slot r h key value source index filter)
  reused_left_law grown location indexed marked same moved word mark = rw (same, word, mark, moved)

module _ (slot deadline : ℕ) (r : SharedSegmentCacheBuilder) (h : ℕ) (key value index filter arena : List ℕ) where
  pub copied_left_law : (n : ℕ) (grown : SharedSegmentCacheBuilder) (location : ℕ) (indexed marked home : List ℕ) → n ≡ copied_size r (length key) (length value)
      → home ≡ pasted (rebuild_filled r) (record_bytes r.config.expiry key value deadline) arena
      → grown ≡ copied_grown r n (length key) (length value) → location ≡ copied_location r
      → indexed ≡ set index slot (word_of (tag_of h) location) → marked ≡ displaced_marked filter r.filter_words h slot r.bucket_count
      → ◌≡◌ {A = Copied}
      (record {
        answer = accept record { builder = grown; slot = slot; location = location };
        index = indexed;
        filter = marked;
        arena = home;
      })
      (copied_made slot deadline r h key value index filter arena)
  copied_left_law n grown location indexed marked home size wrote same placed word mark = rw (same, size, word, mark, placed, wrote)

-- ---- what rebuild open and finish leave

pub reopen_left_law : (s : FrozenSegmentCache) (records : ℕ) (flags : List ℕ) (tick : ℕ) (index filter zeroed blank starts lengths starts' lengths' : List ℕ) (r : SharedSegmentCacheBuilder)
    → r ≡ rebuild_opened s records flags tick → zeroed ≡ cleared index (r.bucket_count * 8)
    → blank ≡ cleared filter r.filter_words → starts' ≡ starts → lengths' ≡ lengths
    → ◌≡◌ {A = RebuildOpened} (record { answer = accept r; index = zeroed; filter = blank; starts = starts'; lengths = lengths' })
    (record {
      answer = accept (rebuild_opened s records flags tick);
      index = cleared index (8 * buckets_in s.config records);
      filter = cleared filter (filter_words_in s.config records);
      starts = starts;
      lengths = lengths;
    })
reopen_left_law s records flags tick index filter zeroed blank starts lengths starts' lengths' r made zeros blanks begun long =
    let e : buckets_in s.config records * 8 ≡ 8 * buckets_in s.config records = omega arith in
    rw (zeros, blanks, made, e, begun, long)

-- the segment that finish adds has a number
module _ (r : SharedSegmentCacheBuilder) where
  pub adds_few : retained r.kept + segment_for r.copied_bytes ≤ 256 → retained r.kept + cond (adds_segment r) 1 0 ≤ 256
  unfolding adds_segment
  adds_few h = go (eqb r.copied_bytes 0) (eqb (retained r.kept) 0) refl h
    where
      go : (b d : Bool) → eqb (retained r.kept) 0 ≡ d → retained r.kept + cond b 0 1 ≤ 256 → retained r.kept + cond (cond b d true) 1 0 ≤ 256
      go true true e k = omega (arith, eqb-true (retained r.kept) 0 e)
      go true false e k = omega arith
      go false d e k = omega arith

  pub adds_below : adds_segment r ≡ true → retained r.kept + cond (adds_segment r) 1 0 ≤ 256 → retained r.kept < 256
  adds_below e h =
      let one : ◌≡◌ {A = ℕ} (cond (adds_segment r) 1 0) 1 = rw e in
      omega (arith, one, h)

pub refinish_left_law : (r : SharedSegmentCacheBuilder) (index starts lengths scratch laid starts' lengths' left : List ℕ) (build : SharedSegmentCacheBuild) → build ≡ build_of r lengths
    → starts' ≡ with_last r starts r.source_filled → lengths' ≡ with_last r lengths r.copied_bytes
    → laid ≡ cond r.config.packed_bucket_index (packed_index r.bucket_count index scratch) index
    → left ≡ cond r.config.packed_bucket_index (packed_scratch r.bucket_count index scratch) scratch
    → ◌≡◌ {A = RebuildFinished} (record { answer = accept build; index = laid; starts = starts'; lengths = lengths'; scratch = left }) (rebuild_finish_made r index starts lengths scratch)
refinish_left_law r index starts lengths scratch laid starts' lengths' left build made begun long packed_it wrote = rw (made, begun, long, packed_it, wrote)
