-- A finished set can be a source: what an accepted finish or rebuild finish leaves passes question 1 of a rebuild open. Nothing is assumed of the state
-- given but that the call was accepted. Assumes nothing.
use Rattle.std.proofs.Common.{◌≡◌, ℕ, zero, suc, ◌+◌, ◌*◌, ◌<◌, ◌≤◌, Bool, true, false, cond, eqb, ltb, leb, List, [], ◌∷◌, length, get_or, take, sym, refl, ap, ◌∙◌, arith, ltb-true, ne_eqb, eqb-true, leb-true}
use Rattle.index.specs.Segments.{all_inside, inside, lengths_of, no_start, next_start, start_after, starts_after, starts_of}
use Rattle.index.specs.Word.{word_stored}
use Rattle.index.proofs.Splits.{lengths_length}
use Rattle.index.proofs.Starts.{inside_at, locations_in, next_start_from}
use Rattle.sets.specs.Answers.{accept}
use Rattle.sets.specs.Build.{set_of, Finished, after_finish, segment_starts}
use Rattle.sets.specs.Lookup.{areas_hold_lookup, areas_hold_set, set_fits}
use Rattle.sets.specs.Questions.{segment_areas_hold}
use Rattle.sets.specs.Rebuild.{areas_hold_source, segments_inside, RebuildFinished, after_rebuild_finish}
use Rattle.sets.specs.declared.builder.SegmentCacheBuilder.{SegmentCacheBuilder}
use Rattle.sets.specs.declared.cache.FrozenSegmentCache.{FrozenSegmentCache}
use Rattle.sets.specs.declared.rebuild.SharedSegmentCacheBuild.{SharedSegmentCacheBuild}
use Rattle.sets.specs.declared.rebuild.SharedSegmentCacheBuilder.{SharedSegmentCacheBuilder}
use Rattle.sets.proofs.Accepted.{FinishCase, finish_made_law, finish_many, finish_refused_law, finish_case}
use Rattle.sets.proofs.Closure.{finish_passes}
use Rattle.sets.proofs.Counts.{both}
use Rattle.sets.proofs.RebuildAsked.{EachInside, segments_pass}
use Rattle.sets.proofs.RebuildClosure.{filled_inside, refinish_passes, refinish_inside}

-- ---- the starts of a finish lie in the filled arena

-- the location of a word that passes question 5
location_inside : (filled w location : ℕ) → inside filled w ≡ true → word_stored w ≡ location + 1 → location < filled
location_inside filled w location e named = go (eqb w 0) refl e
  where
    go : (t : Bool) → eqb w 0 ≡ t → cond t true (cond (eqb (word_stored w) 0) false (leb (word_stored w) filled)) ≡ true → location < filled
    go true z q = absurd (omega (arith, ap word_stored (eqb-true w 0 z)))
    go false z q =
        let held : leb (word_stored w) filled ≡ true = rw (ne_eqb (word_stored w) 0 (λ (n : word_stored w ≡ 0). omega arith)) at q in
        omega (arith, leb-true (word_stored w) filled held)

module _ (words : List ℕ) (filled target : ℕ) (asked : all_inside filled words ≡ true) where
  next_inside : (bound : ℕ) → next_start words bound < no_start → next_start words bound < filled
  next_inside bound h =
      let l = next_start_from words bound h in
      location_inside filled (get_or words l.at 0) (next_start words bound) (inside_at filled words asked l.at l.within) l.stored

  after_inside : (last : ℕ) → start_after words filled target last < no_start → start_after words filled target last < filled
  unfolding start_after
  after_inside last = go (eqb target 0) (leb filled (last + target))
    where
      next : ℕ
      next = next_start words (last + target)

      go : (z w : Bool) → cond z no_start (cond w no_start next) < no_start → cond z no_start (cond w no_start next) < filled
      go true w h = absurd (omega arith)
      go false true h = absurd (omega arith)
      go false false h = next_inside (last + target) h

  starts_after_inside : (n last i : ℕ) → i < length (starts_after n words filled target last) → get_or (starts_after n words filled target last) i 0 < filled
  unfolding starts_after
  starts_after_inside zero last i h = absurd (omega (arith, h))
  starts_after_inside (suc n) last i h = go (ltb next no_start) refl (starts_after_inside n next) i h
    where
      next : ℕ
      next = start_after words filled target last

      rest : List ℕ
      rest = starts_after n words filled target next

      go : (t : Bool) → ltb next no_start ≡ t → ((j : ℕ) → j < length rest → get_or rest j 0 < filled)
          → (j : ℕ) → j < length (cond t (next ∷ rest) []) → get_or (cond t (next ∷ rest) []) j 0 < filled
      go false e each j k = absurd (omega (arith, k))
      go true e each zero k = after_inside last (ltb-true next no_start e)
      go true e each (suc j) k = each j (omega (arith, k))

  starts_inside : (i : ℕ) → i < length (starts_of words filled target) → get_or (starts_of words filled target) i 0 ≤ filled
  unfolding starts_of
  starts_inside zero h = omega arith
  starts_inside (suc i) h = omega (arith, starts_after_inside 256 0 i (omega (arith, h)))

-- each segment ends at the next start or at the last filled byte
lengths_inside : (filled : ℕ) (ss : List ℕ) → ((i : ℕ) → i < length ss → get_or ss i 0 ≤ filled) → EachInside filled ss (lengths_of filled ss) (length ss)
unfolding lengths_of
lengths_inside filled [] each g h = absurd (omega (arith, h))
lengths_inside filled (a ∷ []) each zero h = omega (arith, each 0 h)
lengths_inside filled (a ∷ []) each (suc g) h = absurd (omega (arith, h))
lengths_inside filled (a ∷ b ∷ ss) each zero h = omega (arith, each 0 h, each 1 (omega arith))
lengths_inside filled (a ∷ b ∷ ss) each (suc g) h =
    lengths_inside filled (b ∷ ss) (λ (i : ℕ) (k : i < length (b ∷ ss)). each (suc i) (omega (arith, k))) g (omega (arith, h))

-- ---- question 1 of a source, from question 1 of the set

passed_source : (s : FrozenSegmentCache) (index filter : ℕ) (starts lengths : List ℕ) (arena : ℕ)
    → areas_hold_lookup s index filter (length starts) (length lengths) arena ≡ true → segments_inside s.segments s.filled starts lengths ≡ true
    → areas_hold_source s starts lengths arena ≡ true
unfolding areas_hold_lookup areas_hold_set areas_hold_source
passed_source s index filter starts lengths arena e each =
    let t = both (areas_hold_set s index (length starts) (length lengths) arena) _ e in
    let u = both (set_fits s) _ t.0 in
    let v = both (leb (8 * s.buckets) index) _ u.1 in
    let w = both (segment_areas_hold (length starts) (length lengths)) _ v.1 in
    rw (u.0, w.0, w.1, each)

-- ---- finish

module _ (b : SegmentCacheBuilder) (target : ℕ) (index starts lengths scratch arena : List ℕ) where
  abbrev finished : Finished
  finished = after_finish b target index starts lengths scratch arena

  -- each segment of a finished set lies in its filled arena
  pub finish_inside : (s : FrozenSegmentCache) → finished.answer ≡ accept s → segments_inside s.segments s.filled finished.starts finished.lengths ≡ true
  finish_inside s e = go (finish_case b target index starts lengths scratch arena) e
    where
      ss : List ℕ
      ss = segment_starts b target index

      go : {f : Finished} → FinishCase b target index starts lengths scratch arena f → f.answer ≡ accept s
          → segments_inside s.segments s.filled f.starts f.lengths ≡ true
      go (finish_refused_law n) e = cc
      go (finish_many a) e = cc
      go (finish_made_law a few) e =
          let same : set_of b (length ss) ≡ s = cc in
          let asked = sym (locations_in b.filled index b.bucket_count a.areas.index_holds) ∙ a.located in
          rw (← same)
          (segments_pass b.filled _ _ (length ss)
          (filled_inside b.filled (length ss) ss (lengths_of b.filled ss) starts lengths few refl (lengths_length b.filled ss)
          (lengths_inside b.filled ss (starts_inside (take (8 * b.bucket_count) index) b.filled target asked))))

  -- what an accepted finish leaves can be a source
  pub finish_source : (s : FrozenSegmentCache) → finished.answer ≡ accept s → areas_hold_source s finished.starts finished.lengths (length arena) ≡ true
  finish_source s e =
      passed_source s (length finished.index) b.filter_words finished.starts finished.lengths (length arena)
      (finish_passes b target index starts lengths scratch arena s e b.filter_words (omega arith))
      (finish_inside s e)

-- ---- rebuild finish

module _ (r : SharedSegmentCacheBuilder) (index starts lengths scratch arena : List ℕ) where
  abbrev refinished : RebuildFinished
  refinished = after_rebuild_finish r index starts lengths scratch arena

  -- what an accepted rebuild finish leaves can be a source again
  pub refinish_source : (b : SharedSegmentCacheBuild) → refinished.answer ≡ accept b
      → areas_hold_source b.cache refinished.starts refinished.lengths (length arena) ≡ true
  refinish_source b e =
      passed_source b.cache (length refinished.index) r.filter_words refinished.starts refinished.lengths (length arena)
      (refinish_passes r index starts lengths scratch arena b e r.filter_words (omega arith))
      (refinish_inside r index starts lengths scratch arena b e)
