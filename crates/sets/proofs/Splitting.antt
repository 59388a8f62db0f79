-- What finish leaves: where a question before the split is answered no, and after the split. Assumes nothing.
use Rattle.std.proofs.Common.{◌≡◌, ℕ, Bool, true, false, cond, leb, List, length, take, sym, ap, ◌∙◌, arith, ne_eqb, le-leb, Ok, Err}
use Rattle.hash_parts.specs.Error.{error_number}
use Rattle.hash_parts.specs.Outcome.{accepted, refused}
use Rattle.hash_parts.specs.declared.error.SegmentCacheBuildError.{SegmentCacheBuildError}
use Rattle.hash_parts.specs.declared.error.SegmentCacheBuildError.TheVariants.{ArenaTooLarge}
use Rattle.hash_parts.proofs.Refusals.{refusal_pos}
use Rattle.records.specs.Area.{over}
use Rattle.index.specs.Packed.{packed_index, packed_scratch}
use Rattle.index.specs.Segments.{Split, lengths_of, padded, split, split_by, split_result}
use Rattle.sets.specs.Answers.{accept, refuse}
use Rattle.sets.specs.Build.{Finished, after_finish, ask_finish, finish_made, finish_refused, index_split, segment_starts, set_of, starts_written}
use Rattle.sets.specs.Questions.{decided, first_no}
use Rattle.sets.specs.declared.builder.SegmentCacheBuilder.{SegmentCacheBuilder}
use Rattle.sets.specs.declared.cache.FrozenSegmentCache.{FrozenSegmentCache}
use Rattle.sets.proofs.Asked.{finish_asked, finish_last, finish_not_seven}
use Rattle.sets.proofs.Decides.{decided_refused}

module _ (b : SegmentCacheBuilder) (target : ℕ) (index starts lengths scratch arena : List ℕ) where
  -- all questions but the last
  abbrev pub checked : ℕ
  checked = first_no (take 6 (ask_finish b target index (length starts) (length lengths) (length scratch) (length arena)))

  abbrev few : Bool
  few = leb (length (segment_starts b target index)) 256

  last : first_no (ask_finish b target index (length starts) (length lengths) (length scratch) (length arena)) ≡ decided checked (cond few 0 7) (λ n. n)
  last = finish_last b target index (length starts) (length lengths) (length scratch) (length arena)

  -- one of them is answered no
  pub finish_stopped : (e : SegmentCacheBuildError) → error_number e ≡ checked
      → ◌≡◌ {A = Finished} (record { answer = refuse (error_number e) b; index = index; starts = starts; lengths = lengths; scratch = scratch })
      (after_finish b target index starts lengths scratch arena)
  unfolding after_finish
  finish_stopped e q =
      let other : error_number e ≡ 7 → ⊥ =
      λ (z : error_number e ≡ 7). finish_not_seven b target index (length starts) (length lengths) (length scratch) (length arena) (sym q ∙ z) in
      let refuses = decided_refused e (finish_made b target index starts lengths scratch) (finish_refused b target index starts lengths scratch) in
      rw (last, ← q, decided_refused e (cond few 0 7) (λ n. n), refuses, ne_eqb (error_number e) 7 other)

  -- the split, where all of them are answered yes
  splits : checked ≡ 0 → split index b.bucket_count b.filled target starts lengths
      ≡ split_by (segment_starts b target index) index b.bucket_count b.filled target starts lengths
  unfolding split
  splits z =
      let a = finish_asked b target index (length starts) (length lengths) (length scratch) (length arena) z in
      rw (le-leb _ _ a.areas.index_holds, le-leb _ _ a.starts_hold, le-leb _ _ a.lengths_hold)

  abbrev split_to : Bool → Split
  split_to t =
      cond t
      (record {
        answer = accepted (length (segment_starts b target index));
        index = index_split b target index;
        starts = starts_written b target index starts;
        lengths = over (padded (lengths_of b.filled (segment_starts b target index))) lengths;
      })
      (record { answer = refused ArenaTooLarge; index = index; starts = starts_written b target index starts; lengths = lengths })

  abbrev finish_to : Bool → Finished
  finish_to t = decided (cond t 0 7) (finish_made b target index starts lengths scratch) (finish_refused b target index starts lengths scratch)

  finishes : checked ≡ 0 → after_finish b target index starts lengths scratch arena ≡ finish_to few
  unfolding after_finish
  finishes z = rw (last, z)

  pub split_refused : (index' starts' lengths' : List ℕ) (e : SegmentCacheBuildError) → checked ≡ 0
      → split_result (Err e) index' starts' lengths' ≡ split index b.bucket_count b.filled target starts lengths
      → ◌≡◌ {A = Finished} (record { answer = refuse (error_number e) b; index = index'; starts = starts'; lengths = lengths'; scratch = scratch })
      (after_finish b target index starts lengths scratch arena)
  split_refused index' starts' lengths' e z q = go few (q ∙ splits z) ∙ sym (finishes z)
    where
      go : (t : Bool) → split_result (Err e) index' starts' lengths' ≡ split_to t
          → ◌≡◌ {A = Finished} (record { answer = refuse (error_number e) b; index = index'; starts = starts'; lengths = lengths'; scratch = scratch }) (finish_to t)
      go true f = absurd (omega (arith, refusal_pos e, ap (λ (s : Split). s.answer.number) f))
      go false f =
          rw (ap (λ (s : Split). s.answer.number) f, ap (λ (s : Split). s.index) f, ap (λ (s : Split). s.starts) f, ap (λ (s : Split). s.lengths) f)

  pub split_made : (index' starts' lengths' : List ℕ) (n : ℕ) (set : FrozenSegmentCache) (laid left : List ℕ) → checked ≡ 0
      → split_result (Ok n) index' starts' lengths' ≡ split index b.bucket_count b.filled target starts lengths → set ≡ set_of b n
      → laid ≡ cond b.config.packed_bucket_index (packed_index b.bucket_count index' scratch) index'
      → left ≡ cond b.config.packed_bucket_index (packed_scratch b.bucket_count index' scratch) scratch
      → ◌≡◌ {A = Finished} (record { answer = accept set; index = laid; starts = starts'; lengths = lengths'; scratch = left })
      (after_finish b target index starts lengths scratch arena)
  split_made index' starts' lengths' n set laid left z q made packed_it wrote = go few (q ∙ splits z) ∙ sym (finishes z)
    where
      go : (t : Bool) → split_result (Ok n) index' starts' lengths' ≡ split_to t
          → ◌≡◌ {A = Finished} (record { answer = accept set; index = laid; starts = starts'; lengths = lengths'; scratch = left }) (finish_to t)
      go false f = absurd (omega (arith, ap (λ (s : Split). s.answer.number) f))
      go true f =
          rw (made, packed_it, wrote, ap (λ (s : Split). s.answer.value) f, ap (λ (s : Split). s.index) f, ap (λ (s : Split). s.starts) f, ap (λ (s : Split). s.lengths) f)
