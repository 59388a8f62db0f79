-- How the writer's questions follow from those of the file's size, where the set and its areas pass question 1. Assumes nothing.
use mathlib.Core.Path.{◌≡◌, refl, sym, ◌∙◌}
use mathlib.Core.Bool.{Bool, true, false, cond}
use mathlib.Core.List.{List}
use Prim.Native.Nat.{ℕ, ◌*◌, ◌≤◌}
use native.Mathlib.Nat.{le_refl}
use native.Mathlib.Omega.{arith}
use borrow.Author.Tests.{le-leb, leb-true}
use lib.Dec.{leb}
use lib.ListN.{length}
use Rattle.sets.specs.Answers.{Reply, accept, refuse}
use Rattle.sets.specs.Lookup.{areas_hold_lookup, areas_hold_set, set_fits}
use Rattle.sets.specs.Questions.{arena_holds, decided, first_no, most_arena_bytes, segment_areas_hold}
use Rattle.sets.specs.Rebuild.{areas_hold_source, segments_inside, sum_of}
use Rattle.sets.specs.declared.cache.FrozenSegmentCache.{FrozenSegmentCache}
use Rattle.sets.proofs.Counts.{both}
use Rattle.files.specs.Write.{ask_size, ask_write, file_size, size_answer}

module _ (s : FrozenSegmentCache) (index filter arena file : ℕ) (starts lengths : List ℕ)
    (held : areas_hold_lookup s index filter (length starts) (length lengths) arena ≡ true) where
  -- of a set and areas that hold, a source's question 1 asks only for the segments
  source_is : areas_hold_source s starts lengths s.filled ≡ segments_inside s.segments s.filled starts lengths
  unfolding areas_hold_lookup areas_hold_set areas_hold_source arena_holds
  source_is =
      let a = both (areas_hold_set s index (length starts) (length lengths) arena) _ held in
      let b = both (set_fits s) _ a.0 in
      let c = both (leb (8 * s.buckets) index) _ b.1 in
      let d = both (segment_areas_hold (length starts) (length lengths)) _ c.1 in
      let e = both (leb s.filled arena) (leb arena most_arena_bytes) d.1 in
      let short : s.filled ≤ most_arena_bytes = omega (arith, leb-true s.filled arena e.0, leb-true arena most_arena_bytes e.1) in
      rw (b.0, d.0, le-leb s.filled s.filled (le_refl s.filled), le-leb s.filled most_arena_bytes short)

  -- the questions, by what is asked of the segments and of their sum
  answer_is : size_answer s starts lengths
      ≡ decided (cond (segments_inside s.segments s.filled starts lengths) (cond (leb (sum_of s.segments lengths) most_arena_bytes) 0 11) 11)
      (accept (file_size s lengths)) (λ n. refuse n tt)
  unfolding size_answer ask_size
  answer_is = rw source_is

  asked_is : first_no (ask_write s index filter starts lengths arena file)
      ≡ cond (segments_inside s.segments s.filled starts lengths)
      (cond (leb (sum_of s.segments lengths) most_arena_bytes) (cond (leb (file_size s lengths) file) 0 10) 11)
      11
  unfolding ask_write
  asked_is = rw held

  pub asked_refused : (n : ℕ) → size_answer s starts lengths ≡ refuse n tt → (first_no (ask_write s index filter starts lengths arena file) ≡ 11) × (n ≡ 11)
  asked_refused n e =
      let told = go (segments_inside s.segments s.filled starts lengths) (leb (sum_of s.segments lengths) most_arena_bytes) (sym answer_is ∙ e) in
      (asked_is ∙ told.0, told.1)
    where
      go : (i t : Bool) → ◌≡◌ {A = Reply ℕ (Unit {0})} (decided (cond i (cond t 0 11) 11) (accept (file_size s lengths)) (λ m. refuse m tt)) (refuse n tt)
          → (◌≡◌ {A = ℕ} (cond i (cond t (cond (leb (file_size s lengths) file) 0 10) 11) 11) 11) × (n ≡ 11)
      go true true q = absurd (let z : ◌≡◌ {A = ℕ} 0 1 = cc in omega arith)
      go true false q = (refl, cc)
      go false t q = (refl, cc)

  pub asked_size : (n : ℕ) → size_answer s starts lengths ≡ accept n
      → (n ≡ file_size s lengths) × (first_no (ask_write s index filter starts lengths arena file) ≡ cond (leb n file) 0 10)
  asked_size n e =
      let told = go (segments_inside s.segments s.filled starts lengths) (leb (sum_of s.segments lengths) most_arena_bytes) (sym answer_is ∙ e) in
      (told.0, asked_is ∙ told.1)
    where
      go : (i t : Bool) → ◌≡◌ {A = Reply ℕ (Unit {0})} (decided (cond i (cond t 0 11) 11) (accept (file_size s lengths)) (λ m. refuse m tt)) (accept n)
          → (n ≡ file_size s lengths) × ◌≡◌ {A = ℕ} (cond i (cond t (cond (leb (file_size s lengths) file) 0 10) 11) 11) (cond (leb n file) 0 10)
      go true true q = let same : n ≡ file_size s lengths = cc in (same, rw same)
      go true false q = absurd (let z : ◌≡◌ {A = ℕ} 0 1 = cc in omega arith)
      go false t q = absurd (let z : ◌≡◌ {A = ℕ} 0 1 = cc in omega arith)
