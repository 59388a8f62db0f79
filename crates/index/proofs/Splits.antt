-- Laws of splitting: the segment of a location, split words, the lengths, and what a split leaves. Assumes nothing.
use Rattle.std.proofs.Common.{◌≡◌, ℕ, zero, suc, ◌+◌, ◌-◌, ◌*◌, ◌/◌, ◌^◌, ◌<◌, ◌≤◌, ◌⊎◌, List, [], ◌∷◌, ◌++◌, map, length, get_or, take, drop, sym, refl, ap, ◌∙◌, ap₂, inl, inr, not-suc-le-zero, add-one, arith, drop_of_length-le, drop-cons, eq-eqb, ne_eqb, le-leb, leb, Bool, true, false, leb-true, cond}
use Rattle.std.proofs.lemmas.Bool.{leb-false}
use Rattle.std.specs.Prelude.{Ok, Err, Result}
use Rattle.std.proofs.Math.Seq.{take-length}
use Rattle.std.proofs.lemmas.List.Sorted.{IsNonDecreasingBy-from_default, IsPartitionedBy-leb}
use Rattle.std.specs.List.{AllWithin, between}
use Rattle.std.specs.List.Sorted.{IsPartitionedBy, IsPartitionPoint}
use native.Mathlib.Decide.{dec_lt}
use borrow.Author.Tests.{lt-leb}
use Rattle.hash_parts.specs.declared.error.SegmentCacheBuildError.{SegmentCacheBuildError}
use Rattle.hash_parts.specs.declared.error.SegmentCacheBuildError.TheVariants.{ArenaTooLarge, AreaTooShort}
use Rattle.records.specs.Area.{over}
use Rattle.index.specs.Word.{word_of, word_tag, word_stored}
use Rattle.index.specs.Segments.{counted, starts_of, lengths_of, segment_of, segmented, split_word, padded, split, split_by, split_result}
use Rattle.index.specs.SegmentStarts.{Ascends, AreStarts}
use Rattle.index.proofs.Filling.{filled_back}
use Rattle.index.proofs.Starts.{starts_ascend, starts_first}

-- ---- the segment of a location

ascend_rest : (a : ℕ) (ss : List ℕ) → Ascends (a ∷ ss) → Ascends ss
ascend_rest a ss asc i h = asc (suc i) (omega (arith, h))

first_least : (a : ℕ) (ss : List ℕ) → Ascends (a ∷ ss) → (i : ℕ) → i < length (a ∷ ss) → a ≤ get_or (a ∷ ss) i 0
first_least a ss asc zero h = omega arith
first_least a ss asc (suc i) h = omega (arith, first_least a ss asc i (omega (arith, h)), asc i h)

pub segment_is : (ss : List ℕ) (l i : ℕ) → Ascends ss → i < length ss → get_or ss i 0 ≤ l → (i + 1 ≡ length ss) ⊎ (l < get_or ss (i + 1) 0) → segment_of ss l ≡ i
unfolding segment_of
segment_is [] l i asc h from to = absurd (not-suc-le-zero h)
segment_is (a ∷ []) l i asc h from to = omega (arith, h)
segment_is (a ∷ b ∷ ss) l zero asc h from (inl e) = absurd (omega (arith, e))
segment_is (a ∷ b ∷ ss) l zero asc h from (inr k) = simp (lt-leb b l k)
segment_is (a ∷ b ∷ ss) l (suc i) asc h from to =
    let j : i < length (b ∷ ss) = omega (arith, h) in
    let rest : Ascends (b ∷ ss) = ascend_rest a (b ∷ ss) asc in
    let below : b ≤ l = omega (arith, first_least b ss rest i j, from) in
    simp (le-leb b l below) (ap suc (segment_is (b ∷ ss) l i rest j from (past to)))
  where
    past : (suc i + 1 ≡ length (a ∷ b ∷ ss)) ⊎ (l < get_or (a ∷ b ∷ ss) (suc i + 1) 0) → (i + 1 ≡ length (b ∷ ss)) ⊎ (l < get_or (b ∷ ss) (i + 1) 0)
    past (inl e) = inl (omega (arith, e))
    past (inr k) = let e : suc i + 1 ≡ suc (i + 1) = omega arith in inr (rw e at k)

-- the starts after the first rise
rises : (ss : List ℕ) → Ascends ss → (i j : ℕ) → i ≤ j → j < length ss → get_or ss i 0 ≤ get_or ss j 0
rises [] asc i j le h = absurd (not-suc-le-zero h)
rises (a ∷ ss) asc zero j le h = first_least a ss asc j h
rises (a ∷ ss) asc (suc i) zero le h = absurd (omega arith)
rises (a ∷ ss) asc (suc i) (suc j) le h = rises ss (ascend_rest a ss asc) i j (omega arith) (omega (arith, h))

module _ {ss : List ℕ} (s : AreStarts ss) where
  abbrev pub later : List ℕ
  later = between 1 (length ss) ss

  -- the first start is 0
  all_are : ss ≡ 0 ∷ later
  all_are = go ss s.some s.first
    where
      go : (ss : List ℕ) → 0 < length ss → get_or ss 0 0 ≡ 0 → ss ≡ 0 ∷ between 1 (length ss) ss
      go [] p f = absurd (omega arith)
      go (a ∷ ss) p f =
          let n : suc (length ss) - 1 ≡ length ss = omega arith in
          rw (f, n, take-length ss) refl

  later_ascend : Ascends later
  later_ascend = ascend_rest 0 later (rw all_are at s.ascend)

  -- so those not above a location come first
  pub starts_parted : (l : ℕ) → IsPartitionedBy (λ s. leb s l) later
  starts_parted l = IsPartitionedBy-leb (λ s. s) later l (IsNonDecreasingBy-from_default (λ s. s) later 0 (rises later later_ascend))

  -- and as many as there are is the segment of the location
  pub last_start : (l i : ℕ) → i ≤ length later → IsPartitionPoint (λ s. leb s l ≡ true) (λ s. leb s l ≡ false) later i
      → (i ≡ segment_of ss l) × (i < length ss) × (get_or ss i 0 ≤ l)
  last_start l i h p =
      let more : length ss ≡ suc (length later) = ap length all_are in
      let from : get_or (0 ∷ later) i 0 ≤ l = below i h p.0 in
      let is = segment_is (0 ∷ later) l i (rw all_are at s.ascend) (omega arith) from (go (dec_lt i (length later))) in
      (sym is ∙ ap (λ (r : List ℕ). segment_of r l) (sym all_are), omega arith, rw (← all_are) at from)
    where
      below : (i : ℕ) → i ≤ length later → AllWithin (λ s. leb s l ≡ true) later 0 i → get_or (0 ∷ later) i 0 ≤ l
      below zero h f = omega arith
      below (suc j) h f = leb-true _ _ (f j 0 (omega arith) (omega arith))

      go : Dec (i < length later) → (i + 1 ≡ length (0 ∷ later)) ⊎ (l < get_or (0 ∷ later) (i + 1) 0)
      go (no n) = inl (omega arith)
      go (yes y) = inr (rw (add-one i) (leb-false _ _ (p.1 i 0 (omega arith) y)))

-- ---- split words

pub split_none : (ss : List ℕ) (w : ℕ) → word_stored w ≡ 0 → split_word ss w ≡ w
unfolding split_word
split_none ss w e = simp (eq-eqb (word_stored w) 0 e)

module _ (ss : List ℕ) (w : ℕ) (named : word_stored w ≡ 0 → ⊥) where
  pub split_named : split_word ss w ≡ word_of (word_tag w) (segmented ss (word_stored w - 1))
  unfolding split_word
  split_named = simp (ne_eqb (word_stored w) 0 named)

-- with the segment that a search found
pub split_found : (ss : List ℕ) (w segment : ℕ) → (word_stored w ≡ 0 → ⊥) → segment ≡ segment_of ss (word_stored w - 1)
    → word_of (word_tag w) (segment * 2 ^ 32 + (word_stored w - 1 - get_or ss segment 0)) ≡ split_word ss w
split_found ss w segment named e =
    ap (λ (k : ℕ). word_of (word_tag w) (k * 2 ^ 32 + (word_stored w - 1 - get_or ss k 0))) e ∙ sym (split_named ss w named)

-- ---- the lengths

pub lengths_length : (filled : ℕ) (ss : List ℕ) → length (lengths_of filled ss) ≡ length ss
unfolding lengths_of
lengths_length filled [] = refl
lengths_length filled (a ∷ []) = refl
lengths_length filled (a ∷ b ∷ ss) = ap suc (lengths_length filled (b ∷ ss))

module _ (ss : List ℕ) (i : ℕ) where
  pub start_above : Ascends ss → i + 1 < length ss → get_or ss i 0 < get_or ss (i + 1) 0
  start_above ascend h = rw (add-one i) (ascend i (omega arith))

  pub lengths_next : (filled : ℕ) → i + 1 < length ss → lengths_of filled (drop i ss) ≡ (get_or ss (i + 1) 0 - get_or ss i 0) ∷ lengths_of filled (drop (i + 1) ss)
  unfolding lengths_of
  lengths_next filled h = rw (add-one i, drop-cons ss i 0 (omega arith), drop-cons ss (suc i) 0 (omega arith)) refl

  pub lengths_last : (filled : ℕ) → i + 1 ≡ length ss → lengths_of filled (drop i ss) ≡ (filled - get_or ss i 0) ∷ []
  unfolding lengths_of
  lengths_last filled e =
      let k : length ss ≤ suc i = omega arith in
      rw (drop-cons ss i 0 (omega arith), drop_of_length-le ss k) refl

-- ---- how many starts there are

pub counted_few : (ss : List ℕ) (n : ℕ) → n ≡ length ss → n ≤ 256 → Ok n ≡ counted ss
counted_few ss n e h =
    let few : length ss ≤ 256 = omega arith in
    simp (le-leb (length ss) 256 few) (ap Ok e)

pub counted_many : (ss : List ℕ) → 257 ≡ length ss → Err ArenaTooLarge ≡ counted ss
counted_many ss e =
    let many : 256 < length ss = omega arith in
    simp (lt-leb (length ss) 256 many)

module _ (ss : List ℕ) {a : Result ℕ SegmentCacheBuildError} (is : a ≡ counted ss) where
  counts_few : {n : ℕ} → a ≡ Ok n → (n ≡ length ss) × (n ≤ 256)
  counts_few {n} e = go (leb (length ss) 256) refl (sym e ∙ is)
    where
      go : (b : Bool) → leb (length ss) 256 ≡ b → Ok n ≡ cond b (Ok (length ss)) (Err ArenaTooLarge) → (n ≡ length ss) × (n ≤ 256)
      go true q f = let same : n ≡ length ss = cc in (same, omega (arith, leb-true _ _ q))
      go false q f = cc

  counts_many : {r : SegmentCacheBuildError} → a ≡ Err r → (r ≡ ArenaTooLarge) × (256 < length ss)
  counts_many {r} e = go (leb (length ss) 256) refl (sym e ∙ is)
    where
      go : (b : Bool) → leb (length ss) 256 ≡ b → Err r ≡ cond b (Ok (length ss)) (Err ArenaTooLarge) → (r ≡ ArenaTooLarge) × (256 < length ss)
      go true q f = cc
      go false q f = (cc, leb-false _ _ q)

-- ---- what a split leaves

module _ (index : List ℕ) (buckets filled target : ℕ) (starts lengths : List ℕ) where
  pub short_index : length index / 8 < buckets → split_result (Err AreaTooShort) index starts lengths ≡ split index buckets filled target starts lengths
  unfolding split
  short_index h = let s : length index < 8 * buckets = omega arith in simp (lt-leb (8 * buckets) (length index) s)

  module _ (in_index : buckets ≤ length index / 8) where
    words_in : 8 * buckets ≤ length index
    words_in = omega arith

    pub short_starts : length starts < 256 → split_result (Err AreaTooShort) index starts lengths ≡ split index buckets filled target starts lengths
    unfolding split
    short_starts h = simp (le-leb (8 * buckets) (length index) words_in, lt-leb 256 (length starts) h)

    module _ (in_starts : 256 ≤ length starts) where
      pub short_lengths : length lengths < 256 → split_result (Err AreaTooShort) index starts lengths ≡ split index buckets filled target starts lengths
      unfolding split
      short_lengths h = simp (le-leb (8 * buckets) (length index) words_in, le-leb 256 (length starts) in_starts, lt-leb 256 (length lengths) h)

      module _ (in_lengths : 256 ≤ length lengths) where
        abbrev all_starts : List ℕ
        all_starts = starts_of (take (8 * buckets) index) filled target

        areas_long : split index buckets filled target starts lengths ≡ split_by all_starts index buckets filled target starts lengths
        unfolding split
        areas_long = simp (le-leb (8 * buckets) (length index) words_in, le-leb 256 (length starts) in_starts, le-leb 256 (length lengths) in_lengths)

        -- the starts area after the starts were written, and their count
        module _ (answer : Result ℕ SegmentCacheBuildError) (starts' : List ℕ) (counts : answer ≡ counted all_starts) (written : starts' ≡ over (padded all_starts) starts) where
          pub split_refused : (e : SegmentCacheBuildError) → answer ≡ Err e → split_result (Err e) index starts' lengths ≡ split index buckets filled target starts lengths
          split_refused e h =
              let many = counts_many all_starts counts h in
              sym (areas_long ∙ rw (many.0, written) (simp (lt-leb (length all_starts) 256 many.1)))

          module _ (count : ℕ) (given : answer ≡ Ok count) where
            same_count : count ≡ length all_starts
            same_count = (counts_few all_starts counts given).0

            few : count ≤ 256
            few = (counts_few all_starts counts given).1

            few_starts : length all_starts ≤ 256
            few_starts = omega (arith, same_count, few)

            starts_back : take count starts' ≡ all_starts
            starts_back = ap₂ take same_count written ∙ filled_back all_starts starts few_starts

            -- what was written, of its front
            module _ (ss : List ℕ) (front : ss ≡ take count starts') where
              are_all : ss ≡ all_starts
              are_all = front ∙ starts_back

              pub starts_written_law : AreStarts ss × (length ss ≤ 256)
              starts_written_law =
                  let first = starts_first (take (8 * buckets) index) filled target in
                  rw are_all (record { some = first.1; first = first.0; ascend = starts_ascend (take (8 * buckets) index) filled target }, few_starts)

              module _ (lengths' : List ℕ) (measured : lengths' ≡ over (padded (lengths_of filled ss)) lengths) where
                pub split_whole : filled ≤ target → split_result (Ok count) index starts' lengths' ≡ split index buckets filled target starts lengths
                split_whole h = sym (areas_long ∙ rw (measured, are_all, written, same_count) (simp (le-leb (length all_starts) 256 few_starts, le-leb filled target h)))

                pub split_parts : target < filled → (index' : List ℕ) → index' ≡ map (split_word ss) (take (8 * buckets) index) ++ drop (8 * buckets) index
                    → split_result (Ok count) index' starts' lengths' ≡ split index buckets filled target starts lengths
                split_parts h index' e =
                    sym (areas_long ∙ rw (e, measured, are_all, written, same_count) (simp (le-leb (length all_starts) 256 few_starts, lt-leb filled target h)))
