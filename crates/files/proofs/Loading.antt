-- What a load leaves, by its questions: the areas written piece by piece are the areas of the definition. Assumes nothing.
use mathlib.Core.Path.{◌≡◌, refl, sym, ap, ap₂, ◌∙◌}
use mathlib.Core.Bool.{Bool, true, false, cond}
use mathlib.Core.List.{List, [], ◌∷◌, ◌++◌, map}
use Prim.Native.Nat.{ℕ, zero, suc, ◌+◌, ◌*◌, ◌/◌, ◌%◌, ◌≤◌, ◌<◌}
use native.Mathlib.Omega.{arith}
use borrow.Author.Tests.{eqb-true, leb-true}
use lib.Dec.{eqb, leb}
use lib.ListN.{length, take, drop, length-map}
use lib.Seq.{take_at, drop_at, drop-drop}
use Rattle.hash_parts.specs.ZeroBytes.{bytes_of, number_of}
use Rattle.records.specs.Area.{over, pasted}
use Rattle.records.proofs.Area.{over_pasted}
use Rattle.index.specs.Packed.{unmarked_byte, words_of}
use Rattle.index.specs.Segments.{padded}
use Rattle.index.specs.Word.{unmarked}
use Rattle.sets.specs.Answers.{Reply, accept, refuse}
use Rattle.sets.specs.Lookup.{areas_hold_lookup, areas_hold_set, set_fits}
use Rattle.sets.specs.Questions.{arena_holds, counts_fit, decided, first_no, segment_areas_hold}
use Rattle.sets.specs.declared.cache.FrozenSegmentCache.{FrozenSegmentCache}
use Rattle.sets.proofs.Asked.{then}
use Rattle.sets.proofs.Counts.{both}
use Rattle.sets.proofs.Finding as finding
use Rattle.files.specs.Blocks.{content_of, frames_well, kinds_from}
use Rattle.files.specs.Contents.{ask_file, buckets_of, content_fits, file_filter, file_index, file_set, filter_words_of, records_in, segment_lengths, setting_in, starts_by, sum, unmarked_index}
use Rattle.files.specs.Copies.{masked_by}
use Rattle.files.specs.Load.{Loaded, after_load, ask_load, load_areas_hold, needs_answer, needs_of}
use Rattle.files.specs.Plan.{blocks_fit, file_asked}
use Rattle.files.specs.declared.load.FileNeeds.{FileNeeds}
use Rattle.files.proofs.Masks.{control_masked, word_masked}
use Rattle.index.proofs.PackingLoop.{length_words}
use Rattle.files.proofs.Pieces.{map_same}
use Rattle.files.proofs.Told.{ContentTold, content_told}

-- ---- words

pub words_split : (a b : ℕ) (l : List ℕ) → words_of (a + b) l ≡ words_of a l ++ words_of b (drop (8 * a) l)
unfolding words_of
words_split zero b l = let e : zero + b ≡ b = omega arith in ap (λ (n : ℕ). words_of n l) e
words_split (suc a) b l =
    let e : suc a + b ≡ suc (a + b) = omega arith in
    let n : 8 + 8 * a ≡ 8 * suc a = omega arith in
    ap (λ (k : ℕ). words_of k l) e
    ∙ ap (λ (r : List ℕ). number_of (take 8 l) ∷ r)
    (words_split a b (drop 8 l) ∙ ap (λ (r : List ℕ). words_of a (drop 8 l) ++ words_of b r) (drop-drop (8 * a) 8 l ∙ ap (λ (k : ℕ). drop k l) n))

-- an index of words
pub index_words : (buckets : ℕ) (l : List ℕ) → map (masked_by 0x7fff_ffff_ffff_ffff) (words_of (8 * buckets) l) ≡ unmarked_index false buckets (words_of (8 * buckets) l)
unfolding unmarked_index
index_words buckets l = map_same (masked_by 0x7fff_ffff_ffff_ffff) unmarked word_masked (words_of (8 * buckets) l)

-- a packed one: its control words, then its references
pub index_packed : (buckets rest : ℕ) (l : List ℕ) → 8 * buckets ≡ buckets + rest
    → map (masked_by 0x7f7f_7f7f_7f7f_7f7f) (words_of buckets l) ++ words_of rest (drop (8 * buckets) l) ≡ unmarked_index true buckets (words_of (8 * buckets) l)
unfolding unmarked_index
index_packed buckets rest l e =
    let f : ℕ → ℕ = λ w. number_of (map unmarked_byte (bytes_of 8 w)) in
    let both_parts : words_of (8 * buckets) l ≡ words_of buckets l ++ words_of rest (drop (8 * buckets) l) = ap (λ (n : ℕ). words_of n l) e ∙ words_split buckets rest l in
    let n = length_words buckets l in
    ap₂ (λ (x y : List ℕ). x ++ y)
    (map_same (masked_by 0x7f7f_7f7f_7f7f_7f7f) f control_masked (words_of buckets l)
    ∙ ap (map f) (sym (ap (take buckets) both_parts ∙ take_at (words_of buckets l) (words_of rest (drop (8 * buckets) l)) buckets n)))
    (sym (ap (drop buckets) both_parts ∙ drop_at (words_of buckets l) (words_of rest (drop (8 * buckets) l)) buckets n))

-- the two written one after the other
pub index_two : (buckets rest : ℕ) (l tail index out out' : List ℕ) → 8 * buckets ≡ buckets + rest → tail ≡ drop (8 * buckets) l
    → out ≡ over (map (masked_by 0x7f7f_7f7f_7f7f_7f7f) (words_of buckets l)) index → out' ≡ pasted buckets (words_of rest tail) out
    → out' ≡ over (unmarked_index true buckets (words_of (8 * buckets) l)) index
index_two buckets rest l tail index out out' e t p q =
    let controls : List ℕ = map (masked_by 0x7f7f_7f7f_7f7f_7f7f) (words_of buckets l) in
    let n : length controls ≡ buckets = length-map (words_of buckets l) (masked_by 0x7f7f_7f7f_7f7f_7f7f) ∙ length_words buckets l in
    q
    ∙ ap₂ (λ (x y : List ℕ). pasted buckets (words_of rest x) y) t p
    ∙ over_pasted controls (words_of rest (drop (8 * buckets) l)) index buckets n
    ∙ ap (λ (x : List ℕ). over x index) (index_packed buckets rest l e)

-- ---- the questions of a file

-- a question that is answered no before others
front : (l m : List (Bool × ℕ)) (n : ℕ) → first_no l ≡ suc n → first_no (l ++ m) ≡ suc n
front [] m n e = absurd (omega (arith, e))
front (q ∷ l) m n e = go q.0 (front l m n) e
  where
    go : (b : Bool) → (first_no l ≡ suc n → first_no (l ++ m) ≡ suc n) → cond b (first_no l) q.1 ≡ suc n → cond b (first_no (l ++ m)) q.1 ≡ suc n
    go true rest y = rest y
    go false rest y = y

module _ (f : List ℕ) where
  pub asked_set : (s : FrozenSegmentCache) → accept s ≡ file_asked f → (s ≡ file_set f) × (first_no (ask_file f) ≡ 0)
  unfolding file_asked
  asked_set s e = go (first_no (ask_file f)) refl e
    where
      left : ℕ → Reply FrozenSegmentCache (Unit {0})
      left q = decided q (accept (file_set f)) (λ n. refuse n tt)

      go : (q : ℕ) → first_no (ask_file f) ≡ q → accept s ≡ left q → (s ≡ file_set f) × (first_no (ask_file f) ≡ 0)
      go zero g y = (cc, g)
      go (suc q) g y = absurd (let z : ◌≡◌ {A = ℕ} 0 1 = cc in omega arith)

  pub asked_refused : (n : ℕ) → refuse n tt ≡ file_asked f → (first_no (ask_file f) ≡ n) × (0 < n)
  unfolding file_asked
  asked_refused n e = go (first_no (ask_file f)) refl e
    where
      left : ℕ → Reply FrozenSegmentCache (Unit {0})
      left q = decided q (accept (file_set f)) (λ m. refuse m tt)

      go : (q : ℕ) → first_no (ask_file f) ≡ q → refuse n tt ≡ left q → (first_no (ask_file f) ≡ n) × (0 < n)
      go zero g y = absurd (let z : ◌≡◌ {A = ℕ} 0 1 = cc in omega arith)
      go (suc q) g y = let z : n ≡ suc q = cc in (g ∙ sym z, omega arith)

  -- ---- what a caller lends

  pub needs_made : first_no (ask_file f) ≡ 0 → needs_answer f ≡ accept (needs_of f)
  unfolding needs_answer
  needs_made e = rw e

  abbrev lent : ℕ → ℕ → ℕ → Reply FileNeeds (Unit {0})
  lent index filter arena = accept (record { index = index; filter = filter; starts = 256; lengths = 256; arena = arena })

  pub needs_is : (s : FrozenSegmentCache) → (s ≡ file_set f) × (first_no (ask_file f) ≡ 0) → lent (s.buckets * 8) s.filter_words s.filled ≡ needs_answer f
  needs_is s a =
      let n : buckets_of f * 8 ≡ 8 * buckets_of f = omega arith in
      ap (λ (t : FrozenSegmentCache). lent (t.buckets * 8) t.filter_words t.filled) a.0
      ∙ ap (λ (k : ℕ). lent k (filter_words_of f) (length (content_of 4 f))) n
      ∙ sym (needs_made a.1)

  pub needs_refused : (n : ℕ) → (first_no (ask_file f) ≡ n) × (0 < n) → needs_answer f ≡ refuse n tt
  unfolding needs_answer
  needs_refused zero a = absurd (omega (arith, a.1))
  needs_refused (suc n) a = rw a.0

  -- ---- an accepted file

  pub told : first_no (ask_file f) ≡ 0 → ContentTold f
  unfolding ask_file
  told e =
      let t = then (frames_well 5 f) 13 _ (omega arith) e in
      let u = then (kinds_from 1 5 f) 14 _ (omega arith) t.1 in
      let v = then (content_fits f) 15 _ (omega arith) u.1 in
      content_told f v.0

  pub few_buckets : first_no (ask_file f) ≡ 0 → buckets_of f ≤ 1_048_600
  unfolding set_fits
  few_buckets e =
      let a = both (counts_fit (setting_in f) (records_in f) (buckets_of f) (filter_words_of f)) _ (told e).numbers in
      omega (arith, finding.few_buckets _ _ _ _ a.0)

  pub record BlocksTold : Type 0 where
    pub index : length (content_of 2 f) ≡ 64 * buckets_of f
    pub filter : length (content_of 3 f) ≡ 8 * filter_words_of f
    pub segments : length (content_of 1 f) / 8 ≤ 256
    pub adds_up : sum (segment_lengths f) ≤ 1_073_741_824

  pub blocks_told : first_no (ask_file f) ≡ 0 → BlocksTold
  unfolding set_fits blocks_fit
  blocks_told e =
      let t = told e in
      let a = both (eqb (length (content_of 1 f) % 8) 0) _ t.blocks in
      let b = both (eqb (length (content_of 2 f)) (64 * buckets_of f)) _ a.1 in
      let c = both (eqb (length (content_of 3 f)) (8 * filter_words_of f)) _ b.1 in
      let d = both (leb (length (content_of 4 f)) 1_073_741_824) _ c.1 in
      let n₁ = both (counts_fit (setting_in f) (records_in f) (buckets_of f) (filter_words_of f)) _ t.numbers in
      let n₂ = both (leb 1 (length (segment_lengths f))) _ n₁.1 in
      let n₃ = both (leb (length (segment_lengths f)) 256) _ n₂.1 in
      let few : length (segment_lengths f) ≤ 256 = leb-true _ _ n₃.0 in
      let short : length (content_of 4 f) ≤ 1_073_741_824 = leb-true _ _ d.0 in
      let total : sum (segment_lengths f) ≡ length (content_of 4 f) = eqb-true _ _ d.1 in
      record {
        index = eqb-true _ _ b.0;
        filter = eqb-true _ _ c.0;
        segments = omega (arith, length_words (length (content_of 1 f) / 8) (content_of 1 f));
        adds_up = omega arith;
      }

  -- ---- the areas

  module _ (index filter starts lengths arena : ℕ) where
    -- asked as a lookup asks them of the set
    pub areas_same : first_no (ask_file f) ≡ 0 → areas_hold_lookup (file_set f) index filter starts lengths arena ≡ load_areas_hold f index filter starts lengths arena
    unfolding areas_hold_lookup areas_hold_set load_areas_hold
    areas_same e =
        rw (told e).numbers
        (turned (leb (8 * buckets_of f) index) (leb (filter_words_of f) filter) (segment_areas_hold starts lengths) (arena_holds (length (content_of 4 f)) arena))
      where
        turned : (i w s a : Bool) → cond (cond i (cond s a false) false) w false ≡ cond i (cond w (cond s a false) false) false
        turned false w s a = refl
        turned true true true a = bool_true a
          where
            bool_true : (x : Bool) → cond x true false ≡ x
            bool_true true = refl
            bool_true false = refl
        turned true true false a = refl
        turned true false true true = refl
        turned true false true false = refl
        turned true false false a = refl

    pub record AreasHold : Type 0 where
      pub index_holds : 8 * buckets_of f ≤ index
      pub filter_holds : filter_words_of f ≤ filter
      pub starts_hold : 256 ≤ starts
      pub lengths_hold : 256 ≤ lengths
      pub arena_held : length (content_of 4 f) ≤ arena

    pub areas_told : load_areas_hold f index filter starts lengths arena ≡ true → AreasHold
    unfolding load_areas_hold segment_areas_hold arena_holds
    areas_told e =
        let a = both (leb (8 * buckets_of f) index) _ e in
        let b = both (leb (filter_words_of f) filter) _ a.1 in
        let c = both (segment_areas_hold starts lengths) _ b.1 in
        let d = both (leb 256 starts) _ c.0 in
        let r = both (leb (length (content_of 4 f)) arena) _ c.1 in
        record {
          index_holds = leb-true _ _ a.0;
          filter_holds = leb-true _ _ b.0;
          starts_hold = leb-true _ _ d.0;
          lengths_hold = leb-true _ _ d.1;
          arena_held = leb-true _ _ r.0;
        }

    -- all the questions of a load
    pub asked_areas : first_no (ask_file f) ≡ 0 → first_no (ask_load f index filter starts lengths arena) ≡ cond (load_areas_hold f index filter starts lengths arena) 0 10
    unfolding ask_load ask_file
    asked_areas e =
        let t = then (frames_well 5 f) 13 _ (omega arith) e in
        let u = then (kinds_from 1 5 f) 14 _ (omega arith) t.1 in
        let v = then (content_fits f) 15 _ (omega arith) u.1 in
        rw (t.0, u.0, v.0)

    pub asked_before : (n : ℕ) → first_no (ask_file f) ≡ suc n → first_no (ask_load f index filter starts lengths arena) ≡ suc n
    unfolding ask_load
    asked_before n e = front (ask_file f) ((load_areas_hold f index filter starts lengths arena, 10) ∷ []) n e

  -- ---- what a load leaves

  module _ (index filter starts lengths arena : List ℕ) where
    abbrev made : FrozenSegmentCache → List ℕ → List ℕ → List ℕ → List ℕ → List ℕ → Loaded
    made s i w t l a = record { answer = accept s; index = i; filter = w; starts = t; lengths = l; arena = a }

    abbrev pub left_alone : ℕ → Loaded
    left_alone n = record { answer = refuse n tt; index = index; filter = filter; starts = starts; lengths = lengths; arena = arena }

    pub load_refused : (n : ℕ) → (first_no (ask_file f) ≡ n) × (0 < n) → left_alone n ≡ after_load f index filter starts lengths arena
    unfolding after_load
    load_refused zero a = absurd (omega (arith, a.1))
    load_refused (suc n) a = rw (asked_before (length index) (length filter) (length starts) (length lengths) (length arena) n a.0)

    pub load_short : first_no (ask_file f) ≡ 0 → load_areas_hold f (length index) (length filter) (length starts) (length lengths) (length arena) ≡ false
        → left_alone 10 ≡ after_load f index filter starts lengths arena
    unfolding after_load
    load_short e h = rw (asked_areas (length index) (length filter) (length starts) (length lengths) (length arena) e, h)

    pub load_done : (s : FrozenSegmentCache) (i w t l a : List ℕ) → first_no (ask_file f) ≡ 0 → load_areas_hold f (length index) (length filter) (length starts) (length lengths) (length arena) ≡ true
        → s ≡ file_set f → i ≡ over (file_index f) index → w ≡ over (file_filter f) filter → t ≡ over (padded (starts_by 0 (segment_lengths f))) starts → l ≡ over (padded (segment_lengths f)) lengths
        → a ≡ over (content_of 4 f) arena → made s i w t l a ≡ after_load f index filter starts lengths arena
    unfolding after_load
    load_done s i w t l a e h p q r u v x =
        rw (asked_areas (length index) (length filter) (length starts) (length lengths) (length arena) e, h, p, q, r, u, v, x)
