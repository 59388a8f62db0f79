-- Packing an index bucket by bucket, from the last to the first. Assumes nothing.
use Rattle.std.proofs.Common.{◌≡◌, ℕ, zero, suc, ◌+◌, ◌-◌, ◌*◌, ◌<◌, ◌≤◌, Bool, true, false, cond, leb, List, [], ◌∷◌, ◌++◌, map, length, take, drop, set, sym, refl, ap, ◌∙◌, ap₂, append_assoc, le_of_suc-le-suc, not-suc-le-zero, add-zero, arith, length-append, length-drop, length-set, length-take-le, take-take, drop-drop, take_at, drop_at, le-leb}
use mathlib.Core.List.{flat_map}
use native.Mathlib.Nat.{sub-zero, sub_self}
use borrow.Author.Tests.{lt-leb}
use lib.ListN.{length-map}
use lib.Seq.{take-append-le}
use Rattle.records.specs.Area.{pasted}
use Rattle.index.specs.Packed.{reference_bytes, control_word, control_words, words_of, reference_words, packed, packed_index, packed_scratch}
use Rattle.index.specs.Walk.{buckets_of}
use Rattle.index.proofs.Walks.{drop_take, length_buckets}

-- ---- parts of lists

drop_set_here : (l : List ℕ) (i a : ℕ) → i < length l → drop i (set l i a) ≡ a ∷ drop (suc i) l
drop_set_here [] i a h = absurd (not-suc-le-zero h)
drop_set_here (x ∷ l) zero a h = refl
drop_set_here (x ∷ l) (suc i) a h = drop_set_here l i a (le_of_suc-le-suc h)

-- ---- buckets

pub length_words : (n : ℕ) (l : List ℕ) → length (words_of n l) ≡ n
unfolding words_of
length_words zero l = refl
length_words (suc n) l = ap suc (length_words n (drop 8 l))

pub length_references : (bucket : List ℕ) → length (reference_words bucket) ≡ 7
unfolding reference_words
length_references bucket = length_words 7 (flat_map reference_bytes bucket)

-- the buckets from bucket c on
abbrev buckets_from : ℕ → ℕ → List ℕ → List (List ℕ)
buckets_from buckets c index = buckets_of (buckets - c) (drop (8 * c) index)

buckets_next : (buckets c : ℕ) (index : List ℕ) → c < buckets → buckets_from buckets c index ≡ take 8 (drop (8 * c) index) ∷ buckets_from buckets (suc c) index
unfolding buckets_of
buckets_next buckets c index h =
    let e : buckets - c ≡ suc (buckets - suc c) = omega arith in
    let f : 8 * suc c ≡ 8 * c + 8 = omega arith in
    rw (e, f, ← drop-drop 8 (8 * c) index)

-- ---- the loop: the buckets from bucket `left` on are packed, and the words of those before it stand as they were

pub record Packing (buckets : ℕ) (index₀ scratch₀ index scratch : List ℕ) (left : ℕ) : Type 0 where
  pub front : take (8 * left) index ≡ take (8 * left) index₀
  pub back : drop (buckets + 7 * left) index ≡ flat_map reference_words (buckets_from buckets left index₀) ++ drop (8 * buckets) index₀
  pub controls : drop left scratch ≡ map control_word (buckets_from buckets left index₀) ++ drop buckets scratch₀
  pub size : length index ≡ length index₀
  pub scratch_size : length scratch ≡ length scratch₀
  pub room : 8 * buckets ≤ length index₀
  pub scratch_room : buckets ≤ length scratch₀
  pub within : left ≤ buckets

pub packing_begins : (buckets : ℕ) (index scratch : List ℕ) → 8 * buckets ≤ length index → buckets ≤ length scratch → Packing buckets index scratch index scratch buckets
unfolding buckets_of flat_map
packing_begins buckets index scratch h k =
    let e : buckets + 7 * buckets ≡ 8 * buckets = omega arith in
    record {
      front = refl;
      back = rw (e, sub_self buckets);
      controls = rw (sub_self buckets);
      size = refl;
      scratch_size = refl;
      room = h;
      scratch_room = k;
      within = omega arith;
    }

pub packing_next : {buckets : ℕ} {index₀ scratch₀ index scratch : List ℕ} {left : ℕ} (c : ℕ) (index' scratch' : List ℕ) → Packing buckets index₀ scratch₀ index scratch left → left ≡ suc c
    → index' ≡ pasted (buckets + 7 * c) (reference_words (take 8 (drop (8 * c) index))) index → scratch' ≡ set scratch c (control_word (take 8 (drop (8 * c) index)))
    → Packing buckets index₀ scratch₀ index' scratch' c
unfolding flat_map
packing_next {buckets} {index₀} {scratch₀} {index} {scratch} {left} c index' scratch' p e f g =
    let at : ℕ = buckets + 7 * c in
    let bucket : List ℕ = take 8 (drop (8 * c) index₀) in
    let words : List ℕ = reference_words bucket in
    let more : 8 * left ≡ 8 * c + 8 = omega arith in
    let same : take 8 (drop (8 * c) index) ≡ bucket =
    sym (drop_take (8 * c) 8 index) ∙ ap (drop (8 * c)) (rw more at p.front) ∙ drop_take (8 * c) 8 index₀ in
    let written : index' ≡ pasted at words index = f ∙ ap (λ (t : List ℕ). pasted at (reference_words t) index) same in
    let marked : scratch' ≡ set scratch c (control_word bucket) = g ∙ ap (λ (t : List ℕ). set scratch c (control_word t)) same in
    let seven : length words ≡ 7 = length_references bucket in
    let next : buckets_from buckets c index₀ ≡ bucket ∷ buckets_from buckets (suc c) index₀ = buckets_next buckets c index₀ (omega (arith, p.within)) in
    let size : length index ≡ length index₀ = p.size in
    let room : 8 * buckets ≤ length index₀ = p.room in
    let within : suc c ≤ buckets = omega (arith, p.within) in
    let past : at + 7 ≡ buckets + 7 * left = omega arith in
    let head : length (take at index) ≡ at = length-take-le at index (omega arith) in
    record {
      front =
          ap (take (8 * c)) written
          ∙ take-append-le (8 * c) (take at index) _ (omega arith)
          ∙ take-take (8 * c) at index (omega arith)
          ∙ sym (take-take (8 * c) (8 * left) index (omega arith))
          ∙ ap (take (8 * c)) p.front
          ∙ take-take (8 * c) (8 * left) index₀ (omega arith);
      back =
          ap (drop at) written
          ∙ drop_at (take at index) _ at head
          ∙ ap (λ (t : List ℕ). words ++ t) (ap (λ (n : ℕ). drop n (drop at index)) seven ∙ drop-drop 7 at index ∙ ap (λ (n : ℕ). drop n index) past ∙ p.back)
          ∙ rw (e, next) (sym (append_assoc words _ _));
      controls =
          ap (drop c) marked ∙ drop_set_here scratch c (control_word bucket) (omega (arith, p.scratch_size, p.scratch_room))
          ∙ rw next (ap (λ (t : List ℕ). control_word bucket ∷ t) (rw e at p.controls));
      size = ap length written ∙ simp (length-append, head, seven, length-drop) (omega arith);
      scratch_size = ap length marked ∙ length-set scratch c (control_word bucket) ∙ p.scratch_size;
      room = p.room;
      scratch_room = p.scratch_room;
      within = omega arith;
    }

-- the control words come to the front
pub packing_ends : {buckets : ℕ} {index₀ scratch₀ index scratch : List ℕ} {left : ℕ} (index' : List ℕ) → Packing buckets index₀ scratch₀ index scratch left → left ≡ 0
    → index' ≡ take buckets scratch ++ drop buckets index → (index' ≡ packed_index buckets index₀ scratch₀) × (scratch ≡ packed_scratch buckets index₀ scratch₀)
unfolding packed_index packed_scratch packed
packing_ends {buckets} {index₀} {scratch₀} {index} {scratch} {left} index' p e f =
    let all : scratch ≡ control_words buckets index₀ ++ drop buckets scratch₀ = rw (e, sub-zero buckets) at p.controls in
    let rest : drop buckets index ≡ flat_map reference_words (buckets_of buckets index₀) ++ drop (8 * buckets) index₀ = rw (e, sub-zero buckets, add-zero buckets) at p.back in
    let front : take buckets scratch ≡ control_words buckets index₀ =
    ap (take buckets) all ∙ take_at (control_words buckets index₀) _ buckets (length-map (buckets_of buckets index₀) control_word ∙ length_buckets buckets index₀) in (
      rw (le-leb (8 * buckets) (length index₀) p.room, le-leb buckets (length scratch₀) p.scratch_room) (f ∙ ap₂ ◌++◌ front rest),
      rw (le-leb (8 * buckets) (length index₀) p.room, le-leb buckets (length scratch₀) p.scratch_room) all,
    )

-- nothing is written where an area is too short
pub short_index : (buckets : ℕ) (index scratch : List ℕ) → length index < 8 * buckets → (index ≡ packed_index buckets index scratch) × (scratch ≡ packed_scratch buckets index scratch)
unfolding packed_index packed_scratch
short_index buckets index scratch h = (rw (lt-leb (8 * buckets) (length index) h), rw (lt-leb (8 * buckets) (length index) h))

pub short_scratch : (buckets : ℕ) (index scratch : List ℕ) → length scratch < buckets → (index ≡ packed_index buckets index scratch) × (scratch ≡ packed_scratch buckets index scratch)
unfolding packed_index packed_scratch
short_scratch buckets index scratch h = go (leb (8 * buckets) (length index))
  where
    go : (t : Bool) → (index ≡ cond (cond t (leb buckets (length scratch)) false) (packed buckets index) index)
        × (scratch ≡ cond (cond t (leb buckets (length scratch)) false) (control_words buckets index ++ drop buckets scratch) scratch)
    go true = (rw (lt-leb buckets (length scratch) h), rw (lt-leb buckets (length scratch) h))
    go false = (refl, refl)
