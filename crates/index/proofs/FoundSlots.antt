-- The slot that a lookup answers is a slot in use of the index, and names the record answered. Assumes nothing.
use Rattle.std.proofs.Common.{◌≡◌, ℕ, suc, ◌+◌, ◌-◌, ◌*◌, ◌^◌, ◌<◌, min, Bool, true, false, cond, eqb, leb, List, [], ◌∷◌, length, get_or, take, drop, sym, refl, ap, ◌∙◌, arith, length-drop, length-take, get_or-drop, get_or-take}
use Rattle.std.specs.Prelude.{Some, None, Option}
use Rattle.records.specs.declared.record.RecordRef.{RecordRef}
use lib.ListN.{get_or-map}
use borrow.Author.Tests.{eqb-false}
use Rattle.hash_parts.specs.Hash.{tag_of, first_bucket}
use Rattle.hash_parts.proofs.Products.{first_bucket_below}
use Rattle.records.specs.Area.{same_bytes, spanned}
use Rattle.index.specs.Filter.{filter_has}
use Rattle.index.specs.Find.{ends_at, Look, empty, other, broken, match, seen, look, looks_from, scan, sweep, has_empty, ended, in_bucket, followed, found, slots_of, find_in}
use Rattle.index.specs.Slot.{word_slot, kept_tag, IndexSlot}
use Rattle.index.specs.View.{record_in}
use Rattle.index.specs.Walk.{bucket_walk}
use Rattle.index.specs.Word.{word_tag, word_stored}
use Rattle.index.specs.declared.find.FindStep.{FindStep}
use Rattle.index.specs.declared.find.FindStep.TheVariants.{Hit, Stop, Next}
use Rattle.index.specs.declared.find.FoundRecord.{FoundRecord}
use Rattle.index.specs.declared.view.SegmentView.{SegmentView}
use Rattle.index.proofs.Flat.{bucket_at, index_slots, index_bucket, Below, no_more, one_more, walk_below}

-- a record found in one of the slots from slot i on
pub record FoundAt (read : ℕ → Option RecordRef) (i : ℕ) (slots : List IndexSlot) (y : FoundRecord) : Type 0 where
  pub place : ℕ
  pub below : place < length slots
  pub slot_is : y.slot ≡ i + place
  pub tag : ℕ
  pub location : ℕ
  pub used : get_or slots place None ≡ Some (tag, location)
  pub reads : read location ≡ Some y.entry

module _ (read : ℕ → Option RecordRef) (arena key : List ℕ) (tag : ℕ) where
  later : {i : ℕ} {s : IndexSlot} {l : List IndexSlot} {y : FoundRecord} → FoundAt read (suc i) l y → FoundAt read i (s ∷ l) y
  later f =
      record {
        place = suc f.place;
        below = omega (arith, f.below);
        slot_is = omega (arith, f.slot_is);
        tag = f.tag;
        location = f.location;
        used = f.used;
        reads = f.reads;
      }

  -- a slot says `match` only of itself
  match_at : (i : ℕ) (s : IndexSlot) (l : List IndexSlot) (y : FoundRecord) → look read arena key tag i s ≡ match y → FoundAt read i (s ∷ l) y
  match_at i None l y e = absurd (let z : ◌≡◌ {A = ℕ} 0 1 = cc in omega arith)
  match_at i (Some (t, stored)) l y e = by_tag (eqb t tag) e
    where
      by_key : (a : Option RecordRef) → read stored ≡ a → seen arena key i a ≡ match y → FoundAt read i (Some (t, stored) ∷ l) y
      by_key None g f = absurd (let z : ◌≡◌ {A = ℕ} 0 1 = cc in omega arith)
      by_key (Some r) g f = same_key_law (same_bytes (spanned arena r.key) key) f
        where
          same_key_law : (b : Bool) → cond b (match (record { slot = i; entry = r })) other ≡ match y → FoundAt read i (Some (t, stored) ∷ l) y
          same_key_law false q = absurd (let z : ◌≡◌ {A = ℕ} 0 1 = cc in omega arith)
          same_key_law true q =
              let same : record { slot = i; entry = r } ≡ y = cc in
              record {
                place = 0;
                below = omega arith;
                slot_is = ap (λ (x : FoundRecord). x.slot) (sym same) ∙ omega arith;
                tag = t;
                location = stored;
                used = refl;
                reads = g ∙ ap (λ (x : FoundRecord). Some x.entry) same;
              }

      by_tag : (b : Bool) → cond b (seen arena key i (read stored)) other ≡ match y → FoundAt read i (Some (t, stored) ∷ l) y
      by_tag true f = by_key (read stored) refl f
      by_tag false f = absurd (let z : ◌≡◌ {A = ℕ} 0 1 = cc in omega arith)

  scan_at : (i : ℕ) (l : List IndexSlot) (y : FoundRecord) → scan (looks_from read arena key tag i l) ≡ Hit y → FoundAt read i l y
  unfolding looks_from scan
  scan_at i [] y e = absurd (let z : ◌≡◌ {A = ℕ} 0 1 = cc in omega arith)
  scan_at i (s ∷ l) y e = go (look read arena key tag i s) refl e (λ q. scan_at (suc i) l y q)
    where
      go : (a : Look) → look read arena key tag i s ≡ a → scan (a ∷ looks_from read arena key tag (suc i) l) ≡ Hit y
          → (scan (looks_from read arena key tag (suc i) l) ≡ Hit y → FoundAt read (suc i) l y) → FoundAt read i (s ∷ l) y
      go empty g q f = absurd (let z : ◌≡◌ {A = ℕ} 0 1 = cc in omega arith)
      go other g q f = later (f q)
      go broken g q f = absurd (let z : ◌≡◌ {A = ℕ} 0 1 = cc in omega arith)
      go (match r) g q f = match_at i s l y (g ∙ ap match (cc))

  sweep_at : (i : ℕ) (l : List IndexSlot) (y : FoundRecord) → sweep (looks_from read arena key tag i l) ≡ Hit y → FoundAt read i l y
  unfolding looks_from sweep
  sweep_at i [] y e = absurd (let z : ◌≡◌ {A = ℕ} 0 1 = cc in omega arith)
  sweep_at i (s ∷ l) y e = go (look read arena key tag i s) refl e (λ q. sweep_at (suc i) l y q)
    where
      go : (a : Look) → look read arena key tag i s ≡ a → sweep (a ∷ looks_from read arena key tag (suc i) l) ≡ Hit y
          → (sweep (looks_from read arena key tag (suc i) l) ≡ Hit y → FoundAt read (suc i) l y) → FoundAt read i (s ∷ l) y
      go empty g q f = later (f q)
      go other g q f = later (f q)
      go broken g q f = absurd (let z : ◌≡◌ {A = ℕ} 0 1 = cc in omega arith)
      go (match r) g q f = match_at i s l y (g ∙ ap match (cc))

  bucket_at_law : (packed : Bool) (i : ℕ) (l : List IndexSlot) (y : FoundRecord) → in_bucket packed (looks_from read arena key tag i l) ≡ Hit y → FoundAt read i l y
  bucket_at_law false i l y e = scan_at i l y e
  bucket_at_law true i l y e = sweep_at i l y (go (has_empty (looks_from read arena key tag i l)) (sweep (looks_from read arena key tag i l)) e)
    where
      go : (gap : Bool) (s : FindStep) → ended gap s ≡ Hit y → s ≡ Hit y
      go gap (Hit r) q = q
      go gap Stop q = q
      go true Next q = cc
      go false Next q = q

  -- ---- the walk

  module _ (packed may : Bool) (slots : ℕ → List IndexSlot) (buckets : ℕ) (y : FoundRecord) where
    abbrev looks : ℕ → List Look
    looks b = looks_from read arena key tag (8 * b) (slots b)

    abbrev In : Type 0
    In = (b : ℕ) × (b < buckets) × FoundAt read (8 * b) (slots b) y

    walk_at : (i : ℕ) {bs : List ℕ} → Below buckets bs → found packed may looks i bs ≡ Some y → In
    unfolding found
    walk_at i no_more e = absurd (let z : ◌≡◌ {A = ℕ} 0 1 = cc in omega arith)
    walk_at i (one_more {b = b} {l = bs} h r) e = go (in_bucket packed (looks b)) refl e (λ q. walk_at (suc i) r q)
      where
        rest : Option FoundRecord
        rest = found packed may looks (suc i) bs

        after : (x : Bool) → cond x None rest ≡ Some y → rest ≡ Some y
        after false q = q
        after true q = cc

        go : (s : FindStep) → in_bucket packed (looks b) ≡ s → followed s (cond (ends_at i may) None rest) ≡ Some y → (rest ≡ Some y → In) → In
        go (Hit x) g q f = let same : x ≡ y = cc in (b, h, bucket_at_law packed (8 * b) (slots b) y (g ∙ ap Hit same))
        go Stop g q f = absurd (let z : ◌≡◌ {A = ℕ} 0 1 = cc in omega arith)
        go Next g q f = f (after (ends_at i may) q)

-- ---- a lookup

-- a slot of a bucket is one of the row
in_row : (read : ℕ → Option RecordRef) (row : List IndexSlot) (b : ℕ) (y : FoundRecord) → FoundAt read (8 * b) (bucket_at row b) y → FoundAt read 0 row y × (y.slot < 8 * b + 8)
in_row read row b y f =
    let size : length (bucket_at row b) ≡ min 8 (length row - 8 * b) = length-take 8 (drop (8 * b) row) ∙ ap (min 8) (length-drop (8 * b) row) in
    let near : f.place < 8 = omega (arith, f.below, size) in (
      record {
        place = 8 * b + f.place;
        below = omega (arith, f.below, size);
        slot_is = omega (arith, f.slot_is);
        tag = f.tag;
        location = f.location;
        used = sym (get_or-take 8 (drop (8 * b) row) f.place None near ∙ get_or-drop (8 * b) row f.place None) ∙ f.used;
        reads = f.reads;
      },
      omega (arith, f.slot_is),
    )

module _ (view : SegmentView) (packed : Bool) (index : List ℕ) (buckets : ℕ) (filter : List ℕ) (words : ℕ) (starts lengths arena k : List ℕ) (h : ℕ) (y : FoundRecord) (bound : h < 2 ^ 64)
    (answer : find_in view packed index buckets filter words starts lengths arena k h ≡ Some y) where
  pub find_slot : FoundAt (record_in view arena starts lengths) 0 (index_slots packed buckets index) y × (y.slot < 8 * buckets)
  unfolding find_in
  find_slot = go (leb (8 * buckets) (length index)) answer
    where
      read : ℕ → Option RecordRef
      read = record_in view arena starts lengths

      tag : ℕ
      tag = kept_tag packed (tag_of h)

      go : (b : Bool) → cond b (found packed (filter_has filter words h) (λ c. looks_from read arena k tag (8 * c) (slots_of packed buckets index c)) 0 (bucket_walk h buckets)) None ≡ Some y
          → FoundAt read 0 (index_slots packed buckets index) y × (y.slot < 8 * buckets)
      go false e = absurd (let z : ◌≡◌ {A = ℕ} 0 1 = cc in omega arith)
      go true e =
          let f = walk_at read arena k tag packed (filter_has filter words h) (slots_of packed buckets index) buckets y 0
          (walk_below buckets (first_bucket h buckets) (first_bucket_below h buckets bound)) e in
          let g = in_row read (index_slots packed buckets index) f.0 y (rw (index_bucket packed buckets index f.0 f.1) f.2) in
          (g.0, omega (arith, g.1, f.1))

-- its word may be marked, and its mark cleared
pub find_word : (view : SegmentView) (index : List ℕ) (buckets : ℕ) (filter : List ℕ) (words : ℕ) (starts lengths arena k : List ℕ) (h : ℕ) (y : FoundRecord) → h < 2 ^ 64
    → find_in view false index buckets filter words starts lengths arena k h ≡ Some y → (get_or index y.slot 0 ≡ 0 → ⊥) × (word_stored (get_or index y.slot 0) ≡ 0 → ⊥)
unfolding word_slot record_in
find_word view index buckets filter words starts lengths arena k h y bound answer =
    let f = find_slot view false index buckets filter words starts lengths arena k h y bound answer in
    let at : f.0.place ≡ y.slot = omega (arith, f.0.slot_is) in
    let slot : word_slot (get_or index y.slot 0) ≡ Some (f.0.tag, f.0.location) =
    ap word_slot (sym (get_or-take (8 * buckets) index y.slot 0 f.1)) ∙ sym (get_or-map word_slot (take (8 * buckets) index) y.slot 0) ∙ rw at at f.0.used in
    go (eqb (get_or index y.slot 0) 0) refl slot f.0.reads
  where
    w : ℕ
    w = get_or index y.slot 0

    go : (b : Bool) → eqb w 0 ≡ b → {t l : ℕ} → cond {A = IndexSlot} b None (Some (word_tag w, word_stored w)) ≡ Some (t, l) → record_in view arena starts lengths l ≡ Some y.entry
        → (w ≡ 0 → ⊥) × (word_stored w ≡ 0 → ⊥)
    go true e q reads = absurd (let z : ◌≡◌ {A = ℕ} 0 1 = cc in omega arith)
    go false e {t = t} {l = l} q reads = (
      λ (z : w ≡ 0). eqb-false w 0 e z,
      λ (z : word_stored w ≡ 0).
          let same : ◌≡◌ {A = ℕ × ℕ} (word_tag w, word_stored w) (t, l) = cc in
          let none : l ≡ 0 = sym (ap (λ (p : ℕ × ℕ). p.1) same) ∙ z in
          let n : record_in view arena starts lengths 0 ≡ Some y.entry = rw none at reads in
          let c : ◌≡◌ {A = ℕ} 0 1 = cc in
          omega arith,
    )
