-- Laws of finding: one slot, the buckets of a walk. Assumes nothing.
use Rattle.std.proofs.Common.{◌≡◌, ℕ, zero, suc, ◌+◌, ◌-◌, ◌*◌, ◌/◌, ◌<◌, ◌≤◌, Bool, true, false, cond, List, ◌∷◌, length, refl, ap, ◌∙◌, add-one, arith, eq-eqb, ne_eqb, le-leb}
use Rattle.std.specs.Prelude.{Some, None, Option}
use borrow.Author.Tests.{lt-leb}
use Rattle.hash_parts.specs.Hash.{tag_of, first_bucket}
use Rattle.records.specs.Area.{same_bytes, spanned}
use Rattle.records.specs.declared.record.RecordRef.{RecordRef}
use Rattle.index.specs.Build.{next_bucket}
use Rattle.index.specs.Find.{Look, empty, other, broken, match, look, looks_from, scan, in_bucket, followed, ends_at, found, find_in, slots_of}
use Rattle.index.specs.FindSteps.{step_of}
use Rattle.index.specs.Filter.{filter_has}
use Rattle.index.specs.Slot.{kept_tag, IndexSlot}
use Rattle.index.specs.View.{record_in}
use Rattle.index.specs.Walk.{bucket_walk}
use Rattle.index.specs.declared.find.FindStep.{FindStep}
use Rattle.index.specs.declared.find.FindStep.TheVariants.{Hit, Stop, Next}
use Rattle.index.specs.declared.find.FoundRecord.{FoundRecord}
use Rattle.index.specs.declared.view.SegmentView.{SegmentView}
use Rattle.index.proofs.Around.{around, around_step, around_end, walk_around}

-- ---- one slot

module _ (read : ℕ → Option RecordRef) (arena key : List ℕ) (tag i : ℕ) (content : IndexSlot) where
  -- what the slot says
  abbrev pub said : FindStep
  said = step_of (look read arena key tag i content)

  pub slot_empty : content ≡ None → Stop ≡ said
  slot_empty e = rw e

  module _ (kept stored : ℕ) (used : content ≡ Some (kept, stored)) where
    pub slot_other : (kept ≡ tag → ⊥) → Next ≡ said
    slot_other n = rw used (simp (ne_eqb kept tag n))

    module _ (own : kept ≡ tag) where
      pub slot_broken : read stored ≡ None → Stop ≡ said
      slot_broken u = rw used (simp (eq-eqb kept tag own, u))

      module _ (r : RecordRef) (reads : read stored ≡ Some r) where
        pub slot_match : same_bytes (spanned arena r.key) key ≡ true → Hit (record { slot = i; entry = r }) ≡ said
        slot_match t = rw used (simp (eq-eqb kept tag own, reads, t))

        pub slot_differs : same_bytes (spanned arena r.key) key ≡ false → Next ≡ said
        slot_differs t = rw used (simp (eq-eqb kept tag own, reads, t))

-- ---- a step, and the step after it

abbrev pub and_then : FindStep → FindStep → FindStep
and_then (Hit r) after = Hit r
and_then Stop after = Stop
and_then Next after = after

pub then_ends : (s after : FindStep) → (s ≡ Next → ⊥) → and_then s after ≡ s
then_ends (Hit r) after n = refl
then_ends Stop after n = refl
then_ends Next after n = absurd (n refl)

pub scan_cons : (l : Look) (ls : List Look) → scan (l ∷ ls) ≡ and_then (step_of l) (scan ls)
unfolding scan
scan_cons empty ls = refl
scan_cons other ls = refl
scan_cons broken ls = refl
scan_cons (match r) ls = refl

-- ---- the loop over the buckets

module _ (packed may : Bool) (looks : ℕ → List Look) (buckets : ℕ) where
  -- the answer of so many buckets from one on, the i-th of the walk
  unfoldable pub buckets_found : ℕ → ℕ → ℕ → Option FoundRecord
  buckets_found i left bucket = found packed may looks i (around left bucket buckets)

module _ (packed may : Bool) (looks : ℕ → List Look) (buckets : ℕ) where
  pub found_first : (h : ℕ) → first_bucket h buckets ≤ buckets - 1 → found packed may looks 0 (bucket_walk h buckets) ≡ buckets_found packed may looks buckets 0 buckets (first_bucket h buckets)
  unfolding buckets_found
  found_first h first = ap (found packed may looks 0) (walk_around buckets (first_bucket h buckets) first)

  pub found_end : (i left bucket : ℕ) → left ≤ 0 → buckets_found packed may looks buckets i left bucket ≡ None
  unfolding buckets_found found
  found_end i left bucket z = ap (found packed may looks i) (around_end left bucket buckets z)

  module _ (i left bucket : ℕ) (some_left : 0 < left) where
    abbrev rest : Option FoundRecord
    rest = buckets_found packed may looks buckets (i + 1) (left - 1) (next_bucket bucket buckets)

    found_step : buckets_found packed may looks buckets i left bucket ≡ followed (in_bucket packed (looks bucket)) (cond (ends_at i may) None rest)
    unfolding buckets_found found
    found_step = ap (found packed may looks i) (around_step left bucket buckets some_left) ∙ rw (add-one i)

    pub found_hit : (r : FoundRecord) → in_bucket packed (looks bucket) ≡ Hit r → buckets_found packed may looks buckets i left bucket ≡ Some r
    found_hit r e = found_step ∙ rw e

    pub found_stop : in_bucket packed (looks bucket) ≡ Stop → buckets_found packed may looks buckets i left bucket ≡ None
    found_stop e = found_step ∙ rw e

    module _ (on : in_bucket packed (looks bucket) ≡ Next) where
      pub found_filtered : ends_at i may ≡ true → buckets_found packed may looks buckets i left bucket ≡ None
      found_filtered e = found_step ∙ rw (on, e)

      pub found_on : ends_at i may ≡ false → buckets_found packed may looks buckets i left bucket ≡ rest
      found_on e = found_step ∙ rw (on, e)

-- before the second bucket the filter's answer counts for nothing
pub filter_late : (i : ℕ) (filter : List ℕ) (words asked h : ℕ) → (0 < i → asked ≡ h) → ends_at i (filter_has filter words asked) ≡ ends_at i (filter_has filter words h)
filter_late zero filter words asked h e = refl
filter_late (suc i) filter words asked h e = rw (e (omega arith))

-- ---- the whole find

module _ (view : SegmentView) (packed : Bool) (index : List ℕ) (buckets : ℕ) where
  -- what the slots of a bucket say
  abbrev pub Looks : List ℕ → List ℕ → List ℕ → List ℕ → ℕ → ℕ → List Look
  Looks starts lengths arena key h b =
      looks_from (record_in view arena starts lengths) arena key (kept_tag packed (tag_of h)) (8 * b) (slots_of packed buckets index b)

  module _ (filter : List ℕ) (words : ℕ) (starts lengths arena key : List ℕ) (h : ℕ) where
    pub find_short : length index / 8 < buckets → find_in view packed index buckets filter words starts lengths arena key h ≡ None
    unfolding find_in
    find_short l = let s : length index < 8 * buckets = omega arith in simp (lt-leb _ _ s)

    pub find_walks : buckets ≤ length index / 8 → first_bucket h buckets ≤ buckets - 1
        → find_in view packed index buckets filter words starts lengths arena key h
        ≡ buckets_found packed (filter_has filter words h) (Looks starts lengths arena key h) buckets 0 buckets (first_bucket h buckets)
    unfolding find_in
    find_walks fit first =
        let s : 8 * buckets ≤ length index = omega arith in
        simp (le-leb _ _ s) (found_first packed (filter_has filter words h) (Looks starts lengths arena key h) buckets h first)
