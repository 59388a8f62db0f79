-- The loop over the candidates of a bucket. Assumes nothing.
use Rattle.std.proofs.Common.{◌≡◌, ℕ, ◌+◌, ◌*◌, ◌<◌, ◌≤◌, Bool, true, false, cond, ltb, List, length, get_or, take, drop, sym, refl, ap, ◌∙◌, zero-add, arith, length-drop, length-take-le}
use Rattle.std.specs.Prelude.{None, Option}
use Rattle.records.specs.declared.record.RecordRef.{RecordRef}
use lib.ListN.{length-map}
use Rattle.hash_parts.specs.Hash.{control_tag, secondary_tag}
use Rattle.hash_parts.specs.ZeroBytes.{bytes_of, first_mark, lowest_set, marks, without_lowest}
use Rattle.hash_parts.proofs.Visit.{rest_marks, visited, first_right, first_lt, rest_right, rest_length, rest_less, visit_first, visit_none}
use Rattle.hash_parts.proofs.Bytes.{length_bytes}
use Rattle.index.specs.Find.{Look, look, looks_from, scan, sweep, has_empty, in_bucket, slots_of}
use Rattle.index.specs.FindSteps.{step_of, has_tag, tagged, passed_over, from_on, candidates}
use Rattle.index.specs.Packed.{packed_bucket, word_bytes}
use Rattle.index.specs.Slot.{packed_tag, kept_tag, word_slot, IndexSlot}
use Rattle.index.specs.declared.find.FindStep.{FindStep}
use Rattle.index.specs.declared.find.FindStep.TheVariants.{Hit, Stop, Next}
use Rattle.index.proofs.Candidates.{sweep_visits, scan_visits, empty_marked, from_length}
use Rattle.index.proofs.Finds.{and_then, then_ends}

-- the places that m marks are visited, and what they say is the answer
pub record Visiting (answer : FindStep) (says : ℕ → FindStep) (m : ℕ) : Type 0 where
  pub places : List Bool
  pub marked : m ≡ marks places
  pub eight : length places ≡ 8
  pub same : answer ≡ visited (λ j after. and_then (says j) after) places 0 Next

module _ (answer : FindStep) (says : ℕ → FindStep) {m : ℕ} (v : Visiting answer says m) where
  pub visiting_ends : m ≡ 0 → answer ≡ Next
  visiting_ends z = v.same ∙ visit_none (λ j after. and_then (says j) after) v.places 0 Next (sym v.marked ∙ z)

  module _ (some : 0 < m) where
    positive : 0 < marks v.places
    positive = omega (arith, v.marked)

    lowest_is : lowest_set m ≡ first_mark v.places
    lowest_is = ap lowest_set v.marked ∙ first_right v.places v.eight

    others_are : without_lowest m ≡ marks (rest_marks v.places)
    others_are = ap without_lowest v.marked ∙ rest_right v.places v.eight

    pub visiting_less : without_lowest m < m
    visiting_less = omega (arith, others_are, rest_less v.places positive, v.marked)

    pub visiting_below : lowest_set m < 8
    visiting_below = omega (arith, lowest_is, first_lt v.places positive, v.eight)

    step : answer ≡ and_then (says (lowest_set m)) (visited (λ j after. and_then (says j) after) (rest_marks v.places) 0 Next)
    step =
        v.same
        ∙ visit_first (λ j after. and_then (says j) after) v.places 0 Next positive
        ∙ ap (λ (j : ℕ). and_then (says j) (visited (λ j after. and_then (says j) after) (rest_marks v.places) 0 Next)) (zero-add (first_mark v.places) ∙ sym lowest_is)

    pub visiting_hit : (says (lowest_set m) ≡ Next → ⊥) → answer ≡ says (lowest_set m)
    visiting_hit n = step ∙ then_ends (says (lowest_set m)) _ n

    pub visiting_on : says (lowest_set m) ≡ Next → Visiting answer says (without_lowest m)
    visiting_on e =
        record {
          places = rest_marks v.places;
          marked = others_are;
          eight = rest_length v.places ∙ v.eight;
          same = step ∙ ap (λ (s : FindStep). and_then s (visited (λ j after. and_then (says j) after) (rest_marks v.places) 0 Next)) e;
        }

-- ---- a bucket

module _ (read : ℕ → Option RecordRef) (arena key : List ℕ) (packed : Bool) (tag buckets : ℕ) (index : List ℕ) (bucket : ℕ) where
  abbrev pub slots : List Look
  slots = looks_from read arena key (kept_tag packed tag) (8 * bucket) (slots_of packed buckets index bucket)

  abbrev pub says : ℕ → FindStep
  says j = step_of (look read arena key (kept_tag packed tag) (8 * bucket + j) (get_or (slots_of packed buckets index bucket) j None))

  -- what the slots of the tag say
  abbrev pub searched : FindStep
  searched = cond packed (sweep slots) (scan slots)

module _ (read : ℕ → Option RecordRef) (arena key : List ℕ) where
  pub visiting_begins : (packed : Bool) (tag buckets : ℕ) (index : List ℕ) (bucket m : ℕ) → 8 * bucket + 8 ≤ length index → m ≡ marks (candidates packed tag index bucket)
      → Visiting (searched read arena key packed tag buckets index bucket) (says read arena key packed tag buckets index bucket) m
  unfolding packed_bucket
  visiting_begins true tag buckets index bucket m room e =
      let cs : List ℕ = bytes_of 8 (get_or index bucket 0) in
      let g : ℕ → FindStep = says read arena key true tag buckets index bucket in
      record {
        places = tagged (control_tag tag) (get_or index bucket 0);
        marked = e;
        eight = length-map cs (has_tag (control_tag tag)) ∙ length_bytes 8 (get_or index bucket 0);
        same =
            sweep_visits read arena key (control_tag tag) (secondary_tag tag) (omega arith) (omega arith) cs (word_bytes (take 7 (drop (buckets + 7 * bucket) index))) (8 * bucket) 0 g
            (λ j h. ap g (zero-add j));
      }
  visiting_begins false tag buckets index bucket m room e =
      let l : List IndexSlot = slots_of false buckets index bucket in
      let g : ℕ → FindStep = says read arena key false tag buckets index bucket in
      let n : length l ≡ 8 = length-map (take 8 (drop (8 * bucket) index)) word_slot ∙ length-take-le 8 (drop (8 * bucket) index) (omega (arith, length-drop (8 * bucket) index)) in
      record {
        places = from_on (passed_over tag l) 8;
        marked = e;
        eight = from_length (passed_over tag l) 8;
        same =
            scan_visits read arena key tag g l (8 * bucket) 0 (λ j h. ap g (zero-add j))
            ∙ ap (λ (k : ℕ). visited (λ j after. and_then (g j) after) (from_on (passed_over tag l) k) 0 Next) n;
      }

  -- a step that does not go on
  pub bucket_step : (packed : Bool) (tag buckets : ℕ) (index : List ℕ) (bucket : ℕ) (s : FindStep) → searched read arena key packed tag buckets index bucket ≡ s → (s ≡ Next → ⊥)
      → s ≡ in_bucket packed (slots read arena key packed tag buckets index bucket)
  bucket_step false tag buckets index bucket s e n = sym e
  bucket_step true tag buckets index bucket (Hit r) e n = rw e
  bucket_step true tag buckets index bucket Stop e n = rw e
  bucket_step true tag buckets index bucket Next e n = absurd (n refl)

  -- none is of the key: an empty slot ends the walk in the packed layout
  pub bucket_ends : (packed : Bool) (tag buckets : ℕ) (index : List ℕ) (bucket : ℕ) (gap : Bool) → gap ≡ cond packed (ltb 0 (marks (tagged 0 (get_or index bucket 0)))) false
      → searched read arena key packed tag buckets index bucket ≡ Next → cond gap Stop Next ≡ in_bucket packed (slots read arena key packed tag buckets index bucket)
  unfolding packed_bucket
  bucket_ends false tag buckets index bucket gap g e = rw (g, e)
  bucket_ends true tag buckets index bucket gap g e =
      let has : has_empty (slots read arena key true tag buckets index bucket) ≡ gap
      = empty_marked read arena key (packed_tag tag) (bytes_of 8 (get_or index bucket 0)) (word_bytes (take 7 (drop (buckets + 7 * bucket) index))) (8 * bucket) ∙ sym g in
      rw (e, has)
