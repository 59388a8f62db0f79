-- The slots of a build: what a word says to a push, a bucket's answer, and the answer of the buckets that are left. Assumes nothing.
use Rattle.std.proofs.Common.{◌≡◌, ℕ, zero, suc, ◌+◌, ◌-◌, ◌*◌, ◌/◌, ◌<◌, ◌≤◌, Bool, true, false, List, [], ◌∷◌, length, get_or, take, drop, sym, refl, ap, ◌∙◌, not-suc-le-zero, add-one, arith, eq-eqb, ne_eqb, le-leb, leb, cond}
use Rattle.std.specs.Prelude.{Some, None, Ok, Err}
use Rattle.hash_parts.specs.declared.error.SegmentCacheBuildError.TheVariants.{CapacityOverflow, DuplicateKey}
use borrow.Author.Tests.{lt-leb}
use Rattle.hash_parts.specs.Hash.{first_bucket}
use Rattle.hash_parts.specs.declared.setting.SegmentExpiry.{SegmentExpiry}
use Rattle.hash_parts.proofs.Refusals.{refusal_pos}
use Rattle.records.specs.Area.{same_bytes, spanned}
use Rattle.records.specs.Record.{record_at, stored_at, contents}
use Rattle.records.specs.declared.record.RecordRef.{RecordRef}
use Rattle.records.proofs.Area.{spanned_in}
use Rattle.records.proofs.Stored.{record_inside}
use Rattle.index.specs.Build.{PushLook, vacant, same, passed, build_record, has_key, holds_key, looks, searched, searched_all, slot_for, next_bucket, SlotAnswer}
use Rattle.hash_parts.specs.Outcome.{outcome_of}
use Rattle.index.specs.Walk.{bucket_walk}
use Rattle.index.specs.Word.{word_tag, word_stored}
use Rattle.index.proofs.Around.{around, around_step, around_end, walk_around}
use Rattle.index.proofs.Walks.{part_cons}

-- a slot that was found
pub slot_accepted : (s : SlotAnswer) → (outcome_of s).number ≡ 0 → s ≡ Ok (outcome_of s).value
slot_accepted (Ok s) e = refl
slot_accepted (Err r) e = absurd (omega (arith, e, refusal_pos r))

-- the three answers of a search
pub data SlotEnds : SlotAnswer → Type 0 where
  ends_empty : {s : ℕ} → SlotEnds (Ok s)
  ends_same : SlotEnds (Err DuplicateKey)
  ends_full : SlotEnds (Err CapacityOverflow)

searched_so : (l : List PushLook) {after : SlotAnswer} → SlotEnds after → SlotEnds (searched l after)
unfolding searched
searched_so [] e = e
searched_so (vacant i ∷ l) e = ends_empty
searched_so (same ∷ l) e = ends_same
searched_so (passed ∷ l) e = searched_so l e

all_so : (f : ℕ → List PushLook) (bs : List ℕ) → SlotEnds (searched_all f bs)
unfolding searched_all
all_so f [] = ends_full
all_so f (b ∷ bs) = searched_so (f b) (all_so f bs)

pub slot_ends : (taken : ℕ → Bool) (index : List ℕ) (buckets h : ℕ) → SlotEnds (slot_for taken index buckets h)
unfolding slot_for
slot_ends taken index buckets h = go (leb (8 * buckets) (length index)) (all_so (λ b. looks taken (8 * b) (take 8 (drop (8 * b) index))) (bucket_walk h buckets))
  where
    go : (b : Bool) {a : SlotAnswer} → SlotEnds a → SlotEnds (cond b a (Err CapacityOverflow))
    go true e = e
    go false e = ends_full

-- ---- a word that holds the key

names : (e : SegmentExpiry) (s : List ℕ) (stored : ℕ) → 0 < stored → build_record e s stored ≡ stored_at e s (stored - 1)
unfolding build_record
names e s zero p = absurd (not-suc-le-zero p)
names e s (suc location) p = let q : suc location - 1 ≡ location = omega arith in rw q

module _ (e : SegmentExpiry) (s key : List ℕ) (tag w : ℕ) where
  pub other_tag : (word_tag w ≡ tag → ⊥) → holds_key (build_record e s) key tag w ≡ false
  unfolding holds_key
  other_tag n = simp (ne_eqb _ _ n)

  module _ (own : word_tag w ≡ tag) (stored : ℕ) (named : stored ≡ word_stored w) where
    own_tag : holds_key (build_record e s) key tag w ≡ has_key key (build_record e s stored)
    unfolding holds_key
    own_tag = rw named (simp (eq-eqb _ _ own))

    pub names_none : stored ≡ 0 → holds_key (build_record e s) key tag w ≡ false
    unfolding build_record
    names_none z = own_tag ∙ rw z

    pub names_unreadable : 0 < stored → record_at e s (stored - 1) ≡ None → holds_key (build_record e s) key tag w ≡ false
    unfolding stored_at
    names_unreadable p f = own_tag ∙ ap (has_key key) (names e s stored p ∙ ap (contents s) f)

    pub names_record : (r : RecordRef) → 0 < stored → record_at e s (stored - 1) ≡ Some r
        → holds_key (build_record e s) key tag w ≡ same_bytes (spanned s r.key) key
    unfolding stored_at
    names_record r p f =
        let inside = record_inside e s (stored - 1) r f in
        let long : r.key.at + r.key.len - r.key.at ≡ r.key.len = omega arith in
        own_tag
        ∙ ap (has_key key) (names e s stored p ∙ ap (contents s) f)
        ∙ ap (λ (k : List ℕ). same_bytes k key) (ap (λ (n : ℕ). take n (drop r.key.at s)) (sym long) ∙ spanned_in s r.key (omega arith))

-- ---- the loop over the slots of a bucket

-- the answer of so many slots from one on, where `after` is the answer of what comes after them
abbrev pub slots_answer : (ℕ → Bool) → List ℕ → ℕ → ℕ → SlotAnswer → SlotAnswer
slots_answer taken index left slot after = searched (looks taken slot (take left (drop slot index))) after

module _ (taken : ℕ → Bool) (index : List ℕ) (left slot : ℕ) (after : SlotAnswer) where
  module _ (some_left : 0 < left) (inside : slot < length index) where
    first_slot : take left (drop slot index) ≡ get_or index slot 0 ∷ take (left - 1) (drop (slot + 1) index)
    first_slot = part_cons index left slot 0 some_left inside

    pub slot_vacant : get_or index slot 0 ≡ 0 → slots_answer taken index left slot after ≡ Ok slot
    unfolding looks searched
    slot_vacant z = rw first_slot (simp (eq-eqb _ _ z))

    pub slot_same : (get_or index slot 0 ≡ 0 → ⊥) → taken (get_or index slot 0) ≡ true → slots_answer taken index left slot after ≡ (Err DuplicateKey)
    unfolding looks searched
    slot_same n t = rw first_slot (simp (ne_eqb _ _ n, t))

    pub slot_passed : (get_or index slot 0 ≡ 0 → ⊥) → taken (get_or index slot 0) ≡ false
        → slots_answer taken index left slot after ≡ slots_answer taken index (left - 1) (slot + 1) after
    unfolding looks searched
    slot_passed n t = rw first_slot (simp (ne_eqb _ _ n, t, add-one))

  pub slot_end : left ≤ 0 → slots_answer taken index left slot after ≡ after
  unfolding looks searched
  slot_end z = let e : left ≡ 0 = omega arith in rw e

-- ---- the loop over the buckets

pub slots_short : (taken : ℕ → Bool) (index : List ℕ) (buckets h : ℕ) → length index / 8 < buckets → slot_for taken index buckets h ≡ (Err CapacityOverflow)
unfolding slot_for
slots_short taken index buckets h l = let s : length index < 8 * buckets = omega arith in simp (lt-leb _ _ s)

-- what the slots of a bucket say
abbrev pub bucket_looks : (ℕ → Bool) → List ℕ → ℕ → List PushLook
bucket_looks taken index bucket = looks taken (8 * bucket) (take 8 (drop (8 * bucket) index))

-- the answer of one bucket
abbrev pub bucket_answer : (ℕ → Bool) → List ℕ → ℕ → SlotAnswer → SlotAnswer
bucket_answer taken index bucket after = searched (bucket_looks taken index bucket) after

-- the answer of so many buckets from one on, around
unfoldable pub buckets_answer : (ℕ → Bool) → List ℕ → ℕ → ℕ → ℕ → SlotAnswer
buckets_answer taken index buckets left bucket = searched_all (bucket_looks taken index) (around left bucket buckets)

module _ (taken : ℕ → Bool) (index : List ℕ) (buckets : ℕ) where
  -- the whole walk
  pub buckets_first : (h : ℕ) → buckets ≤ length index / 8 → first_bucket h buckets ≤ buckets - 1
      → slot_for taken index buckets h ≡ buckets_answer taken index buckets buckets (first_bucket h buckets)
  unfolding slot_for buckets_answer
  buckets_first h fit first =
      let s : 8 * buckets ≤ length index = omega arith in
      simp (le-leb _ _ s) (ap (searched_all (bucket_looks taken index)) (walk_around buckets (first_bucket h buckets) first))

  pub buckets_end : (left bucket : ℕ) → left ≤ 0 → buckets_answer taken index buckets left bucket ≡ (Err CapacityOverflow)
  unfolding buckets_answer searched_all
  buckets_end left bucket z = ap (searched_all (bucket_looks taken index)) (around_end left bucket buckets z)

  module _ (left bucket : ℕ) (some_left : 0 < left) where
    abbrev rest : SlotAnswer
    rest = buckets_answer taken index buckets (left - 1) (next_bucket bucket buckets)

    buckets_step : buckets_answer taken index buckets left bucket ≡ bucket_answer taken index bucket rest
    unfolding buckets_answer searched_all
    buckets_step = ap (searched_all (bucket_looks taken index)) (around_step left bucket buckets some_left)

    -- where the bucket's slots are all passed over, and where they are not
    pub buckets_on : bucket_answer taken index bucket rest ≡ rest → buckets_answer taken index buckets left bucket ≡ rest
    buckets_on e = buckets_step ∙ e

    pub buckets_found_law : (found : SlotAnswer) → bucket_answer taken index bucket rest ≡ found → buckets_answer taken index buckets left bucket ≡ found
    buckets_found_law found e = buckets_step ∙ e
