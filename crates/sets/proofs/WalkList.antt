-- Laws of the walk as a list: slot by slot, and that the public step visits just this list, in its order. Assumes nothing.
use Rattle.std.proofs.Common.{◌≡◌, ℕ, zero, suc, ◌+◌, ◌-◌, ◌*◌, ◌<◌, ◌≤◌, Bool, true, List, [], ◌∷◌, length, sym, refl, ap, ◌∙◌, ap₂, arith, Option, Some, None}
use Rattle.records.specs.declared.record.RecordRef.{RecordRef}
use Rattle.index.specs.View.{record_in}
use Rattle.index.specs.declared.find.FoundRecord.{FoundRecord}
use Rattle.sets.specs.Answers.{accept}
use Rattle.sets.specs.Lookup.{areas_hold_set, ask_walk, entry_at, first_entry, next_entry, tell_found, view_of, walk_answer}
use Rattle.sets.specs.Walk.{entries_from, entry_then}
use Rattle.sets.specs.declared.cache.FrozenSegmentCache.{FrozenSegmentCache}

-- ---- slot by slot

module _ (at : ℕ → Option RecordRef) (slots s : ℕ) where
  pub entries_hit : (r : RecordRef) → s < slots → at s ≡ Some r → entries_from at s (slots - s) ≡ record { slot = s; entry = r } ∷ entries_from at (s + 1) (slots - (s + 1))
  unfolding entries_from
  entries_hit r h e =
      let n : slots - s ≡ suc (slots - (s + 1)) = omega arith in
      let t : s + 1 ≡ suc s = omega arith in
      rw (n, e, t)

  pub entries_miss : s < slots → at s ≡ None → entries_from at s (slots - s) ≡ entries_from at (s + 1) (slots - (s + 1))
  unfolding entries_from
  entries_miss h e =
      let n : slots - s ≡ suc (slots - (s + 1)) = omega arith in
      let t : s + 1 ≡ suc s = omega arith in
      rw (n, e, t)

  pub entries_none : slots ≤ s → entries_from at s (slots - s) ≡ []
  unfolding entries_from
  entries_none h =
      let n : slots - s ≡ 0 = omega arith in
      rw n

-- no more entries than slots
pub entries_few : (at : ℕ → Option RecordRef) (slot n : ℕ) → length (entries_from at slot n) ≤ n
unfolding entries_from
entries_few at slot zero = omega arith
entries_few at slot (suc n) = go (at slot) (entries_few at (suc slot) n)
  where
    go : (r : Option RecordRef) → length (entries_from at (suc slot) n) ≤ n → length (entry_then slot r (entries_from at (suc slot) n)) ≤ suc n
    go (Some r) h = omega arith
    go None h = omega arith

-- ---- the steps of the walk

-- the first of a list
abbrev pub first_of : List FoundRecord → Option FoundRecord
first_of [] = None
first_of (y ∷ l) = Some y

first_entry_law : (at : ℕ → Option RecordRef) (slot n : ℕ) → first_entry at slot n ≡ first_of (entries_from at slot n)
unfolding first_entry entries_from
first_entry_law at slot zero = refl
first_entry_law at slot (suc n) = go (at slot) refl (first_entry_law at (suc slot) n)
  where
    go : (r : Option RecordRef) → at slot ≡ r → first_entry at (suc slot) n ≡ first_of (entries_from at (suc slot) n) → first_entry at slot (suc n) ≡ first_of (entries_from at slot (suc n))
    go (Some r) e h = rw e
    go None e h = rw e h

-- a step from a slot gives the first of the entries from there on
pub walk_lists : (read : ℕ → Option RecordRef) (packed : Bool) (buckets : ℕ) (index : List ℕ) (from : ℕ)
    → next_entry read packed buckets index from ≡ first_of (entries_from (entry_at read packed buckets index) from (8 * buckets - from))
unfolding next_entry
walk_lists read packed buckets index from = first_entry_law (entry_at read packed buckets index) from (8 * buckets - from)

-- so does the public step
pub step_shows : (s : FrozenSegmentCache) (from tick : ℕ) (index starts lengths arena : List ℕ)
    → areas_hold_set s (length index) (length starts) (length lengths) (length arena) ≡ true
    → walk_answer s from tick index starts lengths arena
    ≡ accept (tell_found s.config tick
    (first_of (entries_from (entry_at (record_in (view_of s) arena starts lengths) s.config.packed_bucket_index s.buckets index) from (8 * s.buckets - from))))
unfolding walk_answer ask_walk
step_shows s from tick index starts lengths arena held =
    rw (held, walk_lists (record_in (view_of s) arena starts lengths) s.config.packed_bucket_index s.buckets index from)

-- and a step from the slot after it the first of the others
pub walk_goes_on : (at : ℕ → Option RecordRef) (n from slots : ℕ) → from + n ≡ slots → (y : FoundRecord) (rest : List FoundRecord) → entries_from at from n ≡ y ∷ rest
    → rest ≡ entries_from at (y.slot + 1) (slots - (y.slot + 1))
unfolding entries_from
walk_goes_on at zero from slots h y rest e = absurd (let z : 0 ≡ suc (length rest) = ap length e in omega arith)
walk_goes_on at (suc n) from slots h y rest e =
    go (at from) refl e (λ (f : entries_from at (suc from) n ≡ y ∷ rest). walk_goes_on at n (suc from) slots (omega arith) y rest f)
  where
    tail : List FoundRecord → List FoundRecord
    tail [] = []
    tail (x ∷ l) = l

    slot_of : List FoundRecord → ℕ
    slot_of [] = 0
    slot_of (x ∷ l) = x.slot

    go : (r : Option RecordRef) → at from ≡ r → entry_then from r (entries_from at (suc from) n) ≡ y ∷ rest
        → (entries_from at (suc from) n ≡ y ∷ rest → rest ≡ entries_from at (y.slot + 1) (slots - (y.slot + 1)))
        → rest ≡ entries_from at (y.slot + 1) (slots - (y.slot + 1))
    go (Some r) q f more =
        let here : from ≡ y.slot = ap slot_of f in
        let next : suc from ≡ y.slot + 1 = omega arith in
        let left : n ≡ slots - (y.slot + 1) = omega arith in
        sym (ap tail f) ∙ ap₂ (entries_from at) next left
    go None q f more = more f
