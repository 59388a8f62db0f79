-- The step of the walk, slot by slot. Assumes nothing.
use Rattle.std.proofs.Common.{◌≡◌, ℕ, suc, ◌+◌, ◌-◌, ◌<◌, ◌≤◌, arith, Option, Some, None}
use Rattle.records.specs.declared.record.RecordRef.{RecordRef}
use Rattle.sets.specs.Lookup.{first_entry}

module _ (at : ℕ → Option RecordRef) (slots s : ℕ) where
  pub entry_hit : (r : RecordRef) → s < slots → at s ≡ Some r → first_entry at s (slots - s) ≡ Some (record { slot = s; entry = r })
  unfolding first_entry
  entry_hit r h e =
      let n : slots - s ≡ suc (slots - s - 1) = omega arith in
      rw (n, e)

  pub entry_miss : s < slots → at s ≡ None → first_entry at (s + 1) (slots - (s + 1)) ≡ first_entry at s (slots - s)
  unfolding first_entry
  entry_miss h e =
      let n : slots - s ≡ suc (slots - (s + 1)) = omega arith in
      let t : s + 1 ≡ suc s = omega arith in
      rw (n, e, t)

  pub entry_none : slots ≤ s → first_entry at s (slots - s) ≡ None
  unfolding first_entry
  entry_none h =
      let n : slots - s ≡ 0 = omega arith in
      rw n
