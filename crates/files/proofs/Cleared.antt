-- Words whose marks are cleared show the same slots, where each that is used names a record. Assumes nothing.
use mathlib.Core.Path.{◌≡◌, refl, sym, ap, ap₂, ◌∙◌}
use mathlib.Core.Bool.{Bool, true, false, cond}
use Rattle.std.specs.Prelude.{Option, Some, None}
use mathlib.Core.List.{List, [], ◌∷◌, map, Forall₂}
use Prim.Native.Nat.{ℕ, ◌*◌}
use native.Mathlib.Omega.{arith}
use lib.Dec.{eqb}
use lib.ListN.{length, take, length-map}
use lib.Seq.{take_all}
use borrow.Author.Tests.{eqb-true, ne_eqb}
use Rattle.records.specs.Record.{Stored}
use Rattle.index.specs.Slot.{word_slot}
use Rattle.index.specs.Word.{word_tag, word_stored, unmarked}
use Rattle.index.specs.Slot.{IndexSlot}
use Rattle.index.proofs.Entries.{Cell, cell_used}
use Rattle.index.proofs.Flat.{index_slots}
use Rattle.index.proofs.Words.{unmarked_tag, unmarked_stored}
use Rattle.files.specs.Contents.{unmarked_index}
use Rattle.files.proofs.Unmarked.{packed_unmarked}

module _ {E : Type 0} (stored : E → Stored) (H : List ℕ → ℕ) (Holds : ℕ → E → Type 0) (located : (e : E) → Holds 0 e → ⊥) where
  used_cleared : (w : ℕ) (c : Option E) {t l : ℕ} → l ≡ word_stored w → Cell stored H false Holds (Some (t, l)) c → word_slot (unmarked w) ≡ Some (word_tag w, word_stored w)
  unfolding word_slot
  used_cleared w c p (cell_used {e = e} q y) =
      let n : word_stored w ≡ 0 → ⊥ = λ (z : word_stored w ≡ 0). located e (rw (p ∙ z) at y) in
      let m : unmarked w ≡ 0 → ⊥ = λ (z : unmarked w ≡ 0). n (omega arith) in
      rw (ne_eqb (unmarked w) 0 m, unmarked_tag w, unmarked_stored w)

  word_cleared : (w : ℕ) (c : Option E) → Cell stored H false Holds (word_slot w) c → word_slot (unmarked w) ≡ word_slot w
  unfolding word_slot
  word_cleared w c x = go (eqb w 0) refl x
    where
      go : (b : Bool) → eqb w 0 ≡ b → Cell stored H false Holds (cond b None (Some (word_tag w, word_stored w))) c → word_slot (unmarked w) ≡ cond b None (Some (word_tag w, word_stored w))
      go true e y = rw (eqb-true w 0 e)
      go false e y = used_cleared w c refl y

  words_cleared : (ws : List ℕ) {table : List (Option E)} → Forall₂ (Cell stored H false Holds) (map word_slot ws) table → map word_slot (map unmarked ws) ≡ map word_slot ws
  words_cleared [] r = refl
  words_cleared (w ∷ ws) (Forall₂.cons x r) = ap₂ (λ (s : IndexSlot) (l : List IndexSlot). s ∷ l) (word_cleared w _ x) (words_cleared ws r)

  plain_cleared : (buckets : ℕ) (ws : List ℕ) → take (8 * buckets) ws ≡ ws → take (8 * buckets) (map unmarked ws) ≡ map unmarked ws → {table : List (Option E)}
      → Forall₂ (Cell stored H false Holds) (index_slots false buckets ws) table → index_slots false buckets (unmarked_index false buckets ws) ≡ index_slots false buckets ws
  unfolding unmarked_index
  plain_cleared buckets ws whole whole' r = ap (map word_slot) whole' ∙ words_cleared ws (rw whole at r) ∙ ap (map word_slot) (sym whole)

  -- in either layout; `ws` are the words in use
  pub slots_cleared : (packed : Bool) (buckets : ℕ) (ws : List ℕ) → length ws ≡ 8 * buckets → {table : List (Option E)}
      → Forall₂ (Cell stored H packed Holds) (index_slots packed buckets ws) table → index_slots packed buckets (unmarked_index packed buckets ws) ≡ index_slots packed buckets ws
  slots_cleared true buckets ws long r = packed_unmarked buckets ws (omega arith)
  slots_cleared false buckets ws long r = plain_cleared buckets ws (take_all (8 * buckets) ws (omega arith)) (take_all (8 * buckets) (map unmarked ws) (omega (arith, length-map ws unmarked))) r
