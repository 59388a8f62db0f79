-- A slot of a finished index by its number. Assumes nothing.
use Rattle.std.proofs.Common.{◌≡◌, ℕ, ◌+◌, ◌*◌, ◌/◌, ◌%◌, ◌<◌, ◌≤◌, Bool, false, List, length, get_or, take, drop, ap, ◌∙◌, arith, get_or-drop, get_or-take, le-ltb, lt-ltb, le-leb}
use Rattle.std.specs.Prelude.{None}
use lib.ListN.{get_or-map}
use borrow.Author.Tests.{lt-leb}
use Rattle.index.specs.Find.{slot_at, slots_of}
use Rattle.index.specs.Slot.{word_slot}

module _ (packed : Bool) (buckets : ℕ) (index : List ℕ) (s : ℕ) where
  pub slot_short : length index / 8 < buckets → slot_at packed buckets index s ≡ None
  unfolding slot_at
  slot_short h =
      let few : length index < 8 * buckets = omega arith in
      rw (lt-leb _ _ few)

  module _ (long : buckets ≤ length index / 8) where
    pub slot_past : buckets ≤ s / 8 → slot_at packed buckets index s ≡ None
    unfolding slot_at
    slot_past h =
        let enough : 8 * buckets ≤ length index = omega arith in
        let past : 8 * buckets ≤ s = omega arith in
        rw (le-leb _ _ enough, le-ltb _ _ past)

    pub slot_in : s / 8 < buckets → slot_at packed buckets index s ≡ get_or (slots_of packed buckets index (s / 8)) (s % 8) None
    unfolding slot_at
    slot_in h =
        let enough : 8 * buckets ≤ length index = omega arith in
        let below : s < 8 * buckets = omega arith in
        rw (le-leb _ _ enough, lt-ltb _ _ below)

-- of the word layout, its word
pub word_in : (buckets : ℕ) (index : List ℕ) (b j : ℕ) → j < 8 → get_or (slots_of false buckets index b) j None ≡ word_slot (get_or index (b * 8 + j) 0)
unfolding word_slot
word_in buckets index b j small =
    let whole : 8 * b + j ≡ b * 8 + j = omega arith in
    get_or-map word_slot (take 8 (drop (8 * b) index)) j 0
    ∙ ap word_slot (get_or-take 8 (drop (8 * b) index) j 0 small ∙ get_or-drop (8 * b) index j 0 ∙ ap (λ (i : ℕ). get_or index i 0) whole)
