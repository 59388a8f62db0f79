-- The slots of an index and the list of its entries, in the order in which they were pushed. Assumes nothing.
use Rattle.std.proofs.Common.{◌≡◌, ℕ, ◌+◌, ◌*◌, ◌^◌, ◌<◌, ◌≤◌, Bool, false, List, [], map, length, take, replicate, arith, length-take, ne_eqb}
use Rattle.std.specs.Prelude.{Some, None, Option}
use mathlib.Core.List.{Forall₂}
use mathlib.Mathlib.Data.List.Forall2.Forall₂
use mathlib.Mathlib.Data.List.Forall2.{Forall₂-map_left_iff}
use lib.ListN.{length-map, length-replicate}
use Rattle.hash_parts.specs.Hash.{tag_of, first_bucket}
use Rattle.records.specs.Area.{same_bytes}
use Rattle.records.specs.Record.{Stored}
use Rattle.index.specs.Filter.{filter_has}
use Rattle.index.specs.Slot.{word_slot, kept_tag, IndexSlot}
use Rattle.index.specs.Word.{word_of}
use Rattle.index.proofs.Contents.{word_slots}
use Rattle.index.proofs.Pairs.{pairs_replicate, pairs_length}
use Rattle.index.proofs.Placed.{Placed, placed_none}
use Rattle.index.proofs.Words.{tag_back, location_back, word_taken}

-- the slot of a new word
pub new_slot : (t l : ℕ) → t < 2 ^ 23 → l + 1 < 2 ^ 40 → word_slot (word_of t l) ≡ Some (t, l + 1)
unfolding word_slot
new_slot t l ht hl = rw (ne_eqb (word_of t l) 0 (word_taken t l ht hl), tag_back t l ht hl, location_back t l ht hl)

-- E: the entries, each with what it stores
module _ {E : Type 0} (stored : E → Stored) where
  -- whether an entry has the key
  abbrev pub keyed : List ℕ → E → Bool
  keyed k e = same_bytes (stored e).key k

-- `H`: the hash of each key
module _ {E : Type 0} (stored : E → Stored) (H : List ℕ → ℕ) where
  -- One slot in either layout. `Holds l e`: the entry e stands at the stored location l.
  pub data Cell (packed : Bool) (Holds : ℕ → E → Type 0) : IndexSlot → Option E → Type 0 where
    cell_empty : Cell packed Holds None None
    cell_used : {t l : ℕ} {e : E} → t ≡ kept_tag packed (tag_of (H (stored e).key)) → Holds l e → Cell packed Holds (Some (t, l)) (Some e)

  -- so many buckets of slots, and a filter of so many words, stand for the list r
  pub record Indexed (packed : Bool) (Holds : ℕ → E → Type 0) (buckets : ℕ) (slots : List IndexSlot) (filter : List ℕ) (words : ℕ) (r : List E) : Type 0 where
    pub table : List (Option E)
    pub size : length table ≡ 8 * buckets
    pub cells : Forall₂ (Cell packed Holds) slots table
    pub placed : Placed (keyed stored) (λ k. 8 * first_bucket (H k) buckets) 16 (λ k. filter_has filter words (H k)) table r

module _ {E : Type 0} {stored : E → Stored} {H : List ℕ → ℕ} where
  -- empty slots stand for no entries, whatever the filter holds
  pub none_indexed : {packed : Bool} {Holds : ℕ → E → Type 0} (buckets : ℕ) (filter : List ℕ) (words : ℕ)
      → Indexed stored H packed Holds buckets (replicate (8 * buckets) None) filter words []
  none_indexed buckets filter words =
      record {
        table = replicate (8 * buckets) None;
        size = length-replicate (8 * buckets) None;
        cells = pairs_replicate (8 * buckets) None None cell_empty;
        placed = placed_none (keyed stored) (λ k. 8 * first_bucket (H k) buckets) 16 (λ k. filter_has filter words (H k)) (8 * buckets);
      }

  -- a change of each slot
  pub slots_mapped : {packed packed' : Bool} {Holds Holds' : ℕ → E → Type 0} (g : IndexSlot → IndexSlot)
      → ((s : IndexSlot) (c : Option E) → Cell stored H packed Holds s c → Cell stored H packed' Holds' (g s) c)
      → {buckets : ℕ} {slots : List IndexSlot} {filter : List ℕ} {words : ℕ} {r : List E}
      → Indexed stored H packed Holds buckets slots filter words r → Indexed stored H packed' Holds' buckets (map g slots) filter words r
  slots_mapped g f x = record { table = x.table; size = x.size; cells = (Forall₂-map_left_iff g).1 (Forall₂.imp f x.cells); placed = x.placed }

  -- what is known of where the entries stand may change
  pub reheld : {packed : Bool} {Holds Holds' : ℕ → E → Type 0} → ((l : ℕ) (e : E) → Holds l e → Holds' l e)
      → {buckets : ℕ} {slots : List IndexSlot} {filter : List ℕ} {words : ℕ} {r : List E}
      → Indexed stored H packed Holds buckets slots filter words r → Indexed stored H packed Holds' buckets slots filter words r
  reheld {packed} {Holds} {Holds'} f x = record { table = x.table; size = x.size; cells = Forall₂.imp kept x.cells; placed = x.placed }
    where
      kept : (s : IndexSlot) (c : Option E) → Cell stored H packed Holds s c → Cell stored H packed Holds' s c
      kept s c cell_empty = cell_empty
      kept s c (cell_used p h) = cell_used p (f _ _ h)

  -- the words that the slots are made of are there
  pub words_long : {Holds : ℕ → E → Type 0} (buckets : ℕ) (index : List ℕ) {filter : List ℕ} {words : ℕ} {r : List E}
      → Indexed stored H false Holds buckets (word_slots buckets index) filter words r → 8 * buckets ≤ length index
  words_long buckets index x =
      omega (arith, length-take (8 * buckets) index, length-map (take (8 * buckets) index) word_slot, pairs_length x.cells, x.size)
