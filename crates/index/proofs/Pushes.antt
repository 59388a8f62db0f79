-- A push puts its entry into the first empty slot of its hash's walk, and so at the end of the list. Assumes nothing.
use Rattle.std.proofs.Common.{◌≡◌, ℕ, zero, suc, ◌+◌, ◌-◌, ◌*◌, ◌/◌, ◌^◌, ◌<◌, ◌≤◌, Bool, true, false, cond, ltb, leb, List, [], ◌∷◌, ◌++◌, map, length, get_or, take, set, sym, refl, ap, ◌∙◌, arith, length-set, length-take-le, ltb-false, le-leb, leb-false, leb-true}
use Rattle.std.specs.Prelude.{Some, Ok}
use Rattle.hash_parts.specs.declared.error.SegmentCacheBuildError.TheVariants.{}
use lib.Seq.{take-set-lt}
use borrow.Author.Tests.{lt-leb}
use Rattle.hash_parts.specs.Hash.{tag_of, first_bucket}
use Rattle.hash_parts.proofs.Products.{first_bucket_below}
use Rattle.records.specs.Record.{Stored}
use Rattle.records.proofs.Area.{same_true}
use Rattle.index.specs.Build.{PushLook, vacant, passed, looks, slot_for}
use Rattle.index.specs.Filter.{displaced, filter_has, filter_marked}
use Rattle.index.specs.Slot.{word_slot, IndexSlot}
use Rattle.index.specs.Walk.{rot}
use Rattle.index.specs.Word.{word_of}
use Rattle.index.proofs.Contents.{word_slots}
use Rattle.index.proofs.Entries.{new_slot, keyed, cell_used, Indexed, words_long}
use Rattle.index.proofs.Filters.{own_mark, mark_grows}
use Rattle.index.proofs.Pairs.{pairs_set}
use Rattle.index.proofs.Placed.{placed_push}
use Rattle.index.proofs.Searches.{empty_gap, vacant_own, slot_search, length_looks, walk_says}
use Rattle.index.proofs.Table.{slot_of, slot_below, length_rot, get_d_rot, gap_at, place}

-- ---- a slot of the table

module _ {E : Type 0} {stored : E → Stored} {H : List ℕ → ℕ} {Holds : ℕ → E → Type 0} where
  -- the entry e, of the hash h, at the stored location l: into slot s, the first empty one of its walk, at position q
  inserted : (buckets : ℕ) (slots : List IndexSlot) (filter : List ℕ) (words : ℕ) {r : List E} (x : Indexed stored H false Holds buckets slots filter words r)
      → (e : E) (l h a q s : ℕ) → h ≡ H (stored e).key → h < 2 ^ 64 → a ≡ 8 * first_bucket h buckets → q ≡ gap_at (rot a x.table) → q < 8 * buckets
      → s ≡ slot_of (8 * buckets) a q → Holds l e
      → Indexed stored H false Holds buckets (set slots s (Some (tag_of h, l))) (cond (leb 16 q) (filter_marked filter words h) filter) words (r ++ (e ∷ []))
  inserted buckets slots filter words {r} x e l h a q s hash bound start gap room at holds =
      record {
        table = place x.table a e;
        size = length-set x.table _ (Some e) ∙ x.size;
        cells = rw (x.size, ← gap, ← at) (pairs_set s (Some (tag_of h, l)) (Some e) (cell_used (ap tag_of hash) holds) x.cells);
        placed =
            placed_push (keyed stored) (λ k. 8 * first_bucket (H k) buckets) 16 _ _ x.table r e a x.placed inside fits homes (λ k. grows k (leb 16 q)) (λ k y z. own k y (omega (arith, gap)));
      }
    where
      inside : a ≤ length x.table
      inside = omega (arith, x.size, start, first_bucket_below h buckets bound)

      fits : gap_at (rot a x.table) < length x.table
      fits = omega (arith, x.size, gap, room)

      shared : (k : List ℕ) → keyed stored k e ≡ true → h ≡ H k
      shared k y = hash ∙ ap H (same_true (stored e).key k y)

      homes : (k : List ℕ) → keyed stored k e ≡ true → 8 * first_bucket (H k) buckets ≡ a
      homes k y = rw (← shared k y) (sym start)

      grows : (k : List ℕ) (b : Bool) → filter_has filter words (H k) ≡ true → filter_has (cond b (filter_marked filter words h) filter) words (H k) ≡ true
      grows k true m = mark_grows filter words h (H k) bound m
      grows k false m = m

      own : (k : List ℕ) → keyed stored k e ≡ true → 16 ≤ q → filter_has (cond (leb 16 q) (filter_marked filter words h) filter) words (H k) ≡ true
      own k y z = rw (le-leb 16 q z, ← shared k y) (own_mark filter words h bound)

-- ---- a slot's displacement

-- a slot's bucket is as far past the first as its position is in whole buckets
displaced_position : (first buckets q : ℕ) → first ≤ buckets - 1 → q < 8 * buckets → displaced first (slot_of (8 * buckets) (8 * first) q / 8) buckets ≡ q / 8
unfolding displaced
displaced_position first buckets q below room = go (ltb (8 * first + q) (8 * buckets)) refl
  where
    go : (b : Bool) → ltb (8 * first + q) (8 * buckets) ≡ b → displaced first (cond b (8 * first + q) (8 * first + q - 8 * buckets) / 8) buckets ≡ q / 8
    go true e =
        let c : ℕ = (8 * first + q) / 8 in
        let h : first ≤ c = omega arith in
        rw (le-leb first c h) (omega arith)
    go false e =
        let h : 8 * buckets ≤ 8 * first + q = ltb-false _ _ e in
        let c : ℕ = (8 * first + q - 8 * buckets) / 8 in
        let l : c < first = omega arith in
        rw (lt-leb first c l) (omega arith)

-- a displacement of two buckets is a position of 16 slots
far_test : (d q : ℕ) → d ≡ q / 8 → leb 2 d ≡ leb 16 q
far_test d q e = go (leb 16 q) refl
  where
    go : (b : Bool) → leb 16 q ≡ b → leb 2 d ≡ b
    go true t = le-leb 2 d (omega (arith, leb-true 16 q t))
    go false t = lt-leb 2 d (omega (arith, leb-false 16 q t))

-- ---- the words of an index

module _ {A B : Type 0} (f : A → B) where
  map_set : (l : List A) (i : ℕ) (a : A) → map f (set l i a) ≡ set (map f l) i (f a)
  map_set [] zero a = refl
  map_set [] (suc i) a = refl
  map_set (x ∷ l) zero a = refl
  map_set (x ∷ l) (suc i) a = ap (λ (r : List B). f x ∷ r) (map_set l i a)

slots_set : (buckets : ℕ) (index : List ℕ) (i w : ℕ) → i < 8 * buckets → word_slots buckets (set index i w) ≡ set (word_slots buckets index) i (word_slot w)
slots_set buckets index i w h = ap (map word_slot) (take-set-lt (8 * buckets) index i w h) ∙ map_set word_slot (take (8 * buckets) index) i w

-- ---- a push

-- what is known where the search for a slot has found one, whatever words it would have taken for the key
module _ {E : Type 0} {stored : E → Stored} {H : List ℕ → ℕ} {Holds : ℕ → E → Type 0} (index : List ℕ) (buckets : ℕ) (filter : List ℕ) (words : ℕ) {r : List E}
    (x : Indexed stored H false Holds buckets (word_slots buckets index) filter words r) (taken : ℕ → Bool) (h s : ℕ) (bound : h < 2 ^ 64)
    (answer : slot_for taken index buckets h ≡ Ok s) where
  -- the position of the first empty slot of the walk
  abbrev pub gap : ℕ
  gap = gap_at (rot (8 * first_bucket h buckets) x.table)

  -- it is the slot found
  pub push_slot_law : (gap < 8 * buckets) × (s ≡ slot_of (8 * buckets) (8 * first_bucket h buckets) gap)
  push_slot_law =
      let a : ℕ = 8 * first_bucket h buckets in
      let ws : List ℕ = take (8 * buckets) index in
      let l : List PushLook = looks taken 0 ws in
      let long : 8 * buckets ≤ length index = words_long buckets index x in
      let many : length ws ≡ 8 * buckets = length-take-le (8 * buckets) index long in
      let size : length l ≡ 8 * buckets = length_looks taken 0 ws ∙ many in
      let found = empty_gap (λ b e. Unit {0}) (walk_says taken (λ b e. Unit {0}) (λ w e p y. tt) buckets index x a) (sym (slot_search taken index buckets h long) ∙ answer) in
      let room : gap < 8 * buckets = omega (arith, length_rot a x.table, x.size) in
      let start : a ≤ 8 * buckets = omega (arith, first_bucket_below h buckets bound) in
      let own : get_or l (slot_of (8 * buckets) a gap) passed ≡ vacant s = rw size at (sym (get_d_rot l a gap (omega arith) (omega arith) passed) ∙ found.1) in
      (room, vacant_own taken ws (slot_of (8 * buckets) a gap) s (rw many (slot_below (8 * buckets) a gap start room)) own)

  pub push_below : s < 8 * buckets
  push_below =
      let start : 8 * first_bucket h buckets ≤ 8 * buckets = omega (arith, first_bucket_below h buckets bound) in
      rw push_slot_law.1 (slot_below (8 * buckets) (8 * first_bucket h buckets) gap start push_slot_law.0)

  -- and its bucket is as far past the first as the position says
  pub push_displaced : displaced (first_bucket h buckets) (s / 8) buckets ≡ gap / 8
  push_displaced = rw push_slot_law.1 (displaced_position (first_bucket h buckets) buckets gap (first_bucket_below h buckets bound) push_slot_law.0)

  -- so a push from the third bucket on is one from position 16 on
  pub push_far : leb 2 (displaced (first_bucket h buckets) (s / 8) buckets) ≡ leb 16 gap
  push_far = far_test (displaced (first_bucket h buckets) (s / 8) buckets) gap push_displaced

  -- the entry e at location l
  module _ (e : E) (l : ℕ) (hash : h ≡ H (stored e).key) (holds : Holds (l + 1) e) (fits : l + 1 < 2 ^ 40) where
    pub pushed : Indexed stored H false Holds buckets (word_slots buckets (set index s (word_of (tag_of h) l)))
        (cond (leb 2 (displaced (first_bucket h buckets) (s / 8) buckets)) (filter_marked filter words h) filter) words (r ++ (e ∷ []))
    pushed =
        rw (slots_set buckets index s (word_of (tag_of h) l) push_below, new_slot (tag_of h) l (omega arith) fits, push_far)
        (inserted buckets (word_slots buckets index) filter words x e (l + 1) h (8 * first_bucket h buckets) gap s hash bound refl refl push_slot_law.0 push_slot_law.1 holds)
