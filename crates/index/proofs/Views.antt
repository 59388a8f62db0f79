-- Laws of reading under a stored location. Assumes nothing.
use Rattle.std.proofs.Common.{◌≡◌, ℕ, suc, ◌+◌, ◌-◌, ◌/◌, ◌%◌, ◌^◌, ◌<◌, ◌≤◌, Bool, true, false, cond, leb, List, length, get_or, take, drop, sym, refl, ap, ◌∙◌, arith, length-take, min, take_all, take-take, drop-drop, le-leb, leb-true}
use Rattle.std.specs.Prelude.{Option, Some, None}
use borrow.Author.Tests.{lt-leb}
use Rattle.hash_parts.specs.declared.setting.SegmentExpiry.{SegmentExpiry}
use native.Mathlib.Decide.{dec_le}
use Rattle.std.specs.List.{between}
use Rattle.std.proofs.lemmas.Slice.{between_from_start, between_to_end}
use Rattle.records.specs.Area.{part}
use Rattle.records.specs.Record.{record_at}
use Rattle.records.specs.declared.record.RecordRef.{RecordRef}
use Rattle.index.specs.View.{ref_moved, answer_moved, in_segment, is_segment, record_in}
use Rattle.index.specs.declared.view.SegmentView.{SegmentView}
use Rattle.index.proofs.Walks.{drop_take}

-- ---- parts of lists

-- a part of the front is a part of the whole
pub part_front : (at len n : ℕ) (s : List ℕ) → at + len ≤ n → part at len (take n s) ≡ part at len s
part_front at len n s h =
    let e : at + (n - at) ≡ n = omega arith in
    ap (take len) (ap (λ (k : ℕ). drop at (take k s)) (sym e) ∙ drop_take at (n - at) s) ∙ take-take len (n - at) (drop at s) (omega arith)

-- a part of a part
pub part_part : (start len at n : ℕ) (s : List ℕ) → at + n ≤ len → part at n (part start len s) ≡ part (start + at) n s
part_part start len at n s h = part_front at n len (drop start s) h ∙ ap (take n) (drop-drop at start s)

-- the front of a list that is shorter
pub front_is : (n k : ℕ) (s : List ℕ) → n ≡ min k (length s) → take n s ≡ take k s
front_is n k s e = go (dec_le k (length s))
  where
    go : Dec (k ≤ length s) → take n s ≡ take k s
    go (yes h) = let f : n ≡ k = omega arith in rw f
    go (no h) = let f : n ≡ length s = omega arith in rw f (take_all (length s) s (omega arith) ∙ sym (take_all k s (omega arith)))

-- the front of what is left of a list from a place on is a part of it
pub part_is : (s : List ℕ) {rest bytes : List ℕ} (at len : ℕ) → rest ≡ between at (length s) s → bytes ≡ between 0 len rest → bytes ≡ part at len s
part_is s {rest} at len e f = f ∙ between_from_start rest len ∙ ap (take len) (e ∙ between_to_end s at (length s) (omega arith))

-- ---- in a segment

module _ (e : SegmentExpiry) (bytes : List ℕ) (start len location : ℕ) where
  pub segment_outside : length bytes < start + len → None ≡ in_segment e bytes start len location
  unfolding in_segment
  segment_outside h = simp (lt-leb (start + len) (length bytes) h)

  pub segment_gives : (s : List ℕ) (a : Option RecordRef) → start + len ≤ length bytes → s ≡ part start len bytes → record_at e s (location % 2 ^ 32) ≡ a
      → answer_moved location start a ≡ in_segment e bytes start len location
  unfolding in_segment
  segment_gives s a h p f = rw (sym f ∙ ap (λ (l : List ℕ). record_at e l (location % 2 ^ 32)) p) (simp (le-leb (start + len) (length bytes) h))

-- ---- under a stored location

module _ (view : SegmentView) (arena starts lengths : List ℕ) where
  pub location_none : (stored : ℕ) → stored ≡ 0 → None ≡ record_in view arena starts lengths stored
  unfolding record_in
  location_none stored z = rw z

  module _ (stored location : ℕ) (some : 1 ≤ stored) (is : location ≡ stored - 1) where
    pub location_outside : is_segment view starts lengths (location / 2 ^ 32) ≡ false → None ≡ record_in view arena starts lengths stored
    unfolding record_in
    location_outside h =
        let e : stored ≡ suc location = omega arith in
        rw (e, h)

    pub location_inside : is_segment view starts lengths (location / 2 ^ 32) ≡ true
        → in_segment view.expiry (take view.filled arena) (get_or starts (location / 2 ^ 32) 0) (get_or lengths (location / 2 ^ 32) 0) location ≡ record_in view arena starts lengths stored
    unfolding record_in
    location_inside h =
        let e : stored ≡ suc location = omega arith in
        rw (e, h)

-- ---- what was read under a stored location

-- where it was read: in a segment inside the filled bytes, at the location's offset
pub record ReadIn (view : SegmentView) (arena starts lengths : List ℕ) (location : ℕ) (x : RecordRef) : Type 0 where
  pub start : ℕ
  pub len : ℕ
  pub r : RecordRef
  pub inside : start + len ≤ length (take view.filled arena)
  pub short : length (part start len (take view.filled arena)) ≤ len
  pub read : record_at view.expiry (part start len (take view.filled arena)) (location % 2 ^ 32) ≡ Some r
  pub is : ref_moved r location start ≡ x

module _ (view : SegmentView) (arena starts lengths : List ℕ) (location : ℕ) (x : RecordRef) where
  pub read_in : record_in view arena starts lengths (suc location) ≡ Some x → ReadIn view arena starts lengths location x
  unfolding record_in in_segment
  read_in f = in_set (is_segment view starts lengths (location / 2 ^ 32)) f
    where
      start : ℕ
      start = get_or starts (location / 2 ^ 32) 0

      len : ℕ
      len = get_or lengths (location / 2 ^ 32) 0

      segment : List ℕ
      segment = part start len (take view.filled arena)

      clash : None ≡ Some x → ReadIn view arena starts lengths location x
      clash e = absurd (let z : ◌≡◌ {A = ℕ} 0 1 = cc in omega arith)

      in_record : (a : Option RecordRef) → start + len ≤ length (take view.filled arena) → record_at view.expiry segment (location % 2 ^ 32) ≡ a → answer_moved location start a ≡ Some x
          → ReadIn view arena starts lengths location x
      in_record None h g e = clash e
      in_record (Some r) h g e = record { start = start; len = len; r = r; inside = h; short = rw length-take (omega arith); read = g; is = cc }

      in_bytes : (b : Bool) → leb (start + len) (length (take view.filled arena)) ≡ b
          → cond b (answer_moved location start (record_at view.expiry segment (location % 2 ^ 32))) None ≡ Some x → ReadIn view arena starts lengths location x
      in_bytes true h e = in_record (record_at view.expiry segment (location % 2 ^ 32)) (leb-true _ _ h) refl e
      in_bytes false h e = clash e

      in_set : (b : Bool) → cond b (in_segment view.expiry (take view.filled arena) start len location) None ≡ Some x → ReadIn view arena starts lengths location x
      in_set true e = in_bytes (leb (start + len) (length (take view.filled arena))) refl e
      in_set false e = clash e
