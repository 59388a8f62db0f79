-- Laws of a set's rows, slot by slot: whether each fits, and how many there are. Assumes nothing.
use mathlib.Core.Bool.{true, false}
use mathlib.Core.List.{List, [], ◌∷◌, map}
use mathlib.Core.Path.{◌≡◌, ap}
use Prim.Native.Nat.{ℕ, suc, ◌+◌, ◌-◌, ◌*◌, ◌≤◌, ◌<◌}
use native.Mathlib.Omega.{arith}
use borrow.Author.Tests.{leb-true}
use lib.Dec.{leb}
use lib.ListN.{length}
use Rattle.std.specs.Prelude.{Option, Some, None, Ok, Err}
use Rattle.hash_parts.specs.declared.error.SegmentCacheBuildError.TheVariants.{FieldTooLong}
use Rattle.records.specs.declared.record.RecordRef.{RecordRef}
use Rattle.index.specs.View.{record_in}
use Rattle.sets.specs.Lookup.{entry_at}
use Rattle.sets.specs.Walk.{entries_from, entries_in}
use Rattle.sets.proofs.Counts.{both}
use Rattle.sets.proofs.WalkList.{entries_hit, entries_miss, entries_none}
use Rattle.charts.specs.Line.{Row}
use Rattle.charts.specs.Sheet.{chart_rows, row_count, row_fits, row_of, rows_fit}
use Rattle.sets.specs.declared.lookup.SetRecords.{SetRecords}

-- ---- the rows of a chart from a slot on

module _ (c : SetRecords) where
  -- what stands in each slot
  abbrev pub reads : ℕ → Option RecordRef
  reads = entry_at (record_in c.view c.areas.arena.now c.areas.starts.now c.areas.lengths.now) c.index.packed c.index.buckets c.index.words.now

  abbrev slots : ℕ
  slots = 8 * c.index.buckets

  abbrev pub rows_from : ℕ → List Row
  rows_from s = map (row_of c.areas.arena.now) (entries_from reads s (slots - s))

  -- the row of a slot whose record was read
  abbrev pub shown : ℕ → RecordRef → Row
  shown s r = row_of c.areas.arena.now (record { slot = s; entry = r })

  module _ (s : ℕ) where
    pub rows_hit : (r : RecordRef) → s < slots → reads s ≡ Some r → rows_from s ≡ shown s r ∷ rows_from (s + 1)
    rows_hit r h e = ap (map (row_of c.areas.arena.now)) (entries_hit reads slots s r h e)

    pub rows_miss : s < slots → reads s ≡ None → rows_from s ≡ rows_from (s + 1)
    rows_miss h e = ap (map (row_of c.areas.arena.now)) (entries_miss reads slots s h e)

    pub rows_none : slots ≤ s → rows_from s ≡ []
    rows_none h = ap (map (row_of c.areas.arena.now)) (entries_none reads slots s h)

  -- from the first slot on they are all
  pub rows_all : rows_from 0 ≡ chart_rows c
  unfolding entries_in
  rows_all = let e : slots - 0 ≡ slots = omega arith in rw e

-- ---- whether rows fit

pub fits_parts : (r : Row) → row_fits r ≡ true → (length r.key ≤ 12) × (length r.value ≤ 12)
fits_parts r e = let p = both (leb (length r.key) 12) _ e in (leb-true _ _ p.0, leb-true _ _ p.1)

-- of the first and of the others
pub fit_next : (r : Row) (rows : List Row) → rows_fit (r ∷ rows) ≡ true → (row_fits r ≡ true) × (rows_fit rows ≡ true)
unfolding rows_fit
fit_next r rows e = both (row_fits r) (rows_fit rows) e

-- ---- how many there are

module _ (n : ℕ) (r : Row) (rows : List Row) where
  pub count_fits : row_fits r ≡ true → row_count n (r ∷ rows) ≡ row_count (n + 1) rows
  unfolding row_count rows_fit
  count_fits e = let m : n + suc (length rows) ≡ n + 1 + length rows = omega arith in rw (e, m)

  pub count_long : row_fits r ≡ false → row_count n (r ∷ rows) ≡ Err FieldTooLong
  unfolding row_count rows_fit
  count_long e = rw e

pub count_none : (n : ℕ) → row_count n [] ≡ Ok n
unfolding row_count rows_fit
count_none n = let e : n + 0 ≡ n = omega arith in rw e
