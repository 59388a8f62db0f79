-- What the questions of a sheet come to. Assumes nothing.
use mathlib.Core.Bool.{Bool, true, false, cond}
use mathlib.Core.List.{List, [], ◌∷◌}
use mathlib.Core.Path.{◌≡◌, refl, ap}
use Prim.Native.Nat.{ℕ, ◌+◌, ◌*◌, ◌≤◌, ◌<◌}
use native.Mathlib.Omega.{arith}
use borrow.Author.Tests.{le-leb, lt-leb}
use lib.Dec.{leb}
use lib.ListN.{length}
use Rattle.std.specs.Prelude.{Ok, Err}
use Rattle.hash_parts.specs.declared.error.SegmentCacheBuildError.{SegmentCacheBuildError}
use Rattle.hash_parts.specs.declared.error.SegmentCacheBuildError.TheVariants.{FieldTooLong}
use Rattle.records.specs.Area.{over}
use Rattle.index.proofs.Buckets.{buckets_few}
use Rattle.sets.specs.Answers.{Reply, accept, refuse}
use Rattle.sets.specs.Lookup.{areas_hold_set, set_fits}
use Rattle.sets.specs.Questions.{decided, first_no}
use Rattle.sets.specs.declared.cache.FrozenSegmentCache.{FrozenSegmentCache}
use Rattle.sets.proofs.Counts.{both, counts_buckets, counts_records, counts_setting, set_counts, set_index, setting_occupied}
use Rattle.charts.specs.Line.{Row, pages_for, sheet}
use Rattle.charts.specs.Sheet.{Printed, after_sheet, ask_pages, ask_sheet, pages_answer, row_count, rows_fit, rows_of}

-- a set that passes question 1 has its slots in the index, and their numbers have at most eight digits
pub slots_few : (s : FrozenSegmentCache) (index starts lengths arena : ℕ) → areas_hold_set s index starts lengths arena ≡ true
    → (8 * s.buckets ≤ index) × (8 * s.buckets ≤ 100000000)
unfolding areas_hold_set
slots_few s index starts lengths arena e =
    let counts = set_counts s (both (set_fits s) _ e).0 in
    let few : s.entries ≤ 1048576 = counts_records _ _ _ _ counts in
    let seven = (setting_occupied s.config (counts_setting _ _ _ _ counts)).1 in
    (set_index s index starts lengths arena e, omega (arith, counts_buckets _ _ _ _ counts, buckets_few s.entries s.config.target_occupied_slots))

-- ---- the count of the rows

pub count_passed : (rows : List Row) (n : ℕ) → Ok n ≡ row_count 0 rows → (rows_fit rows ≡ true) × (n ≡ length rows)
unfolding row_count
count_passed rows n e = go (rows_fit rows) e
  where
    go : (t : Bool) → Ok n ≡ cond t (Ok (0 + length rows)) (Err FieldTooLong) → (t ≡ true) × (n ≡ length rows)
    go true f = let m : n ≡ 0 + length rows = cc in (refl, omega arith)
    go false f = (cc, cc)

pub count_refused : (rows : List Row) (why : SegmentCacheBuildError) → Err why ≡ row_count 0 rows → (rows_fit rows ≡ false) × (why ≡ FieldTooLong)
unfolding row_count
count_refused rows why e = go (rows_fit rows) e
  where
    go : (t : Bool) → Err why ≡ cond t (Ok (0 + length rows)) (Err FieldTooLong) → (t ≡ false) × (why ≡ FieldTooLong)
    go true f = (cc, cc)
    go false f = (refl, cc)

-- ---- the questions of both calls

value : Reply ℕ (Unit {0}) → ℕ
value (accept n) = n
value (refuse n u) = 0

refusals : Reply ℕ (Unit {0}) → ℕ
refusals (accept n) = 0
refusals (refuse n u) = 1

module _ (s : FrozenSegmentCache) (index starts lengths arena : List ℕ) where
  abbrev held : Bool
  held = areas_hold_set s (length index) (length starts) (length lengths) (length arena)

  abbrev rows : List Row
  rows = rows_of s index starts lengths arena

  -- the answers, by what the questions say
  abbrev pages_by : Bool → Bool → Reply ℕ (Unit {0})
  pages_by h f = decided (first_no ((h, 11) ∷ (f, 16) ∷ [])) (accept (pages_for (length rows))) (λ n. refuse n tt)

  abbrev sheet_by : Bool → Bool → Bool → List ℕ → Printed
  sheet_by h f p page =
      decided (first_no ((h, 11) ∷ (f, 16) ∷ (p, 10) ∷ []))
      (record { answer = accept (pages_for (length rows)); page = over (sheet rows) page })
      (λ n. record { answer = refuse n tt; page = page })

  -- where the number of pages is told, all is asked but the page area
  pub pages_told_law : (n : ℕ) → accept n ≡ pages_answer s index starts lengths arena → (held ≡ true) × (rows_fit rows ≡ true) × (n ≡ pages_for (length rows))
  unfolding pages_answer ask_pages value refusals
  pages_told_law n e = go held (rows_fit rows) e
    where
      go : (h f : Bool) → accept n ≡ pages_by h f → (h ≡ true) × (f ≡ true) × (n ≡ pages_for (length rows))
      go true true q = (refl, refl, ap value q)
      go true false q = absurd (let z : 0 ≡ 1 = ap refusals q in omega arith)
      go false f q = absurd (let z : 0 ≡ 1 = ap refusals q in omega arith)

  -- a refusal there is one of the sheet, and changes nothing
  pub sheet_refused : (n : ℕ) (page : List ℕ) → refuse n tt ≡ pages_answer s index starts lengths arena
      → ◌≡◌ {A = Printed} (record { answer = refuse n tt; page = page }) (after_sheet s index starts lengths arena page)
  unfolding pages_answer ask_pages after_sheet ask_sheet refusals
  sheet_refused n page e = go held (rows_fit rows) (leb (3250 * pages_for (length rows)) (length page)) e
    where
      go : (h f p : Bool) → refuse n tt ≡ pages_by h f → ◌≡◌ {A = Printed} (record { answer = refuse n tt; page = page }) (sheet_by h f p page)
      go true true p q = absurd (let z : 1 ≡ 0 = ap refusals q in omega arith)
      go true false p q = ap (λ (r : Reply ℕ (Unit {0})). record { answer = r; page = page }) q
      go false f p q = ap (λ (r : Reply ℕ (Unit {0})). record { answer = r; page = page }) q

  -- what an accepted call has found, and leaves
  pub sheet_accepted : (n : ℕ) (page : List ℕ) → accept n ≡ (after_sheet s index starts lengths arena page).answer
      → (held ≡ true) × (rows_fit rows ≡ true) × (n ≡ pages_for (length rows)) × ((after_sheet s index starts lengths arena page).page ≡ over (sheet rows) page)
  unfolding after_sheet ask_sheet value refusals
  sheet_accepted n page e = go held (rows_fit rows) (leb (3250 * pages_for (length rows)) (length page)) e
    where
      go : (h f p : Bool) → accept n ≡ (sheet_by h f p page).answer → (h ≡ true) × (f ≡ true) × (n ≡ pages_for (length rows)) × ((sheet_by h f p page).page ≡ over (sheet rows) page)
      go true true true q = (refl, refl, ap value q, refl)
      go true true false q = absurd (let z : 0 ≡ 1 = ap refusals q in omega arith)
      go true false p q = absurd (let z : 0 ≡ 1 = ap refusals q in omega arith)
      go false f p q = absurd (let z : 0 ≡ 1 = ap refusals q in omega arith)

  module _ (yes : held ≡ true) (fit : rows_fit rows ≡ true) (page : List ℕ) where
    pub sheet_short : length page < 3250 * pages_for (length rows) → ◌≡◌ {A = Printed} (record { answer = refuse 10 tt; page = page }) (after_sheet s index starts lengths arena page)
    unfolding after_sheet ask_sheet
    sheet_short h = rw (yes, fit, lt-leb (3250 * pages_for (length rows)) (length page) h)

    pub sheet_fits : 3250 * pages_for (length rows) ≤ length page
        → ◌≡◌ {A = Printed} (record { answer = accept (pages_for (length rows)); page = over (sheet rows) page }) (after_sheet s index starts lengths arena page)
    unfolding after_sheet ask_sheet
    sheet_fits h = rw (yes, fit, le-leb (3250 * pages_for (length rows)) (length page) h)
