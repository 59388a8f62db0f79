-- The chart room sheet of a set: what is asked, and what a call leaves. Assumes nothing.
use Rattle.std.specs.Prelude.{Bool, true, false, cond, List, [], ◌∷◌, map, ℕ, ◌+◌, ◌*◌, leb, length, Option, Result, Ok, Err}
use Rattle.hash_parts.specs.Error.{error_number}
use Rattle.hash_parts.specs.declared.error.SegmentCacheBuildError.{SegmentCacheBuildError}
use Rattle.hash_parts.specs.declared.error.SegmentCacheBuildError.TheVariants.{FieldTooLong}
use Rattle.records.specs.Area.{over, spanned}
use Rattle.records.specs.declared.record.RecordRef.{RecordRef}
use Rattle.index.specs.View.{record_in}
use Rattle.index.specs.declared.find.FoundRecord.{FoundRecord}
use Rattle.sets.specs.Answers.{Reply, accept, refuse}
use Rattle.sets.specs.Lookup.{areas_hold_set}
use Rattle.sets.specs.Questions.{all, decided, first_no}
use Rattle.sets.specs.Walk.{entries_in, entries_of}
use Rattle.sets.specs.declared.cache.FrozenSegmentCache.{FrozenSegmentCache}
use Rattle.charts.specs.Line.{Row, pages_for, sheet}
use Rattle.sets.specs.declared.lookup.SetRecords.{SetRecords}

-- ---- the rows of a set: "lapsed records are printed too", so that no tick is given

abbrev pub row_of : List ℕ → FoundRecord → Row
row_of arena y =
    record { slot = y.slot; key = spanned arena y.entry.key; value = spanned arena y.entry.value; deadline = y.entry.expires_at }

-- one for each record that the walk visits, in its order
abbrev pub rows_of : FrozenSegmentCache → List ℕ → List ℕ → List ℕ → List ℕ → List Row
rows_of s index starts lengths arena = map (row_of arena) (entries_of s index starts lengths arena)

-- ---- questions: "16 a key or value is longer than 12 bytes, asked after 11, then 10 if the page area is too short"

abbrev pub row_fits : Row → Bool
row_fits r = all (leb (length r.key) 12 ∷ leb (length r.value) 12 ∷ [])

-- of every row, before anything is written
unfoldable pub rows_fit : List Row → Bool
rows_fit [] = true
rows_fit (r ∷ rows) = cond (row_fits r) (rows_fit rows) false

-- the index, segment areas and arena by their lengths
unfoldable pub ask_pages : FrozenSegmentCache → ℕ → ℕ → ℕ → ℕ → List Row → List (Bool × ℕ)
ask_pages s index starts lengths arena rows = (areas_hold_set s index starts lengths arena, 11) ∷ (rows_fit rows, 16) ∷ []

-- the page area by its length: a page has fifty lines of 65 bytes
unfoldable pub ask_sheet : FrozenSegmentCache → ℕ → ℕ → ℕ → ℕ → List Row → ℕ → List (Bool × ℕ)
ask_sheet s index starts lengths arena rows page =
    (areas_hold_set s index starts lengths arena, 11) ∷ (rows_fit rows, 16) ∷ (leb (3250 * pages_for (length rows)) page, 10) ∷ []

-- ---- how many pages a sheet has

abbrev pub sheet_reply : Result ℕ SegmentCacheBuildError → Reply ℕ (Unit {0})
sheet_reply (Ok n) = accept n
sheet_reply (Err e) = refuse (error_number e) tt

unfoldable pub pages_answer : FrozenSegmentCache → List ℕ → List ℕ → List ℕ → List ℕ → Reply ℕ (Unit {0})
pages_answer s index starts lengths arena =
    let rows : List Row = rows_of s index starts lengths arena in
    decided (first_no (ask_pages s (length index) (length starts) (length lengths) (length arena) rows)) (accept (pages_for (length rows))) (λ n. refuse n tt)

-- ---- printing: "the answer is the page count"

pub record Printed : Type 0 where
  pub answer : Reply ℕ (Unit {0})
  pub page : List ℕ

abbrev pub sheet_result : Result ℕ SegmentCacheBuildError → List ℕ → Printed
sheet_result r page = record { answer = sheet_reply r; page = page }

-- the sheet stands at the front of the page area; bytes past it stay, and a refusal changes none
unfoldable pub after_sheet : FrozenSegmentCache → List ℕ → List ℕ → List ℕ → List ℕ → List ℕ → Printed
after_sheet s index starts lengths arena page =
    let rows : List Row = rows_of s index starts lengths arena in
    decided (first_no (ask_sheet s (length index) (length starts) (length lengths) (length arena) rows (length page)))
    (record { answer = accept (pages_for (length rows)); page = over (sheet rows) page })
    (λ n. record { answer = refuse n tt; page = page })

-- ---- for private functions alone

-- the rows of an index, by what reads a location
abbrev pub rows_in : (ℕ → Option RecordRef) → Bool → ℕ → List ℕ → List ℕ → List Row
rows_in read packed buckets index arena = map (row_of arena) (entries_in read packed buckets index)

-- those of a set whose records are at hand
abbrev pub chart_rows : SetRecords → List Row
chart_rows c =
    rows_in (record_in c.view c.areas.arena.now c.areas.starts.now c.areas.lengths.now) c.index.packed c.index.buckets c.index.words.now c.areas.arena.now

-- how many rows there are behind others, where each fits
unfoldable pub row_count : ℕ → List Row → Result ℕ SegmentCacheBuildError
row_count before rows = cond (rows_fit rows) (Ok (before + length rows)) (Err FieldTooLong)
