-- What the sheet of a load comes to, and that its pages stand in the page area. Assumes nothing.
use mathlib.Core.Bool.{Bool, true, false}
use mathlib.Core.List.{List, [], ◌∷◌}
use mathlib.Core.Path.{◌≡◌, refl}
use Prim.Native.Nat.{ℕ, ◌*◌, ◌≤◌}
use native.Mathlib.Omega.{arith}
use borrow.Author.Tests.{leb-true}
use lib.Dec.{leb}
use lib.ListN.{length}
use Rattle.records.specs.Area.{over}
use Rattle.sets.specs.Answers.{Reply, accept, refuse}
use Rattle.sets.specs.Lookup.{areas_hold_set}
use Rattle.sets.specs.Questions.{decided, first_no}
use Rattle.sets.specs.declared.cache.FrozenSegmentCache.{FrozenSegmentCache}
use Rattle.files.specs.Load.{Loaded}
use Rattle.charts.specs.Line.{Row, pages_for, sheet}
use Rattle.charts.specs.Sheet.{Printed, after_sheet, ask_sheet, rows_fit, rows_of}
use Rattle.sheet_command.specs.Command.{pages_of, printed, sheet_of}

-- the sheet by what its questions say
pages_in : (h f p : Bool) (n : ℕ) (text page : List ℕ) → (p ≡ true → 3250 * n ≤ length page)
    → let after : Printed = decided (first_no ((h, 11) ∷ (f, 16) ∷ (p, 10) ∷ [])) (record { answer = accept n; page = text }) (λ m. record { answer = refuse m tt; page = page }) in
    3250 * pages_of after.answer ≤ length page
pages_in true true true n text page fits = fits refl
pages_in true true false n text page fits = omega arith
pages_in true false p n text page fits = omega arith
pages_in false f p n text page fits = omega arith

sheet_pages_in : (s : FrozenSegmentCache) (index starts lengths arena page : List ℕ)
    → 3250 * pages_of (after_sheet s index starts lengths arena page).answer ≤ length page
unfolding after_sheet ask_sheet
sheet_pages_in s index starts lengths arena page =
    let rows : List Row = rows_of s index starts lengths arena in
    pages_in (areas_hold_set s (length index) (length starts) (length lengths) (length arena)) (rows_fit rows) (leb (3250 * pages_for (length rows)) (length page))
    (pages_for (length rows)) (over (sheet rows) page) page (leb-true (3250 * pages_for (length rows)) (length page))

printed_pages_in : (r : Reply FrozenSegmentCache (Unit {0})) (l : Loaded) (page : List ℕ) → 3250 * pages_of (printed r l page).answer ≤ length page
printed_pages_in (accept s) l page = sheet_pages_in s l.index l.starts l.lengths l.arena page
printed_pages_in (refuse n u) l page = omega arith

-- the pages that are told stand in the page area
pub told_pages_in : (l : Loaded) (page : List ℕ) → 3250 * pages_of (sheet_of l page).answer ≤ length page
unfolding sheet_of
told_pages_in l page = printed_pages_in l.answer l page
