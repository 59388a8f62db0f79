-- `print_sheet` meets its contract: all is asked before anything is written. Assumes nothing.
use mathlib.Core.Bool.{true}
use mathlib.Core.List.{List}
use mathlib.Core.Path.{◌≡◌, sym, ap, ap₂, ◌∙◌}
use Prim.Native.Nat.{ℕ, ◌*◌, ◌≤◌}
use native.Mathlib.Omega.{arith}
use lib.ListN.{length}
use Rattle.std.specs.Prelude.{Ok}
use Rattle.std.proofs.lemmas.Result.{err_from_is_err_and}
use Rattle.sets.specs.Answers.{Reply, accept}
use Rattle.sets.specs.Lookup.{areas_hold_set}
use Rattle.charts.specs.Line.{Row, pages_for}
use Rattle.charts.specs.Sheet.{pages_answer, rows_fit, rows_of, sheet_reply, sheet_result}
use Rattle.charts.proofs.Asked.{pages_told_law, sheet_fits, sheet_refused, sheet_short, slots_few}
use Rattle.charts.proofs.sheet.print_sheet.Goals as goal
use Rattle.charts.proofs.sheet.print_sheet.Goals.{After-sheet_pages}

abbrev rows : (c : After-sheet_pages) → List Row
rows c = let a = c.args in rows_of a.set a.index.now a.areas.starts.now a.areas.lengths.now a.areas.arena.now

-- what is asked before the page area
abbrev asked : (c : After-sheet_pages) → Reply ℕ (Unit {0})
asked c = let a = c.args in pages_answer a.set a.index.now a.areas.starts.now a.areas.lengths.now a.areas.arena.now

-- what is known where pages are told
told : (c : After-sheet_pages) (n : ℕ) → c.sheet_pages.result ≡ Ok n
    → let a = c.args in
    (areas_hold_set a.set (length a.index.now) (length a.areas.starts.now) (length a.areas.lengths.now) (length a.areas.arena.now) ≡ true)
    × (rows_fit (rows c) ≡ true)
    × (n ≡ pages_for (length (rows c)))
told c n e =
    let a = c.args in
    let said : sheet_reply c.sheet_pages.result ≡ asked c = c.sheet_pages.ensures in
    let pages : accept n ≡ asked c = sym (ap sheet_reply e) ∙ said in
    pages_told_law a.set a.index.now a.areas.starts.now a.areas.lengths.now a.areas.arena.now n pages

pub returns-in_err-pages : goal.returns-in_err-pages
returns-in_err-pages c =
    let a = c.args in
    let p = err_from_is_err_and c.from_residual.result c.from_residual.ensures.1 in
    rw (p.1, p.2) (sheet_refused a.set a.index.now a.areas.starts.now a.areas.lengths.now a.areas.arena.now _ a.page.now c.in_err-pages.ensures)

pub returns-then-page-pages : goal.returns-then-page-pages
returns-then-page-pages c =
    let a = c.args in
    let k = told (goal.at.returns-then-page-pages c).After-sheet_pages c.in_ok-pages.pages c.in_ok-pages.was in
    sheet_short a.set a.index.now a.areas.starts.now a.areas.lengths.now a.areas.arena.now k.0 k.1 a.page.now (omega (arith, c.if-page-pages.true, k.2))

pub write_sheet-requires : goal.write_sheet-requires
write_sheet-requires c =
    let k = told (goal.at.write_sheet-requires c).After-sheet_pages c.in_ok-pages.pages c.in_ok-pages.was in
    let r = c.records.ensures in
    rw (r.view, r.index.0, r.index.1, r.index.2, r.areas.0, r.areas.1, r.areas.2) (record { slots = slots_few _ _ _ _ _ k.0; fit = k.1; room = (k.2, omega (arith, c.if-page-pages.false)) })

pub returns : goal.returns
returns c =
    let at = goal.at.returns c in
    let a = c.args in
    let k = told at.After-sheet_pages c.in_ok-pages.pages c.in_ok-pages.was in
    let short : 3250 * pages_for (length (rows at.After-sheet_pages)) ≤ length a.page.now = omega (arith, c.if-page-pages.false, k.2) in
    let r = c.records.ensures in
    let page = rw (r.view, r.index.0, r.index.1, r.index.2, r.areas.0, r.areas.1, r.areas.2) at c.write_sheet.ensures in
    ap₂ (λ (m : ℕ) (l : List ℕ). sheet_result (Ok m) l) k.2 page
    ∙ sheet_fits a.set a.index.now a.areas.starts.now a.areas.lengths.now a.areas.arena.now k.0 k.1 a.page.now short
