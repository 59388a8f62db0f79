-- `sheet_pages` meets its contract. Assumes nothing.
use mathlib.Core.Bool.{true}
use mathlib.Core.Path.{◌≡◌, sym, ◌∙◌}
use lib.ListN.{length}
use Rattle.std.proofs.lemmas.Result.{err_from_is_err_and}
use Rattle.sets.specs.Lookup.{areas_hold_set}
use Rattle.sets.proofs.Said.{answered_yes}
use Rattle.charts.specs.Sheet.{ask_pages, pages_answer, row_count, rows_of}
use Rattle.charts.proofs.Asked.{count_refused}
use Rattle.charts.proofs.sheet.sheet_pages.Goals as goal
use Rattle.charts.proofs.sheet.sheet_pages.Goals.{After-count_rows, Else-not-areas_hold}

held : (c : Else-not-areas_hold) → let a = c.args in
    areas_hold_set a.set (length a.index.now) (length a.areas.starts.now) (length a.areas.lengths.now) (length a.areas.arena.now) ≡ true
held c = answered_yes c.areas_hold.ensures c.if-not-areas_hold.false

-- the rows that were counted are the set's
counted : (c : After-count_rows) → let a = c.args in
    c.count_rows.result ≡ row_count 0 (rows_of a.set a.index.now a.areas.starts.now a.areas.lengths.now a.areas.arena.now)
counted c = let r = c.records.ensures in c.count_rows.ensures ∙ rw (r.view, r.index.0, r.index.1, r.index.2, r.areas.0, r.areas.1, r.areas.2)

pub returns-in_err-rows : goal.returns-in_err-rows
unfolding pages_answer ask_pages
returns-in_err-rows c =
    let at = goal.at.returns-in_err-rows c in
    let k = count_refused _ _ (sym c.in_err-rows.was ∙ counted at.After-count_rows) in
    let p = err_from_is_err_and c.from_residual.result c.from_residual.ensures.1 in
    rw (p.1, p.2, k.1, held at.Else-not-areas_hold, k.0)
