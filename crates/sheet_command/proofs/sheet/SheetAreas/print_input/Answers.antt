-- `print_input` meets its contract by the two calls' own: an input that fills its area is refused. Assumes nothing.
use mathlib.Core.Path.{◌≡◌, ap, ◌∙◌}
use Prim.Native.Nat.{◌*◌}
use native.Mathlib.Omega.{arith}
use borrow.Author.Tests.{le-ltb, lt-ltb}
use lib.ListN.{length, take}
use Rattle.std.proofs.lemmas.Result.{err_from_is_err_and}
use Rattle.files.specs.Load.{Loaded, after_load}
use Rattle.charts.specs.Sheet.{Printed, sheet_result}
use Rattle.sheet_command.specs.Command.{pages_of, sheet_of, sheet_of_input}
use Rattle.sheet_command.proofs.Printing.{told_pages_in}
use Rattle.sheet_command.proofs.sheet.SheetAreas.print_input.Goals as goal
use Rattle.sheet_command.proofs.sheet.SheetAreas.print_input.Goals.{After-print_sheet}

abbrev loaded : (c : After-print_sheet) → Loaded
loaded c =
    let a = c.args.self.now in
    after_load (take c.args.size a.file) a.index a.filter a.starts a.lengths a.arena

-- the sheet of what the load leaves
printed : (c : After-print_sheet) → sheet_result c.print_sheet.result c.print_sheet.new.page ≡ sheet_of (loaded c) c.args.self.now.page
unfolding sheet_of
printed c = c.print_sheet.ensures ∙ ap (λ (l : Loaded). sheet_of l c.args.self.now.page) c.in_ok-set.ensures

pub returns-then-size-ge262144-clause-sheet : goal.returns-then-size-ge262144-clause-sheet
unfolding sheet_of_input
returns-then-size-ge262144-clause-sheet c =
    rw (le-ltb c.args.size (length c.args.self.now.file) (omega (arith, c.well_formed, c.if-size-ge262144.true)))

pub returns-in_err-set-clause-sheet : goal.returns-in_err-set-clause-sheet
unfolding sheet_of_input sheet_of
returns-in_err-set-clause-sheet c =
    let a = c.args.self.now in
    let p = err_from_is_err_and c.from_residual.result c.from_residual.ensures.1 in
    rw (p.1, p.2, lt-ltb c.args.size (length a.file) (omega (arith, c.well_formed, c.if-size-ge262144.false)))
    (ap (λ (l : Loaded). sheet_of l a.page) c.in_err-set.ensures)

pub returns-clause-sheet : goal.returns-clause-sheet
unfolding sheet_of_input
returns-clause-sheet c =
    let at = goal.at.returns-clause-sheet c in
    rw (lt-ltb c.args.size (length c.args.self.now.file) (omega (arith, c.well_formed, c.if-size-ge262144.false))) (printed at.After-print_sheet)

pub returns-clause-inside : goal.returns-clause-inside
returns-clause-inside c =
    let at = (goal.at.returns-clause-inside c).After-print_sheet in
    omega (arith, ap (λ (p : Printed). 3250 * pages_of p.answer) (printed at), told_pages_in (loaded at) c.args.self.now.page)
