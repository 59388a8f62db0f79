-- `put_deadline` meets its contract: either text ends where the columns do. Assumes nothing.
use mathlib.Core.Path.{◌∙◌}
use native.Mathlib.Omega.{arith}
use Rattle.texts.specs.Ascii.{ascii}
use Rattle.texts.proofs.Spelling.{appended_parts, decimal_short, ended_fits}
use Rattle.charts.proofs.Columns.{deadline_never, deadline_number}
use Rattle.charts.proofs.line.put_deadline.Goals as goal

pub returns-then-deadline-eq-NEVER_EXPIRES : goal.returns-then-deadline-eq-NEVER_EXPIRES
returns-then-deadline-eq-NEVER_EXPIRES c = rw (deadline_never c.args.deadline c.if-deadline-eq-NEVER_EXPIRES.true)
    (appended_parts 59 (ascii "never") c.args.out.now _ _ c.put_text.ensures (omega (arith, c.requires))).1

pub returns : goal.returns
returns c = let d = c.args.deadline in
    rw (deadline_number d c.if-deadline-eq-NEVER_EXPIRES.false)
    (c.put_decimal_before.ensures ∙ ended_fits 0 _ c.args.out.now 64 (omega (arith, decimal_short 4 d (omega arith))) (omega (arith, c.requires)))
