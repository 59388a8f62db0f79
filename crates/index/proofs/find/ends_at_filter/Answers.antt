-- `ends_at_filter` meets its contract by its one test. Assumes nothing.
use Rattle.std.proofs.Common.{eq-eqb, ne_eqb}
use Rattle.index.proofs.find.ends_at_filter.Goals as goal

pub returns-then-probe-ne1 : goal.returns-then-probe-ne1
returns-then-probe-ne1 c = simp (ne_eqb c.args.probe 1 c.if-probe-ne1.true)

pub returns : goal.returns
returns c = rw c.may_contain.ensures (simp (eq-eqb _ _ c.if-probe-ne1.false))
