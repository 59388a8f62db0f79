-- `write_digits` meets its contract: the digits of what is left stand before those that are written. Assumes nothing.
use Rattle.std.proofs.Common.{arith, rules}
use Rattle.texts.proofs.Spelling.{decimal_pos, spelt_last, spelt_next, spelt_start}
use Rattle.texts.proofs.output.write_digits.Goals as goal

pub loop-i-init : goal.loop-i-init
loop-i-init c = spelt_start c.args.value c.args.digits.now (omega arith) (search rules)

pub returns-then-rest-eq0 : goal.returns-then-rest-eq0
returns-then-rest-eq0 c =
    let i = c.loop-i.invariant in
    (spelt_last i c.if-rest-eq0.true, omega (arith, i.size.0))

pub loop-i-preserved : goal.loop-i-preserved
loop-i-preserved c = spelt_next c.loop-i.invariant c.if-rest-eq0.false

pub returns : goal.returns
returns c = absurd (omega (arith, c.loop-i.invariant.room, decimal_pos c.loop-i.rest))
