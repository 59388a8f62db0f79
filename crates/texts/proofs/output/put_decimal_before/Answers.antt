-- `put_decimal_before` meets its contract: the digits end the array that they are in. Assumes nothing.
use Rattle.std.proofs.Common.{◌∙◌, ap, arith, rules}
use Rattle.texts.specs.Output.{Output}
use Rattle.texts.proofs.Spelling.{digits_text, ended_in, ended_out}
use Rattle.texts.proofs.output.put_decimal_before.Goals as goal

pub returns-in-Some : goal.returns-in-Some
returns-in-Some c =
    let d = c.write_digits-from.ensures in
    let text = digits_text c.write_digits-from.new.digits _ c.args.value (search rules) d.0 in
    let fits = rw text at c.in-Some.ensures in
    ap (λ (o : Output). o.area) c.put_text.ensures ∙ rw text (ended_in _ _ _ _ fits.0 fits.1)

pub returns-in_default : goal.returns-in_default
returns-in_default c =
    let d = c.write_digits-from.ensures in
    let text = digits_text c.write_digits-from.new.digits _ c.args.value (search rules) d.0 in
    let short = rw text at c.in_default.ensures in
    ended_out 0 _ _ _ (omega arith)
