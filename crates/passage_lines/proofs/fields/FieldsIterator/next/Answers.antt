-- `next` gives the field that is left first: it is read up to its end. Assumes nothing.
use Rattle.std.proofs.Common.{◌≡◌, ◌-◌, ◌<◌, length, drop, arith, ◌∙◌, ap, length-drop}
use Rattle.std.proofs.Math.Seq.{take_all, length-take-le}
use Rattle.passage_lines.specs.Bytes.{before}
use Rattle.passage_lines.proofs.Search.{before_or_all, before_within}
use Rattle.passage_lines.proofs.Splitting.{fields_more, fields_none}
use Rattle.passage_lines.proofs.fields.FieldsIterator.next.Goals as goal

pub returns-in_err-rest-clause-steps : goal.returns-in_err-rest-clause-steps
returns-in_err-rest-clause-steps c =
    let h : length c.args.self.now.line.now < c.args.self.now.at = omega (arith, c.in_err-rest.ensures.lookup.0) in
    let e = fields_none c.args.self.now.line.now c.args.self.now.at h in
    rw c.from_residual.ensures (e, e)

pub returns-clause-steps : goal.returns-clause-steps
returns-clause-steps c =
    let at = c.args.self.now.at in
    let line = c.args.self.now.line.now in
    let h = c.in_ok-rest.ensures.lookup.0 in
    let rest : c.in_ok-rest.rest.now ≡ drop at line = h.2 ∙ take_all (length line - at) (drop at line) (omega (arith, length-drop at line)) in
    let n : c.unwrap_or.result ≡ length (before 32 (drop at line)) = rw rest at (c.unwrap_or.ensures ∙ before_or_all 32 _ _ c.find_byte.ensures) in
    rw (rest, length-take-le c.unwrap_or.result (drop at line) (omega (arith, before_within 32 (drop at line)))) (fields_more line at c.unwrap_or.result h.0 n)

pub returns-clause-goes : goal.returns-clause-goes
returns-clause-goes c =
    let l = ap length (returns-clause-steps c) in
    record { on = λ _. (tt, tt, omega arith); keeps = tt; rests = λ _. tt }
