-- `value_slice` meets its contract: what is got of the rest from the span's start on. Assumes nothing.
use Rattle.std.proofs.Common.{◌≡◌, ◌∙◌, ◌+◌, ◌-◌, ◌≤◌, drop, length, length-drop, take, ap, sym, arith}
use Rattle.std.proofs.lemmas.Slice.{between_from_start, between_to_end}
use Rattle.records.proofs.Area.{spanned_in, spanned_out}
use Rattle.records.proofs.record.value_slice.Goals as goal
use Rattle.records.proofs.record.value_slice.Goals.{In-Some}

rest_is : (c : In-Some) → c.in-Some.rest.now ≡ drop c.args.span.at c.args.arena.now
rest_is c =
    let a = c.args in
    c.in-Some.ensures.lookup.0.2 ∙ between_to_end a.arena.now a.span.at (length a.arena.now) (omega (arith, c.in-Some.ensures.lookup.0))

pub returns-in_default : goal.returns-in_default
returns-in_default c = spanned_out c.args.arena.now c.args.span (omega (arith, c.in_default.ensures.lookup))

pub returns-in_default-get : goal.returns-in_default-get
returns-in_default-get c =
    let a = c.args in
    let rest = rest_is (goal.at.returns-in_default-get c).In-Some in
    spanned_out a.arena.now a.span (omega (arith, c.in-Some.ensures.lookup.0, c.in_default-get.ensures.lookup, ap length rest, length-drop a.span.at a.arena.now))

pub returns : goal.returns
returns c =
    let a = c.args in
    let rest = rest_is (goal.at.returns c).In-Some in
    let got = c.in-Some-get.ensures.lookup.0 in
    let whole : a.span.at + a.span.len - a.span.at ≡ a.span.len = omega arith in
    let fits : a.span.at + a.span.len ≤ length a.arena.now = omega (arith, c.in-Some.ensures.lookup.0, got, ap length rest, length-drop a.span.at a.arena.now) in
    got.2 ∙ between_from_start c.in-Some.rest.now a.span.len ∙ ap (take a.span.len) rest ∙ rw whole at (spanned_in a.arena.now a.span fits)
