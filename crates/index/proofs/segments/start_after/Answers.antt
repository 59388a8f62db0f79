-- `start_after` meets its contract, case by case: what is left is compared before the target is added. Assumes nothing.
use Rattle.std.proofs.Common.{sym, ◌∙◌, arith}
use Rattle.index.proofs.Starts.{after_untargeted, after_within, after_next}
use Rattle.index.proofs.segments.start_after.Goals as goal

pub returns-then-target-eq0 : goal.returns-then-target-eq0
returns-then-target-eq0 c =
    let a = c.args in
    sym (after_untargeted a.words.now a.filled a.target a.last c.if-target-eq0.true)

pub returns-then-saturating_sub-target : goal.returns-then-saturating_sub-target
returns-then-saturating_sub-target c =
    let a = c.args in
    sym (after_within a.words.now a.filled a.target a.last c.if-target-eq0.false (omega arith))

pub returns : goal.returns
returns c =
    let a = c.args in
    c.lowest_start.ensures ∙ sym (after_next a.words.now a.filled a.target a.last c.if-target-eq0.false (omega arith))
