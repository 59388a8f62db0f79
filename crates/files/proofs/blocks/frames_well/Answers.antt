-- `frames_well` meets its contract: what is asked of the blocks that are left is what was asked of the file. Assumes nothing.
use Rattle.std.proofs.Common.{◌≡◌, ◌∙◌, ◌-◌, ◌+◌, ◌<◌, ℕ, suc, ap, sym, arith, false, cond, List, length}
use Rattle.sets.proofs.Said.{answered_no, answered_yes}
use Rattle.files.specs.Blocks.{behind, frames_well, is_whole}
use Rattle.files.proofs.Positions.{frames_next, some_left}
use Rattle.files.proofs.blocks.frames_well.Goals as goal

-- where there is one more block
one_more : (g : List ℕ) (n : ℕ) → n < 5 → 0 < length g → frames_well (5 - n) g ≡ cond (is_whole g) (frames_well (5 - (n + 1)) (behind g)) false
one_more g n h some = let e : 5 - n ≡ suc (5 - (n + 1)) = omega arith in rw e (frames_next g (5 - (n + 1)) some)

pub returns-then-not-is_whole : goal.returns-then-not-is_whole
returns-then-not-is_whole c =
    let some = some_left c.loop.rest.now (sym c.is_empty.ensures ∙ c.if-is_empty.false) in
    let broken = answered_no c.is_whole.ensures c.if-not-is_whole.true in
    sym (one_more c.loop.rest.now c.loop.counter (omega arith) some ∙ rw broken) ∙ c.loop.invariant

pub loop-preserved : goal.loop-preserved
loop-preserved c =
    let some = some_left c.loop.rest.now (sym c.is_empty.ensures ∙ c.if-is_empty.false) in
    let whole = answered_yes c.is_whole.ensures c.if-not-is_whole.false in
    ap (frames_well (5 - (c.loop.counter + 1))) c.behind-rest.ensures ∙ sym (one_more c.loop.rest.now c.loop.counter (omega arith) some ∙ rw whole) ∙ c.loop.invariant
