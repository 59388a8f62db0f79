-- `slot_in_bucket` meets its contract: the slots left answer as the bucket does. Assumes nothing.
use Rattle.std.proofs.Common.{◌≡◌, ◌+◌, ◌-◌, ◌*◌, get_or, refl, sym, ◌∙◌, arith}
use Rattle.index.proofs.Slots.{slot_vacant, slot_same, slot_passed, slot_end}
use Rattle.index.proofs.build.slot_in_bucket.Goals as goal

pub loop-offset-init : goal.loop-offset-init
loop-offset-init g c = λ test h after.
    let first : 8 * c.args.bucket + 0 ≡ 8 * c.args.bucket = omega arith in
    rw first refl

pub returns-then-word-eq0 : goal.returns-then-word-eq0
returns-then-word-eq0 g c = λ test h after.
    let a = c.args in
    let slot = (8 * a.bucket + c.loop-offset.offset) in
    sym (slot_vacant test a.index.now (8 - c.loop-offset.offset) slot after (omega arith) (omega arith) c.if-word-eq0.true)
    ∙ c.loop-offset.invariant test h after

pub returns-then-taken : goal.returns-then-taken
returns-then-taken g c = λ test h after.
    let a = c.args in
    let slot = (8 * a.bucket + c.loop-offset.offset) in
    let told = sym (h (get_or a.index.now slot 0) c.taken.result ((c.type_inv.index slot).fits) c.taken.ensures) ∙ c.if-taken.true in
    sym (slot_same test a.index.now (8 - c.loop-offset.offset) slot after (omega arith) (omega arith) c.if-word-eq0.false told)
    ∙ c.loop-offset.invariant test h after

pub loop-offset-preserved : goal.loop-offset-preserved
loop-offset-preserved g c = λ test h after.
    let a = c.args in
    let slot = (8 * a.bucket + c.loop-offset.offset) in
    let told = sym (h (get_or a.index.now slot 0) c.taken.result ((c.type_inv.index slot).fits) c.taken.ensures) ∙ c.if-taken.false in
    let less : 8 - (c.loop-offset.offset + 1) ≡ 8 - c.loop-offset.offset - 1 = omega arith in
    let next : 8 * a.bucket + (c.loop-offset.offset + 1) ≡ slot + 1 = omega arith in
    rw (less, next)
    (sym (slot_passed test a.index.now (8 - c.loop-offset.offset) slot after (omega arith) (omega arith) c.if-word-eq0.false told)
    ∙ c.loop-offset.invariant test h after)

pub returns : goal.returns
returns g c = λ test h after.
    let a = c.args in
    let slot = (8 * a.bucket + c.loop-offset.offset) in
    sym (slot_end test a.index.now (8 - c.loop-offset.offset) slot after (omega arith)) ∙ c.loop-offset.invariant test h after
