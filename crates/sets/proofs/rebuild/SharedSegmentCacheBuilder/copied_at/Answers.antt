-- `copied_at` meets its contract: the record takes its key, its value and no more than the arena has. Assumes nothing.
use Rattle.std.proofs.Common.{◌+◌, ◌≤◌, length, arith}
use Rattle.sets.specs.Rebuild.{rebuild_filled}
use Rattle.sets.proofs.Appends.{appended, size_holds}
use Rattle.sets.proofs.RebuildAsked.{bytes_few}
use Rattle.sets.proofs.rebuild.SharedSegmentCacheBuilder.copied_at.Goals as goal
use Rattle.sets.proofs.rebuild.SharedSegmentCacheBuilder.copied_at.Goals.{After-append_record-size}

sized : (c : After-append_record-size)
    → let a = c.args in let n = c.append_record-size.result in (length a.key.now + length a.value.now ≤ n) × (rebuild_filled a.self.now + n ≤ length a.arena.now)
sized c =
    let a = c.args in
    let r = a.self.now in
    let e = r.config.expiry in
    let told = c.append_record-size.ensures in
    let wrote = appended e a.key.now a.value.now a.plan.expires_at (rebuild_filled r) a.arena.now c.requires.room _ _ told.0 told.1 in
    (omega (arith, wrote.0, size_holds e (length a.key.now) (length a.value.now)), omega (arith, wrote.0, c.requires.room))

pub overflow_add-self-2 : goal.overflow_add-self-2
overflow_add-self-2 c = omega (arith, sized (goal.at.overflow_add-self-2 c).After-append_record-size, c.requires.short)

pub overflow_sub-self : goal.overflow_sub-self
overflow_sub-self c = omega (arith, sized (goal.at.overflow_sub-self c).After-append_record-size)

pub overflow_sub-self-2 : goal.overflow_sub-self-2
overflow_sub-self-2 c = omega (arith, sized (goal.at.overflow_sub-self-2 c).After-append_record-size)

pub overflow_add-self-5 : goal.overflow_add-self-5
overflow_add-self-5 c =
    omega (arith, sized (goal.at.overflow_add-self-5 c).After-append_record-size, c.requires.short, bytes_few _ c.requires.fits)
