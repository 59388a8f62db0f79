-- `push_at` meets its contract: the record takes no more than the arena has. Assumes nothing.
use Rattle.std.proofs.Common.{arith}
use Rattle.sets.proofs.Appends.{appended}
use Rattle.sets.proofs.Counts.{builder_areas_asked}
use Rattle.sets.proofs.builder.SegmentCacheBuilder.push_at.Goals as goal

pub overflow_add-self-2 : goal.overflow_add-self-2
overflow_add-self-2 c =
    let a = c.args in
    let b = a.self.now in
    let told = c.append_record-size.ensures in
    let wrote = appended b.config.expiry a.key.now a.value.now a.plan.expires_at b.filled a.arena.now c.requires.room _ _ told.0 told.1 in
    omega (arith, wrote.0, c.requires.room, (builder_areas_asked _ _ _ c.requires.held).arena_short)
