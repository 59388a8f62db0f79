-- `ticks_of` meets its contract: the two numbers of 64 bits are the numbers. Assumes nothing.
use Rattle.std.proofs.Common.{ℕ, min, ap, ◌∙◌}
use Rattle.hash_parts.proofs.Deadlines.{rounded_up}
use Rattle.hash_parts.proofs.duration.ticks_of.Goals as goal

pub returns-in-Ok-Ok : goal.returns-in-Ok-Ok
returns-in-Ok-Ok c =
    let l = (c.in-Ok-Ok.ensures).1 in
    let t = (c.in-Ok-Ok.ensures').1 in
    ap (λ (x : ℕ). min x 65535) (c.div_ceil.ensures ∙ rw (l, t) (rounded_up c.args.lifetime c.args.tick c.requires.0))
