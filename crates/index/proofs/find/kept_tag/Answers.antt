-- `kept_tag` meets its contract: the packed layout keeps a tag in two parts. Assumes nothing.
use Rattle.std.proofs.Common.{ℕ, ◌+◌, ◌*◌, ap₂, ◌∙◌}
use Rattle.index.proofs.find.kept_tag.Goals as goal

pub returns-then-packed : goal.returns-then-packed
returns-then-packed c =
    rw c.if-packed.true
    (ap₂ (λ (x y : ℕ). x + 128 * y) (c.from.ensures ∙ c.packed_control_tag.ensures) (c.from-then-packed.ensures ∙ c.packed_secondary_tag.ensures))
