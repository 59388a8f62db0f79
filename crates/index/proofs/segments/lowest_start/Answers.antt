-- `lowest_start` meets its contract: the lowest start of the words passed is theirs. Assumes nothing.
use Rattle.std.proofs.Common.{◌≡◌, refl, ap, ◌∙◌, rules}
use Rattle.std.proofs.lemmas.Fn.{fold_over, slice_gives, fronts}
use Rattle.index.specs.Segments.{next_start}
use Rattle.index.proofs.Starts.{lower_last}
use Rattle.index.proofs.segments.lowest_start.Goals as goal

pub returns : goal.returns
unfolding next_start
returns c =
    let a = c.args in
    let lowest =
    fold_over fronts (λ y. y.now) _ (λ ys n. n ≡ next_start ys a.bound) _ (λ ys n x m q h k. rw (lower_last ys x.now a.bound, ← h) (search rules))
    _ _ _ _ (slice_gives c.iter.result) refl c.fold.ensures.ran in
    lowest ∙ ap (λ l. next_start l a.bound) c.iter.ensures.rest
