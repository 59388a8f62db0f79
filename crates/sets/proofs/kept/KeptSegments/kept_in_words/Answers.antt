-- `kept_in_words` meets its contract: the words before one are counted. Assumes nothing.
use Rattle.std.proofs.Common.{◌≡◌, ℕ, ◌+◌, ◌≤◌, get_or, sym, refl, ap, ◌∙◌, ap₂, mod-eq_of_lt, arith}
use mathlib.Core.List.{flat_map}
use lib.Count.{ones, ones-le}
use Rattle.sets.specs.Kept.{bits_of, count_true, kept_words}
use Rattle.sets.proofs.KeptWords.{bits_ones, count_next_word}
use Rattle.sets.proofs.kept.KeptSegments.kept_in_words.Goals as goal
use Rattle.sets.proofs.kept.KeptSegments.kept_in_words.Goals.{After-word}

counted : (c : After-word) → let w = get_or (kept_words c.args.self) c.loop-at.at 0 in (ones c.word.result ≡ count_true (bits_of 64 w)) × (ones c.word.result ≤ 64)
counted c =
    let w = c.word.result in
    (ap ones (sym (mod-eq_of_lt c.word.type_inv)) ∙ bits_ones 64 w ∙ ap (λ (x : ℕ). count_true (bits_of 64 x)) c.word.ensures, ones-le 64 w c.word.type_inv)

pub loop-at-init : goal.loop-at-init
unfolding flat_map
loop-at-init c = (omega arith, refl)

pub loop-at-preserved : goal.loop-at-preserved
loop-at-preserved c =
    let l = c.loop-at in
    let n = counted (goal.at.loop-at-preserved c).After-word in
    let next = count_next_word (kept_words c.args.self) l.at (omega (arith, c.loop-at-test.true, c.requires)) in
    (omega (arith, l.invariant.0, n.1), ap₂ (λ (x y : ℕ). x + y) l.invariant.1 n.0 ∙ next)

pub overflow_cast-kept : goal.overflow_cast-kept
overflow_cast-kept c = omega (arith, (counted (goal.at.overflow_cast-kept c).After-word).1)

pub overflow_add-kept : goal.overflow_add-kept
overflow_add-kept c =
    omega (arith, (counted (goal.at.overflow_add-kept c).After-word).1, c.loop-at.invariant.0, c.loop-at-test.true, c.requires)
