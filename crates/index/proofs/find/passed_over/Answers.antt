-- `passed_over` meets its contract: the slots before the first that is empty or has the tag. Assumes nothing.
use Rattle.std.proofs.Common.{◌≡◌, true, false, map, arith, rules, tests, sym, ◌∙◌}
use Rattle.std.proofs.lemmas.Iterator.{IsFirst-from_position, YieldsList-from_slice, index_from_first}
use Rattle.index.specs.FindSteps.{passed_over}
use Rattle.index.specs.Slot.{word_slot}
use Rattle.index.proofs.Candidates.{ends, passed_none, passed_hit, passed_miss, passed_most}
use Rattle.index.proofs.find.passed_over.Goals as goal

pub returns : goal.returns
returns c =
    let a = c.args in
    let first =
    IsFirst-from_position _ _ _ (λ w. ends a.tag w ≡ true) (λ w. ends a.tag w ≡ false) c.position.ensures.ran (YieldsList-from_slice a.bucket.now c.iter.ensures.rest)
    (λ x q k. search (rules, tests)) (λ x q k. search (rules, tests)) in
    let index =
    index_from_first (λ ws. passed_over a.tag (map word_slot ws)) (λ w. ends a.tag w ≡ true) (λ w. ends a.tag w ≡ false)
    (passed_none a.tag) (passed_hit a.tag) (passed_miss a.tag) a.bucket.now _ first in
    (c.unwrap_or.ensures ∙ sym (rw c.requires at index), omega (arith, c.unwrap_or.ensures, rw c.requires at index, passed_most a.tag a.bucket.now))
