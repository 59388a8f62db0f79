-- `segments_inside` meets its contract. Assumes nothing.
use Rattle.std.proofs.Common.{◌+◌, ◌<◌, ◌≤◌, take, rules}
use borrow.Author.Tests.{tests}
use Rattle.std.specs.Iterator.Adapters.{zip_first, zip_second}
use Rattle.std.proofs.lemmas.Iterator.{YieldsList-from_slice, YieldsList-from_zip, cases_from_all}
use Rattle.sets.proofs.RebuildSteps.{pairs_inside}
use Rattle.sets.proofs.rebuild_questions.segments_inside.Goals as goal

pub returns : goal.returns
returns c =
    let a = c.args in
    let starts = YieldsList-from_slice {s = zip_first c.zip-segments.result} (take a.count a.starts.now) (search rules) in
    let lengths = YieldsList-from_slice {s = zip_second c.zip-segments.result} (take a.count a.lengths.now) (search rules) in
    pairs_inside a.count a.filled a.starts.now a.lengths.now c.requires.0 c.requires.1 c.all.result
    (cases_from_all c.all.new.self _ _ (λ p. p.0 + p.1 ≤ a.filled) (λ p. a.filled < p.0 + p.1) c.all.ensures.ran (YieldsList-from_zip starts lengths)
    (λ x q k. search (rules, tests)) (λ x q k. search (rules, tests)))
