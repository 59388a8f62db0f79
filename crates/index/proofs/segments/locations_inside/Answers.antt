-- `locations_inside` meets its contract: each word is inside. Assumes nothing.
use Rattle.std.proofs.Common.{◌*◌, take, sym, ◌∙◌, arith, rules}
use Rattle.std.proofs.lemmas.Iterator.{YieldsList-from_slice}
use Rattle.std.proofs.lemmas.Iterator.Search.{all_from_yields_List}
use Rattle.index.specs.Segments.{inside}
use Rattle.index.proofs.Starts.{all_are_inside, locations_in, locations_short}
use Rattle.index.proofs.segments.locations_inside.Goals as goal

pub returns-then-index-buckets : goal.returns-then-index-buckets
returns-then-index-buckets c =
    let a = c.args in
    sym (locations_short a.filled a.index.now a.buckets c.if-index-buckets.true)

pub returns : goal.returns
returns c =
    let a = c.args in
    let words = take (8 * a.buckets) a.index.now in
    let all = all_from_yields_List (inside a.filled) _ _ _ c.all.ensures.ran (YieldsList-from_slice words c.iter.ensures.rest) (λ x b q k. search rules) in
    all ∙ all_are_inside a.filled words ∙ sym (locations_in a.filled a.index.now a.buckets (omega arith))
