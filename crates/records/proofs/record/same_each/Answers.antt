-- `same_each` meets its contract. Assumes nothing.
use Rattle.std.proofs.Common.{◌∙◌, rules}
use Rattle.std.specs.Iterator.Adapters.{zip_first, zip_second}
use Rattle.std.proofs.lemmas.Iterator.{YieldsList-from_slice, YieldsList-from_zip}
use Rattle.std.proofs.lemmas.Iterator.Search.{all_from_yields_List}
use Rattle.records.proofs.Chunks.{each_is, each_same}
use Rattle.records.proofs.record.same_each.Goals as goal

pub returns : goal.returns
returns c =
    let a = c.args in
    let bytes = YieldsList-from_slice {s = zip_first c.zip.result} a.a.now (search rules) in
    let others = YieldsList-from_slice {s = zip_second c.zip.result} a.b.now (search rules) in
    all_from_yields_List {s = c.zip.result} each_same c.all.new.self _ _ c.all.ensures.ran (YieldsList-from_zip bytes others) (λ x b q k. search rules)
    ∙ each_is a.a.now a.b.now c.requires
