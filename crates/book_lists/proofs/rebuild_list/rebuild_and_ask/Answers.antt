-- `rebuild_and_ask` meets its contract. Assumes nothing.
use mathlib.Core.Path.{refl}
use mathlib.Core.List.{[], ◌∷◌}
use Rattle.book.specs.Made.{areas_of, set_with}
use Rattle.book.specs.World.{idle}
use Rattle.std.proofs.Common.{arith}
use Rattle.std.proofs.lemmas.Grind.{common_steps}
use Rattle.book_lists.proofs.rebuild_list.rebuild_and_ask.Goals as goal

pub returns-in_err-build : goal.returns-in_err-build
returns-in_err-build c =
    let a = c.args in
    let source = set_with a.source (areas_of a.source_index.now a.source_filter.now a.source_starts.now a.source_lengths.now) in
    let opened = c.make_reopen.ensures.where_newest idle (source ∷ []) [] refl in
    let reused = c.make_reuse.ensures.result_after (source ∷ []) [] in
    let copied = c.make_copy.ensures.result_after (source ∷ []) [] in
    let finished = c.make_refinish.ensures.result_after (source ∷ []) [] in
    grind (arith, common_steps)

pub returns : goal.returns
returns c =
    let a = c.args in
    let source = set_with a.source (areas_of a.source_index.now a.source_filter.now a.source_starts.now a.source_lengths.now) in
    let opened = c.make_reopen.ensures.where_newest idle (source ∷ []) [] refl in
    let reused = c.make_reuse.ensures.result_after (source ∷ []) [] in
    let copied = c.make_copy.ensures.result_after (source ∷ []) [] in
    let finished = c.make_refinish.ensures.result_after (source ∷ []) [] in
    let rebuilt = set_with c.in_ok-build.build.cache (areas_of c.make_refinish.new.index c.make_copy.new.filter c.make_refinish.new.starts c.make_refinish.new.lengths) in
    let asked = c.make_lookup.ensures.answer idle (source ∷ rebuilt ∷ []) [] 1 refl in
    grind (arith, common_steps)
