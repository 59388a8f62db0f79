-- `clear_segments` meets its contract: 256 words of 0 are no starts, padded. Assumes nothing.
use Rattle.std.proofs.Common.{◌∙◌, le-leb}
use Rattle.index.specs.Build.{cleared}
use Rattle.index.proofs.Filling.{padded_none}
use Rattle.index.proofs.segments.clear_segments.Goals as goal

pub returns : goal.returns
unfolding cleared
returns c = c.clear_words.ensures ∙ simp (le-leb _ _ c.requires) (padded_none c.args.area.now)
