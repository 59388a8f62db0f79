-- `negative_filter_location` meets its contract: it composes what the parts of the hash ensure. Assumes nothing.
use Rattle.index.specs.Filter.{filter_word, filter_mask}
use Rattle.index.proofs.filter.negative_filter_location.Goals as goal

pub returns : goal.returns
unfolding filter_word filter_mask
returns c = (cc, cc, c.reduce_hash-word.ensures.1)
