-- `word` meets its contract: there are four words. Assumes nothing.
use Rattle.std.proofs.Common.{sym, arith}
use lib.ListN.{get_or-eq_default}
use Rattle.sets.specs.Kept.{kept_words}
use Rattle.sets.proofs.kept.KeptSegments.word.Goals as goal

pub returns-in_default : goal.returns-in_default
returns-in_default c = sym (get_or-eq_default (kept_words c.args.self) 0 {n = c.args.at} (omega arith))
