-- `find_empty_build_slot` meets its contract: no word is taken. Assumes nothing.
use Rattle.std.proofs.Common.{rules, ap}
use Rattle.index.specs.Build.{never}
use Rattle.hash_parts.specs.Outcome.{outcome_of}
use Rattle.index.proofs.build.find_empty_build_slot.Goals as goal

pub returns : goal.returns
returns c = ap outcome_of (c.first_slot.ensures never (λ w r f p. search rules))
