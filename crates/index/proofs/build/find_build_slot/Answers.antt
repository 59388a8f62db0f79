-- `find_build_slot` meets its contract: a word is taken where it holds the key. Assumes nothing.
use Rattle.std.proofs.Common.{rules, ap}
use Rattle.index.specs.Build.{holds_key, build_record}
use Rattle.hash_parts.specs.Outcome.{outcome_of}
use Rattle.index.proofs.build.find_build_slot.Goals as goal

pub returns : goal.returns
returns c =
    let a = c.args in
    rw (← c.hash_tag-tag.ensures) (ap outcome_of (c.first_slot.ensures (holds_key (build_record a.records.expiry a.records.bytes.now) a.key.now c.hash_tag-tag.result) (λ w r f p. search rules)))
