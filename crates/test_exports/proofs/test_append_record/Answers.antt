-- `test_append_record` meets its contract where nothing is written. Assumes nothing.
use Rattle.hash_parts.specs.declared.error.SegmentCacheBuildError.TheVariants.{AreaTooShort}
use Rattle.test_exports.proofs.Answers.{told_refused, unwritten}
use Rattle.test_exports.proofs.test_append_record.Goals as goal

pub returns-then-bytes-eq0-clause-result_after : goal.returns-then-bytes-eq0-clause-result_after
returns-then-bytes-eq0-clause-result_after c =
    let a = c.args in
    let none = unwritten _ a.key.now a.value.now a.expires_at a.rest.now (rw c.append_record-bytes.ensures.0 at c.if-bytes-eq0.true) in
    rw (← c.expiry_of-expiry.ensures, none, c.number.ensures) (told_refused AreaTooShort a.out.now)
