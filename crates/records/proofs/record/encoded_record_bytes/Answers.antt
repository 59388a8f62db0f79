-- `encoded_record_bytes` meets its contract: a sum that overflows does not fit 64 bits. Assumes nothing.
use mathlib.Core.Path.{sym, ap, ◌∙◌}
use native.Mathlib.Omega.{arith}
use Rattle.std.proofs.lemmas.Result.{err_from_is_err_and}
use Rattle.hash_parts.specs.declared.error.SegmentCacheBuildError.TheVariants.{CapacityOverflow}
use Rattle.hash_parts.specs.Outcome.{outcome_of}
use Rattle.records.proofs.Parts.{size_answer, size_out, sum_accepted, sum_refused}
use Rattle.records.proofs.record.encoded_record_bytes.Goals as goal

pub returns-in_err-value_at : goal.returns-in_err-value_at
returns-in_err-value_at c =
    let a = c.args in
    let err = err_from_is_err_and c.from_residual.result c.from_residual.ensures.1 in
    let sum = sum_refused c.checked_add.result _ _ CapacityOverflow _ c.checked_add.ensures (sym c.ok_or.ensures.value ∙ c.in_err-value_at.was) in
    rw (err.1, err.2, ← sum.1)
    (size_out a.expiry a.key_bytes a.value_bytes c.varint_bytes.result c.varint_bytes-2.result c.bytes_per_record.result
    c.varint_bytes.ensures.0 c.varint_bytes-2.ensures.0 c.bytes_per_record.ensures.0 (omega (arith, sum.0)))

pub returns : goal.returns
returns c =
    let a = c.args in
    let sum = sum_accepted c.checked_add.result _ _ _ CapacityOverflow c.checked_add.ensures (sym c.ok_or.ensures.value ∙ c.in_ok-value_at.was) in
    ap outcome_of c.ok_or-2.ensures.value
    ∙ size_answer a.expiry a.key_bytes a.value_bytes c.varint_bytes.result c.varint_bytes-2.result c.bytes_per_record.result c.in_ok-value_at.value_at
    c.checked_add-2.result c.varint_bytes.ensures.0 c.varint_bytes-2.ensures.0 c.bytes_per_record.ensures.0 sum.1 c.checked_add-2.ensures
