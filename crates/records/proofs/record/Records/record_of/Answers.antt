-- `record_of` meets its contract: a sum that overflows is past the end. Assumes nothing.
use mathlib.Core.Path.{◌≡◌, ap, ap₂, ◌∙◌}
use mathlib.Core.List.{List}
use Prim.Native.Nat.{ℕ, ◌+◌, ◌-◌, ◌<◌}
use native.Mathlib.Omega.{arith}
use lib.ListN.{length}
use Rattle.std.specs.Prelude.{Some, None}
use Rattle.records.specs.Record.{record_of}
use Rattle.records.proofs.Parts.{of_in, of_out}
use Rattle.records.proofs.record.Records.record_of.Goals as goal
use Rattle.records.proofs.record.Records.record_of.Goals.{After-bytes_per_record}

-- nothing is read where the record does not lie inside
out : (c : After-bytes_per_record)
    → let a = c.args in length a.self.bytes.now < a.cursor + c.bytes_per_record.result + a.key_len + a.value_len
    → None ≡ record_of a.self.expiry a.self.bytes.now a.location a.key_len a.value_len a.cursor
out c h =
    let a = c.args in
    of_out a.self.expiry a.self.bytes.now a.location a.key_len a.value_len a.cursor c.bytes_per_record.result c.bytes_per_record.ensures.0 h

pub returns-in_err-value_at : goal.returns-in_err-value_at
returns-in_err-value_at c =
    c.from_residual.ensures ∙ out (goal.at.returns-in_err-value_at c).After-bytes_per_record (omega (arith, c.in_err-value_at.ensures))

pub returns-in_err-end : goal.returns-in_err-end
returns-in_err-end c =
    c.from_residual-in_err-end.ensures
    ∙ out (goal.at.returns-in_err-end c).After-bytes_per_record (omega (arith, c.in_ok-value_at.ensures, c.in_err-end.ensures))

pub returns-then-end-self : goal.returns-then-end-self
returns-then-end-self c =
    out (goal.at.returns-then-end-self c).After-bytes_per_record (omega (arith, c.in_ok-value_at.ensures, c.in_ok-end.ensures))

pub returns : goal.returns
returns c =
    let a = c.args in
    let s : List ℕ = a.self.bytes.now in
    let w : ℕ = c.bytes_per_record.result in
    let value_at = c.in_ok-value_at.ensures.1 in
    let end : c.in_ok-end.end ≡ a.cursor + w + a.key_len + a.value_len = c.in_ok-end.ensures.1 ∙ ap (λ (n : ℕ). n + a.value_len) value_at in
    ap₂
    (λ (value end : ℕ). Some record {
      location = a.location;
      key_offset = a.cursor + w - a.location;
      key = record { at = a.cursor + w; len = a.key_len };
      value = record { at = value; len = a.value_len };
      end = end;
      expires_at = c.deadline_at.result;
    })
    value_at end
    ∙ of_in a.self.expiry s a.location a.key_len a.value_len a.cursor w c.deadline_at.result c.bytes_per_record.ensures.0 c.deadline_at.ensures (omega (arith, end))
