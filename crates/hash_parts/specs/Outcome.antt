-- What a call answers, as numbers. Assumes nothing.
use Rattle.std.specs.Prelude.{ℕ, Result, Ok, Err}
use Rattle.hash_parts.specs.Error.{error_number}
use Rattle.hash_parts.specs.declared.error.SegmentCacheBuildError.{SegmentCacheBuildError}

-- the refusal's number, 0 where the call is accepted; and its value, 0 where it is refused
pub record Outcome : Type 0 where
  pub number : ℕ
  pub value : ℕ

abbrev pub accepted : ℕ → Outcome
accepted v = record { number = 0; value = v }

abbrev pub refused : SegmentCacheBuildError → Outcome
refused e = record { number = error_number e; value = 0 }

-- of a call whose value is a number
abbrev pub outcome_of : Result ℕ SegmentCacheBuildError → Outcome
outcome_of (Ok value) = accepted value
outcome_of (Err e) = refused e
