-- The numbers of the refusals: none is that of an acceptance, and each is that of one refusal. Assumes nothing.
use Rattle.std.proofs.Common.{◌≡◌, ℕ, ◌<◌, cond, eqb, sym, refl, ap, ◌∙◌, arith}
use Rattle.hash_parts.specs.Error.{error_number}
use Rattle.hash_parts.specs.declared.error.SegmentCacheBuildError.{SegmentCacheBuildError}
use Rattle.hash_parts.specs.declared.error.SegmentCacheBuildError.TheVariants.{InvalidBucketOccupancy, ZeroExpiryTick, CapacityOverflow, DuplicateKey, ExpiryDisabled, ExpiryOutOfRange, ArenaTooLarge, InvalidSegmentTarget, InvalidNanoseconds, AreaTooShort, InvalidState, RecordMismatch, FileFraming, FileKinds, FileContent, FieldTooLong}

-- no refusal has the number of an acceptance
pub refusal_pos : (e : SegmentCacheBuildError) → 0 < error_number e
refusal_pos InvalidBucketOccupancy = omega arith
refusal_pos ZeroExpiryTick = omega arith
refusal_pos CapacityOverflow = omega arith
refusal_pos DuplicateKey = omega arith
refusal_pos ExpiryDisabled = omega arith
refusal_pos ExpiryOutOfRange = omega arith
refusal_pos ArenaTooLarge = omega arith
refusal_pos InvalidSegmentTarget = omega arith
refusal_pos InvalidNanoseconds = omega arith
refusal_pos AreaTooShort = omega arith
refusal_pos InvalidState = omega arith
refusal_pos RecordMismatch = omega arith
refusal_pos FileFraming = omega arith
refusal_pos FileKinds = omega arith
refusal_pos FileContent = omega arith
refusal_pos FieldTooLong = omega arith

-- the refusal of a number; past the last, the last
abbrev refusal_of : ℕ → SegmentCacheBuildError
refusal_of n =
    cond (eqb n 1) InvalidBucketOccupancy
    (cond (eqb n 2) ZeroExpiryTick
    (cond (eqb n 3) CapacityOverflow
    (cond (eqb n 4) DuplicateKey
    (cond (eqb n 5) ExpiryDisabled
    (cond (eqb n 6) ExpiryOutOfRange
    (cond (eqb n 7) ArenaTooLarge
    (cond (eqb n 8) InvalidSegmentTarget
    (cond (eqb n 9) InvalidNanoseconds
    (cond (eqb n 10) AreaTooShort
    (cond (eqb n 11) InvalidState
    (cond (eqb n 12) RecordMismatch
    (cond (eqb n 13) FileFraming
    (cond (eqb n 14) FileKinds
    (cond (eqb n 15) FileContent
    FieldTooLong))))))))))))))

number_back : (e : SegmentCacheBuildError) → refusal_of (error_number e) ≡ e
number_back InvalidBucketOccupancy = refl
number_back ZeroExpiryTick = refl
number_back CapacityOverflow = refl
number_back DuplicateKey = refl
number_back ExpiryDisabled = refl
number_back ExpiryOutOfRange = refl
number_back ArenaTooLarge = refl
number_back InvalidSegmentTarget = refl
number_back InvalidNanoseconds = refl
number_back AreaTooShort = refl
number_back InvalidState = refl
number_back RecordMismatch = refl
number_back FileFraming = refl
number_back FileKinds = refl
number_back FileContent = refl
number_back FieldTooLong = refl

-- the numbers of two refusals differ
pub one_refusal : (d e : SegmentCacheBuildError) → error_number d ≡ error_number e → d ≡ e
one_refusal d e p = sym (number_back d) ∙ ap refusal_of p ∙ number_back e
