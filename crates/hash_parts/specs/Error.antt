-- The numbers of the refusals: 1 to 12 are those of sets, 13 to 15 those of files, 16 that of a sheet.
-- Assumes nothing.
use Rattle.std.specs.Prelude.{ℕ, List, codes}
use Rattle.hash_parts.specs.declared.error.SegmentCacheBuildError.{SegmentCacheBuildError}
use Rattle.hash_parts.specs.declared.error.SegmentCacheBuildError.TheVariants.{InvalidBucketOccupancy, ZeroExpiryTick, CapacityOverflow, DuplicateKey, ExpiryDisabled, ExpiryOutOfRange, ArenaTooLarge, InvalidSegmentTarget, InvalidNanoseconds, AreaTooShort, InvalidState, RecordMismatch, FileFraming, FileKinds, FileContent, FieldTooLong}

abbrev pub error_number : SegmentCacheBuildError → ℕ
error_number InvalidBucketOccupancy = 1
error_number ZeroExpiryTick = 2
error_number CapacityOverflow = 3
error_number DuplicateKey = 4
error_number ExpiryDisabled = 5
error_number ExpiryOutOfRange = 6
error_number ArenaTooLarge = 7
error_number InvalidSegmentTarget = 8
error_number InvalidNanoseconds = 9
error_number AreaTooShort = 10
error_number InvalidState = 11
error_number RecordMismatch = 12
error_number FileFraming = 13
error_number FileKinds = 14
error_number FileContent = 15
error_number FieldTooLong = 16

-- the sentence that a refusal is told in, as bytes
abbrev pub error_sentence : SegmentCacheBuildError → List ℕ
error_sentence InvalidBucketOccupancy = codes "a bucket is to hold from one to seven records"
error_sentence ZeroExpiryTick = codes "a tick of no length counts no deadlines"
error_sentence CapacityOverflow = codes "the number of records or bytes does not fit"
error_sentence DuplicateKey = codes "the key is in the set already"
error_sentence ExpiryDisabled = codes "the set keeps no deadlines, so a record can have no lifetime"
error_sentence ExpiryOutOfRange = codes "the deadline is past the last tick"
error_sentence ArenaTooLarge = codes "the records need too many segments"
error_sentence InvalidSegmentTarget = codes "the segment target is zero or too large"
error_sentence InvalidNanoseconds = codes "the nanoseconds make a second or more"
error_sentence AreaTooShort = codes "an area has the wrong length"
error_sentence InvalidState = codes "the state and the areas do not belong together"
error_sentence RecordMismatch = codes "the location holds another record"
error_sentence FileFraming = codes "the file's blocks do not end where the file does"
error_sentence FileKinds = codes "the file's blocks are not those of a set"
error_sentence FileContent = codes "the file's numbers do not fit together"
error_sentence FieldTooLong = codes "a key or value is too long for its columns"
