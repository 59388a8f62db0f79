-- Replies that hand something back, and sizes, as C is told of them. Assumes nothing.
use Rattle.std.proofs.Common.{◌≡◌, ℕ, List, Result, Ok, Err, refl, ne_eqb, arith}
use Rattle.hash_parts.proofs.Refusals.{refusal_pos}
use Rattle.hash_parts.specs.Error.{error_number}
use Rattle.hash_parts.specs.declared.error.SegmentCacheBuildError.{SegmentCacheBuildError}
use Rattle.hash_parts.specs.Outcome.{outcome_of}
use Rattle.sets.specs.Answers.{push_reply, rebuild_push_reply, reply_of}
use Rattle.sets.specs.declared.builder.PushedRecord.{PushedRecord}
use Rattle.sets.specs.declared.builder.SegmentCacheBuilder.{SegmentCacheBuilder}
use Rattle.sets.specs.declared.rebuild.SharedSegmentCacheBuilder.{SharedSegmentCacheBuilder}
use Rattle.capi.specs.Calls.{bare_reply, number_words, push_told, pushed_told, told_by}
use Rattle.capi.specs.Rebuilds.{rebuild_push_told}
use Rattle.capi.specs.Records.{size_told}
use Rattle.capi.specs.Words.{builder_words, rebuild_words}

-- what a refusal hands back is not told
pub told_back : {A B : Type 0} (words : A → List ℕ) (back : B) (r : Result A SegmentCacheBuildError) (old : List ℕ)
    → told_by words (reply_of back r) old ≡ told_by words (bare_reply r) old
told_back words back (Ok a) old = refl
told_back words back (Err e) old = refl

-- a size is told as one number; a refusal has a number, so the words stay
pub size_back : (r : Result ℕ SegmentCacheBuildError) (old : List ℕ) → size_told (outcome_of r) old ≡ told_by number_words (bare_reply r) old
size_back (Ok n) old = refl
size_back (Err e) old = rw (ne_eqb (error_number e) 0 (λ z. omega (arith, refusal_pos e)))

-- a push's result and the builder that it leaves, as its reply is told
pub push_back : (b : SegmentCacheBuilder) (r : Result PushedRecord SegmentCacheBuildError) (old place : List ℕ)
    → push_told (push_reply b r) old place ≡ pushed_told builder_words b r old place
push_back b (Ok p) old place = refl
push_back b (Err e) old place = refl

pub rebuild_push_back : (b : SharedSegmentCacheBuilder) (r : Result PushedRecord SegmentCacheBuildError) (old place : List ℕ)
    → rebuild_push_told (rebuild_push_reply b r) old place ≡ pushed_told rebuild_words b r old place
rebuild_push_back b (Ok p) old place = refl
rebuild_push_back b (Err e) old place = refl
