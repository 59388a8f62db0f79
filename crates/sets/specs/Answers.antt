-- What a call answers: accepted, or refused with a number. Assumes nothing.
use Rattle.std.specs.Prelude.{ℕ, Bool, Option, Result, Ok, Err}
use Rattle.hash_parts.specs.Error.{error_number}
use Rattle.hash_parts.specs.declared.error.SegmentCacheBuildError.{SegmentCacheBuildError}
use Rattle.records.specs.declared.record.Span.{Span}
use Rattle.sets.specs.declared.builder.PushedRecord.{PushedRecord}
use Rattle.sets.specs.declared.builder.SegmentCacheBuilder.{SegmentCacheBuilder}
use Rattle.sets.specs.declared.cache.FrozenSegmentCache.{FrozenSegmentCache}
use Rattle.sets.specs.declared.cache.SegmentBaseRecord.{SegmentBaseRecord}
use Rattle.sets.specs.declared.rebuild.SharedSegmentCacheBuild.{SharedSegmentCacheBuild}
use Rattle.sets.specs.declared.rebuild.SharedSegmentCacheBuilder.{SharedSegmentCacheBuilder}
use Rattle.sets.specs.declared.stats.SegmentCacheStats.{SegmentCacheStats}

-- accepted, with the call's values; or refused, with a number and what is handed back
pub data Reply (A B : Type 0) : Type 0 where
  accept : A → Reply A B
  refuse : ℕ → B → Reply A B

-- what a call's result tells; where it is refused, what the caller still has
abbrev pub reply_of : {A B : Type 0} → B → Result A SegmentCacheBuildError → Reply A B
reply_of back (Ok a) = accept a
reply_of back (Err e) = refuse (error_number e) back

-- where a record was put
pub record Placed : Type 0 where
  pub builder : SegmentCacheBuilder
  pub slot : ℕ
  pub location : ℕ

abbrev pub open_reply : Result SegmentCacheBuilder SegmentCacheBuildError → Reply SegmentCacheBuilder (Unit {0})
open_reply r = reply_of tt r

-- of a push, with the builder that it leaves
abbrev pub push_reply : SegmentCacheBuilder → Result PushedRecord SegmentCacheBuildError → Reply Placed SegmentCacheBuilder
push_reply b (Ok p) = accept record { builder = b; slot = p.slot; location = p.location }
push_reply b (Err e) = refuse (error_number e) b

abbrev pub finish_reply : SegmentCacheBuilder → Result FrozenSegmentCache SegmentCacheBuildError → Reply FrozenSegmentCache SegmentCacheBuilder
finish_reply b r = reply_of b r

-- a value, or nothing
abbrev pub get_reply : Result (Option Span) SegmentCacheBuildError → Reply (Option Span) (Unit {0})
get_reply r = reply_of tt r

-- whether the mark was set
abbrev pub take_reply : Result Bool SegmentCacheBuildError → Reply Bool (Unit {0})
take_reply r = reply_of tt r

abbrev pub probe_reply : Result (Option SegmentBaseRecord) SegmentCacheBuildError → Reply (Option SegmentBaseRecord) (Unit {0})
probe_reply r = reply_of tt r

-- the next record, or the end
abbrev pub walk_reply : Result (Option SegmentBaseRecord) SegmentCacheBuildError → Reply (Option SegmentBaseRecord) (Unit {0})
walk_reply r = reply_of tt r

abbrev pub stats_reply : Result SegmentCacheStats SegmentCacheBuildError → Reply SegmentCacheStats (Unit {0})
stats_reply r = reply_of tt r

-- ---- rebuilds

-- where a record of a rebuild was put
pub record RebuildPlaced : Type 0 where
  pub builder : SharedSegmentCacheBuilder
  pub slot : ℕ
  pub location : ℕ

abbrev pub rebuild_open_reply : FrozenSegmentCache → Result SharedSegmentCacheBuilder SegmentCacheBuildError → Reply SharedSegmentCacheBuilder FrozenSegmentCache
rebuild_open_reply source r = reply_of source r

-- of a push, with the rebuild that it leaves
abbrev pub rebuild_push_reply : SharedSegmentCacheBuilder → Result PushedRecord SegmentCacheBuildError → Reply RebuildPlaced SharedSegmentCacheBuilder
rebuild_push_reply b (Ok p) = accept record { builder = b; slot = p.slot; location = p.location }
rebuild_push_reply b (Err e) = refuse (error_number e) b

abbrev pub rebuild_finish_reply : SharedSegmentCacheBuilder → Result SharedSegmentCacheBuild SegmentCacheBuildError → Reply SharedSegmentCacheBuild SharedSegmentCacheBuilder
rebuild_finish_reply b r = reply_of b r
