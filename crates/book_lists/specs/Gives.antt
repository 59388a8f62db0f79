-- The calls of a list by the arguments that its program is given, and what a list gives that ends with its only lookup: the answer of
-- src/build_list.rt as the claim counts answers. Assumes nothing.
use Rattle.std.specs.Prelude.{List, [], ◌∷◌, ℕ, Option, Some, None, Result, Ok, Err}
use Rattle.hash_parts.specs.declared.error.SegmentCacheBuildError.{SegmentCacheBuildError}
use Rattle.records.specs.Area.{spanned}
use Rattle.records.specs.declared.record.Span.{Span}
use Rattle.book.specs.Calls.{Call, Answer, push, lookup, reuse, copy, value, nothing, denied, absent}
use Rattle.book_lists.specs.declared.build_list.LookupArguments.{LookupArguments}
use Rattle.book_lists.specs.declared.build_list.PushArguments.{PushArguments}
use Rattle.book_lists.specs.declared.rebuild_list.ReuseArguments.{ReuseArguments}

-- ---- the calls

abbrev pub push_with : PushArguments → Call (List ℕ) ℕ
push_with p = push p.key.now p.value.now p.hash p.ttl

abbrev pub copy_with : PushArguments → Call (List ℕ) ℕ
copy_with p = copy p.key.now p.value.now p.hash p.ttl

abbrev pub reuse_with : ReuseArguments → Call (List ℕ) ℕ
reuse_with p = reuse p.key.now p.value.now p.hash p.source.location p.source.header_bytes

-- in the set of this number
abbrev pub lookup_with : ℕ → LookupArguments → Call (List ℕ) ℕ
lookup_with j p = lookup j p.key.now p.hash p.now_tick

-- ---- its answer

-- the bytes of a value are those that `value_slice` hands out of the arena
abbrev pub gives : List ℕ → Option (Result (Option Span) SegmentCacheBuildError) → List Answer
gives arena (Some (Ok (Some span))) = value (spanned arena span) ∷ []
gives arena (Some (Ok None)) = nothing ∷ []
gives arena (Some (Err e)) = denied ∷ []
gives arena None = absent ∷ []
