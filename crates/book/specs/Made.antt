-- What src/calls.rt says of itself: the step that a call is, read off what the code was answered and what its areas hold then, by the cases of the answers
-- in crates/sets/src and crates/files/src and by none of the definitions that the steps of World.antt are made of. A contract there equates the two.
-- Assumes nothing.
use Rattle.std.specs.Prelude.{◌≡◌, Bool, true, false, List, [], ◌∷◌, ◌++◌, ℕ, take, set, Option, Some, None, Result, Ok, Err, is_ok, slice_get}
use Rattle.records.specs.Area.{spanned}
use Rattle.hash_parts.specs.declared.error.SegmentCacheBuildError.{SegmentCacheBuildError}
use Rattle.index.specs.declared.view.SegmentAreas.{SegmentAreas}
use Rattle.records.specs.declared.record.Span.{Span}
use Rattle.sets.specs.declared.builder.PushedRecord.{PushedRecord}
use Rattle.sets.specs.declared.builder.SegmentCacheBuilder.{SegmentCacheBuilder}
use Rattle.sets.specs.declared.cache.FrozenSegmentCache.{FrozenSegmentCache}
use Rattle.sets.specs.declared.rebuild.SharedSegmentCacheBuild.{SharedSegmentCacheBuild}
use Rattle.sets.specs.declared.rebuild.SharedSegmentCacheBuilder.{SharedSegmentCacheBuilder}
use Rattle.book.specs.Calls.{Answer, value, nothing, denied, newest}
use Rattle.book.specs.World.{Areas, Current, idle, building, rebuilding, FinishedSet, World, Step}

-- ---- worlds

-- the areas of a builder, a rebuild or a set, by what each holds
abbrev pub areas_of : List ℕ → List ℕ → List ℕ → List ℕ → Areas
areas_of index filter starts lengths = record { index = index; filter = filter; starts = starts; lengths = lengths }

-- the same where starts and lengths are lent together with the arena
abbrev pub areas_with : List ℕ → List ℕ → SegmentAreas → Areas
areas_with index filter a = areas_of index filter a.starts.now a.lengths.now

-- a set with its areas
abbrev pub set_with : FrozenSegmentCache → Areas → FinishedSet
set_with s a = record { cache = s; areas = a }

-- the same of a set whose segment areas are lent together
abbrev pub set_lent : FrozenSegmentCache → List ℕ → List ℕ → SegmentAreas → FinishedSet
set_lent s index filter a = set_with s (areas_with index filter a)

-- a world, by what its arena holds, what is open, which sets are finished and which files were written
abbrev pub world_of : List ℕ → Current → List FinishedSet → List (List ℕ) → World
world_of arena current sets files = record { arena = arena; current = current; sets = sets; files = files }

-- the step that leaves this world, accepted or not
abbrev pub left : Bool → World → Step
left accepted w = record { after = w; accepted = accepted }

-- Wherever a set stands: whatever builder or rebuild is open and whatever other sets and files there are; then of that world and of the set's place in it.
abbrev pub Wherever : FinishedSet → List ℕ → (World → ℕ → Type 0) → Type 0
Wherever s arena P = (current : Current) (sets : List FinishedSet) (files : List (List ℕ)) (j : ℕ) → slice_get sets j ≡ Some s → P (world_of arena current sets files) j

-- the same where it is the newest set
abbrev pub WhereNewest : FinishedSet → List ℕ → (World → Type 0) → Type 0
WhereNewest s arena P = (current : Current) (sets : List FinishedSet) (files : List (List ℕ)) → newest sets ≡ Some s → P (world_of arena current sets files)

-- Whatever sets are finished and whatever files there are, where this is open.
abbrev pub WhereOpen : Current → List ℕ → (World → Type 0) → Type 0
WhereOpen c arena P = (sets : List FinishedSet) (files : List (List ℕ)) → P (world_of arena c sets files)

-- In any world, wherever a file stands among those that were written.
abbrev pub WhereWritten : List ℕ → (World → ℕ → Type 0) → Type 0
WhereWritten file P = (w : World) (i : ℕ) → slice_get w.files i ≡ Some file → P w i

-- ---- open, push, finish

-- an open that is refused leaves the world that was
abbrev pub open_left : World → List ℕ → Areas → Result SegmentCacheBuilder SegmentCacheBuildError → Step
open_left w arena a (Ok b) = left true (world_of arena (building b a) [] w.files)
open_left w arena a (Err e) = left false w

-- a push leaves its builder open, accepted or not
abbrev pub push_left : List FinishedSet → List (List ℕ) → List ℕ → Areas → SegmentCacheBuilder → Result PushedRecord SegmentCacheBuildError → Step
push_left sets files arena a b r = left (is_ok r) (world_of arena (building b a) sets files)

-- a finish that is accepted leaves one set more, refused the builder
abbrev pub finish_left : List FinishedSet → List (List ℕ) → List ℕ → Areas → SegmentCacheBuilder → Result FrozenSegmentCache SegmentCacheBuildError → Step
finish_left sets files arena a b (Ok s) = left true (world_of arena idle (sets ++ (set_with s a ∷ [])) files)
finish_left sets files arena a b (Err e) = left false (world_of arena (building b a) sets files)

-- ---- calls on a finished set; each is accepted that answers anything but a refusal, so by `is_ok`

-- a call that may write to the set's index leaves the set with the areas that it has then
abbrev pub set_left : World → ℕ → FinishedSet → Bool → Step
set_left w j s accepted = left accepted (world_of w.arena w.current (set w.sets j s) w.files)

-- what a lookup or a peek gives; the bytes by `value_slice`, whose contract is `spanned`
abbrev pub get_gives : List ℕ → Result (Option Span) SegmentCacheBuildError → List Answer
get_gives arena (Ok (Some span)) = value (spanned arena span) ∷ []
get_gives arena (Ok None) = nothing ∷ []
get_gives arena (Err e) = denied ∷ []

-- ---- rebuilds

-- a rebuild open that is refused leaves what was open
abbrev pub reopen_left : World → Areas → Result SharedSegmentCacheBuilder SegmentCacheBuildError → Step
reopen_left w a (Ok r) = left true (world_of w.arena (rebuilding r a) w.sets w.files)
reopen_left w a (Err e) = left false w

-- a reused or copied push leaves its rebuild open, accepted or not
abbrev pub repush_left : List FinishedSet → List (List ℕ) → List ℕ → Areas → SharedSegmentCacheBuilder → Result PushedRecord SegmentCacheBuildError → Step
repush_left sets files arena a b r = left (is_ok r) (world_of arena (rebuilding b a) sets files)

-- a rebuild finish that is accepted leaves one set more, refused the rebuild
abbrev pub refinish_left : List FinishedSet → List (List ℕ) → List ℕ → Areas → SharedSegmentCacheBuilder → Result SharedSegmentCacheBuild SegmentCacheBuildError → Step
refinish_left sets files arena a b (Ok s) = left true (world_of arena idle (sets ++ (set_with s.cache a ∷ [])) files)
refinish_left sets files arena a b (Err e) = left false (world_of arena (rebuilding b a) sets files)

-- ---- files

-- a write that is accepted leaves one file more, so many bytes from the front of its area; refused, the world that was
abbrev pub write_left : World → List ℕ → Result ℕ SegmentCacheBuildError → Step
write_left w area (Ok n) = left true (world_of w.arena w.current w.sets (w.files ++ (take n area ∷ [])))
write_left w area (Err e) = left false w

-- a load that is accepted leaves its set alone, in its arena, and the files; refused, the world that was
abbrev pub load_left : World → List ℕ → Areas → Result FrozenSegmentCache SegmentCacheBuildError → Step
load_left w arena a (Ok s) = left true (world_of arena idle (set_with s a ∷ []) w.files)
load_left w arena a (Err e) = left false w
