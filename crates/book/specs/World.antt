-- The world that a list of calls goes through: states and areas as the calls leave them. Each call is the very definition that its contract cites
-- (after_open, after_push, after_finish, after_get, after_peek, after_take, probe_answer, walk_answer, stats_answer, after_rebuild_open, after_reused,
-- after_copied, after_rebuild_finish, after_write, after_load), and the world after it holds what that definition says is left, refused calls included. src/calls.rt makes each
-- call as code, and its contracts say that the call is this step. States and areas are carried over from call to call, nothing else writes to them, and no
-- area is shared. There is one line of rebuilds: each is opened from the newest set, and opening another ends an unfinished one. An open or a load begins
-- another line; the files that were written stay.
-- Assumes nothing.
use Rattle.std.specs.Prelude.{Bool, true, false, List, [], ◌∷◌, ◌++◌, ℕ, take, set, None, Option, Some, slice_get}
use Rattle.hash_parts.specs.declared.setting.SegmentCacheConfig.{SegmentCacheConfig}
use Rattle.records.specs.Area.{spanned}
use Rattle.records.specs.declared.record.Span.{Span}
use Rattle.sets.specs.Answers.{Reply, accept, refuse, Placed, RebuildPlaced}
use Rattle.sets.specs.Build.{Opened, after_open, Pushed, after_push, Finished, after_finish}
use Rattle.sets.specs.Lookup.{Got, after_get, after_peek, Taken, after_take, probe_answer, walk_answer, stats_answer}
use Rattle.sets.specs.Rebuild.{RebuildOpened, after_rebuild_open, Reused, after_reused, Copied, after_copied, RebuildFinished, after_rebuild_finish}
use Rattle.sets.specs.declared.builder.SegmentCacheBuilder.{SegmentCacheBuilder}
use Rattle.sets.specs.declared.cache.FrozenSegmentCache.{FrozenSegmentCache}
use Rattle.sets.specs.declared.rebuild.SegmentRecordLocation.{SegmentRecordLocation}
use Rattle.sets.specs.declared.rebuild.SharedSegmentCacheBuild.{SharedSegmentCacheBuild}
use Rattle.sets.specs.declared.rebuild.SharedSegmentCacheBuilder.{SharedSegmentCacheBuilder}
use Rattle.files.specs.Load.{Loaded, after_load}
use Rattle.files.specs.Write.{FileWritten, after_write}
use Rattle.book.specs.Calls.{Call, opening, push, finish, lookup, peek, clear, probe, walk, stats, reopen, reuse, copy, refinish, write, load, bare, Answer, value, nothing, denied, absent}
use Rattle.book.specs.Calls.{newest}
use Rattle.hash_parts.specs.declared.duration.Duration.{Duration}

-- ---- states with their areas

-- the areas of a builder or a rebuild, and then of its set
pub record Areas : Type 0 where
  pub index : List ℕ
  pub filter : List ℕ
  pub starts : List ℕ
  pub lengths : List ℕ

-- at most one builder or rebuild is open
pub data Current : Type 0 where
  idle : Current
  building : SegmentCacheBuilder → Areas → Current
  rebuilding : SharedSegmentCacheBuilder → Areas → Current

pub record FinishedSet : Type 0 where
  pub cache : FrozenSegmentCache
  pub areas : Areas

-- the arena, and the finished sets in it, the oldest first; and the files that were written, the first is 0
pub record World : Type 0 where
  pub arena : List ℕ
  pub current : Current
  pub sets : List FinishedSet
  pub files : List (List ℕ)

-- before the first open: an arena of any content, nothing open, no set and no file
abbrev pub unopened : List ℕ → World
unopened arena = record { arena = arena; current = idle; sets = []; files = [] }

-- what a call leaves: the world, and whether it was accepted
pub record Step : Type 0 where
  pub after : World
  pub accepted : Bool

abbrev pub is_accepted : {A B : Type 0} → Reply A B → Bool
is_accepted (accept a) = true
is_accepted (refuse n b) = false

-- a call that leaves the world as it was
abbrev pub unchanged : World → Bool → Step
unchanged w accepted = record { after = w; accepted = accepted }

-- a call out of turn
abbrev pub out_of_turn : World → Step
out_of_turn w = unchanged w false

-- ---- open

abbrev pub opened_as : Reply SegmentCacheBuilder (Unit {0}) → Areas → Current
opened_as (accept b) areas = building b areas
opened_as (refuse n u) areas = idle

abbrev pub open_leaves : List (List ℕ) → List ℕ → Areas → Opened → World
open_leaves files arena a o =
    record {
      arena = arena;
      current = opened_as o.answer (record { index = o.index; filter = o.filter; starts = a.starts; lengths = a.lengths });
      sets = [];
      files = files;
    }

-- the world after a first open
abbrev pub opened : SegmentCacheConfig → ℕ → List ℕ → Areas → World
opened config records arena a = open_leaves [] arena a (after_open config records a.index a.filter a.starts a.lengths arena)

-- an open among other calls: accepted, another line of sets begins, in the arena and areas lent with it; refused, nothing changes
abbrev pub opened_or : World → World → Reply SegmentCacheBuilder (Unit {0}) → World
opened_or w new (accept b) = new
opened_or w new (refuse n u) = w

abbrev pub opening_step : World → SegmentCacheConfig → ℕ → List ℕ → Areas → Step
opening_step w config records arena a =
    record {
      after =
          opened_or w (open_leaves w.files arena a (after_open config records a.index a.filter a.starts a.lengths arena))
          (after_open config records a.index a.filter a.starts a.lengths arena).answer;
      accepted = is_accepted (after_open config records a.index a.filter a.starts a.lengths arena).answer;
    }

-- ---- push

-- the builder that a push hands back
abbrev pub builder_in : Reply Placed SegmentCacheBuilder → SegmentCacheBuilder
builder_in (accept p) = p.builder
builder_in (refuse n b) = b

abbrev pub push_leaves : World → Areas → Pushed → Step
push_leaves w a p =
    record {
      after =
          record {
            arena = p.arena;
            current = building (builder_in p.answer) (record { index = p.index; filter = p.filter; starts = a.starts; lengths = a.lengths });
            sets = w.sets;
            files = w.files;
          };
      accepted = is_accepted p.answer;
    }

abbrev pub push_step : World → Current → List ℕ → List ℕ → ℕ → Option Duration → Step
push_step w idle key v h ttl = out_of_turn w
push_step w (building b a) key v h ttl = push_leaves w a (after_push b h key v ttl a.index a.filter w.arena)
push_step w (rebuilding r a) key v h ttl = out_of_turn w

-- ---- finish

-- the set joins the others; a builder that is refused stays open
abbrev pub closed_as : World → Areas → Reply FrozenSegmentCache SegmentCacheBuilder → World
closed_as w areas (accept s) = record { arena = w.arena; current = idle; sets = w.sets ++ (record { cache = s; areas = areas } ∷ []); files = w.files }
closed_as w areas (refuse n b) = record { arena = w.arena; current = building b areas; sets = w.sets; files = w.files }

abbrev pub finish_leaves : World → Areas → Finished → Step
finish_leaves w a f =
    record {
      after = closed_as w (record { index = f.index; filter = a.filter; starts = f.starts; lengths = f.lengths }) f.answer;
      accepted = is_accepted f.answer;
    }

abbrev pub finish_step : World → Current → ℕ → List ℕ → Step
finish_step w idle target scratch = out_of_turn w
finish_step w (building b a) target scratch =
    finish_leaves w a (after_finish b target a.index a.starts a.lengths scratch w.arena)
finish_step w (rebuilding r a) target scratch = out_of_turn w

-- ---- lookup, peek and mark clearing: of a set only its index may change

abbrev pub with_index : FinishedSet → List ℕ → FinishedSet
with_index s index =
    record {
      cache = s.cache;
      areas = record { index = index; filter = s.areas.filter; starts = s.areas.starts; lengths = s.areas.lengths };
    }

abbrev pub set_leaves : World → ℕ → FinishedSet → List ℕ → Bool → Step
set_leaves w j s index accepted =
    record { after = record { arena = w.arena; current = w.current; sets = set w.sets j (with_index s index); files = w.files }; accepted = accepted }

abbrev pub get_from : World → FinishedSet → List ℕ → ℕ → ℕ → Got
get_from w s key h tick =
    after_get s.cache h key tick s.areas.index s.areas.filter s.areas.starts s.areas.lengths w.arena

abbrev pub peek_from : World → FinishedSet → List ℕ → ℕ → ℕ → Got
peek_from w s key h tick =
    after_peek s.cache h key tick s.areas.index s.areas.filter s.areas.starts s.areas.lengths w.arena

abbrev pub take_from : World → FinishedSet → List ℕ → ℕ → Taken
take_from w s key h = after_take s.cache h key s.areas.index s.areas.filter s.areas.starts s.areas.lengths w.arena

abbrev pub lookup_step : World → ℕ → Option FinishedSet → List ℕ → ℕ → ℕ → Step
lookup_step w j None key h tick = out_of_turn w
lookup_step w j (Some s) key h tick = set_leaves w j s (get_from w s key h tick).index (is_accepted (get_from w s key h tick).answer)

abbrev pub peek_step : World → ℕ → Option FinishedSet → List ℕ → ℕ → ℕ → Step
peek_step w j None key h tick = out_of_turn w
peek_step w j (Some s) key h tick = set_leaves w j s (peek_from w s key h tick).index (is_accepted (peek_from w s key h tick).answer)

abbrev pub clear_step : World → ℕ → Option FinishedSet → List ℕ → ℕ → Step
clear_step w j None key h = out_of_turn w
clear_step w j (Some s) key h = set_leaves w j s (take_from w s key h).index (is_accepted (take_from w s key h).answer)

-- ---- probe, a step of the walk, statistics: they have no area to write

abbrev pub probe_step : World → Option FinishedSet → List ℕ → ℕ → ℕ → Step
probe_step w None key h tick = out_of_turn w
probe_step w (Some s) key h tick =
    unchanged w
    (is_accepted (probe_answer s.cache h key tick s.areas.index s.areas.filter s.areas.starts s.areas.lengths w.arena))

abbrev pub walk_step : World → Option FinishedSet → ℕ → ℕ → Step
walk_step w None slot tick = out_of_turn w
walk_step w (Some s) slot tick =
    unchanged w (is_accepted (walk_answer s.cache slot tick s.areas.index s.areas.starts s.areas.lengths w.arena))

abbrev pub stats_step : World → Option FinishedSet → Step
stats_step w None = out_of_turn w
stats_step w (Some s) = unchanged w (is_accepted (stats_answer s.cache))

-- ---- rebuild open: refused, it leaves an unfinished rebuild open

abbrev pub reopened_as : Current → Areas → Reply SharedSegmentCacheBuilder FrozenSegmentCache → Current
reopened_as c areas (accept r) = rebuilding r areas
reopened_as c areas (refuse n s) = c

abbrev pub reopen_leaves : World → RebuildOpened → Step
reopen_leaves w o =
    record {
      after =
          record {
            arena = w.arena;
            current = reopened_as w.current (record { index = o.index; filter = o.filter; starts = o.starts; lengths = o.lengths }) o.answer;
            sets = w.sets;
            files = w.files;
          };
      accepted = is_accepted o.answer;
    }

-- of the newest set; before the first is finished there is none
abbrev pub reopen_step : World → Option FinishedSet → ℕ → ℕ → List ℕ → ℕ → List ℕ → List ℕ → List ℕ → List ℕ → Step
reopen_step w None records copied flags tick index filter starts lengths = out_of_turn w
reopen_step w (Some s) records copied flags tick index filter starts lengths =
    reopen_leaves w
    (after_rebuild_open s.cache s.areas.starts s.areas.lengths w.arena records copied flags tick index filter starts lengths)

-- ---- reused and copied pushes

-- the rebuild that a push hands back
abbrev pub rebuild_in : Reply RebuildPlaced SharedSegmentCacheBuilder → SharedSegmentCacheBuilder
rebuild_in (accept p) = p.builder
rebuild_in (refuse n r) = r

abbrev pub reuse_leaves : World → Areas → Reused → Step
reuse_leaves w a p =
    record {
      after =
          record {
            arena = w.arena;
            current = rebuilding (rebuild_in p.answer) (record { index = p.index; filter = p.filter; starts = a.starts; lengths = a.lengths });
            sets = w.sets;
            files = w.files;
          };
      accepted = is_accepted p.answer;
    }

abbrev pub reuse_step : World → Current → List ℕ → List ℕ → ℕ → SegmentRecordLocation → Step
reuse_step w idle key v h at = out_of_turn w
reuse_step w (building b a) key v h at = out_of_turn w
reuse_step w (rebuilding r a) key v h at = reuse_leaves w a (after_reused r h key v at a.index a.filter a.starts a.lengths w.arena)

abbrev pub copy_leaves : World → Areas → Copied → Step
copy_leaves w a p =
    record {
      after =
          record {
            arena = p.arena;
            current = rebuilding (rebuild_in p.answer) (record { index = p.index; filter = p.filter; starts = a.starts; lengths = a.lengths });
            sets = w.sets;
            files = w.files;
          };
      accepted = is_accepted p.answer;
    }

abbrev pub copy_step : World → Current → List ℕ → List ℕ → ℕ → Option Duration → Step
copy_step w idle key v h ttl = out_of_turn w
copy_step w (building b a) key v h ttl = out_of_turn w
copy_step w (rebuilding r a) key v h ttl = copy_leaves w a (after_copied r h key v ttl a.index a.filter a.starts a.lengths w.arena)

-- ---- rebuild finish

abbrev pub rebuilt_as : World → Areas → Reply SharedSegmentCacheBuild SharedSegmentCacheBuilder → World
rebuilt_as w areas (accept s) = record { arena = w.arena; current = idle; sets = w.sets ++ (record { cache = s.cache; areas = areas } ∷ []); files = w.files }
rebuilt_as w areas (refuse n r) = record { arena = w.arena; current = rebuilding r areas; sets = w.sets; files = w.files }

abbrev pub refinish_leaves : World → Areas → RebuildFinished → Step
refinish_leaves w a f =
    record {
      after = rebuilt_as w (record { index = f.index; filter = a.filter; starts = f.starts; lengths = f.lengths }) f.answer;
      accepted = is_accepted f.answer;
    }

abbrev pub refinish_step : World → Current → List ℕ → Step
refinish_step w idle scratch = out_of_turn w
refinish_step w (building b a) scratch = out_of_turn w
refinish_step w (rebuilding r a) scratch = refinish_leaves w a (after_rebuild_finish r a.index a.starts a.lengths scratch w.arena)

-- ---- a set as a file

abbrev pub write_in : World → FinishedSet → List ℕ → FileWritten
write_in w s out = after_write s.cache s.areas.index s.areas.filter s.areas.starts s.areas.lengths w.arena out

-- the file joins the others: as many bytes as the writer says, from the front of the area that was lent
abbrev pub filed_as : World → List ℕ → Reply ℕ (Unit {0}) → World
filed_as w area (accept n) = record { arena = w.arena; current = w.current; sets = w.sets; files = w.files ++ (take n area ∷ []) }
filed_as w area (refuse n u) = w

abbrev pub write_step : World → Option FinishedSet → List ℕ → Step
write_step w None out = out_of_turn w
write_step w (Some s) out =
    record { after = filed_as w (write_in w s out).file (write_in w s out).answer; accepted = is_accepted (write_in w s out).answer }

-- a load of a file that was written: accepted, another line of sets begins, in the arena and areas lent with it, and "the load then stands in the build's
-- place"; refused, nothing changes
abbrev pub load_in : List ℕ → List ℕ → Areas → Loaded
load_in file arena a = after_load file a.index a.filter a.starts a.lengths arena

abbrev pub loaded_as : World → Loaded → Reply FrozenSegmentCache (Unit {0}) → World
loaded_as w o (accept s) =
    record {
      arena = o.arena;
      current = idle;
      sets = record { cache = s; areas = record { index = o.index; filter = o.filter; starts = o.starts; lengths = o.lengths } } ∷ [];
      files = w.files;
    }
loaded_as w o (refuse n u) = w

abbrev pub load_step : World → Option (List ℕ) → List ℕ → Areas → Step
load_step w None arena a = out_of_turn w
load_step w (Some file) arena a =
    record { after = loaded_as w (load_in file arena a) (load_in file arena a).answer; accepted = is_accepted (load_in file arena a).answer }

-- ---- a list of calls

abbrev pub step : World → Call (List ℕ) ℕ → Step
step w (opening config records arena index filter starts lengths) =
    opening_step w config records arena record { index = index; filter = filter; starts = starts; lengths = lengths }
step w (push key v h ttl) = push_step w w.current key v h ttl
step w (finish target scratch) = finish_step w w.current target scratch
step w (lookup j key h tick) = lookup_step w j (slice_get w.sets j) key h tick
step w (peek j key h tick) = peek_step w j (slice_get w.sets j) key h tick
step w (clear j key h) = clear_step w j (slice_get w.sets j) key h
step w (probe j key h tick) = probe_step w (slice_get w.sets j) key h tick
step w (walk j slot tick) = walk_step w (slice_get w.sets j) slot tick
step w (stats j) = stats_step w (slice_get w.sets j)
step w (reopen records copied flags tick index filter starts lengths) =
    reopen_step w (newest w.sets) records copied flags tick index filter starts lengths
step w (reuse key v h location header) = reuse_step w w.current key v h record { location = location; header_bytes = header }
step w (copy key v h ttl) = copy_step w w.current key v h ttl
step w (refinish scratch) = refinish_step w w.current scratch
step w (write j out) = write_step w (slice_get w.sets j) out
step w (load i arena index filter starts lengths) =
    load_step w (slice_get w.files i) arena record { index = index; filter = filter; starts = starts; lengths = lengths }

-- the world after a list of calls
abbrev pub world_after : World → List (Call (List ℕ) ℕ) → World
world_after w [] = w
world_after w (c ∷ cs) = world_after (step w c).after cs

-- the calls, without their areas and a load with its file's bytes, each with whether it was accepted: all that the book is fed
abbrev pub told : World → List (Call (List ℕ) ℕ) → List (Call (Unit {0}) (ℕ × List ℕ) × Bool)
told w [] = []
told w (c ∷ cs) = (bare w.files c, (step w c).accepted) ∷ told (step w c).after cs

-- the bytes of a value are those that `value_slice` hands out of the arena as it is at that moment
abbrev pub answer_of : List ℕ → Reply (Option Span) (Unit {0}) → Answer
answer_of arena (accept None) = nothing
answer_of arena (accept (Some span)) = value (spanned arena span)
answer_of arena (refuse n u) = denied

abbrev pub answer_from : World → Option FinishedSet → List ℕ → ℕ → ℕ → Answer
answer_from w None key h tick = absent
answer_from w (Some s) key h tick = answer_of w.arena (get_from w s key h tick).answer

abbrev pub peeked_from : World → Option FinishedSet → List ℕ → ℕ → ℕ → Answer
peeked_from w None key h tick = absent
peeked_from w (Some s) key h tick = answer_of w.arena (peek_from w s key h tick).answer

-- lookups and peeks answer by the book, of other calls it says nothing
abbrev pub answered : World → Call (List ℕ) ℕ → List Answer
answered w (opening config records arena index filter starts lengths) = []
answered w (push key v h ttl) = []
answered w (finish target scratch) = []
answered w (lookup j key h tick) = answer_from w (slice_get w.sets j) key h tick ∷ []
answered w (peek j key h tick) = peeked_from w (slice_get w.sets j) key h tick ∷ []
answered w (clear j key h) = []
answered w (probe j key h tick) = []
answered w (walk j slot tick) = []
answered w (stats j) = []
answered w (reopen records copied flags tick index filter starts lengths) = []
answered w (reuse key v h location header) = []
answered w (copy key v h ttl) = []
answered w (refinish scratch) = []
answered w (write j out) = []
answered w (load i arena index filter starts lengths) = []

-- the answers of the lookups and peeks in a list of calls
abbrev pub answers : World → List (Call (List ℕ) ℕ) → List Answer
answers w [] = []
answers w (c ∷ cs) = answered w c ++ answers (step w c).after cs
