-- The four calls of a rebuild keep the relation of world and book. Assumes nothing.
use Rattle.std.specs.Prelude.{Option}
use mathlib.Core.Path.{◌≡◌, refl, sym, ap, ◌∙◌}
use mathlib.Core.Bool.{true, cond}
use mathlib.Core.List.{List}
use Prim.Native.Nat.{ℕ, ◌+◌, ◌^◌, ◌≤◌, ◌<◌}
use native.Mathlib.Omega.{arith}
use lib.ListN.{length, take}
use lib.Seq.{take-take, length-take-le}
use Rattle.hash_parts.specs.Duration.{encoded_expiry}
use Rattle.hash_parts.specs.declared.setting.SegmentExpiry.{SegmentExpiry}
use Rattle.records.specs.Area.{pasted}
use Rattle.records.specs.Record.{record_bytes, record_size}
use Rattle.records.proofs.Parts.{size_is}
use Rattle.sets.specs.Lookup.{areas_hold_lookup}
use Rattle.sets.specs.Answers.{accept, RebuildPlaced}
use Rattle.sets.specs.Rebuild.{RebuildOpened, Reused, Copied, RebuildFinished}
use Rattle.sets.specs.Rebuild.{segments_inside}
use Rattle.sets.specs.declared.rebuild.SegmentRecordLocation.{SegmentRecordLocation}
use Rattle.sets.specs.declared.rebuild.SharedSegmentCacheBuild.{SharedSegmentCacheBuild}
use Rattle.sets.specs.declared.rebuild.SharedSegmentCacheBuilder.{SharedSegmentCacheBuilder}
use Rattle.sets.proofs.RebuildAccepted.{ReopenCase, reopen_made_law, reopen_refused, reopen_case, ReusedCase, reused_made_law}
use Rattle.sets.proofs.RebuildAccepted.{reused_refused, reused_case, CopiedCase, copied_made_law, copied_refused}
use Rattle.sets.proofs.RebuildAccepted.{copied_case, RefinishCase, refinish_made, refinish_refused, refinish_case}
use Rattle.sets.proofs.RebuildClosure.{rebuild_passes, rebuild_filter_holds, reopen_passes, reused_passes, copied_passes, refinish_passes, refinish_inside}
use Rattle.book.specs.Book.{ListedSet, Book, starts_in, filled_in, rebuilt_starts, place_of, joined, closed, reopened, rejoined, heard}
use Rattle.book.specs.Calls.{reopen, reuse, copy, refinish, newest}
use Rattle.book.specs.World.{Current, idle, building, rebuilding, FinishedSet, World, is_accepted, reopen_leaves}
use Rattle.book.specs.World.{reopen_step, reuse_leaves, reuse_step, copy_leaves, copy_step, refinish_leaves}
use Rattle.book.specs.World.{refinish_step}
use Rattle.book.proofs.Appending.{appended, joins}
use Rattle.book.proofs.Copying.{rebuild_copy}
use Rattle.book.proofs.Pairs.{Both, both_none, both_some, pairs_newest}
use Rattle.book.proofs.Pushing.{new_back}
use Rattle.book.proofs.Refinishing.{rebuild_finish}
use Rattle.book.proofs.Relation.{SetHolds, CurrentHolds, is_rebuilding, Holds}
use Rattle.book.proofs.Reopening.{rebuild_open}
use Rattle.book.proofs.Reusing.{rebuild_reuse}
use Rattle.hash_parts.specs.declared.duration.Duration.{Duration}

module _ (H : List ℕ → ℕ) where
  -- ---- rebuild open: the tape is cut to the newest set's filled bytes

  module _ (w : World) (k : Book) (m : Holds H w k) (records copied : ℕ) (flags : List ℕ) (tick : ℕ) (index filter starts lengths : List ℕ) where
    abbrev top : ℕ
    top = filled_in (newest k.sets)

    cut : length (take top k.tape) ≡ top
    cut = length-take-le top k.tape m.top

    cut_memory : take (length (take top k.tape)) w.arena ≡ take top k.tape
    cut_memory = ap (λ (n : ℕ). take n w.arena) cut ∙ sym (take-take top (length k.tape) w.arena m.top) ∙ ap (take top) m.memory

    opened_holds : {o : Option FinishedSet} {p : Option ListedSet} → newest k.sets ≡ p → Both (SetHolds H k.expiry w.arena top) o p
        → Holds H (reopen_step w o records copied flags tick index filter starts lengths).after
        (heard k (reopen records copied flags tick tt tt tt tt, (reopen_step w o records copied flags tick index filter starts lengths).accepted))
    opened_holds f both_none = m
    opened_holds f (both_some {a = s} {b = l} ok) =
        go (reopen_case s.cache s.areas.starts s.areas.lengths w.arena records copied flags tick index filter starts lengths)
        (reopen_passes s.cache s.areas.starts s.areas.lengths w.arena records copied flags tick index filter starts lengths)
      where
        go : {o : RebuildOpened} → ReopenCase s.cache s.areas.starts s.areas.lengths w.arena records copied flags tick index filter starts lengths o
            → ((r : SharedSegmentCacheBuilder) → o.answer ≡ accept r → rebuild_passes r (length o.index) (length o.filter) o.starts o.lengths (length w.arena) ≡ true)
            → Holds H (reopen_leaves w o).after (cond (is_accepted o.answer) (reopened k flags tick) k)
        go (reopen_refused n) passes = record { memory = m.memory; top = m.top; current = m.current; sets = m.sets; files = m.files }
        go (reopen_made_law asked) passes =
            record {
              memory = cut_memory;
              top = omega (arith, cut);
              current =
                  is_rebuilding
                  (rebuild_open H s l k w.arena top ok f (omega (arith, m.top, ap filled_in f)) records copied flags tick index filter starts lengths asked (passes _ refl));
              sets = m.sets;
              files = m.files;
            }

    pub reopen_holds : Holds H (reopen_step w (newest w.sets) records copied flags tick index filter starts lengths).after
        (heard k (reopen records copied flags tick tt tt tt tt, (reopen_step w (newest w.sets) records copied flags tick index filter starts lengths).accepted))
    reopen_holds = opened_holds refl (pairs_newest m.sets)

  -- ---- reused push

  pub reuse_holds : (w : World) (k : Book) → Holds H w k → (c : Current) → CurrentHolds H (length w.arena) k c → (key value : List ℕ) (h : ℕ) (source : SegmentRecordLocation)
      → h ≡ H key → h < 2 ^ 64
      → Holds H (reuse_step w c key value h source).after (heard k (reuse key value h source.location source.header_bytes, (reuse_step w c key value h source).accepted))
  reuse_holds w k m idle ok key value h source hash bound = m
  reuse_holds w k m (building b a) ok key value h source hash bound = m
  reuse_holds w k m (rebuilding r a) (is_rebuilding ok) key value h source hash bound =
      go (reused_case r h key value source a.index a.filter a.starts a.lengths w.arena) (reused_passes r h key value source a.index a.filter a.starts a.lengths w.arena)
    where
      go : {p : Reused} → ReusedCase r h key value source a.index a.filter a.starts a.lengths w.arena p
          → ((q : RebuildPlaced) → p.answer ≡ accept q → rebuild_passes q.builder (length p.index) (length p.filter) a.starts a.lengths (length w.arena) ≡ true)
          → Holds H (reuse_leaves w a p).after (cond (is_accepted p.answer) (rejoined k key value (place_of (starts_in (newest k.sets)) source.location)) k)
      go (reused_refused n) passes = record { memory = m.memory; top = m.top; current = is_rebuilding ok; sets = m.sets; files = m.files }
      go (reused_made_law asked) passes =
          record {
            memory = m.memory;
            top = m.top;
            current = is_rebuilding (rebuild_reuse H r a w.arena k ok m.memory key value h source hash bound asked (passes _ refl));
            sets = m.sets;
            files = m.files;
          }

  -- ---- copied push

  pub copy_holds : (w : World) (k : Book) → Holds H w k → (c : Current) → CurrentHolds H (length w.arena) k c → (key value : List ℕ) (h : ℕ) (ttl : Option Duration) → h ≡ H key → h < 2 ^ 64
      → Holds H (copy_step w c key value h ttl).after (heard k (copy key value h ttl, (copy_step w c key value h ttl).accepted))
  copy_holds w k m idle ok key value h ttl hash bound = m
  copy_holds w k m (building b a) ok key value h ttl hash bound = m
  copy_holds w k m (rebuilding r a) (is_rebuilding ok) key value h ttl hash bound =
      go (copied_case r h key value ttl a.index a.filter a.starts a.lengths w.arena) (copied_passes r h key value ttl a.index a.filter a.starts a.lengths w.arena)
    where
      x : SegmentExpiry
      x = k.expiry

      d : ℕ
      d = (encoded_expiry x ttl k.tick).value

      -- the deadline by the rebuild's setting and tick is the one by the book's
      kept : ℕ
      kept = (encoded_expiry r.config.expiry ttl r.source_now_tick).value

      same : kept ≡ d
      same = rw (ok.expiry, ok.tick)

      bytes : List ℕ
      bytes = record_bytes r.config.expiry key value kept

      content : bytes ≡ record_bytes x key value d
      content = rw (same, ok.expiry)

      size : ℕ
      size = record_size r.config.expiry (length key) (length value)

      long : size ≡ length bytes
      long = sym (size_is r.config.expiry key value kept)

      go : {p : Copied} → CopiedCase r h key value ttl a.index a.filter a.starts a.lengths w.arena p
          → ((q : RebuildPlaced) → p.answer ≡ accept q → rebuild_passes q.builder (length p.index) (length p.filter) a.starts a.lengths (length p.arena) ≡ true)
          → Holds H (copy_leaves w a p).after (cond (is_accepted p.answer) (joined k key value d) k)
      go (copied_refused n) passes = record { memory = m.memory; top = m.top; current = is_rebuilding ok; sets = m.sets; files = m.files }
      go (copied_made_law asked) passes =
          let number : (encoded_expiry x ttl k.tick).number ≡ 0 = rw (← ok.expiry, ← ok.tick) asked.deadline in
          let small : record_size x (length key) (length value) ≤ 1_073_741_824 =
          rw (← ok.expiry) (omega (arith, asked.fits, asked.areas.arena_short)) in
          appended H w k m (r.source_filled + r.copied_bytes) bytes key value d ok.filled content (omega (arith, asked.fits, long)) _
          (is_rebuilding
          (rebuild_copy H r a (length w.arena) k ok key value h _ d size (length (pasted (r.source_filled + r.copied_bytes) bytes w.arena)) hash bound asked.place
          (new_back x key value ttl k.tick number small) (long ∙ ap length content)
          (omega (arith, asked.areas.filled_held, asked.areas.arena_short)) asked.room (passes _ refl)))

  -- ---- rebuild finish

  pub refinish_holds : (w : World) (k : Book) → Holds H w k → (c : Current) → CurrentHolds H (length w.arena) k c → (scratch : List ℕ)
      → Holds H (refinish_step w c scratch).after (heard k (refinish tt, (refinish_step w c scratch).accepted))
  refinish_holds w k m idle ok scratch = m
  refinish_holds w k m (building b a) ok scratch = m
  refinish_holds w k m (rebuilding r a) (is_rebuilding ok) scratch =
      go (refinish_case r a.index a.starts a.lengths scratch w.arena)
      (λ b e. refinish_passes r a.index a.starts a.lengths scratch w.arena b e (length a.filter) (rebuild_filter_holds r _ _ _ _ _ ok.passes))
      (refinish_inside r a.index a.starts a.lengths scratch w.arena)
    where
      go : {f : RebuildFinished} → RefinishCase r a.index a.starts a.lengths scratch w.arena f
          → ((b : SharedSegmentCacheBuild) → f.answer ≡ accept b → areas_hold_lookup b.cache (length f.index) (length a.filter) (length f.starts) (length f.lengths)
          (length w.arena) ≡ true)
          → ((b : SharedSegmentCacheBuild) → f.answer ≡ accept b → segments_inside b.cache.segments b.cache.filled f.starts f.lengths ≡ true)
          → Holds H (refinish_leaves w a f).after (cond (is_accepted f.answer) (closed k (rebuilt_starts k.kept (filled_in (newest k.sets)) (length k.tape))) k)
      go (refinish_refused n) passes inside = record { memory = m.memory; top = m.top; current = is_rebuilding ok; sets = m.sets; files = m.files }
      go (refinish_made asked) passes inside = joins H w k m _ _ (rebuild_finish H r a w.arena scratch k ok m.memory asked (passes _ refl) (inside _ refl))
