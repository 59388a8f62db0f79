-- That each call's contract in crates/sets and crates/files makes it a step of the world: for the answer and the areas that the contract fixes, what src/calls.rt reads off
-- them is what `step` leaves. The proofs of its functions cite these laws. Assumes nothing.
use Rattle.std.specs.Prelude.{Option, Some, None, Result, Ok, Err, is_ok}
use mathlib.Core.Path.{◌≡◌, refl, sym, ap, ◌∙◌}
use mathlib.Core.Bool.{Bool}
use mathlib.Core.List.{List, [], ◌∷◌}
use Prim.Native.Nat.{ℕ}
use Rattle.hash_parts.specs.declared.error.SegmentCacheBuildError.{SegmentCacheBuildError}
use Rattle.hash_parts.specs.declared.setting.SegmentCacheConfig.{SegmentCacheConfig}
use Rattle.sets.specs.Answers.{reply_of, get_reply, probe_reply, walk_reply, stats_reply}
use Rattle.sets.specs.Build.{Opened, open_result, after_open, push_result, after_push, finish_result, after_finish}
use Rattle.sets.specs.Lookup.{Got, get_result, after_get, after_peek, Taken, take_result, after_take, probe_answer, walk_answer, stats_answer}
use Rattle.sets.specs.Rebuild.{rebuild_open_result, after_rebuild_open, reused_result, after_reused, copied_result, after_copied, rebuild_finish_result, after_rebuild_finish}
use Rattle.records.specs.declared.record.Span.{Span}
use Rattle.sets.specs.declared.builder.PushedRecord.{PushedRecord}
use Rattle.sets.specs.declared.builder.SegmentCacheBuilder.{SegmentCacheBuilder}
use Rattle.sets.specs.declared.cache.FrozenSegmentCache.{FrozenSegmentCache}
use Rattle.sets.specs.declared.cache.SegmentBaseRecord.{SegmentBaseRecord}
use Rattle.sets.specs.declared.stats.SegmentCacheStats.{SegmentCacheStats}
use Rattle.sets.specs.declared.rebuild.SegmentRecordLocation.{SegmentRecordLocation}
use Rattle.sets.specs.declared.rebuild.SharedSegmentCacheBuild.{SharedSegmentCacheBuild}
use Rattle.sets.specs.declared.rebuild.SharedSegmentCacheBuilder.{SharedSegmentCacheBuilder}
use Rattle.files.specs.Load.{Loaded, after_load, load_result}
use Rattle.files.specs.Write.{FileWritten, after_write, write_result}
use Rattle.book.specs.Calls.{opening, push, finish, lookup, peek, clear, probe, walk, stats, reopen, reuse, copy, refinish, write, load}
use Rattle.book.specs.Made.{areas_of, world_of, left, Wherever, WhereNewest, open_left, push_left, finish_left, set_left, get_gives}
use Rattle.book.specs.Made.{reopen_left, repush_left, refinish_left, WhereWritten, write_left, load_left}
use Rattle.book.specs.World.{Areas, building, rebuilding, FinishedSet, World, Step, is_accepted, open_leaves, opened_or, push_leaves, finish_leaves, with_index, set_leaves, lookup_step, peek_step}
use Rattle.book.specs.World.{clear_step, probe_step, walk_step, stats_step, reopen_leaves, reopen_step, reuse_leaves, copy_leaves, refinish_leaves, filed_as, write_step, loaded_as, load_step, step}
use Rattle.book.specs.World.{answer_of, answer_from, peeked_from, answered}
use Rattle.hash_parts.specs.declared.duration.Duration.{Duration}

-- ---- open, push, finish

pub make_open : (config : SegmentCacheConfig) (records : ℕ) (arena : List ℕ) (a : Areas) (r : Result SegmentCacheBuilder SegmentCacheBuildError) (index filter : List ℕ)
    → open_result r index filter ≡ after_open config records a.index a.filter a.starts a.lengths arena
    → (w : World)
    → open_left w arena (areas_of index filter a.starts a.lengths) r ≡ step w (opening config records arena a.index a.filter a.starts a.lengths)
make_open config records arena a r index filter e w = go r ∙ ap leaves e
  where
    leaves : Opened → Step
    leaves o = record { after = opened_or w (open_leaves w.files arena a o) o.answer; accepted = is_accepted o.answer }

    go : (r : Result SegmentCacheBuilder SegmentCacheBuildError) → open_left w arena (areas_of index filter a.starts a.lengths) r ≡ leaves (open_result r index filter)
    go (Ok x) = refl
    go (Err e) = refl

module _ (b : SegmentCacheBuilder) (a : Areas) (arena : List ℕ) where
  abbrev Built : List FinishedSet → List (List ℕ) → World
  Built sets files = world_of arena (building b a) sets files

  pub make_push : (h : ℕ) (key value : List ℕ) (ttl : Option Duration) (r : Result PushedRecord SegmentCacheBuildError) (n : SegmentCacheBuilder) (index filter after : List ℕ)
      → push_result r n index filter after ≡ after_push b h key value ttl a.index a.filter arena
      → (sets : List FinishedSet) (files : List (List ℕ)) → push_left sets files after (areas_of index filter a.starts a.lengths) n r ≡ step (Built sets files) (push key value h ttl)
  make_push h key value ttl r n index filter after e sets files = go r ∙ ap (push_leaves (Built sets files) a) e
    where
      go : (r : Result PushedRecord SegmentCacheBuildError)
          → push_left sets files after (areas_of index filter a.starts a.lengths) n r ≡ push_leaves (Built sets files) a (push_result r n index filter after)
      go (Ok x) = refl
      go (Err e) = refl

  pub make_finish : (target : ℕ) (scratch : List ℕ) (r : Result FrozenSegmentCache SegmentCacheBuildError) (index starts lengths used : List ℕ)
      → finish_result r b index starts lengths used ≡ after_finish b target a.index a.starts a.lengths scratch arena
      → (sets : List FinishedSet) (files : List (List ℕ)) → finish_left sets files arena (areas_of index a.filter starts lengths) b r ≡ step (Built sets files) (finish target scratch)
  make_finish target scratch r index starts lengths used e sets files = go r ∙ ap (finish_leaves (Built sets files) a) e
    where
      go : (r : Result FrozenSegmentCache SegmentCacheBuildError)
          → finish_left sets files arena (areas_of index a.filter starts lengths) b r ≡ finish_leaves (Built sets files) a (finish_result r b index starts lengths used)
      go (Ok x) = refl
      go (Err e) = refl

-- ---- calls on a finished set

-- what is answered is accepted; `back` is what a refusal leaves
took : {A B : Type 0} (back : B) (r : Result A SegmentCacheBuildError) → is_ok r ≡ is_accepted (reply_of back r)
took back (Ok a) = refl
took back (Err e) = refl

gave : (arena : List ℕ) (r : Result (Option Span) SegmentCacheBuildError) → get_gives arena r ≡ answer_of arena (get_reply r) ∷ []
gave arena (Ok (Some span)) = refl
gave arena (Ok None) = refl
gave arena (Err e) = refl

module _ (s : FinishedSet) (arena : List ℕ) where
  pub make_lookup : (h : ℕ) (key : List ℕ) (tick : ℕ) (r : Result (Option Span) SegmentCacheBuildError) (index : List ℕ)
      → get_result r index ≡ after_get s.cache h key tick s.areas.index s.areas.filter s.areas.starts s.areas.lengths arena
      → Wherever s arena (λ w j. set_left w j (with_index s index) (is_ok r) ≡ step w (lookup j key h tick))
  make_lookup h key tick r index e current sets files j q =
      let w : World = world_of arena current sets files in
      ap (set_left w j (with_index s index)) (took tt r)
      ∙ ap (λ (g : Got). set_leaves w j s g.index (is_accepted g.answer)) e
      ∙ ap (λ (o : Option FinishedSet). lookup_step w j o key h tick) (sym q)

  pub lookup_gives : (h : ℕ) (key : List ℕ) (tick : ℕ) (r : Result (Option Span) SegmentCacheBuildError) (index : List ℕ)
      → get_result r index ≡ after_get s.cache h key tick s.areas.index s.areas.filter s.areas.starts s.areas.lengths arena
      → Wherever s arena (λ w j. get_gives arena r ≡ answered w (lookup j key h tick))
  lookup_gives h key tick r index e current sets files j q =
      gave arena r
      ∙ ap (λ (g : Got). answer_of arena g.answer ∷ []) e
      ∙ ap (λ (o : Option FinishedSet). answer_from (world_of arena current sets files) o key h tick ∷ []) (sym q)

  pub make_peek : (h : ℕ) (key : List ℕ) (tick : ℕ) (r : Result (Option Span) SegmentCacheBuildError) (index : List ℕ)
      → get_result r index ≡ after_peek s.cache h key tick s.areas.index s.areas.filter s.areas.starts s.areas.lengths arena
      → Wherever s arena (λ w j. set_left w j (with_index s index) (is_ok r) ≡ step w (peek j key h tick))
  make_peek h key tick r index e current sets files j q =
      let w : World = world_of arena current sets files in
      ap (set_left w j (with_index s index)) (took tt r)
      ∙ ap (λ (g : Got). set_leaves w j s g.index (is_accepted g.answer)) e
      ∙ ap (λ (o : Option FinishedSet). peek_step w j o key h tick) (sym q)

  pub peek_gives : (h : ℕ) (key : List ℕ) (tick : ℕ) (r : Result (Option Span) SegmentCacheBuildError) (index : List ℕ)
      → get_result r index ≡ after_peek s.cache h key tick s.areas.index s.areas.filter s.areas.starts s.areas.lengths arena
      → Wherever s arena (λ w j. get_gives arena r ≡ answered w (peek j key h tick))
  peek_gives h key tick r index e current sets files j q =
      gave arena r
      ∙ ap (λ (g : Got). answer_of arena g.answer ∷ []) e
      ∙ ap (λ (o : Option FinishedSet). peeked_from (world_of arena current sets files) o key h tick ∷ []) (sym q)

  pub make_clear : (h : ℕ) (key : List ℕ) (r : Result Bool SegmentCacheBuildError) (index : List ℕ)
      → take_result r index ≡ after_take s.cache h key s.areas.index s.areas.filter s.areas.starts s.areas.lengths arena
      → Wherever s arena (λ w j. set_left w j (with_index s index) (is_ok r) ≡ step w (clear j key h))
  make_clear h key r index e current sets files j q =
      let w : World = world_of arena current sets files in
      ap (set_left w j (with_index s index)) (took tt r)
      ∙ ap (λ (g : Taken). set_leaves w j s g.index (is_accepted g.answer)) e
      ∙ ap (λ (o : Option FinishedSet). clear_step w j o key h) (sym q)

  pub make_probe : (h : ℕ) (key : List ℕ) (tick : ℕ) (r : Result (Option SegmentBaseRecord) SegmentCacheBuildError)
      → probe_reply r ≡ probe_answer s.cache h key tick s.areas.index s.areas.filter s.areas.starts s.areas.lengths arena
      → Wherever s arena (λ w j. left (is_ok r) w ≡ step w (probe j key h tick))
  make_probe h key tick r e current sets files j q =
      let w : World = world_of arena current sets files in
      ap (λ (t : Bool). left t w) (took tt r ∙ ap is_accepted e) ∙ ap (λ (o : Option FinishedSet). probe_step w o key h tick) (sym q)

  pub make_walk : (from tick : ℕ) (r : Result (Option SegmentBaseRecord) SegmentCacheBuildError)
      → walk_reply r ≡ walk_answer s.cache from tick s.areas.index s.areas.starts s.areas.lengths arena
      → Wherever s arena (λ w j. left (is_ok r) w ≡ step w (walk j from tick))
  make_walk from tick r e current sets files j q =
      let w : World = world_of arena current sets files in
      ap (λ (t : Bool). left t w) (took tt r ∙ ap is_accepted e) ∙ ap (λ (o : Option FinishedSet). walk_step w o from tick) (sym q)

  pub make_stats : (r : Result SegmentCacheStats SegmentCacheBuildError) → stats_reply r ≡ stats_answer s.cache → Wherever s arena (λ w j. left (is_ok r) w ≡ step w (stats j))
  make_stats r e current sets files j q =
      let w : World = world_of arena current sets files in
      ap (λ (t : Bool). left t w) (took tt r ∙ ap is_accepted e) ∙ ap (stats_step w) (sym q)

-- ---- rebuilds

pub make_reopen : (s : FinishedSet) (arena : List ℕ) (records copied : ℕ) (flags : List ℕ) (tick : ℕ)
    (a : Areas) (r : Result SharedSegmentCacheBuilder SegmentCacheBuildError) (index filter starts lengths : List ℕ)
    → rebuild_open_result r s.cache index filter starts lengths
    ≡ after_rebuild_open s.cache s.areas.starts s.areas.lengths arena records copied flags tick a.index a.filter a.starts a.lengths
    → WhereNewest s arena
    (λ w. reopen_left w (areas_of index filter starts lengths) r ≡ step w (reopen records copied flags tick a.index a.filter a.starts a.lengths))
make_reopen s arena records copied flags tick a r index filter starts lengths e current sets files q =
    go r ∙ ap (reopen_leaves w) e ∙ ap (λ (o : Option FinishedSet). reopen_step w o records copied flags tick a.index a.filter a.starts a.lengths) (sym q)
  where
    w : World
    w = world_of arena current sets files

    go : (r : Result SharedSegmentCacheBuilder SegmentCacheBuildError)
        → reopen_left w (areas_of index filter starts lengths) r ≡ reopen_leaves w (rebuild_open_result r s.cache index filter starts lengths)
    go (Ok x) = refl
    go (Err e) = refl

module _ (b : SharedSegmentCacheBuilder) (a : Areas) (arena : List ℕ) where
  abbrev Rebuilt : List FinishedSet → List (List ℕ) → World
  Rebuilt sets files = world_of arena (rebuilding b a) sets files

  pub make_reuse : (h : ℕ) (key value : List ℕ) (at : SegmentRecordLocation) (r : Result PushedRecord SegmentCacheBuildError) (n : SharedSegmentCacheBuilder) (index filter : List ℕ)
      → reused_result r n index filter ≡ after_reused b h key value at a.index a.filter a.starts a.lengths arena
      → (sets : List FinishedSet) (files : List (List ℕ))
      → repush_left sets files arena (areas_of index filter a.starts a.lengths) n r ≡ step (Rebuilt sets files) (reuse key value h at.location at.header_bytes)
  make_reuse h key value at r n index filter e sets files = go r ∙ ap (reuse_leaves (Rebuilt sets files) a) e
    where
      go : (r : Result PushedRecord SegmentCacheBuildError)
          → repush_left sets files arena (areas_of index filter a.starts a.lengths) n r ≡ reuse_leaves (Rebuilt sets files) a (reused_result r n index filter)
      go (Ok x) = refl
      go (Err e) = refl

  pub make_copy : (h : ℕ) (key value : List ℕ) (ttl : Option Duration) (r : Result PushedRecord SegmentCacheBuildError) (n : SharedSegmentCacheBuilder) (index filter after : List ℕ)
      → copied_result r n index filter after ≡ after_copied b h key value ttl a.index a.filter a.starts a.lengths arena
      → (sets : List FinishedSet) (files : List (List ℕ)) → repush_left sets files after (areas_of index filter a.starts a.lengths) n r ≡ step (Rebuilt sets files) (copy key value h ttl)
  make_copy h key value ttl r n index filter after e sets files = go r ∙ ap (copy_leaves (Rebuilt sets files) a) e
    where
      go : (r : Result PushedRecord SegmentCacheBuildError)
          → repush_left sets files after (areas_of index filter a.starts a.lengths) n r ≡ copy_leaves (Rebuilt sets files) a (copied_result r n index filter after)
      go (Ok x) = refl
      go (Err e) = refl

  pub make_refinish : (scratch : List ℕ) (r : Result SharedSegmentCacheBuild SegmentCacheBuildError) (index starts lengths used : List ℕ)
      → rebuild_finish_result r b index starts lengths used ≡ after_rebuild_finish b a.index a.starts a.lengths scratch arena
      → (sets : List FinishedSet) (files : List (List ℕ)) → refinish_left sets files arena (areas_of index a.filter starts lengths) b r ≡ step (Rebuilt sets files) (refinish scratch)
  make_refinish scratch r index starts lengths used e sets files = go r ∙ ap (refinish_leaves (Rebuilt sets files) a) e
    where
      go : (r : Result SharedSegmentCacheBuild SegmentCacheBuildError)
          → refinish_left sets files arena (areas_of index a.filter starts lengths) b r ≡ refinish_leaves (Rebuilt sets files) a (rebuild_finish_result r b index starts lengths used)
      go (Ok x) = refl
      go (Err e) = refl

-- ---- files

pub make_write : (s : FinishedSet) (arena out : List ℕ) (r : Result ℕ SegmentCacheBuildError) (file : List ℕ)
    → write_result r file ≡ after_write s.cache s.areas.index s.areas.filter s.areas.starts s.areas.lengths arena out
    → Wherever s arena (λ w j. write_left w file r ≡ step w (write j out))
make_write s arena out r file e current sets files j q = go r ∙ ap leaves e ∙ ap (λ (o : Option FinishedSet). write_step w o out) (sym q)
  where
    w : World
    w = world_of arena current sets files

    leaves : FileWritten → Step
    leaves f = record { after = filed_as w f.file f.answer; accepted = is_accepted f.answer }

    go : (r : Result ℕ SegmentCacheBuildError) → write_left w file r ≡ leaves (write_result r file)
    go (Ok x) = refl
    go (Err e) = refl

pub make_load : (file arena : List ℕ) (a : Areas) (r : Result FrozenSegmentCache SegmentCacheBuildError) (index filter starts lengths after : List ℕ)
    → load_result r index filter starts lengths after ≡ after_load file a.index a.filter a.starts a.lengths arena
    → WhereWritten file (λ w i. load_left w after (areas_of index filter starts lengths) r ≡ step w (load i arena a.index a.filter a.starts a.lengths))
make_load file arena a r index filter starts lengths after e w i q = go r ∙ ap leaves e ∙ ap (λ (o : Option (List ℕ)). load_step w o arena a) (sym q)
  where
    leaves : Loaded → Step
    leaves o = record { after = loaded_as w o o.answer; accepted = is_accepted o.answer }

    go : (r : Result FrozenSegmentCache SegmentCacheBuildError) → load_left w after (areas_of index filter starts lengths) r ≡ leaves (load_result r index filter starts lengths after)
    go (Ok x) = refl
    go (Err e) = refl
