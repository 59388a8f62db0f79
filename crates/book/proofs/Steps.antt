-- Every call keeps the relation of world and book, and a lookup's answer is the book's. Assumes nothing.
use Rattle.std.specs.Prelude.{None, Option, Some, slice_get}
use mathlib.Core.Path.{◌≡◌, refl, sym, ap, ◌∙◌}
use mathlib.Core.Bool.{Bool, true, false, cond}
use mathlib.Core.List.{List, [], ◌∷◌, Forall₂}
use Prim.Native.Nat.{ℕ, ◌^◌, ◌≤◌, ◌<◌}
use native.Mathlib.Omega.{arith}
use lib.ListN.{length}
use Rattle.hash_parts.specs.Duration.{encoded_expiry}
use Rattle.hash_parts.specs.declared.setting.SegmentCacheConfig.{SegmentCacheConfig}
use Rattle.hash_parts.specs.declared.setting.SegmentExpiry.{SegmentExpiry}
use Rattle.records.specs.Area.{pasted}
use Rattle.records.specs.Record.{record_bytes, record_size}
use Rattle.records.proofs.Parts.{size_is}
use Rattle.index.proofs.Kept.{cleared_indexed}
use Rattle.index.proofs.Filling.{over_padded_length}
use Rattle.sets.specs.Lookup.{after_peek, areas_hold_lookup}
use Rattle.sets.specs.Answers.{Reply, accept, refuse, Placed}
use Rattle.sets.specs.Build.{after_open, Opened, Pushed, Finished}
use Rattle.sets.specs.Questions.{buckets_in, filter_words_in}
use Rattle.sets.specs.Rebuild.{segments_inside}
use Rattle.sets.specs.declared.builder.SegmentCacheBuilder.{SegmentCacheBuilder}
use Rattle.sets.specs.declared.cache.FrozenSegmentCache.{FrozenSegmentCache}
use Rattle.sets.proofs.Accepted.{OpenCase, open_made, open_refused, open_case, PushCase, push_made_law, push_refused_law}
use Rattle.sets.proofs.Accepted.{push_case, FinishCase, finish_made_law, finish_many, finish_refused_law, finish_case}
use Rattle.sets.proofs.Closure.{builder_passes, builder_lengths, builder_filter_holds, open_passes, push_passes, finish_passes}
use Rattle.sets.proofs.SourceClosure.{finish_inside}
use Rattle.files.specs.Typed.{Typed}
use Rattle.book.specs.Book.{ListedSet, ListedFile, Book, book_starts, blank, anew, filed, unfiled, joined, closed, filled_in, heard, reply_from, replied}
use Rattle.book.specs.Calls.{Call, opening, push, finish, lookup, peek, clear, probe, walk, stats, reopen, reuse, copy, refinish, write, load, bare, bytes_in, Answer, newest}
use Rattle.book.specs.World.{Areas, Current, idle, building, rebuilding, FinishedSet, World, is_accepted}
use Rattle.book.specs.World.{unopened, open_leaves, opened_or, opening_step, push_leaves, push_step, finish_leaves}
use Rattle.book.specs.World.{finish_step, lookup_step, peek_step, clear_step, probe_step, walk_step, stats_step, write_in}
use Rattle.book.specs.World.{filed_as, write_step, load_in, loaded_as, load_step, step, answer_from}
use Rattle.book.specs.World.{peeked_from, answered}
use Rattle.book.proofs.Appending.{appended, joins}
use Rattle.book.proofs.Asking.{set_answer, set_got, set_taken}
use Rattle.book.proofs.Closing.{builder_finish}
use Rattle.book.proofs.Loads.{loads}
use Rattle.book.proofs.Pairs.{Both, both_none, both_some, pairs_get, pairs_put, pairs_snoc}
use Rattle.book.proofs.Pushing.{new_back, builder_push}
use Rattle.book.proofs.RebuildSteps.{reopen_holds, reuse_holds, copy_holds, refinish_holds}
use Rattle.book.proofs.Relation.{SetHolds, FileHolds, CurrentHolds, is_idle, is_building, is_rebuilding, Holds}
use Rattle.book.proofs.Standing.{every_nil}
use Rattle.hash_parts.specs.declared.duration.Duration.{Duration}

-- a call that the book notes nothing of
pub same_heard : (k : Book) (t : Bool) → cond t k k ≡ k
same_heard k true = refl
same_heard k false = refl

-- an open builder or rebuild does not depend on the files
current_filed : (H : List ℕ → ℕ) {arena : ℕ} {k : Book} {written : List ListedFile} (c : Current) → CurrentHolds H arena k c
    → CurrentHolds H arena (record { expiry = k.expiry; tape = k.tape; list = k.list; tick = k.tick; kept = k.kept; sets = k.sets; written = written }) c
current_filed H idle is_idle = is_idle
current_filed H (building b a) (is_building y) =
    is_building record { typed = y.typed; expiry = y.expiry; filled = y.filled; passes = y.passes; below = y.below; index = y.index }
current_filed H (rebuilding r a) (is_rebuilding y) =
    is_rebuilding
    record {
      typed = y.typed;
      expiry = y.expiry;
      base = y.base;
      filled = y.filled;
      tick = y.tick;
      passes = y.passes;
      sums = y.sums;
      kept = y.kept;
      sourced = y.sourced;
      index = y.index;
    }

module _ (H : List ℕ → ℕ) where
  -- ---- push

  push_holds : (w : World) (k : Book) → Holds H w k → (c : Current) → CurrentHolds H (length w.arena) k c → (key value : List ℕ) (h : ℕ) (ttl : Option Duration) → h ≡ H key → h < 2 ^ 64
      → Holds H (push_step w c key value h ttl).after (heard k (push key value h ttl, (push_step w c key value h ttl).accepted))
  push_holds w k m idle ok key value h ttl hash bound = m
  push_holds w k m (rebuilding r a) ok key value h ttl hash bound = m
  push_holds w k m (building b a) (is_building ok) key value h ttl hash bound =
      go (push_case b h key value ttl a.index a.filter w.arena) (λ p e. push_passes b h key value ttl a.index a.filter w.arena p e (length a.starts)
      (length a.lengths) (builder_lengths b _ _ _ _ _ ok.passes))
    where
      x : SegmentExpiry
      x = k.expiry

      d : ℕ
      d = (encoded_expiry x ttl 0).value

      go : {r : Pushed} → PushCase b h key value ttl a.index a.filter w.arena r
          → ((p : Placed) → r.answer ≡ accept p → builder_passes p.builder (length r.index) (length r.filter) (length a.starts) (length a.lengths) (length r.arena) ≡ true)
          → Holds H (push_leaves w a r).after (cond (is_accepted r.answer) (joined k key value d) k)
      go (push_refused_law n) passes = record { memory = m.memory; top = m.top; current = is_building ok; sets = m.sets; files = m.files }
      go (push_made_law acc) passes =
          let bytes : List ℕ = record_bytes b.config.expiry key value (encoded_expiry b.config.expiry ttl 0).value in
          let size : ℕ = record_size b.config.expiry (length key) (length value) in
          let content : bytes ≡ record_bytes x key value d = ap (λ (y : SegmentExpiry). record_bytes y key value (encoded_expiry y ttl 0).value) ok.expiry in
          let long : size ≡ length bytes = sym (size_is b.config.expiry key value (encoded_expiry b.config.expiry ttl 0).value) in
          let number : (encoded_expiry x ttl 0).number ≡ 0 = ap (λ (y : SegmentExpiry). (encoded_expiry y ttl 0).number) (sym ok.expiry) ∙ acc.deadline in
          let small : record_size x (length key) (length value) ≤ 1_073_741_824 =
          rw (← ok.expiry) (omega (arith, acc.fits, acc.areas.arena_short)) in
          appended H w k m b.filled bytes key value d ok.filled content (omega (arith, acc.fits)) _
          (is_building
          (builder_push H b a w.arena k ok key value h _ d size (length (pasted b.filled bytes w.arena)) hash bound acc.place (new_back x key value ttl 0 number small)
          (long ∙ ap length content)
          (omega (arith, acc.areas.filled_held, acc.areas.arena_short)) (passes _ refl)))

  -- ---- finish

  finish_holds : (w : World) (k : Book) → Holds H w k → (c : Current) → CurrentHolds H (length w.arena) k c → (target : ℕ) (scratch : List ℕ)
      → Holds H (finish_step w c target scratch).after (heard k (finish target tt, (finish_step w c target scratch).accepted))
  finish_holds w k m idle ok target scratch = m
  finish_holds w k m (rebuilding r a) ok target scratch = m
  finish_holds w k m (building b a) (is_building ok) target scratch =
      go (finish_case b target a.index a.starts a.lengths scratch w.arena)
      (λ s e. finish_passes b target a.index a.starts a.lengths scratch w.arena s e (length a.filter) (builder_filter_holds b _ _ _ _ _ ok.passes))
      (finish_inside b target a.index a.starts a.lengths scratch w.arena)
    where
      go : {f : Finished} → FinishCase b target a.index a.starts a.lengths scratch w.arena f
          → ((s : FrozenSegmentCache) → f.answer ≡ accept s → areas_hold_lookup s (length f.index) (length a.filter) (length f.starts) (length f.lengths) (length w.arena) ≡ true)
          → ((s : FrozenSegmentCache) → f.answer ≡ accept s → segments_inside s.segments s.filled f.starts f.lengths ≡ true)
          → Holds H (finish_leaves w a f).after (cond (is_accepted f.answer) (closed k (book_starts (length k.tape) target k.list)) k)
      go (finish_refused_law n) passes inside = record { memory = m.memory; top = m.top; current = is_building ok; sets = m.sets; files = m.files }
      go (finish_many asked) passes inside =
          record {
            memory = m.memory;
            top = m.top;
            current =
                is_building
                record {
                  typed = ok.typed;
                  expiry = ok.expiry;
                  filled = ok.filled;
                  passes =
                      ap (λ (n : ℕ). builder_passes b (length a.index) (length a.filter) n (length a.lengths) (length w.arena)) (over_padded_length _ a.starts asked.starts_hold)
                      ∙ ok.passes;
                  below = ok.below;
                  index = ok.index;
                };
            sets = m.sets;
            files = m.files;
          }
      go (finish_made_law asked few) passes inside = joins H w k m _ _ (builder_finish H b a w.arena scratch target k ok asked few m.memory (passes _ refl) (inside _ refl))

  -- ---- lookup, peek, mark clearing

  lookup_holds : (w : World) (k : Book) → Holds H w k → (j : ℕ) (o : Option FinishedSet) → slice_get w.sets j ≡ o → (key : List ℕ) (h tick : ℕ) → h < 2 ^ 64
      → Holds H (lookup_step w j o key h tick).after k
  lookup_holds w k m j None e key h tick bound = m
  lookup_holds w k m j (Some s) e key h tick bound =
      record {
        memory = m.memory;
        top = m.top;
        current = m.current;
        sets = pairs_put j s _ e (λ l ok. set_got H k.expiry w.arena (filled_in (newest k.sets)) s l ok key h bound tick) m.sets;
        files = m.files;
      }

  peek_holds : (w : World) (k : Book) → Holds H w k → (j : ℕ) (o : Option FinishedSet) → slice_get w.sets j ≡ o → (key : List ℕ) (h tick : ℕ)
      → Holds H (peek_step w j o key h tick).after k
  unfolding after_peek
  peek_holds w k m j None e key h tick = m
  peek_holds w k m j (Some s) e key h tick =
      record { memory = m.memory; top = m.top; current = m.current; sets = pairs_put j s _ e (λ l ok. ok) m.sets; files = m.files }

  clear_holds : (w : World) (k : Book) → Holds H w k → (j : ℕ) (o : Option FinishedSet) → slice_get w.sets j ≡ o → (key : List ℕ) (h : ℕ) → h < 2 ^ 64
      → Holds H (clear_step w j o key h).after k
  clear_holds w k m j None e key h bound = m
  clear_holds w k m j (Some s) e key h bound =
      record {
        memory = m.memory;
        top = m.top;
        current = m.current;
        sets = pairs_put j s _ e (λ l ok. set_taken H k.expiry w.arena (filled_in (newest k.sets)) s l ok key h bound) m.sets;
        files = m.files;
      }

  -- ---- probe, walk, statistics

  probe_holds : (w : World) (k : Book) → Holds H w k → (o : Option FinishedSet) (key : List ℕ) (h tick : ℕ) → Holds H (probe_step w o key h tick).after k
  probe_holds w k m None key h tick = m
  probe_holds w k m (Some s) key h tick = m

  walk_holds : (w : World) (k : Book) → Holds H w k → (o : Option FinishedSet) (slot tick : ℕ) → Holds H (walk_step w o slot tick).after k
  walk_holds w k m None slot tick = m
  walk_holds w k m (Some s) slot tick = m

  stats_holds : (w : World) (k : Book) → Holds H w k → (o : Option FinishedSet) → Holds H (stats_step w o).after k
  stats_holds w k m None = m
  stats_holds w k m (Some s) = m

  -- ---- answers

  answer_is : (w : World) (x : SegmentExpiry) (top : ℕ) {o : Option FinishedSet} {p : Option ListedSet} → Both (SetHolds H x w.arena top) o p → (key : List ℕ) (h tick : ℕ) → h ≡ H key → h < 2 ^ 64
      → answer_from w o key h tick ≡ reply_from p key tick
  answer_is w x top both_none key h tick hash bound = refl
  answer_is w x top (both_some {a = s} {b = l} ok) key h tick hash bound = set_answer H x w.arena top s l ok key h hash bound tick

  peek_is : (w : World) (x : SegmentExpiry) (top : ℕ) {o : Option FinishedSet} {p : Option ListedSet} → Both (SetHolds H x w.arena top) o p → (key : List ℕ) (h tick : ℕ) → h ≡ H key → h < 2 ^ 64
      → peeked_from w o key h tick ≡ reply_from p key tick
  unfolding after_peek
  peek_is w x top both_none key h tick hash bound = refl
  peek_is w x top (both_some {a = s} {b = l} ok) key h tick hash bound = set_answer H x w.arena top s l ok key h hash bound tick

  -- ---- open; the files stay

  pub unopened_holds : (arena : List ℕ) (config : SegmentCacheConfig) → Holds H (unopened arena) (blank config)
  unopened_holds arena config = record { memory = refl; top = omega arith; current = is_idle; sets = Forall₂.nil; files = Forall₂.nil }

  open_holds : (files : List (List ℕ)) (k : Book) → Forall₂ (FileHolds H) files k.written → (config : SegmentCacheConfig) → Typed config → (records : ℕ) (arena : List ℕ) (a : Areas)
      → Holds H (open_leaves files arena a (after_open config records a.index a.filter a.starts a.lengths arena)) (anew k config)
  open_holds files k fs config typed records arena a =
      go (open_case config records a.index a.filter a.starts a.lengths arena) (open_passes config records a.index a.filter a.starts a.lengths arena)
    where
      go : {o : Opened} → OpenCase config records a.index a.filter a.starts a.lengths arena o
          → ((b : SegmentCacheBuilder) → o.answer ≡ accept b → builder_passes b (length o.index) (length o.filter) (length a.starts) (length a.lengths) (length arena) ≡ true)
          → Holds H (open_leaves files arena a o) (anew k config)
      go (open_refused n) passes = record { memory = refl; top = omega arith; current = is_idle; sets = Forall₂.nil; files = fs }
      go (open_made acc) passes =
          record {
            memory = refl;
            top = omega arith;
            current =
                is_building
                record {
                  typed = typed;
                  expiry = refl;
                  filled = refl;
                  passes = passes _ refl;
                  below = every_nil;
                  index = cleared_indexed (buckets_in config records) a.index _ (filter_words_in config records) acc.index_holds;
                };
            sets = Forall₂.nil;
            files = fs;
          }

  opening_holds : (w : World) (k : Book) → Holds H w k → (config : SegmentCacheConfig) → Typed config → (records : ℕ) (arena : List ℕ) (a : Areas)
      → Holds H (opening_step w config records arena a).after (cond (opening_step w config records arena a).accepted (anew k config) k)
  opening_holds w k m config typed records arena a = go (after_open config records a.index a.filter a.starts a.lengths arena).answer
    where
      go : (r : Reply SegmentCacheBuilder (Unit {0}))
          → Holds H (opened_or w (open_leaves w.files arena a (after_open config records a.index a.filter a.starts a.lengths arena)) r) (cond (is_accepted r) (anew k config) k)
      go (accept b) = open_holds w.files k m.files config typed records arena a
      go (refuse n u) = m

  -- ---- write and load

  write_holds : (w : World) (k : Book) → Holds H w k → {o : Option FinishedSet} {p : Option ListedSet} → Both (SetHolds H k.expiry w.arena (filled_in (newest k.sets))) o p → (out : List ℕ)
      → Holds H (write_step w o out).after (cond (write_step w o out).accepted (filed k p) k)
  write_holds w k m both_none out = m
  write_holds w k m (both_some {a = s} {b = l} ok) out = go (write_in w s out).answer refl
    where
      go : (r : Reply ℕ (Unit {0})) → (write_in w s out).answer ≡ r → Holds H (filed_as w (write_in w s out).file r) (cond (is_accepted r) (filed k (Some l)) k)
      go (refuse n u) e = m
      go (accept n) e =
          record {
            memory = m.memory;
            top = m.top;
            current = current_filed H w.current m.current;
            sets = m.sets;
            files =
                pairs_snoc m.files
                record { arena = w.arena; top = filled_in (newest k.sets); source = s; listed = l; holds = ok; list = refl; out = out; size = n; accepted = e; made = refl };
          }

  load_holds : ((key : List ℕ) → H key < 2 ^ 64) → (w : World) (k : Book) → Holds H w k → {o : Option (List ℕ)} {p : Option ListedFile} → Both (FileHolds H) o p → (arena : List ℕ) (a : Areas)
      → Holds H (load_step w o arena a).after (cond (load_step w o arena a).accepted (unfiled k p (bytes_in o)) k)
  load_holds below w k m both_none arena a = m
  load_holds below w k m (both_some {a = file} {b = l} ok) arena a = go (load_in file arena a).answer refl
    where
      go : (r : Reply FrozenSegmentCache (Unit {0})) → (load_in file arena a).answer ≡ r → Holds H (loaded_as w (load_in file arena a) r) (cond (is_accepted r) (unfiled k (Some l) file) k)
      go (refuse n u) e = m
      go (accept s) e =
          let y = loads H below file l ok arena a s e in
          record { memory = y.memory; top = omega arith; current = is_idle; sets = Forall₂.cons y.holds Forall₂.nil; files = m.files }

  -- ---- any call

  -- the call carries its key's hash, of 64 bits, or its setting is one of its type
  abbrev pub Hashed : Call (List ℕ) ℕ → Type 0
  Hashed (opening config records arena index filter starts lengths) = Typed config
  Hashed (push key value h ttl) = (h ≡ H key) × (h < 2 ^ 64)
  Hashed (finish target scratch) = Unit {0}
  Hashed (lookup j key h tick) = (h ≡ H key) × (h < 2 ^ 64)
  Hashed (peek j key h tick) = (h ≡ H key) × (h < 2 ^ 64)
  Hashed (clear j key h) = (h ≡ H key) × (h < 2 ^ 64)
  Hashed (probe j key h tick) = Unit {0}
  Hashed (walk j slot tick) = Unit {0}
  Hashed (stats j) = Unit {0}
  Hashed (reopen records copied flags tick index filter starts lengths) = Unit {0}
  Hashed (reuse key value h location header) = (h ≡ H key) × (h < 2 ^ 64)
  Hashed (copy key value h ttl) = (h ≡ H key) × (h < 2 ^ 64)
  Hashed (refinish scratch) = Unit {0}
  Hashed (write j out) = Unit {0}
  Hashed (load i arena index filter starts lengths) = Unit {0}

  pub step_holds : ((key : List ℕ) → H key < 2 ^ 64) → (w : World) (k : Book) → Holds H w k → (c : Call (List ℕ) ℕ) → Hashed c
      → Holds H (step w c).after (heard k (bare w.files c, (step w c).accepted))
  step_holds below w k m (opening config records arena index filter starts lengths) hs =
      opening_holds w k m config hs records arena record { index = index; filter = filter; starts = starts; lengths = lengths }
  step_holds below w k m (push key value h ttl) hs = push_holds w k m w.current m.current key value h ttl hs.0 hs.1
  step_holds below w k m (finish target scratch) hs = finish_holds w k m w.current m.current target scratch
  step_holds below w k m (lookup j key h tick) hs =
      rw (same_heard k (lookup_step w j (slice_get w.sets j) key h tick).accepted) (lookup_holds w k m j (slice_get w.sets j) refl key h tick hs.1)
  step_holds below w k m (peek j key h tick) hs =
      rw (same_heard k (peek_step w j (slice_get w.sets j) key h tick).accepted) (peek_holds w k m j (slice_get w.sets j) refl key h tick)
  step_holds below w k m (clear j key h) hs = rw (same_heard k (clear_step w j (slice_get w.sets j) key h).accepted) (clear_holds w k m j (slice_get w.sets j) refl key h hs.1)
  step_holds below w k m (probe j key h tick) hs =
      rw (same_heard k (probe_step w (slice_get w.sets j) key h tick).accepted) (probe_holds w k m (slice_get w.sets j) key h tick)
  step_holds below w k m (walk j slot tick) hs = rw (same_heard k (walk_step w (slice_get w.sets j) slot tick).accepted) (walk_holds w k m (slice_get w.sets j) slot tick)
  step_holds below w k m (stats j) hs = rw (same_heard k (stats_step w (slice_get w.sets j)).accepted) (stats_holds w k m (slice_get w.sets j))
  step_holds below w k m (reopen records copied flags tick index filter starts lengths) hs = reopen_holds H w k m records copied flags tick index filter starts lengths
  step_holds below w k m (reuse key value h location header) hs =
      reuse_holds H w k m w.current m.current key value h record { location = location; header_bytes = header } hs.0 hs.1
  step_holds below w k m (copy key value h ttl) hs = copy_holds H w k m w.current m.current key value h ttl hs.0 hs.1
  step_holds below w k m (refinish scratch) hs = refinish_holds H w k m w.current m.current scratch
  step_holds below w k m (write j out) hs = write_holds w k m (pairs_get j m.sets) out
  step_holds below w k m (load i arena index filter starts lengths) hs =
      load_holds below w k m (pairs_get i m.files) arena record { index = index; filter = filter; starts = starts; lengths = lengths }

  pub answer_holds : (w : World) (k : Book) → Holds H w k → (c : Call (List ℕ) ℕ) → Hashed c → answered w c ≡ replied k (bare w.files c)
  answer_holds w k m (opening config records arena index filter starts lengths) hs = refl
  answer_holds w k m (push key value h ttl) hs = refl
  answer_holds w k m (finish target scratch) hs = refl
  answer_holds w k m (lookup j key h tick) hs = ap (λ (y : Answer). y ∷ []) (answer_is w k.expiry (filled_in (newest k.sets)) (pairs_get j m.sets) key h tick hs.0 hs.1)
  answer_holds w k m (peek j key h tick) hs = ap (λ (y : Answer). y ∷ []) (peek_is w k.expiry (filled_in (newest k.sets)) (pairs_get j m.sets) key h tick hs.0 hs.1)
  answer_holds w k m (clear j key h) hs = refl
  answer_holds w k m (probe j key h tick) hs = refl
  answer_holds w k m (walk j slot tick) hs = refl
  answer_holds w k m (stats j) hs = refl
  answer_holds w k m (reopen records copied flags tick index filter starts lengths) hs = refl
  answer_holds w k m (reuse key value h location header) hs = refl
  answer_holds w k m (copy key value h ttl) hs = refl
  answer_holds w k m (refinish scratch) hs = refl
  answer_holds w k m (write j out) hs = refl
  answer_holds w k m (load i arena index filter starts lengths) hs = refl
