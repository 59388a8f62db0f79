-- What else holds of every list of calls: no lookup in a finished set is refused, and segments and tape are the book's. Assumes nothing.
use Rattle.std.specs.Prelude.{None, Option, Some, slice_get}
use mathlib.Core.Path.{◌≡◌, refl, ap₂}
use mathlib.Core.Bool.{Bool, true, false, cond}
use mathlib.Core.List.{List, [], ◌∷◌, ◌++◌, map, Forall₂}
use Prim.Native.Nat.{ℕ, ◌^◌, ◌<◌}
use lib.Dec.{eqb, ltb}
use lib.ListN.{length, take}
use Rattle.hash_parts.specs.declared.setting.SegmentCacheConfig.{SegmentCacheConfig}
use Rattle.hash_parts.specs.declared.setting.SegmentExpiry.{SegmentExpiry}
use Rattle.book.specs.Book.{Entry, ListedSet, Book, blank, heard, book_after, first_of, ruled, reply_from, replied, replies}
use Rattle.book.specs.Calls.{Call, opening, push, finish, lookup, peek, clear, probe, walk, stats, reopen, reuse, copy, refinish, write, load, bare, value, nothing, denied}
use Rattle.book.specs.Premise.{EqualHashes, Hashes64, TypedSettings}
use Rattle.book.specs.World.{FinishedSet, World, unopened, step, world_after, told, answers}
use Rattle.book.proofs.Hashing.{AllHashed, hashed}
use Rattle.book.proofs.Relation.{SetHolds, Holds}
use Rattle.book.proofs.Standing.{Every, every_nil, every_cons}
use Rattle.book.proofs.Steps.{step_holds, unopened_holds}
use Rattle.book.proofs.Theorem.{every_list}

-- ---- refusals

-- the book's rule never says `refused`
never_ruled : (tick : ℕ) (o : Option Entry) → ruled tick o ≡ denied → ⊥
never_ruled tick None e = cc
never_ruled tick (Some d) e = go (eqb d.deadline 65535) (ltb tick d.deadline) e
  where
    go : (never before : Bool) → cond never (value d.value) (cond before (value d.value) nothing) ≡ denied → ⊥
    go true before f = cc
    go false true f = cc
    go false false f = cc

never_from : (o : Option ListedSet) (key : List ℕ) (tick : ℕ) → reply_from o key tick ≡ denied → ⊥
never_from None key tick e = cc
never_from (Some l) key tick e = never_ruled tick (first_of key l.list) e

never_replied : (k : Book) (c : Call (Unit {0}) (ℕ × List ℕ)) → Every (λ y. y ≡ denied → ⊥) (replied k c)
never_replied k (opening config records arena index filter starts lengths) = every_nil
never_replied k (push key v h lifetime) = every_nil
never_replied k (finish target scratch) = every_nil
never_replied k (lookup set key h tick) = every_cons (never_from (slice_get k.sets set) key tick) every_nil
never_replied k (peek set key h tick) = every_cons (never_from (slice_get k.sets set) key tick) every_nil
never_replied k (clear set key h) = every_nil
never_replied k (probe set key h tick) = every_nil
never_replied k (walk set slot tick) = every_nil
never_replied k (stats set) = every_nil
never_replied k (reopen records copied flags tick index filter starts lengths) = every_nil
never_replied k (reuse key v h location header) = every_nil
never_replied k (copy key v h lifetime) = every_nil
never_replied k (refinish scratch) = every_nil
never_replied k (write set file) = every_nil
never_replied k (load file arena index filter starts lengths) = every_nil

every_append : {A : Type 0} {P : A → Type 0} {l m : List A} → Every P l → Every P m → Every P (l ++ m)
every_append every_nil s = s
every_append (every_cons x r) s = every_cons x (every_append r s)

never_in : (k : Book) (ts : List (Call (Unit {0}) (ℕ × List ℕ) × Bool)) → Every (λ y. y ≡ denied → ⊥) (replies k ts)
never_in k [] = every_nil
never_in k (t ∷ ts) = every_append (never_replied k t.0) (never_in (heard k t) ts)

-- no lookup and no peek in a finished set is refused, loaded sets among them
pub no_lookup_refused : (arena : List ℕ) (config : SegmentCacheConfig) (calls : List (Call (List ℕ) ℕ)) → EqualHashes calls → Hashes64 calls → TypedSettings calls
    → Every (λ y. y ≡ denied → ⊥) (answers (unopened arena) calls)
no_lookup_refused arena config calls equal small typed =
    rw (every_list arena config calls equal small typed) (never_in (blank config) (told (unopened arena) calls))

-- ---- segments and tape

module _ (H : List ℕ → ℕ) (below : (key : List ℕ) → H key < 2 ^ 64) where
  pub at_end : (cs : List (Call (List ℕ) ℕ)) (w : World) (k : Book) → Holds H w k → AllHashed H cs → Holds H (world_after w cs) (book_after k (told w cs))
  at_end [] w k m hs = m
  at_end (c ∷ cs) w k m hs = at_end cs (step w c).after (heard k (bare w.files c, (step w c).accepted)) (step_holds H below w k m c hs.0) hs.1

-- the starts of a set's segments, and its filled bytes
abbrev pub segments_of : FinishedSet → List ℕ × ℕ
segments_of s = (take s.cache.segments s.areas.starts, s.cache.filled)

abbrev pub segments_in : ListedSet → List ℕ × ℕ
segments_in l = (l.starts, l.filled)

same_segments : {H : List ℕ → ℕ} {x : SegmentExpiry} {arena : List ℕ} {top : ℕ} {ss : List FinishedSet} {ls : List ListedSet} → Forall₂ (SetHolds H x arena top) ss ls
    → map segments_of ss ≡ map segments_in ls
same_segments Forall₂.nil = refl
same_segments (Forall₂.cons y r) =
    ap₂ (λ (p : List ℕ × ℕ) (l : List (List ℕ × ℕ)). p ∷ l) (ap₂ (λ (starts : List ℕ) (filled : ℕ). (starts, filled)) y.starts y.filled) (same_segments r)

module _ (arena : List ℕ) (config : SegmentCacheConfig) (calls : List (Call (List ℕ) ℕ)) (equal : EqualHashes calls) (small : Hashes64 calls) (typed : TypedSettings calls) where
  last_holds : (H : List ℕ → ℕ) → ((key : List ℕ) → H key < 2 ^ 64) → AllHashed H calls
      → Holds H (world_after (unopened arena) calls) (book_after (blank config) (told (unopened arena) calls))
  last_holds H below hs = at_end H below calls (unopened arena) (blank config) (unopened_holds H arena config) hs

  -- each set's starts and filled bytes are the book's
  pub segments_by_the_book : map segments_of (world_after (unopened arena) calls).sets ≡ map segments_in (book_after (blank config) (told (unopened arena) calls)).sets
  segments_by_the_book = let h = hashed calls equal small typed in same_segments (last_holds h.0 h.1 h.2).sets

  -- and the tape is what the arena begins with
  pub tape_in_arena : take (length (book_after (blank config) (told (unopened arena) calls)).tape) (world_after (unopened arena) calls).arena
      ≡ (book_after (blank config) (told (unopened arena) calls)).tape
  tape_in_arena = let h = hashed calls equal small typed in (last_holds h.0 h.1 h.2).memory
