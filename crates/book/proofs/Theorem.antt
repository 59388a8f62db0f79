-- The claim on whole lists of calls: every lookup and every peek answers by the book. Assumes nothing.
use mathlib.Core.Path.{◌≡◌, refl, ap₂, subst}
use mathlib.Core.List.{List, [], ◌∷◌, ◌++◌}
use Prim.Native.Nat.{ℕ, ◌^◌, ◌<◌}
use Rattle.hash_parts.specs.declared.setting.SegmentCacheConfig.{SegmentCacheConfig}
use Rattle.sets.specs.Answers.{Reply, accept, refuse}
use Rattle.sets.specs.Build.{after_open}
use Rattle.sets.specs.declared.builder.SegmentCacheBuilder.{SegmentCacheBuilder}
use Rattle.files.specs.Typed.{Typed}
use Rattle.book.specs.Book.{Book, blank, heard, replies}
use Rattle.book.specs.Calls.{Call, opening, bare, Answer}
use Rattle.book.specs.Premise.{EqualHashes, Hashes64, TypedSettings}
use Rattle.book.specs.World.{Areas, World, unopened, opened_as, opened, opened_or, step, told, answers}
use Rattle.book.proofs.Hashing.{AllHashed, hashed}
use Rattle.book.proofs.Relation.{Holds}
use Rattle.book.proofs.Steps.{same_heard, step_holds, answer_holds, unopened_holds}

module _ (H : List ℕ → ℕ) (below : (key : List ℕ) → H key < 2 ^ 64) where
  pub in_step : (cs : List (Call (List ℕ) ℕ)) (w : World) (k : Book) → Holds H w k → AllHashed H cs → answers w cs ≡ replies k (told w cs)
  in_step [] w k m hs = refl
  in_step (c ∷ cs) w k m hs =
      ap₂ (λ (x y : List Answer). x ++ y) (answer_holds H w k m c hs.0)
      (in_step cs (step w c).after (heard k (bare w.files c, (step w c).accepted)) (step_holds H below w k m c hs.0) hs.1)

-- For every list of calls whatever, from nothing on, opens, writes and loads among them, refused calls and calls out of turn too: the answers of the lookups
-- and peeks are those by the book, which is fed the calls' arguments and whether each was accepted. Areas and arenas that are lent with a call have any length
-- and content.
pub every_list : (arena : List ℕ) (config : SegmentCacheConfig) (calls : List (Call (List ℕ) ℕ)) → EqualHashes calls → Hashes64 calls → TypedSettings calls
    → answers (unopened arena) calls ≡ replies (blank config) (told (unopened arena) calls)
every_list arena config calls equal small typed =
    let h = hashed calls equal small typed in
    in_step h.0 h.1 calls (unopened arena) (blank config) (unopened_holds h.0 arena config) h.2

-- what a first open leaves, accepted or refused
pub first_open : (config : SegmentCacheConfig) (records : ℕ) (arena : List ℕ) (a : Areas)
    → (step (unopened arena) (opening config records arena a.index a.filter a.starts a.lengths)).after ≡ opened config records arena a
first_open config records arena a = go (after_open config records a.index a.filter a.starts a.lengths arena).answer
  where
    left : Reply SegmentCacheBuilder (Unit {0}) → World
    left r =
        let o = after_open config records a.index a.filter a.starts a.lengths arena in
        record { arena = arena; current = opened_as r record { index = o.index; filter = o.filter; starts = a.starts; lengths = a.lengths }; sets = []; files = [] }

    go : (r : Reply SegmentCacheBuilder (Unit {0})) → opened_or (unopened arena) (left r) r ≡ left r
    go (accept b) = refl
    go (refuse n u) = refl

-- The same of one open and then a list, whatever that open is answered. (Refused, it leaves no builder and no set; so nothing asks that it be accepted.)
pub answers_by_the_book : (config : SegmentCacheConfig) (records : ℕ) (arena : List ℕ) (areas : Areas) (calls : List (Call (List ℕ) ℕ)) → EqualHashes calls → Hashes64 calls
    → Typed config → TypedSettings calls → answers (opened config records arena areas) calls ≡ replies (blank config) (told (opened config records arena areas) calls)
answers_by_the_book config records arena areas calls equal small setting typed =
    subst (λ (k : Book). answers w calls ≡ replies k (told w calls)) (same_heard (blank config) (step (unopened arena) first).accepted)
    (subst (λ (v : World). answers v calls ≡ replies (heard (blank config) (bare [] first, (step (unopened arena) first).accepted)) (told v calls))
    (first_open config records arena areas)
    (every_list arena config (first ∷ calls) equal small (setting, typed)))
  where
    first : Call (List ℕ) ℕ
    first = opening config records arena areas.index areas.filter areas.starts areas.lengths

    w : World
    w = opened config records arena areas
