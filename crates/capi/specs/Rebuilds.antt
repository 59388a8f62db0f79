-- The exported calls of rebuilds: the number that each gives and the content of every lent area that it may write, out of the calls on sets.
-- Assumes nothing.
use Rattle.std.specs.Prelude.{cond, List, [], ◌∷◌, ℕ, eqb, length}
use Rattle.sets.specs.Answers.{Reply, accept, refuse, RebuildPlaced}
use Rattle.sets.specs.Questions.{all}
use Rattle.sets.specs.Rebuild.{Copied, RebuildFinished, RebuildOpened, Reused, after_copied, after_rebuild_finish, after_rebuild_open, after_reused}
use Rattle.sets.specs.declared.cache.FrozenSegmentCache.{FrozenSegmentCache}
use Rattle.sets.specs.declared.rebuild.SegmentRecordLocation.{SegmentRecordLocation}
use Rattle.sets.specs.declared.rebuild.SharedSegmentCacheBuild.{SharedSegmentCacheBuild}
use Rattle.sets.specs.declared.rebuild.SharedSegmentCacheBuilder.{SharedSegmentCacheBuilder}
use Rattle.capi.specs.Calls.{PlaceTold, PushWords, Told, on_loaded, place_told, push_words, told_by}
use Rattle.capi.specs.Words.{lifetime_in, rebuild_in, rebuild_words, set_in, set_words, stored}

-- ---- rebuild open

-- the rebuild's words after a call that makes a rebuild; a refusal leaves them as they were
abbrev pub rebuild_told : Reply SharedSegmentCacheBuilder FrozenSegmentCache → List ℕ → Told
rebuild_told = told_by rebuild_words

pub record RebuildOpenWords : Type 0 where
  pub number : ℕ
  pub rebuild : List ℕ
  pub index : List ℕ
  pub filter : List ℕ
  pub starts : List ℕ
  pub lengths : List ℕ

abbrev pub rebuild_open_words : ℕ → List ℕ → List ℕ → List ℕ → List ℕ → List ℕ → RebuildOpenWords
rebuild_open_words number r index filter starts lengths =
    record { number = number; rebuild = r; index = index; filter = filter; starts = starts; lengths = lengths }

abbrev pub rebuild_open_left : RebuildOpened → List ℕ → RebuildOpenWords
rebuild_open_left o old =
    rebuild_open_words (rebuild_told o.answer old).number (rebuild_told o.answer old).words o.index o.filter o.starts o.lengths

unfoldable pub exported_rebuild_open : List ℕ → List ℕ → List ℕ → List ℕ → ℕ → ℕ → List ℕ → ℕ → List ℕ → List ℕ → List ℕ → List ℕ → List ℕ → RebuildOpenWords
exported_rebuild_open w source_starts source_lengths arena records copied flags tick old index filter starts lengths =
    cond (eqb (length old) 22)
    (on_loaded (set_in w)
    (λ s. rebuild_open_left (after_rebuild_open s source_starts source_lengths arena records copied flags tick index filter starts lengths) old)
    (rebuild_open_words 11 old index filter starts lengths))
    (rebuild_open_words 11 old index filter starts lengths)

-- ---- reused push

-- a number, the rebuild's words and the place
abbrev pub rebuild_push_told : Reply RebuildPlaced SharedSegmentCacheBuilder → List ℕ → List ℕ → PlaceTold
rebuild_push_told (accept p) old place = place_told 0 (stored (rebuild_words p.builder) old) (stored (p.slot ∷ p.location ∷ []) place)
rebuild_push_told (refuse n r) old place = place_told n old place

pub record ReusedWords : Type 0 where
  pub number : ℕ
  pub rebuild : List ℕ
  pub index : List ℕ
  pub filter : List ℕ
  pub place : List ℕ

abbrev pub reused_words : ℕ → List ℕ → List ℕ → List ℕ → List ℕ → ReusedWords
reused_words number r index filter place = record { number = number; rebuild = r; index = index; filter = filter; place = place }

abbrev pub reused_left : Reused → List ℕ → List ℕ → ReusedWords
reused_left p old place =
    reused_words (rebuild_push_told p.answer old place).number (rebuild_push_told p.answer old place).builder p.index p.filter
    (rebuild_push_told p.answer old place).place

abbrev pub location_of : ℕ → ℕ → SegmentRecordLocation
location_of location header = record { location = location; header_bytes = header }

unfoldable pub exported_reused : List ℕ → ℕ → List ℕ → List ℕ → ℕ → ℕ → List ℕ → List ℕ → List ℕ → List ℕ → List ℕ → List ℕ → ReusedWords
exported_reused old h key value location header index filter starts lengths arena place =
    cond (all (eqb (length old) 22 ∷ eqb (length place) 2 ∷ []))
    (on_loaded (rebuild_in old)
    (λ r. reused_left (after_reused r h key value (location_of location header) index filter starts lengths arena) old place)
    (reused_words 11 old index filter place))
    (reused_words 11 old index filter place)

-- ---- copied push: words in the places of a push, the rebuild's in the builder's

abbrev pub copied_left : Copied → List ℕ → List ℕ → PushWords
copied_left p old place =
    push_words (rebuild_push_told p.answer old place).number (rebuild_push_told p.answer old place).builder p.index p.filter p.arena
    (rebuild_push_told p.answer old place).place

unfoldable pub exported_copied : List ℕ → ℕ → List ℕ → List ℕ → List ℕ → List ℕ → List ℕ → List ℕ → List ℕ → List ℕ → List ℕ → PushWords
exported_copied old h key value ttl index filter starts lengths arena place =
    cond (all (eqb (length old) 22 ∷ eqb (length place) 2 ∷ []))
    (on_loaded (rebuild_in old)
    (λ r.
    on_loaded (lifetime_in ttl) (λ l. copied_left (after_copied r h key value l index filter starts lengths arena) old place)
    (push_words 11 old index filter arena place))
    (push_words 11 old index filter arena place))
    (push_words 11 old index filter arena place)

-- ---- rebuild finish: the set's words, and four words of what it took

abbrev pub totals_words : SharedSegmentCacheBuild → List ℕ
totals_words b = b.reused_entries ∷ b.reused_record_bytes ∷ b.copied_record_bytes ∷ b.newly_allocated_bytes ∷ []

-- a number, the set's words and the totals
pub record BuildTold : Type 0 where
  pub number : ℕ
  pub set : List ℕ
  pub totals : List ℕ

abbrev pub build_told : ℕ → List ℕ → List ℕ → BuildTold
build_told number s totals = record { number = number; set = s; totals = totals }

abbrev pub rebuilt_told : Reply SharedSegmentCacheBuild SharedSegmentCacheBuilder → List ℕ → List ℕ → BuildTold
rebuilt_told (accept b) old totals = build_told 0 (stored (set_words b.cache) old) (stored (totals_words b) totals)
rebuilt_told (refuse n r) old totals = build_told n old totals

pub record RebuildFinishWords : Type 0 where
  pub number : ℕ
  pub index : List ℕ
  pub starts : List ℕ
  pub lengths : List ℕ
  pub scratch : List ℕ
  pub set : List ℕ
  pub totals : List ℕ

abbrev pub rebuild_finish_words : ℕ → List ℕ → List ℕ → List ℕ → List ℕ → List ℕ → List ℕ → RebuildFinishWords
rebuild_finish_words number index starts lengths scratch s totals =
    record { number = number; index = index; starts = starts; lengths = lengths; scratch = scratch; set = s; totals = totals }

abbrev pub rebuild_finish_left : RebuildFinished → List ℕ → List ℕ → RebuildFinishWords
rebuild_finish_left f old totals =
    rebuild_finish_words (rebuilt_told f.answer old totals).number f.index f.starts f.lengths f.scratch
    (rebuilt_told f.answer old totals).set
    (rebuilt_told f.answer old totals).totals

unfoldable pub exported_rebuild_finish : List ℕ → List ℕ → List ℕ → List ℕ → List ℕ → List ℕ → List ℕ → List ℕ → RebuildFinishWords
exported_rebuild_finish w index starts lengths scratch arena old totals =
    cond (all (eqb (length old) 15 ∷ eqb (length totals) 4 ∷ []))
    (on_loaded (rebuild_in w) (λ r. rebuild_finish_left (after_rebuild_finish r index starts lengths scratch arena) old totals)
    (rebuild_finish_words 11 index starts lengths scratch old totals))
    (rebuild_finish_words 11 index starts lengths scratch old totals)
