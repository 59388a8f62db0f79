-- The exported calls: the number that each gives and the content of every lent area that it may write, out of the calls on sets.
-- Assumes nothing.
use Rattle.std.specs.Prelude.{Bool, cond, List, [], ◌∷◌, ℕ, ◌+◌, ◌-◌, ◌%◌, ◌^◌, Option, Some, None, Result, Ok, Err, replicate, eqb, length}
use Rattle.hash_parts.specs.Error.{error_number}
use Rattle.hash_parts.specs.Setting.{flag_of}
use Rattle.hash_parts.specs.declared.duration.SegmentRemainingTtl.{SegmentRemainingTtl}
use Rattle.hash_parts.specs.declared.duration.SegmentRemainingTtl.TheVariants.{Never, Finite}
use Rattle.hash_parts.specs.declared.error.SegmentCacheBuildError.{SegmentCacheBuildError}
use Rattle.records.specs.declared.record.Span.{Span}
use Rattle.sets.specs.Answers.{Reply, accept, refuse, reply_of, Placed}
use Rattle.sets.specs.Areas.{area_words_for}
use Rattle.sets.specs.Build.{Opened, Pushed, Finished, after_open, after_push, after_finish}
use Rattle.sets.specs.Lookup.{after_get, after_peek, after_take, probe_answer, stats_answer, walk_answer}
use Rattle.sets.specs.Questions.{all}
use Rattle.sets.specs.Stats.{load_of}
use Rattle.sets.specs.declared.areas.AreaWords.{AreaWords}
use Rattle.sets.specs.declared.builder.PushedRecord.{PushedRecord}
use Rattle.sets.specs.declared.builder.SegmentCacheBuilder.{SegmentCacheBuilder}
use Rattle.sets.specs.declared.cache.FrozenSegmentCache.{FrozenSegmentCache}
use Rattle.sets.specs.declared.cache.SegmentBaseRecord.{SegmentBaseRecord}
use Rattle.sets.specs.declared.stats.SegmentCacheStats.{SegmentCacheStats}
use Rattle.capi.specs.Words.{builder_in, builder_words, lifetime_in, set_in, set_words, setting_alone, stats_in, stats_words, stored}

-- what words give, where they have the form; else what is left without it
abbrev pub on_loaded : {S A : Type 0} → Option S → (S → A) → A → A
on_loaded (Some s) f other = f s
on_loaded None f other = other

-- ---- a number, and lent words

pub record Told : Type 0 where
  pub number : ℕ
  pub words : List ℕ

abbrev pub told : ℕ → List ℕ → Told
told number words = record { number = number; words = words }

-- a call's result, where a refusal hands nothing back
abbrev pub bare_reply : {A : Type 0} → Result A SegmentCacheBuildError → Reply A (Unit {0})
bare_reply r = reply_of tt r

-- what C is told of a reply: 0 and its words, stored over lent ones; or the refusal's number, and the lent words as they were
abbrev pub told_by : {A B : Type 0} → (A → List ℕ) → Reply A B → List ℕ → Told
told_by words (accept a) old = told 0 (stored (words a) old)
told_by words (refuse n back) old = told n old

-- one number
abbrev pub number_words : ℕ → List ℕ
number_words n = n ∷ []

-- the words of what was found; of nothing so many zeros
abbrev pub found_words : {A : Type 0} → ℕ → (A → List ℕ) → Option A → List ℕ
found_words count words (Some a) = words a
found_words count words None = replicate count 0

-- ---- open

-- the builder's words after a call that makes a builder; a refusal leaves them as they were
abbrev pub state_told : Reply SegmentCacheBuilder (Unit {0}) → List ℕ → Told
state_told = told_by builder_words

pub record OpenWords : Type 0 where
  pub number : ℕ
  pub builder : List ℕ
  pub index : List ℕ
  pub filter : List ℕ

abbrev pub open_words : ℕ → List ℕ → List ℕ → List ℕ → OpenWords
open_words number b index filter = record { number = number; builder = b; index = index; filter = filter }

abbrev pub open_left : Opened → List ℕ → OpenWords
open_left o old = open_words (state_told o.answer old).number (state_told o.answer old).words o.index o.filter

unfoldable pub exported_open : List ℕ → ℕ → List ℕ → List ℕ → List ℕ → List ℕ → List ℕ → List ℕ → OpenWords
exported_open w records old index filter starts lengths arena =
    cond (eqb (length old) 13)
    (on_loaded (setting_alone w) (λ c. open_left (after_open c records index filter starts lengths arena) old) (open_words 11 old index filter))
    (open_words 11 old index filter)

-- ---- push

-- a number, the builder's words and the place
pub record PlaceTold : Type 0 where
  pub number : ℕ
  pub builder : List ℕ
  pub place : List ℕ

abbrev pub place_told : ℕ → List ℕ → List ℕ → PlaceTold
place_told number b place = record { number = number; builder = b; place = place }

abbrev pub push_told : Reply Placed SegmentCacheBuilder → List ℕ → List ℕ → PlaceTold
push_told (accept p) old place = place_told 0 (stored (builder_words p.builder) old) (stored (p.slot ∷ p.location ∷ []) place)
push_told (refuse n b) old place = place_told n old place

pub record PushWords : Type 0 where
  pub number : ℕ
  pub builder : List ℕ
  pub index : List ℕ
  pub filter : List ℕ
  pub arena : List ℕ
  pub place : List ℕ

abbrev pub push_words : ℕ → List ℕ → List ℕ → List ℕ → List ℕ → List ℕ → PushWords
push_words number b index filter arena place =
    record { number = number; builder = b; index = index; filter = filter; arena = arena; place = place }

abbrev pub push_left : Pushed → List ℕ → List ℕ → PushWords
push_left p old place =
    push_words (push_told p.answer old place).number (push_told p.answer old place).builder p.index p.filter p.arena
    (push_told p.answer old place).place

unfoldable pub exported_push : List ℕ → ℕ → List ℕ → List ℕ → List ℕ → List ℕ → List ℕ → List ℕ → List ℕ → PushWords
exported_push old h key value ttl index filter arena place =
    cond (all (eqb (length old) 13 ∷ eqb (length place) 2 ∷ []))
    (on_loaded (builder_in old)
    (λ b.
    on_loaded (lifetime_in ttl) (λ l. push_left (after_push b h key value l index filter arena) old place)
    (push_words 11 old index filter arena place))
    (push_words 11 old index filter arena place))
    (push_words 11 old index filter arena place)

-- ---- finish

abbrev pub set_told : Reply FrozenSegmentCache SegmentCacheBuilder → List ℕ → Told
set_told = told_by set_words

pub record FinishWords : Type 0 where
  pub number : ℕ
  pub index : List ℕ
  pub starts : List ℕ
  pub lengths : List ℕ
  pub scratch : List ℕ
  pub set : List ℕ

abbrev pub finish_words : ℕ → List ℕ → List ℕ → List ℕ → List ℕ → List ℕ → FinishWords
finish_words number index starts lengths scratch s =
    record { number = number; index = index; starts = starts; lengths = lengths; scratch = scratch; set = s }

abbrev pub finish_left : Finished → List ℕ → FinishWords
finish_left f old =
    finish_words (set_told f.answer old).number f.index f.starts f.lengths f.scratch (set_told f.answer old).words

unfoldable pub exported_finish : List ℕ → ℕ → List ℕ → List ℕ → List ℕ → List ℕ → List ℕ → List ℕ → FinishWords
exported_finish w target index starts lengths scratch arena old =
    cond (eqb (length old) 15)
    (on_loaded (builder_in w) (λ b. finish_left (after_finish b target index starts lengths scratch arena) old)
    (finish_words 11 index starts lengths scratch old))
    (finish_words 11 index starts lengths scratch old)

-- ---- the words of areas: index, filter, starts, lengths, scratch

abbrev pub area_numbers : AreaWords → List ℕ
area_numbers w = w.index ∷ w.filter ∷ w.starts ∷ w.lengths ∷ w.scratch ∷ []

abbrev pub area_words_told : Reply AreaWords (Unit {0}) → List ℕ → Told
area_words_told = told_by area_numbers

unfoldable pub exported_area_words : List ℕ → ℕ → List ℕ → Told
exported_area_words w records old =
    cond (eqb (length old) 5) (on_loaded (setting_alone w) (λ c. area_words_told (area_words_for c records) old) (told 11 old)) (told 11 old)

-- ---- get and peek: 1, place and length of the value; three zeros for nothing

abbrev pub span_words : Span → List ℕ
span_words v = 1 ∷ v.at ∷ v.len ∷ []

abbrev pub span_told : Reply (Option Span) (Unit {0}) → List ℕ → Told
span_told = told_by (found_words 3 span_words)

-- a number, the index and lent words
pub record IndexTold : Type 0 where
  pub number : ℕ
  pub index : List ℕ
  pub words : List ℕ

abbrev pub index_told : ℕ → List ℕ → List ℕ → IndexTold
index_told number index words = record { number = number; index = index; words = words }

abbrev pub with_index : Told → List ℕ → IndexTold
with_index t index = index_told t.number index t.words

unfoldable pub exported_get : List ℕ → ℕ → List ℕ → ℕ → List ℕ → List ℕ → List ℕ → List ℕ → List ℕ → List ℕ → IndexTold
exported_get w h key tick index filter starts lengths arena old =
    cond (eqb (length old) 3)
    (on_loaded (set_in w)
    (λ s. with_index (span_told (after_get s h key tick index filter starts lengths arena).answer old) (after_get s h key tick index filter starts lengths arena).index)
    (index_told 11 index old))
    (index_told 11 index old)

unfoldable pub exported_peek : List ℕ → ℕ → List ℕ → ℕ → List ℕ → List ℕ → List ℕ → List ℕ → List ℕ → List ℕ → Told
exported_peek w h key tick index filter starts lengths arena old =
    cond (eqb (length old) 3) (on_loaded (set_in w) (λ s. span_told (after_peek s h key tick index filter starts lengths arena).answer old) (told 11 old)) (told 11 old)

-- ---- mark clearing: 1 where the mark was set, else 0

abbrev pub flag_words : Bool → List ℕ
flag_words was = flag_of was ∷ []

abbrev pub accessed_told : Reply Bool (Unit {0}) → List ℕ → Told
accessed_told = told_by flag_words

unfoldable pub exported_take : List ℕ → ℕ → List ℕ → List ℕ → List ℕ → List ℕ → List ℕ → List ℕ → List ℕ → IndexTold
exported_take w h key index filter starts lengths arena old =
    cond (eqb (length old) 1)
    (on_loaded (set_in w)
    (λ s. with_index (accessed_told (after_take s h key index filter starts lengths arena).answer old) (after_take s h key index filter starts lengths arena).index)
    (index_told 11 index old))
    (index_told 11 index old)

-- ---- probe and walk: twelve words of a record, twelve zeros for nothing

-- 0: it never lapses; 1: seconds and nanoseconds; 2: nothing is left
abbrev pub left_kind : Option SegmentRemainingTtl → ℕ
left_kind (Some Never) = 0
left_kind (Some (Finite d)) = 1
left_kind None = 2

abbrev pub left_secs : Option SegmentRemainingTtl → ℕ
left_secs (Some Never) = 0
left_secs (Some (Finite d)) = d.secs
left_secs None = 0

abbrev pub left_nanos : Option SegmentRemainingTtl → ℕ
left_nanos (Some Never) = 0
left_nanos (Some (Finite d)) = d.nanos
left_nanos None = 0

abbrev pub left_words : Option SegmentRemainingTtl → List ℕ
left_words left = left_kind left ∷ left_secs left ∷ left_nanos left ∷ []

abbrev pub record_words : SegmentBaseRecord → List ℕ
record_words r =
    1
    ∷ r.slot
    ∷ r.location
    ∷ r.key_offset
    ∷ r.key.at
    ∷ r.key.len
    ∷ r.value.at
    ∷ r.value.len
    ∷ left_kind r.remaining_ttl
    ∷ left_secs r.remaining_ttl
    ∷ left_nanos r.remaining_ttl
    ∷ r.end
    ∷ []

abbrev pub record_told : Reply (Option SegmentBaseRecord) (Unit {0}) → List ℕ → Told
record_told = told_by (found_words 12 record_words)

unfoldable pub exported_probe : List ℕ → ℕ → List ℕ → ℕ → List ℕ → List ℕ → List ℕ → List ℕ → List ℕ → List ℕ → Told
exported_probe w h key tick index filter starts lengths arena old =
    cond (eqb (length old) 12) (on_loaded (set_in w) (λ s. record_told (probe_answer s h key tick index filter starts lengths arena) old) (told 11 old)) (told 11 old)

unfoldable pub exported_walk : List ℕ → ℕ → ℕ → List ℕ → List ℕ → List ℕ → List ℕ → List ℕ → Told
exported_walk w from tick index starts lengths arena old =
    cond (eqb (length old) 12) (on_loaded (set_in w) (λ s. record_told (walk_answer s from tick index starts lengths arena) old) (told 11 old)) (told 11 old)

-- ---- statistics

abbrev pub stats_told : Reply SegmentCacheStats (Unit {0}) → List ℕ → Told
stats_told = told_by stats_words

unfoldable pub exported_stats : List ℕ → List ℕ → Told
exported_stats w old = cond (eqb (length old) 8) (on_loaded (set_in w) (λ s. stats_told (stats_answer s) old) (told 11 old)) (told 11 old)

-- sums of free numbers wrap at 64 bits
abbrev pub retained_in : SegmentCacheStats → ℕ
retained_in s = (s.index_bytes + s.record_bytes) % 2 ^ 64

abbrev pub overhead_in : SegmentCacheStats → ℕ
overhead_in s = retained_in s - (s.logical_key_bytes + s.logical_value_bytes) % 2 ^ 64

abbrev pub load_in : SegmentCacheStats → ℕ
load_in s = load_of s.entries s.index_slots

-- one number of statistics
unfoldable pub exported_number : (SegmentCacheStats → ℕ) → List ℕ → List ℕ → Told
exported_number f w old = cond (eqb (length old) 1) (on_loaded (stats_in w) (λ s. told 0 (stored (number_words (f s)) old)) (told 11 old)) (told 11 old)

-- ---- for functions below the exports alone

abbrev pub placed_words : PushedRecord → List ℕ
placed_words p = p.slot ∷ p.location ∷ []

-- a push as C is told of it, of any builder and by the push's own result
abbrev pub pushed_told : {S : Type 0} → (S → List ℕ) → S → Result PushedRecord SegmentCacheBuildError → List ℕ → List ℕ → PlaceTold
pushed_told words s (Ok p) old place = place_told 0 (stored (words s) old) (stored (placed_words p) place)
pushed_told words s (Err e) old place = place_told (error_number e) old place
