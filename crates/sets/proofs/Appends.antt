-- A push into its slot: room for the record in the arena, its bytes there, and what the push leaves. Assumes nothing.
use Rattle.std.proofs.Common.{◌≡◌, ℕ, ◌+◌, ◌-◌, ◌^◌, ◌<◌, ◌≤◌, Bool, true, false, cond, ltb, leb, List, length, take, drop, set, refl, sym, ap, ◌∙◌, arith, length-drop, length-take, ltb-false, le-leb, leb-false, leb-true, Result, Ok, Err}
use borrow.Author.Tests.{lt-leb}
use Rattle.std.specs.Result.{MatchResult}
use borrow.Rule.Slice.PartMut.{put_mid}
use Rattle.hash_parts.specs.Hash.{tag_of}
use Rattle.hash_parts.specs.Outcome.{Outcome, accepted, outcome_of, refused}
use Rattle.hash_parts.specs.declared.error.SegmentCacheBuildError.{SegmentCacheBuildError}
use Rattle.hash_parts.specs.declared.error.SegmentCacheBuildError.TheVariants.{CapacityOverflow}
use Rattle.hash_parts.specs.declared.setting.SegmentExpiry.{SegmentExpiry}
use Rattle.hash_parts.proofs.Refusals.{refusal_pos}
use Rattle.records.specs.Area.{Written, over, pasted, written}
use Rattle.records.specs.Record.{encoded_size, record_bytes, record_size}
use Rattle.records.proofs.Area.{part_home, written_in_law}
use Rattle.records.proofs.Parts.{size_is}
use Rattle.index.specs.Filter.{displaced_marked}
use Rattle.index.specs.Word.{word_of}
use Rattle.sets.specs.Answers.{accept}
use Rattle.sets.specs.Build.{Pushed, builder_grown, push_made}
use Rattle.sets.specs.declared.builder.SegmentCacheBuilder.{SegmentCacheBuilder}

-- ---- room

-- room in what is left
pub room : (filled n arena : ℕ) → filled ≤ arena → leb (filled + n) arena ≡ leb n (arena - filled)
room filled n arena h = go (leb n (arena - filled)) refl
  where
    go : (b : Bool) → leb n (arena - filled) ≡ b → leb (filled + n) arena ≡ b
    go true e = le-leb (filled + n) arena (omega (arith, leb-true n (arena - filled) e))
    go false e = lt-leb (filled + n) arena (omega (arith, leb-false n (arena - filled) e))

-- a size that was told, and one that passes 64 bits
module _ (e : SegmentExpiry) (key value : ℕ) where
  pub size_told_law : (n : ℕ) → accepted n ≡ encoded_size e key value → n ≡ record_size e key value
  unfolding encoded_size
  size_told_law n q = go (ltb (record_size e key value) (2 ^ 64)) q
    where
      go : (b : Bool) → accepted n ≡ cond b (accepted (record_size e key value)) (refused CapacityOverflow) → n ≡ record_size e key value
      go true f = ap (λ (o : Outcome). o.value) f
      go false f = absurd (omega (arith, ap (λ (o : Outcome). o.number) f))

  pub size_large : (f : SegmentCacheBuildError) → refused f ≡ encoded_size e key value → 2 ^ 64 ≤ record_size e key value
  unfolding encoded_size
  size_large f q = go (ltb (record_size e key value) (2 ^ 64)) refl q
    where
      go : (b : Bool) → ltb (record_size e key value) (2 ^ 64) ≡ b → refused f ≡ cond b (accepted (record_size e key value)) (refused CapacityOverflow)
          → 2 ^ 64 ≤ record_size e key value
      go true t g = absurd (omega (arith, refusal_pos f, ap (λ (o : Outcome). o.number) g))
      go false t g = ltb-false _ _ t

  -- whether a size fits, of a test of one that was told
  pub fits_told : (rest : ℕ) → rest < 2 ^ 64 → (b : Bool) (r : Result ℕ SegmentCacheBuildError) (P : ℕ → Type 0) → ((n : ℕ) → P n → b ≡ leb n rest)
      → MatchResult r P (λ _. b ≡ false) → outcome_of r ≡ encoded_size e key value → b ≡ leb (record_size e key value) rest
  fits_told rest small b (Ok n) P test told size = test n told ∙ ap (λ (m : ℕ). leb m rest) (size_told_law n size)
  fits_told rest small b (Err f) P test told size = told ∙ sym (lt-leb _ _ (omega (arith, size_large f size, small)))

-- a record is at least as long as its key and its value
pub size_holds : (e : SegmentExpiry) (k v : ℕ) → k + v ≤ record_size e k v
unfolding record_size
size_holds e k v = omega arith

-- ---- what the record's writer leaves

-- the rest of an arena
abbrev pub rest : ℕ → List ℕ → List ℕ
rest filled arena = take (length arena - filled) (drop filled arena)

pub rest_length : (filled : ℕ) (arena : List ℕ) → length (rest filled arena) ≡ length arena - filled
rest_length filled arena = length-take (length arena - filled) (drop filled arena) ∙ omega (arith, length-drop filled arena)

-- a record that fits the rest of the arena is written there whole
module _ (e : SegmentExpiry) (key value : List ℕ) (deadline filled : ℕ) (arena : List ℕ) (fits : filled + record_size e (length key) (length value) ≤ length arena) where
  abbrev bytes : List ℕ
  bytes = record_bytes e key value deadline

  appends : written bytes (rest filled arena) ≡ record { answer = accepted (length bytes); area = over bytes (rest filled arena) }
  appends = written_in_law bytes (rest filled arena) (omega (arith, rest_length filled arena, size_is e key value deadline))

  pub appended : (n : ℕ) (out : List ℕ) → n ≡ (written bytes (rest filled arena)).answer.value → out ≡ (written bytes (rest filled arena)).area
      → (n ≡ record_size e (length key) (length value)) × (put_mid filled (length arena - filled) arena out ≡ pasted filled bytes arena)
  appended n out q p =
      (q ∙ ap (λ (w : Written). w.answer.value) appends ∙ size_is e key value deadline, part_home bytes arena out filled (p ∙ ap (λ (w : Written). w.area) appends))

-- ---- what a push leaves

module _ (slot deadline : ℕ) (b : SegmentCacheBuilder) (h : ℕ) (key value index filter arena : List ℕ) where
  pub push_left_law : (n : ℕ) (grown : SegmentCacheBuilder) (w : ℕ) (marked home : List ℕ) → n ≡ record_size b.config.expiry (length key) (length value)
      → home ≡ pasted b.filled (record_bytes b.config.expiry key value deadline) arena
      → grown ≡ builder_grown b n (length key) (length value) → w ≡ word_of (tag_of h) b.filled → marked ≡ displaced_marked filter b.filter_words h slot b.bucket_count
      → ◌≡◌ {A = Pushed} (record { answer = accept record { builder = grown; slot = slot; location = b.filled }; index = set index slot w; filter = marked; arena = home })
      (push_made slot deadline b h key value index filter arena)
  push_left_law n grown w marked home size wrote same word mark = rw (same, size, word, mark, wrote)
