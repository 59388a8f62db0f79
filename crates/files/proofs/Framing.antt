-- Blocks and words that were written are read back. Assumes nothing.
use mathlib.Core.Path.{◌≡◌, refl, sym, ap, ap₂, ◌∙◌}
use mathlib.Core.Bool.{Bool, true, false, cond}
use mathlib.Core.List.{List, [], ◌∷◌, ◌++◌, append_assoc}
use Prim.Native.Nat.{ℕ, suc, ◌+◌, ◌^◌, ◌<◌}
use native.Mathlib.Nat.{mod-eq_of_lt}
use native.Mathlib.Omega.{arith}
use lib.Dec.{eqb}
use lib.ListN.{length, drop, length-append}
use lib.Seq.{take_at, drop_at, drop-drop}
use borrow.Author.Tests.{eq-eqb, le-leb}
use Rattle.hash_parts.specs.ZeroBytes.{bytes_of}
use Rattle.records.specs.Area.{part}
use Rattle.index.specs.Packed.{word_bytes, words_of}
use Rattle.hash_parts.proofs.Bytes.{length_bytes, number_bytes}
use Rattle.files.specs.Contents.{numbers_in, bytes_for}
use Rattle.files.specs.Blocks.{size_in, kind_in, behind, is_whole, frames_well, kinds_from, content_of, block}

-- ---- words

pub data Words : List ℕ → Type 0 where
  no_words : Words []
  one_word : {w : ℕ} {l : List ℕ} → w < 2 ^ 64 → Words l → Words (w ∷ l)

pub words_back : {ws : List ℕ} → Words ws → words_of (length ws) (word_bytes ws) ≡ ws
unfolding words_of word_bytes
words_back no_words = refl
words_back (one_word {w} {l} h r) =
    rw (take_at (bytes_of 8 w) (word_bytes l) 8 (length_bytes 8 w), drop_at (bytes_of 8 w) (word_bytes l) 8 (length_bytes 8 w), number_bytes 8 w, mod-eq_of_lt h, words_back r)

-- ---- a block, and what stands behind it

module _ (kind : ℕ) (content rest : List ℕ) (small : length content < 2 ^ 32) (known : kind < 2 ^ 16) where
  abbrev file : List ℕ
  file = block kind content ++ rest

  flat : file ≡ bytes_of 4 (length content) ++ (bytes_of 2 kind ++ (content ++ rest))
  flat = append_assoc (bytes_of 4 (length content)) (bytes_of 2 kind ++ content) rest ∙ ap (λ (l : List ℕ). bytes_of 4 (length content) ++ l) (append_assoc (bytes_of 2 kind) content rest)

  pub block_size : size_in file ≡ length content
  block_size = rw (flat, take_at (bytes_of 4 (length content)) (bytes_of 2 kind ++ (content ++ rest)) 4 (length_bytes 4 _), number_bytes 4 (length content)) (mod-eq_of_lt small)

  pub block_kind : kind_in file ≡ kind
  block_kind =
      rw (
        flat,
        drop_at (bytes_of 4 (length content)) (bytes_of 2 kind ++ (content ++ rest)) 4 (length_bytes 4 _),
        take_at (bytes_of 2 kind) (content ++ rest) 2 (length_bytes 2 kind),
        number_bytes 2 kind,
      )
      (mod-eq_of_lt known)

  past_header : drop 6 file ≡ content ++ rest
  past_header =
      sym (drop-drop 2 4 file)
      ∙ ap (λ (l : List ℕ). drop 2 (drop 4 l)) flat
      ∙ ap (drop 2) (drop_at (bytes_of 4 (length content)) (bytes_of 2 kind ++ (content ++ rest)) 4 (length_bytes 4 _))
      ∙ drop_at (bytes_of 2 kind) (content ++ rest) 2 (length_bytes 2 kind)

  pub block_content : part 6 (size_in file) file ≡ content
  block_content = rw (block_size, past_header) (take_at content rest (length content) refl)

  pub block_behind : behind file ≡ rest
  block_behind =
      rw block_size
      (sym (drop-drop (length content) 6 file)
      ∙ ap (drop (length content)) past_header
      ∙ drop_at content rest (length content) refl)

  long : length file ≡ 6 + length content + length rest
  long = ap length flat ∙ omega (
    arith,
    length-append (bytes_of 4 (length content)) (bytes_of 2 kind ++ (content ++ rest)),
    length-append (bytes_of 2 kind) (content ++ rest),
    length-append content rest,
    length_bytes 4 (length content),
    length_bytes 2 kind,
  )

  pub block_whole : is_whole file ≡ true
  unfolding is_whole
  block_whole = rw (block_size, le-leb 6 (length file) (omega (arith, long)), le-leb (6 + length content) (length file) (omega (arith, long)))

-- ---- a file of five blocks

pub record Small (c1 c2 c3 c4 c5 : List ℕ) : Type 0 where
  pub one : length c1 < 2 ^ 32
  pub two : length c2 < 2 ^ 32
  pub three : length c3 < 2 ^ 32
  pub four : length c4 < 2 ^ 32
  pub five : length c5 < 2 ^ 32

module _ (c1 c2 c3 c4 c5 : List ℕ) (s : Small c1 c2 c3 c4 c5) where
  abbrev f5 : List ℕ
  f5 = block 5 c5 ++ []

  abbrev f4 : List ℕ
  f4 = block 4 c4 ++ f5

  abbrev f3 : List ℕ
  f3 = block 3 c3 ++ f4

  abbrev f2 : List ℕ
  f2 = block 2 c2 ++ f3

  abbrev f1 : List ℕ
  f1 = block 1 c1 ++ f2

  b1 : behind f1 ≡ f2
  b1 = block_behind 1 c1 f2 s.one (omega arith)

  b2 : behind f2 ≡ f3
  b2 = block_behind 2 c2 f3 s.two (omega arith)

  b3 : behind f3 ≡ f4
  b3 = block_behind 3 c3 f4 s.three (omega arith)

  b4 : behind f4 ≡ f5
  b4 = block_behind 4 c4 f5 s.four (omega arith)

  pub contents_back : (content_of 0 f1 ≡ c1) × (content_of 1 f1 ≡ c2) × (content_of 2 f1 ≡ c3) × (content_of 3 f1 ≡ c4) × (content_of 4 f1 ≡ c5)
  unfolding content_of
  contents_back = (
    block_content 1 c1 f2 s.one (omega arith),
    rw b1 (block_content 2 c2 f3 s.two (omega arith)),
    rw (b1, b2) (block_content 3 c3 f4 s.three (omega arith)),
    rw (b1, b2, b3) (block_content 4 c4 f5 s.four (omega arith)),
    rw (b1, b2, b3, b4) (block_content 5 c5 [] s.five (omega arith)),
  )

-- one step of the framing and of the kinds, over a block
module _ (kind : ℕ) (content rest : List ℕ) (small : length content < 2 ^ 32) (known : kind < 2 ^ 16) where
  pub frames_step : (n : ℕ) → frames_well (suc n) (block kind content ++ rest) ≡ frames_well n rest
  unfolding frames_well
  frames_step n = go (block kind content ++ rest) refl
    where
      go : (f : List ℕ) → block kind content ++ rest ≡ f → frames_well (suc n) f ≡ frames_well n rest
      go [] e = absurd (omega (arith, ap length e, long kind content rest small known))
      go (b ∷ f) e =
          ap₂ (λ (w : Bool) (r : List ℕ). cond w (frames_well n r) false) (ap is_whole (sym e) ∙ block_whole kind content rest small known) (ap behind (sym e)
          ∙ block_behind kind content rest small known)

  pub kinds_step : (n : ℕ) → kinds_from kind (suc n) (block kind content ++ rest) ≡ kinds_from (suc kind) n rest
  unfolding kinds_from
  kinds_step n = go (block kind content ++ rest) refl
    where
      go : (f : List ℕ) → block kind content ++ rest ≡ f → kinds_from kind (suc n) f ≡ kinds_from (suc kind) n rest
      go [] e = absurd (omega (arith, ap length e, long kind content rest small known))
      go (b ∷ f) e =
          ap₂ (λ (w : Bool) (r : List ℕ). cond w (kinds_from (suc kind) n r) false) (ap (λ (l : List ℕ). eqb (kind_in l) kind) (sym e) ∙ eq-eqb _ _ (block_kind kind content rest small known))
          (ap behind (sym e) ∙ block_behind kind content rest small known)

module _ (c1 c2 c3 c4 c5 : List ℕ) (s : Small c1 c2 c3 c4 c5) where
  abbrev whole : List ℕ
  whole = block 1 c1 ++ (block 2 c2 ++ (block 3 c3 ++ (block 4 c4 ++ (block 5 c5 ++ []))))

  -- a file that was written is not refused with 13 or 14
  pub frames_written : frames_well 5 whole ≡ true
  unfolding frames_well
  frames_written =
      frames_step 1 c1 _ s.one (omega arith) 4
      ∙ frames_step 2 c2 _ s.two (omega arith) 3
      ∙ frames_step 3 c3 _ s.three (omega arith) 2
      ∙ frames_step 4 c4 _ s.four (omega arith) 1
      ∙ frames_step 5 c5 [] s.five (omega arith) 0

  pub kinds_written : kinds_from 1 5 whole ≡ true
  unfolding kinds_from
  kinds_written =
      kinds_step 1 c1 _ s.one (omega arith) 4
      ∙ kinds_step 2 c2 _ s.two (omega arith) 3
      ∙ kinds_step 3 c3 _ s.three (omega arith) 2
      ∙ kinds_step 4 c4 _ s.four (omega arith) 1
      ∙ kinds_step 5 c5 [] s.five (omega arith) 0

-- ---- the numbers of kind 1

-- each number fits its bytes
pub data Fit : List ℕ → List ℕ → Type 0 where
  fit_none : Fit [] []
  fit_one : {w n : ℕ} {ws ns : List ℕ} → n < 256 ^ w → Fit ws ns → Fit (w ∷ ws) (n ∷ ns)

pub numbers_back : {ws ns : List ℕ} → Fit ws ns → numbers_in ws (bytes_for ws ns) ≡ ns
unfolding numbers_in bytes_for
numbers_back fit_none = refl
numbers_back (fit_one {w} {n} {ws} {ns} h r) =
    rw (take_at (bytes_of w n) (bytes_for ws ns) w (length_bytes w n), drop_at (bytes_of w n) (bytes_for ws ns) w (length_bytes w n), number_bytes w n, mod-eq_of_lt h, numbers_back r)
