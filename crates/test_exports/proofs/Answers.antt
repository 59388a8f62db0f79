-- Laws of answers as numbers and words. Assumes nothing.
use mathlib.Core.Path.{◌≡◌, refl, ap, ◌∙◌}
use mathlib.Core.List.{List, []}
use Prim.Native.Nat.{ℕ, ◌+◌, ◌≤◌, ◌<◌}
use mathlib.Core.Bool.{Bool, true, false, cond}
use lib.Dec.{leb}
use native.Mathlib.Omega.{arith}
use borrow.Author.Tests.{ne_eqb, le-leb, lt-leb}
use lib.ListN.{length}
use Rattle.hash_parts.proofs.Refusals.{refusal_pos}
use Rattle.hash_parts.specs.Error.{error_number}
use Rattle.hash_parts.specs.Outcome.{accepted, refused}
use Rattle.hash_parts.specs.declared.error.SegmentCacheBuildError.{SegmentCacheBuildError}
use Rattle.hash_parts.specs.declared.error.SegmentCacheBuildError.TheVariants.{AreaTooShort}
use Rattle.hash_parts.specs.declared.setting.SegmentExpiry.{SegmentExpiry}
use Rattle.records.specs.Area.{Written, over, written}
use Rattle.records.specs.Record.{record_bytes, record_size}
use Rattle.records.proofs.Parts.{size_is}
use Rattle.records.proofs.Uleb128.{leb_pos}
use Rattle.test_exports.specs.Exports.{code_of, placed, told, lent, outcome_told}

-- words that fit, words that do not, and no words
pub placed_in : (words area out : List ℕ) → length words ≤ length area → out ≡ over words area → out ≡ placed words area
unfolding placed
placed_in words area out h e = e ∙ rw (le-leb (length words) (length area) h)

pub placed_out : (words area : List ℕ) → length area < length words → area ≡ placed words area
unfolding placed
placed_out words area h = rw (lt-leb (length words) (length area) h)

pub placed_none : (area : List ℕ) → area ≡ placed [] area
placed_none area = placed_in [] area area (omega arith) refl

-- a refusal
pub code_refused : (base : ℕ) (r : SegmentCacheBuildError) → base + error_number r ≡ code_of base (refused r)
unfolding code_of
code_refused base r = rw (ne_eqb (error_number r) 0 (λ z. omega (arith, refusal_pos r)))

pub told_refused : (r : SegmentCacheBuildError) (area : List ℕ) → told (error_number r) area ≡ lent (outcome_told (refused r)) area
unfolding outcome_told
told_refused r area = rw (ne_eqb (error_number r) 0 (λ z. omega (arith, refusal_pos r))) (ap (told (error_number r)) (placed_none area))

-- ---- a record that was written, or not

abbrev left : List ℕ → List ℕ → Bool → Written
left s area b = cond b (record { answer = accepted (length s); area = over s area }) (record { answer = refused AreaTooShort; area = area })

-- it has some bytes
pub record_long : (e : SegmentExpiry) (key value : List ℕ) (deadline : ℕ) → 0 < length (record_bytes e key value deadline)
unfolding record_size
record_long e key value deadline = omega (arith, size_is e key value deadline, leb_pos (length key))

pub wrote_none : (s area : List ℕ) → 0 < length s → (written s area).answer.value ≡ 0 → (written s area).answer ≡ refused AreaTooShort
unfolding written
wrote_none s area long e = go (leb (length s) (length area)) e
  where
    go : (b : Bool) → (left s area b).answer.value ≡ 0 → (left s area b).answer ≡ refused AreaTooShort
    go true f = absurd (omega (arith, long, f))
    go false f = refl

-- so where none are written it did not fit
pub unwritten : (e : SegmentExpiry) (key value : List ℕ) (deadline : ℕ) (rest : List ℕ) → (written (record_bytes e key value deadline) rest).answer.value ≡ 0
    → (written (record_bytes e key value deadline) rest).answer ≡ refused AreaTooShort
unwritten e key value deadline rest = wrote_none (record_bytes e key value deadline) rest (record_long e key value deadline)

pub wrote_some : (s area : List ℕ) (n : ℕ) → n ≡ (written s area).answer.value → (n ≡ 0 → ⊥) → (written s area).answer ≡ accepted n
unfolding written
wrote_some s area n e some = go (leb (length s) (length area)) e
  where
    go : (b : Bool) → n ≡ (left s area b).answer.value → (left s area b).answer ≡ accepted n
    go true f = rw f
    go false f = absurd (some f)
