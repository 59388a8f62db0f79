-- Writing to the front of a lent area, parts of an area, and comparing bytes.
-- Assumes nothing.
use Rattle.std.specs.Prelude.{ℕ, ◌+◌, Bool, true, false, cond, List, [], ◌∷◌, ◌++◌, Result, eqb, leb, length, take, drop}
use Rattle.hash_parts.specs.Outcome.{Outcome, accepted, outcome_of, refused}
use Rattle.hash_parts.specs.declared.error.SegmentCacheBuildError.{SegmentCacheBuildError}
use Rattle.hash_parts.specs.declared.error.SegmentCacheBuildError.TheVariants.{AreaTooShort}
use Rattle.records.specs.declared.record.Span.{Span}

-- an area with s written over its front
abbrev pub over : List ℕ → List ℕ → List ℕ
over s area = s ++ drop (length s) area

-- an area with s written over it from a position on
abbrev pub pasted : ℕ → List ℕ → List ℕ → List ℕ
pasted at s area = take at area ++ over s (drop at area)

-- an area of as many bytes as s with s in their place; one of another length as it was
unfoldable pub copied : List ℕ → List ℕ → List ℕ
copied s area = cond (eqb (length area) (length s)) s area

-- what writing leaves: the answer, and the area's content
pub record Written : Type 0 where
  pub answer : Outcome
  pub area : List ℕ

abbrev pub write_result : Result ℕ SegmentCacheBuildError → List ℕ → Written
write_result r area = record { answer = outcome_of r; area = area }

-- s is written where it fits; else nothing is, and the value is 0
unfoldable pub written : List ℕ → List ℕ → Written
written s area =
    cond (leb (length s) (length area))
    (record { answer = accepted (length s); area = over s area })
    (record { answer = refused AreaTooShort; area = area })

-- the part of a list that starts at a position
abbrev pub part : ℕ → ℕ → List ℕ → List ℕ
part at len s = take len (drop at s)

-- Answer: "The value handed out is a part of the arena itself." A span that leaves the arena gives the empty part.
unfoldable pub spanned : List ℕ → Span → List ℕ
spanned arena span = cond (leb (span.at + span.len) (length arena)) (part span.at span.len arena) []

-- whether two lists of bytes are the same
unfoldable pub same_bytes : List ℕ → List ℕ → Bool
same_bytes [] [] = true
same_bytes [] (y ∷ b) = false
same_bytes (x ∷ a) [] = false
same_bytes (x ∷ a) (y ∷ b) = cond (eqb x y) (same_bytes a b) false
