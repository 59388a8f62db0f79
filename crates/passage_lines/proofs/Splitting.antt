-- Laws of the fields of a line: where a field ends, and what stands after it. Assumes nothing.
use mathlib.Core.Path.{◌≡◌, sym, ap, ap₂, ◌∙◌}
use mathlib.Core.Bool.{Bool, true, false, cond}
use mathlib.Core.List.{List, [], ◌∷◌, ◌++◌, append_assoc, append-nil}
use Prim.Native.Nat.{ℕ, suc, ◌+◌, ◌≤◌, ◌<◌}
use native.Mathlib.Decide.{dec_lt}
use native.Mathlib.Numerals.{add-one}
use native.Mathlib.Omega.{arith}
use borrow.Author.Tests.{le-leb, lt-leb}
use lib.Dec.{eqb, leb, leb-zero}
use lib.ListN.{length, take, drop, length-append, length-drop, drop_of_length-le}
use lib.Seq.{drop-cons, drop-drop}
use Rattle.passage_lines.specs.Bytes.{before}
use Rattle.passage_lines.specs.Fields.{Field, field, split, fields_of, fields_at}
use Rattle.passage_lines.proofs.Search.{before_front, before_within}

-- ---- a field, and the fields after it

-- what stands after the field that ends at p: nothing, or a space and more fields
abbrev after : ℕ → List ℕ → List Field
after p [] = []
after p (c ∷ s) = split (p + 1) [] s

split_field : (at : ℕ) (seen s : List ℕ)
    → split at seen s ≡ field at (seen ++ before 32 s) ∷ after (at + length seen + length (before 32 s)) (drop (length (before 32 s)) s)
unfolding split before
split_field at seen [] = ap (λ (t : List ℕ). field at t ∷ []) (sym (append-nil seen))
split_field at seen (c ∷ s) = go (eqb c 32) (split_field at (seen ++ (c ∷ [])) s)
  where
    go : (t : Bool)
        → split at (seen ++ (c ∷ [])) s ≡ field at ((seen ++ (c ∷ [])) ++ before 32 s) ∷ after (at + length (seen ++ (c ∷ [])) + length (before 32 s)) (drop (length (before 32 s)) s)
        → cond t (field at seen ∷ split (at + length seen + 1) [] s) (split at (seen ++ (c ∷ [])) s)
        ≡ field at (seen ++ cond t [] (c ∷ before 32 s)) ∷ after (at + length seen + length (cond t [] (c ∷ before 32 s))) (drop (length (cond t [] (c ∷ before 32 s))) (c ∷ s))
    go true e =
        let z : at + length seen ≡ at + length seen + 0 = omega arith in
        ap₂ (λ (t : List ℕ) (n : ℕ). field at t ∷ split (n + 1) [] s) (sym (append-nil seen)) z
    go false e =
        let z : at + length (seen ++ (c ∷ [])) + length (before 32 s) ≡ at + length seen + suc (length (before 32 s)) = omega (arith, length-append seen (c ∷ [])) in
        e ∙ ap₂ (λ (t : List ℕ) (n : ℕ). field at t ∷ after n (drop (length (before 32 s)) s)) (append_assoc seen (c ∷ []) (before 32 s)) z

after_is : (line : List ℕ) (p : ℕ) → p ≤ length line → after p (drop p line) ≡ fields_at line (p + 1)
unfolding fields_at
after_is line p h = go (dec_lt p (length line))
  where
    go : Dec (p < length line) → after p (drop p line) ≡ cond (leb (p + 1) (length line)) (split (p + 1) [] (drop (p + 1) line)) []
    go (yes l) = rw (drop-cons line p 0 l, le-leb (p + 1) (length line) (omega arith), add-one p)
    go (no n) =
        let e : length line ≤ p = omega arith in
        rw (drop_of_length-le line e, lt-leb (p + 1) (length line) (omega arith))

-- the field at a position, up to its end, and the fields after its space
pub fields_more : (line : List ℕ) (at n : ℕ) → at ≤ length line → n ≡ length (before 32 (drop at line))
    → fields_at line at ≡ field at (take n (drop at line)) ∷ fields_at line (at + (n + 1))
unfolding fields_at
fields_more line at n h e =
    let w : n ≤ length (drop at line) = omega (arith, before_within 32 (drop at line)) in
    let z : at + 0 + n ≡ at + n = omega arith in
    let y : at + n + 1 ≡ at + (n + 1) = omega arith in
    rw (le-leb at (length line) h)
    (split_field at [] (drop at line)
    ∙ rw (← e, z, drop-drop n at line) (ap₂ (λ (t : List ℕ) (fs : List Field). field at t ∷ fs) (before_front 32 (drop at line) ∙ ap (λ (k : ℕ). take k (drop at line)) (sym e))
    (after_is line (at + n) (omega (arith, length-drop at line)) ∙ ap (fields_at line) y)))

pub fields_none : (line : List ℕ) (at : ℕ) → length line < at → fields_at line at ≡ []
unfolding fields_at
fields_none line at h = rw (lt-leb at (length line) h)

pub fields_all : (line : List ℕ) → fields_of line ≡ fields_at line 0
unfolding fields_of fields_at
fields_all line = rw (leb-zero (length line))
