-- Laws of a line's columns: fields written over a blank line, and lines written to a page. Assumes nothing.
use mathlib.Core.Bool.{Bool, true, false, cond}
use mathlib.Core.List.{List, [], ◌∷◌, ◌++◌, append_assoc, append-nil}
use mathlib.Core.Path.{◌≡◌, refl, sym, ap, ap₂, ◌∙◌}
use Prim.Native.Nat.{ℕ, zero, suc, ◌+◌, ◌-◌, ◌*◌, ◌≤◌, ◌<◌}
use native.Mathlib.Omega.{arith}
use borrow.Author.Tests.{eq-eqb, ne_eqb}
use borrow.Rule.Slice.PartMut.{put_mid}
use lib.Dec.{eqb}
use lib.ListN.{length, get_or, take, drop, set, length-append, length-drop, length-replicate}
use Rattle.std.proofs.lemmas.List.{drop_all, drop_more, length-take-le}
use lib.Seq.{take-append-le, drop-append-le, take-append-add, drop-append-add}
use Rattle.records.specs.Area.{over, pasted}
use Rattle.texts.specs.Ascii.{ascii}
use Rattle.texts.specs.Output.{decimal_text, hex_text}
use Rattle.texts.proofs.Spelling.{decimal_short, hex_length_law}
use Rattle.charts.specs.Line.{blank, deadline_text, fields, left, line, right, row, spaces}

-- ---- spaces, and texts aligned in them

take_spaces : (n w : ℕ) → n ≤ w → take n (spaces w) ≡ spaces n
take_spaces zero w h = refl
take_spaces (suc n) zero h = absurd (omega arith)
take_spaces (suc n) (suc w) h = ap (λ (l : List ℕ). 32 ∷ l) (take_spaces n w (omega arith))

drop_spaces : (n w : ℕ) → drop n (spaces w) ≡ spaces (w - n)
drop_spaces zero w = let e : w - 0 ≡ w = omega arith in rw e
drop_spaces (suc n) zero = let e : 0 - suc n ≡ 0 = omega arith in rw e
drop_spaces (suc n) (suc w) = let e : suc w - suc n ≡ w - n = omega arith in rw e (drop_spaces n w)

pub length_right : (w : ℕ) (s : List ℕ) → length s ≤ w → length (right w s) ≡ w
length_right w s h = length-append (spaces (w - length s)) s ∙ ap (λ (n : ℕ). n + length s) (length-replicate (w - length s) 32) ∙ omega arith

pub length_left : (w : ℕ) (s : List ℕ) → length s ≤ w → length (left w s) ≡ w
length_left w s h = length-append s (spaces (w - length s)) ∙ ap (λ (n : ℕ). length s + n) (length-replicate (w - length s) 32) ∙ omega arith

aligned_right : (w : ℕ) (s : List ℕ) → length s ≤ w → pasted (w - length s) s (spaces w) ≡ right w s
aligned_right w s h =
    let rest : drop (w - length s) (spaces w) ≡ spaces (w - (w - length s)) = drop_spaces (w - length s) w in
    let n : w - (w - length s) - length s ≡ 0 = omega arith in
    let none : drop (length s) (drop (w - length s) (spaces w)) ≡ [] =
    ap (drop (length s)) rest ∙ drop_spaces (length s) (w - (w - length s)) ∙ ap spaces n in
    ap₂ (λ (a b : List ℕ). a ++ (s ++ b)) (take_spaces (w - length s) w (omega arith)) none ∙ ap (λ (t : List ℕ). spaces (w - length s) ++ t) (append-nil s)

aligned_left : (w : ℕ) (s : List ℕ) → pasted 0 s (spaces w) ≡ left w s
aligned_left w s = ap (λ (t : List ℕ). s ++ t) (drop_spaces (length s) w)

-- ---- one field of a line

pasted_front : (at : ℕ) (s b c : List ℕ) → at + length s ≤ length b → pasted at s (b ++ c) ≡ pasted at s b ++ c
pasted_front at s b c h =
    let room : length s ≤ length (drop at b) = omega (arith, length-drop at b) in
    rw (take-append-le at b c (omega arith), drop-append-le at b c (omega arith), drop-append-le (length s) (drop at b) c room)
    (ap (λ (t : List ℕ). take at b ++ t) (sym (append_assoc s (drop (length s) (drop at b)) c)) ∙ sym (append_assoc (take at b) (over s (drop at b)) c))

past_field : (a t s : List ℕ) (at n : ℕ) → n ≡ length a + suc at → pasted n s (a ++ (32 ∷ t)) ≡ a ++ (32 ∷ pasted at s t)
past_field a t s at n e =
    rw (e, take-append-add a (32 ∷ t) (suc at), drop-append-add a (32 ∷ t) (suc at)) (append_assoc a (32 ∷ take at t) (over s (drop at t)))

module _ (s a b c d : List ℕ) where
  in_slot : (at : ℕ) → at + length s ≤ length a → pasted at s (fields a b c d) ≡ fields (pasted at s a) b c d
  in_slot at h = pasted_front at s a _ h

  module _ (eight : length a ≡ 8) where
    in_key : length s ≤ length b → pasted 9 s (fields a b c d) ≡ fields a (pasted 0 s b) c d
    in_key h = past_field a _ s 0 9 (omega arith) ∙ ap (λ (t : List ℕ). a ++ (32 ∷ t)) (pasted_front 0 s b _ (omega arith))

    module _ (key : length b ≡ 24) where
      past_key : (at n : ℕ) (t : List ℕ) → n ≡ 34 + at → pasted n s (a ++ (32 ∷ (b ++ (32 ∷ t)))) ≡ a ++ (32 ∷ (b ++ (32 ∷ pasted at s t)))
      past_key at n t e = past_field a _ s (25 + at) n (omega arith) ∙ ap (λ (t : List ℕ). a ++ (32 ∷ t)) (past_field b t s at (25 + at) (omega arith))

      in_value : length s ≤ length c → pasted 34 s (fields a b c d) ≡ fields a b (pasted 0 s c) d
      in_value h = past_key 0 34 _ refl ∙ ap (λ (t : List ℕ). a ++ (32 ∷ (b ++ (32 ∷ t)))) (pasted_front 0 s c _ (omega arith))

      in_deadline : length c ≡ 24 → (at n : ℕ) → n ≡ 59 + at → at + length s ≤ length d → pasted n s (fields a b c d) ≡ fields a b c (pasted at s d)
      in_deadline value at n e h =
          past_key (25 + at) n _ (omega arith)
          ∙ ap (λ (t : List ℕ). a ++ (32 ∷ (b ++ (32 ∷ t)))) (past_field c _ s at (25 + at) (omega arith) ∙ ap (λ (t : List ℕ). c ++ (32 ∷ t)) (pasted_front at s d _ h))

-- ---- the deadline's text

pub deadline_never : (d : ℕ) → d ≡ 65535 → deadline_text d ≡ ascii "never"
unfolding deadline_text
deadline_never d e = rw (eq-eqb d 65535 e)

pub deadline_number : (d : ℕ) → (d ≡ 65535 → ⊥) → deadline_text d ≡ decimal_text d
unfolding deadline_text
deadline_number d n = rw (ne_eqb d 65535 n)

pub deadline_short : (d : ℕ) → d < 65536 → length (deadline_text d) ≤ 5
unfolding deadline_text
deadline_short d h = go (eqb d 65535)
  where
    go : (t : Bool) → length (cond t (ascii "never") (decimal_text d)) ≤ 5
    go true = omega arith
    go false = decimal_short 4 d (omega arith)

-- ---- a whole line: each field written over a blank one

blank_fields : blank ≡ fields (spaces 8) (spaces 24) (spaces 24) (spaces 5)
unfolding blank
blank_fields = refl

pub line_written : (slot deadline : ℕ) (key value : List ℕ) → length (decimal_text slot) ≤ 8 → length key ≤ 12 → length value ≤ 12 → length (deadline_text deadline) ≤ 5
    → pasted (64 - length (deadline_text deadline)) (deadline_text deadline)
    (pasted 34 (hex_text value) (pasted 9 (hex_text key) (pasted (8 - length (decimal_text slot)) (decimal_text slot) blank)))
    ≡ line (row slot key value deadline)
unfolding line
line_written slot deadline key value short k v late =
    let number : List ℕ = decimal_text slot in
    let due : List ℕ = deadline_text deadline in
    let a : List ℕ = right 8 number in
    let b : List ℕ = left 24 (hex_text key) in
    let c : List ℕ = left 24 (hex_text value) in
    let eight : length a ≡ 8 = length_right 8 number short in
    let key_fits : length (hex_text key) ≤ 24 = omega (arith, hex_length_law key) in
    let value_fits : length (hex_text value) ≤ 24 = omega (arith, hex_length_law value) in
    let wide : length b ≡ 24 = length_left 24 (hex_text key) key_fits in
    let wide_too : length c ≡ 24 = length_left 24 (hex_text value) value_fits in
    let one : pasted (8 - length number) number blank ≡ fields a (spaces 24) (spaces 24) (spaces 5) =
    ap (pasted (8 - length number) number) blank_fields
    ∙ in_slot number (spaces 8) (spaces 24) (spaces 24) (spaces 5) (8 - length number) (omega arith)
    ∙ ap (λ (t : List ℕ). fields t (spaces 24) (spaces 24) (spaces 5)) (aligned_right 8 number short) in
    let two : pasted 9 (hex_text key) (fields a (spaces 24) (spaces 24) (spaces 5)) ≡ fields a b (spaces 24) (spaces 5) =
    in_key (hex_text key) a (spaces 24) (spaces 24) (spaces 5) eight key_fits
    ∙ ap (λ (t : List ℕ). fields a t (spaces 24) (spaces 5)) (aligned_left 24 (hex_text key)) in
    let three : pasted 34 (hex_text value) (fields a b (spaces 24) (spaces 5)) ≡ fields a b c (spaces 5) =
    in_value (hex_text value) a b (spaces 24) (spaces 5) eight wide value_fits ∙ ap (λ (t : List ℕ). fields a b t (spaces 5)) (aligned_left 24 (hex_text value)) in
    let four : pasted (64 - length due) due (fields a b c (spaces 5)) ≡ fields a b c (right 5 due) =
    in_deadline due a b c (spaces 5) eight wide wide_too (5 - length due) (64 - length due) (omega arith) (omega arith)
    ∙ ap (λ (t : List ℕ). fields a b c t) (aligned_right 5 due late) in
    ap (pasted (64 - length due) due) (ap (pasted 34 (hex_text value)) (ap (pasted 9 (hex_text key)) one ∙ two) ∙ three) ∙ four

pub length_line : (slot deadline : ℕ) (key value : List ℕ) → length (decimal_text slot) ≤ 8 → length key ≤ 12 → length value ≤ 12 → length (deadline_text deadline) ≤ 5
    → length (line (row slot key value deadline)) ≡ 65
unfolding line
length_line slot deadline key value short k v late =
    let a = length_right 8 (decimal_text slot) short in
    let b = length_left 24 (hex_text key) (omega (arith, hex_length_law key)) in
    let c = length_left 24 (hex_text value) (omega (arith, hex_length_law value)) in
    let d = length_right 5 (deadline_text deadline) late in
    simp (
      length-append (right 8 (decimal_text slot)),
      length-append (left 24 (hex_text key)),
      length-append (left 24 (hex_text value)),
      length-append (right 5 (deadline_text deadline)),
    )
    (omega arith)

-- ---- a blank line

pub length_blank : length blank ≡ 65
unfolding blank
length_blank = refl

-- spaces before the last byte, and a line feed in its place
pub blank_is : (out s : List ℕ) → length out ≡ 65 → s ≡ spaces (length (take 64 out)) → set (s ++ drop 64 out) 64 10 ≡ blank
unfolding blank
blank_is out s h e =
    let n : length (take 64 out) ≡ 64 = length-take-le 64 out (omega arith) in
    let none : drop 65 out ≡ [] = drop_all 65 out (omega arith) in
    let one : drop 64 out ≡ get_or out 64 0 ∷ drop 65 out = drop_more out 64 0 (omega arith) in
    rw (e, n, one, none)

-- ---- a line in its place on a page, which was lent and comes home

pub line_home : (number : ℕ) (s area home : List ℕ) → length s ≡ 65 → home ≡ s → put_mid (number * 65) (number * 65 + 65 - number * 65) area home ≡ pasted (65 * number) s area
line_home number s area home l e =
    let at : number * 65 ≡ 65 * number = omega arith in
    let n : 65 * number + 65 - 65 * number ≡ length s = omega arith in
    rw (at, n, e)
