-- Laws of numbers and bytes as text, and of writing them. Assumes nothing.
use mathlib.Core.Bool.{Bool, true, false, cond}
use mathlib.Core.Path.{◌≡◌, refl, sym, ap, ◌∙◌}
use mathlib.Core.List.{List, [], ◌∷◌, ◌++◌, append_assoc, append-nil}
use Prim.Native.Nat.{ℕ, zero, suc, ◌+◌, ◌*◌, ◌-◌, ◌/◌, ◌%◌, ◌^◌, ◌≤◌, ◌<◌}
use native.Mathlib.Decide.{le_ind, dec_le}
use native.Mathlib.Nat.{add_assoc, pow-suc, div-lt_iff_lt-mul, not-suc-le-zero}
use native.Mathlib.Numerals.{add-one}
use native.Mathlib.Omega.{arith}
use borrow.Author.Tests.{lt-ltb, le-ltb, le-leb, lt-leb}
use borrow.Rule.Slice.PartMut.{put_mid}
use lib.Dec.{leb, ltb, lit<}
use lib.ListN.{length, get_or, take, drop, set, length-append, length-drop, length-set, length-take, drop_of_length-le}
use lib.Seq.{drop-cons, drop_at, drop-drop, set_split, length-take-le, take_at}
use Rattle.std.proofs.lemmas.List.{take_rest}
use Rattle.records.specs.Area.{over, pasted}
use Rattle.records.proofs.Area.{part_home}
use Rattle.texts.specs.Output.{digits_in, decimal_text, hex_digit, hex_text, Output, output, appended, ended_before}

-- ---- decimal numbers

-- more steps than the number spell the same
one_more : (steps n : ℕ) → n ≤ steps → digits_in (suc steps) n ≡ digits_in steps n
unfolding digits_in
one_more zero n h =
    let e : n < 10 = omega arith in
    simp (lt-ltb _ _ e)
one_more (suc steps) n h = ap (λ (r : List ℕ). cond (ltb n 10) ((n + 48) ∷ []) (r ++ ((n % 10 + 48) ∷ []))) (one_more steps (n / 10) (omega arith))

enough : (steps n : ℕ) → n ≤ steps → digits_in steps n ≡ digits_in n n
enough steps n h = le_ind (λ (m : ℕ). digits_in m n ≡ digits_in n n) refl (λ m l e. one_more m n l ∙ e) steps h

pub decimal_small : (n : ℕ) → n < 10 → decimal_text n ≡ (n + 48) ∷ []
unfolding decimal_text digits_in
decimal_small zero h = refl
decimal_small (suc n) h = simp (lt-ltb _ _ h)

pub decimal_large : (n : ℕ) → 10 ≤ n → decimal_text n ≡ decimal_text (n / 10) ++ ((n % 10 + 48) ∷ [])
unfolding decimal_text digits_in
decimal_large zero h = absurd (not-suc-le-zero h)
decimal_large (suc n) h = simp (le-ltb _ _ h) (ap (λ (r : List ℕ). r ++ ((suc n % 10 + 48) ∷ [])) (enough n (suc n / 10) (omega arith)))

-- as many digits as the number has
pub decimal_short : (k n : ℕ) → n < 10 ^ suc k → length (decimal_text n) ≤ suc k
decimal_short zero n h = rw (decimal_small n h) (omega arith)
decimal_short (suc k) n h =
    elim (dec_le 10 n) as (λ _. length (decimal_text n) ≤ suc (suc k)) [
      | yes l ↦
          let q : n / 10 < 10 ^ suc k = (div-lt_iff_lt-mul (lit< tt)).1 (rw (pow-suc 10 (suc k)) at h) in
          rw (decimal_large n l) (omega (arith, decimal_short k (n / 10) q, length-append (decimal_text (n / 10)) ((n % 10 + 48) ∷ [])))
      | no s ↦ let h : n < 10 = omega arith in rw (decimal_small n h) (omega arith)
    ]

pub decimal_twenty : (n : ℕ) → n < 2 ^ 64 → length (decimal_text n) ≤ 20
decimal_twenty n h = decimal_short 19 n (omega arith)

pub decimal_pos : (n : ℕ) → 1 ≤ length (decimal_text n)
decimal_pos n =
    elim (dec_le 10 n) as (λ _. 1 ≤ length (decimal_text n)) [
      | yes l ↦ rw (decimal_large n l) (omega (arith, length-append (decimal_text (n / 10)) ((n % 10 + 48) ∷ [])))
      | no s ↦ let h : n < 10 = omega arith in rw (decimal_small n h) (omega arith)
    ]

-- ---- the digits of a number, from the last to the first: what stands from a position on ends the number

pub record Spelt (value rest : ℕ) (digits : List ℕ) (i : ℕ) : Type 0 where
  pub parts : decimal_text value ≡ decimal_text rest ++ drop i digits
  pub room : length (decimal_text rest) ≤ i
  pub size : (i ≤ 20) × (length digits ≡ 20)

pub spelt_start : (value : ℕ) (digits : List ℕ) → value < 2 ^ 64 → length digits ≡ 20 → Spelt value value digits 20
spelt_start value digits h l =
    let n : length digits ≤ 20 = omega arith in
    record { parts = rw (drop_of_length-le digits n) (sym (append-nil (decimal_text value))); room = decimal_twenty value h; size = (omega arith, l) }

set_front : (digits : List ℕ) (i x : ℕ) → i < length digits → drop i (set digits i x) ≡ x ∷ drop (i + 1) digits
set_front digits i x h = rw (set_split digits i x h, drop_at (take i digits) (x ∷ drop (suc i) digits) i (length-take-le i digits (omega arith)), add-one i)

module _ {value rest : ℕ} {digits : List ℕ} {i : ℕ} (s : Spelt value rest digits i) where
  -- a digit more has its place
  pub spelt_room : (0 < i) × (i - 1 < length digits)
  spelt_room = (omega (arith, s.room, decimal_pos rest), omega (arith, s.room, s.size, decimal_pos rest))

  front : (x : ℕ) → drop (i - 1) (set digits (i - 1) x) ≡ x ∷ drop i digits
  front x =
      let e : i - 1 + 1 ≡ i = omega (arith, spelt_room) in
      set_front digits (i - 1) x spelt_room.1 ∙ ap (λ (n : ℕ). x ∷ drop n digits) e

  pub spelt_next : (rest / 10 ≡ 0 → ⊥) → Spelt value (rest / 10) (set digits (i - 1) (48 + rest % 10)) (i - 1)
  spelt_next some =
      let h : 10 ≤ rest = omega arith in
      let d : 48 + rest % 10 ≡ rest % 10 + 48 = omega arith in
      record {
        parts = s.parts ∙ rw (front (48 + rest % 10), d, decimal_large rest h, append_assoc (decimal_text (rest / 10)) ((rest % 10 + 48) ∷ []) (drop i digits));
        room = omega (arith, s.room, ap length (decimal_large rest h), length-append (decimal_text (rest / 10)) ((rest % 10 + 48) ∷ []));
        size = (omega (arith, s.size), length-set digits (i - 1) (48 + rest % 10) ∙ s.size.1);
      }

  pub spelt_last : rest / 10 ≡ 0 → drop (i - 1) (set digits (i - 1) (48 + rest % 10)) ≡ decimal_text value
  spelt_last none =
      let h : rest < 10 = omega arith in
      let d : 48 + rest % 10 ≡ rest + 48 = omega arith in
      rw (front (48 + rest % 10), d, s.parts, decimal_small rest h)

-- the digits as they are read from the array that they end
pub digits_text : (digits : List ℕ) (from value : ℕ) → length digits ≡ 20 → drop from digits ≡ decimal_text value → take (20 - from) (drop from digits) ≡ decimal_text value
digits_text digits from value l e = ap (λ (n : ℕ). take (n - from) (drop from digits)) (sym l) ∙ take_rest digits from ∙ e

-- ---- bytes in hexadecimal

pub hex_next : (bytes : List ℕ) (i b : ℕ) → i < length bytes → b ≡ get_or bytes i 0 → hex_text (drop i bytes) ≡ hex_digit (b / 16) ∷ hex_digit (b % 16) ∷ hex_text (drop (i + 1) bytes)
unfolding hex_text
hex_next bytes i b h e = rw (drop-cons bytes i 0 h, ← e, add-one i)

pub hex_none : (bytes : List ℕ) (i : ℕ) → length bytes ≤ i → hex_text (drop i bytes) ≡ []
unfolding hex_text
hex_none bytes i h = rw (drop_of_length-le bytes h)

pub hex_length_law : (bytes : List ℕ) → length (hex_text bytes) ≡ 2 * length bytes
unfolding hex_text
hex_length_law [] = refl
hex_length_law (b ∷ s) = omega (arith, hex_length_law s)

-- ---- writing to the whole of an area

pub over_all : (s area : List ℕ) → length area ≡ length s → over s area ≡ s
over_all s area h =
    let none : drop (length s) area ≡ [] = let short : length area ≤ length s = omega arith in drop_of_length-le area short in
    rw none (append-nil s)

-- ---- writing from a position on

pub pasted_length : (at : ℕ) (s area : List ℕ) → at + length s ≤ length area → length (pasted at s area) ≡ length area
pasted_length at s area h = simp (length-append, length-take, length-drop) (omega arith)

pub pasted_more : (at n : ℕ) (s t area : List ℕ) → at + length s ≤ length area → n ≡ at + length s → pasted n t (pasted at s area) ≡ pasted at (s ++ t) area
pasted_more at n s t area h e =
    let front : List ℕ = take at area ++ s in
    let rest : List ℕ = drop (length s) (drop at area) in
    let l : length front ≡ n = omega (arith, length-append (take at area) s, length-take-le at area (omega arith)) in
    ap (λ (o : List ℕ). pasted n t o) (sym (append_assoc (take at area) s rest))
    ∙ rw (take_at front rest n l, drop_at front rest n l) (simp (append_assoc, length-append, drop-drop, add_assoc))

-- what was written where it fits
pub appended_parts : (at : ℕ) (s area out : List ℕ) (n : ℕ) → output n out ≡ appended at s area → at + length s ≤ length area → (n ≡ at + length s) × (out ≡ pasted at s area)
unfolding appended
appended_parts at s area out n e h =
    let q : output n out ≡ output (at + length s) (pasted at s area) = rw (le-leb (at + length s) (length area) h) at e in
    (ap (λ (o : Output). o.at) q, ap (λ (o : Output). o.area) q)

module _ (at : ℕ) (s area : List ℕ) where
  -- in the rest of the area, which was lent and comes home
  pub appended_in : (n : ℕ) (home : List ℕ) → at + length s ≤ length area → n ≡ at + length s → home ≡ over s (take (length area - at) (drop at area))
      → output n (put_mid at (length area - at) area home) ≡ appended at s area
  unfolding appended
  appended_in n home h e o = rw (e, part_home s area home at o, le-leb (at + length s) (length area) h)

  -- in just its part of the area
  pub appended_at : (n k : ℕ) (home : List ℕ) → at + length s ≤ length area → n ≡ at + length s → k ≡ n - at → home ≡ s → output n (put_mid at k area home) ≡ appended at s area
  unfolding appended
  appended_at n k home h e f o =
      let m : k ≡ length s = omega arith in
      rw (e, m, o, le-leb (at + length s) (length area) h)

  pub appended_out : length area < at + length s → output at area ≡ appended at s area
  unfolding appended
  appended_out h = rw (lt-leb (at + length s) (length area) h)

  -- so that it ends before a position
  pub ended_in : (end : ℕ) → length s ≤ end → at ≡ end - length s → (appended at s area).area ≡ ended_before end s area
  unfolding appended ended_before
  ended_in end h e =
      let n : end - length s + length s ≡ end = omega arith in
      rw (e, n, le-leb (length s) end h) (go (leb end (length area)))
    where
      go : (t : Bool) → (cond t (output end (pasted (end - length s) s area)) (output (end - length s) area)).area ≡ cond t (pasted (end - length s) s area) area
      go true = refl
      go false = refl

  pub ended_out : (end : ℕ) → end < length s → area ≡ ended_before end s area
  unfolding ended_before
  ended_out end h = rw (lt-leb (length s) end h)

  pub ended_fits : (end : ℕ) → length s ≤ end → end ≤ length area → ended_before end s area ≡ pasted (end - length s) s area
  unfolding ended_before
  ended_fits end h k = rw (le-leb (length s) end h, le-leb end (length area) k)
