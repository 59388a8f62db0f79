-- Laws of numbers as text. Assumes nothing.
use mathlib.Core.Path.{◌≡◌, refl, sym, ◌∙◌}
use mathlib.Core.Bool.{Bool, true, false, cond}
use mathlib.Core.List.{List, [], ◌∷◌}
use Rattle.std.proofs.Common.{Option, Some, None}
use Prim.Native.Nat.{ℕ, ◌+◌, ◌*◌, ◌-◌, ◌^◌, ◌≤◌, ◌<◌}
use native.Mathlib.Nat.{le-mul_of_pos_right}
use native.Mathlib.Numerals.{add-one}
use native.Mathlib.Decide.{dec_lt}
use native.Mathlib.Omega.{arith}
use borrow.Author.Tests.{lt-ltb, le-ltb, ltb-true, ltb-false, le-leb, lt-leb, leb-true, eq-eqb, ne_eqb}
use lib.Dec.{ltb, leb}
use lib.ListN.{length, get_or, take, drop, length-drop, drop_of_length-le}
use lib.Seq.{drop-cons, take_all}
use Rattle.passage_lines.specs.Text.{digit_in, digit_of, spelled, at_most, number_in, timed, duration_of}

-- ---- spelled, a digit at a time

pub digit_is : (base c d : ℕ) → Some d ≡ digit_in base c → (digit_of c ≡ d) × (d < base)
unfolding digit_in
digit_is base c d e = go (ltb (digit_of c) base) refl e
  where
    go : (t : Bool) → ltb (digit_of c) base ≡ t → Some d ≡ cond t (Some (digit_of c)) None → (digit_of c ≡ d) × (d < base)
    go true l q = let z : digit_of c ≡ d = cc in (z, omega (arith, ltb-true _ _ l))
    go false l q = cc

pub no_digit : (base c : ℕ) → None ≡ digit_in base c → base ≤ digit_of c
unfolding digit_in
no_digit base c e = go (ltb (digit_of c) base) refl e
  where
    go : (t : Bool) → ltb (digit_of c) base ≡ t → None ≡ cond t (Some (digit_of c)) None → base ≤ digit_of c
    go true l q = cc
    go false l q = omega (arith, ltb-false _ _ l)

pub spelled_end : (base n : ℕ) (text : List ℕ) (i : ℕ) → length text ≤ i → spelled base n (drop i text) ≡ Some n
unfolding spelled
spelled_end base n text i h = rw (drop_of_length-le text h)

-- ---- the limit

-- a number only grows with its digits
spelled_grows : (base n : ℕ) (s : List ℕ) (v : ℕ) → 0 < base → spelled base n s ≡ Some v → n ≤ v
unfolding spelled
spelled_grows base n [] v p e = let f : n ≡ v = cc in omega arith
spelled_grows base n (c ∷ s) v p e = go (ltb (digit_of c) base) e (spelled_grows base (n * base + digit_of c) s v p)
  where
    go : (t : Bool) → cond t (spelled base (n * base + digit_of c) s) None ≡ Some v → (spelled base (n * base + digit_of c) s ≡ Some v → n * base + digit_of c ≤ v) → n ≤ v
    go true q f = omega (arith, f q, le-mul_of_pos_right n p)
    go false q f = absurd (let z : ◌≡◌ {A = ℕ} 0 1 = cc in omega arith)

pub past : (base max n : ℕ) (s : List ℕ) → 0 < base → max < n → at_most max (spelled base n s) ≡ None
past base max n s p h = go (spelled base n s) refl
  where
    go : (o : Option ℕ) → spelled base n s ≡ o → at_most max o ≡ None
    go None e = refl
    go (Some v) e = let g : n ≤ v = spelled_grows base n s v p e in rw (lt-leb v max (omega arith))

pub in_limit : (max n : ℕ) → n ≤ max → at_most max (Some n) ≡ Some n
in_limit max n h = rw (le-leb n max h)

-- ---- the number

pub number_start : (base max : ℕ) (text : List ℕ) → 0 < length text → number_in base max text ≡ at_most max (spelled base 0 text)
unfolding number_in
number_start base max [] h = absurd (omega arith)
number_start base max (c ∷ s) h = refl

pub number_none : (base max : ℕ) (text : List ℕ) → length text ≡ 0 → number_in base max text ≡ None
unfolding number_in
number_none base max [] h = refl
number_none base max (c ∷ s) h = absurd (omega arith)

-- a digit at a time: n is what the digits before the one at a position spell
module _ (base max n : ℕ) (text : List ℕ) (i : ℕ) (h : i < length text) (q : number_in base max text ≡ at_most max (spelled base n (drop i text))) where
  pub number_bad : None ≡ digit_in base (get_or text i 0) → None ≡ number_in base max text
  unfolding spelled
  number_bad e = sym (q ∙ rw (drop-cons text i 0 h, le-ltb (digit_of (get_or text i 0)) base (no_digit _ _ e)))

  module _ {d : ℕ} (e : Some d ≡ digit_in base (get_or text i 0)) where
    pub number_next : number_in base max text ≡ at_most max (spelled base (n * base + d) (drop (i + 1) text))
    unfolding spelled
    number_next = q ∙ (let k = digit_is base (get_or text i 0) d e in rw (drop-cons text i 0 h, add-one i, k.0, lt-ltb d base k.1))

    pub number_past : 0 < base → max < n * base + d → None ≡ number_in base max text
    number_past p l = sym (number_next ∙ past base max (n * base + d) (drop (i + 1) text) p l)

-- a number that is read is at most the limit
pub number_limit : (base max : ℕ) (text : List ℕ) (v : ℕ) → number_in base max text ≡ Some v → v ≤ max
unfolding number_in
number_limit base max [] v e = absurd (let z : ◌≡◌ {A = ℕ} 0 1 = cc in omega arith)
number_limit base max (c ∷ s) v e = go (spelled base 0 (c ∷ s)) e
  where
    go : (o : Option ℕ) → at_most max o ≡ Some v → v ≤ max
    go None q = absurd (let z : ◌≡◌ {A = ℕ} 0 1 = cc in omega arith)
    go (Some n) q = at (leb n max) refl q
      where
        at : (t : Bool) → leb n max ≡ t → cond t (Some n) None ≡ Some v → v ≤ max
        at true l f = let g : n ≡ v = cc in omega (arith, leb-true n max l)
        at false l f = absurd (let z : ◌≡◌ {A = ℕ} 0 1 = cc in omega arith)

-- ---- durations

pub duration_short : (text : List ℕ) → length text < 11 → duration_of text ≡ None
unfolding duration_of
duration_short text h = rw (lt-ltb (length text) 11 h)

module _ (text : List ℕ) (p : ℕ) (h : (10 ≤ length text) × (p ≡ length text - 10)) where
  pub duration_no_point : (get_or text p 0 ≡ 46 → ⊥) → duration_of text ≡ None
  unfolding duration_of
  duration_no_point n = go (dec_lt (length text) 11)
    where
      go : Dec (length text < 11) → duration_of text ≡ None
      go (yes l) = duration_short text l
      go (no m) = rw (le-ltb (length text) 11 (omega arith), ← h.1, ne_eqb (get_or text p 0) 46 n)

  -- what seconds and nanoseconds say
  pub duration_is : {secs nanos : Option ℕ} → get_or text p 0 ≡ 46 → secs ≡ number_in 10 (2 ^ 64 - 1) (take p text)
      → nanos ≡ number_in 10 999_999_999 (take (length text - (p + 1)) (drop (p + 1) text)) → duration_of text ≡ timed secs nanos
  unfolding duration_of number_in
  duration_is {secs} {nanos} e s n = go (dec_lt (length text) 11)
    where
      after_point : take (length text - (p + 1)) (drop (p + 1) text) ≡ drop (length text - 9) text
      after_point =
          let e : p + 1 ≡ length text - 9 = omega arith in
          rw e (take_all (length text - (length text - 9)) (drop (length text - 9) text) (omega (arith, length-drop (length text - 9) text)))

      go : Dec (length text < 11) → duration_of text ≡ timed secs nanos
      go (yes l) =
          let z : p ≡ 0 = omega arith in
          let q : secs ≡ None = rw z at s in
          rw q (duration_short text l)
      go (no m) = rw (le-ltb (length text) 11 (omega arith), ← h.1, eq-eqb (get_or text p 0) 46 e, ← s, ← after_point, ← n)
