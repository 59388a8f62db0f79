-- Texts tell numbers and bytes apart, also where spaces fill their columns. Assumes nothing.
use mathlib.Core.Bool.{Bool, true, false, cond}
use mathlib.Core.List.{List, [], ◌∷◌, ◌++◌}
use mathlib.Core.Path.{◌≡◌, refl, sym, ap, ap₂, ◌∙◌}
use Prim.Native.Nat.{ℕ, zero, suc, ◌+◌, ◌-◌, ◌*◌, ◌/◌, ◌%◌, ◌≤◌, ◌<◌}
use native.Mathlib.Decide.{dec_le}
use native.Mathlib.Nat.{not-suc-le-zero}
use native.Mathlib.Omega.{arith}
use borrow.Author.Tests.{ltb-true, eqb-true, ne_eqb}
use lib.Dec.{eqb, ltb}
use lib.ListN.{length, get_or, take, drop, replicate}
use lib.Seq.{take_at, drop_at}
use Rattle.hash_parts.proofs.Bytes.{Bytes, one_byte}
use Rattle.texts.specs.Ascii.{ascii}
use Rattle.texts.specs.Output.{decimal_text, hex_digit, hex_text}
use Rattle.texts.proofs.Spelling.{decimal_small, decimal_large, decimal_pos}
use Rattle.charts.specs.Line.{deadline_text, left, right}

-- two lists that begin with parts of one length
pub parts_same : (a b c d : List ℕ) → length a ≡ length b → a ++ c ≡ b ++ d → (a ≡ b) × (c ≡ d)
parts_same a b c d e f =
    (sym (take_at a c (length b) e) ∙ ap (take (length b)) f ∙ take_at b d (length b) refl, sym (drop_at a c (length b) e) ∙ ap (drop (length b)) f ∙ drop_at b d (length b) refl)

-- ---- numbers

value : ℕ → List ℕ → ℕ
value n [] = n
value n (c ∷ s) = value (n * 10 + (c - 48)) s

value_append : (n : ℕ) (a b : List ℕ) → value n (a ++ b) ≡ value (value n a) b
unfolding value
value_append n [] b = refl
value_append n (c ∷ a) b = value_append (n * 10 + (c - 48)) a b

decimal_back : (k n : ℕ) → n ≤ k → value 0 (decimal_text n) ≡ n
unfolding value
decimal_back zero n h = rw (decimal_small n (omega arith)) (omega arith)
decimal_back (suc k) n h =
    elim (dec_le 10 n) as (λ _. value 0 (decimal_text n) ≡ n) [
      | yes l ↦
          rw (decimal_large n l)
          (value_append 0 (decimal_text (n / 10)) ((n % 10 + 48) ∷ []) ∙ ap (λ (m : ℕ). m * 10 + (n % 10 + 48 - 48)) (decimal_back k (n / 10) (omega arith)) ∙ omega arith)
      | no s ↦ let t : n < 10 = omega arith in rw (decimal_small n t) (omega arith)
    ]

pub decimal_same : (a b : ℕ) → decimal_text a ≡ decimal_text b → a ≡ b
decimal_same a b e = sym (decimal_back a a (omega arith)) ∙ ap (value 0) e ∙ decimal_back b b (omega arith)

pub head_append : (a b : List ℕ) → 1 ≤ length a → get_or (a ++ b) 0 0 ≡ get_or a 0 0
head_append [] b h = absurd (not-suc-le-zero h)
head_append (x ∷ a) b h = refl

-- a number begins with a digit
pub decimal_head : (k n : ℕ) → n ≤ k → (48 ≤ get_or (decimal_text n) 0 0) × (get_or (decimal_text n) 0 0 ≤ 57)
decimal_head zero n h = let t : n < 10 = omega arith in rw (decimal_small n t) (omega arith, omega arith)
decimal_head (suc k) n h =
    elim (dec_le 10 n) as (λ _. (48 ≤ get_or (decimal_text n) 0 0) × (get_or (decimal_text n) 0 0 ≤ 57)) [
      | yes l ↦ rw (decimal_large n l, head_append (decimal_text (n / 10)) ((n % 10 + 48) ∷ []) (decimal_pos (n / 10))) (decimal_head k (n / 10) (omega arith))
      | no s ↦ let t : n < 10 = omega arith in rw (decimal_small n t) (omega arith, omega arith)
    ]

-- ---- fields

-- without the spaces in front
pub strip : List ℕ → List ℕ
strip [] = []
strip (c ∷ s) = cond (eqb c 32) (strip s) (c ∷ s)

strip_text : (a : List ℕ) → (get_or a 0 0 ≡ 32 → ⊥) → strip a ≡ a
unfolding strip
strip_text [] h = refl
strip_text (c ∷ a) h = rw (ne_eqb c 32 h)

pub strip_spaces : (n : ℕ) (a : List ℕ) → (get_or a 0 0 ≡ 32 → ⊥) → strip (replicate n 32 ++ a) ≡ a
unfolding strip
strip_spaces zero a h = strip_text a h
strip_spaces (suc n) a h = strip_spaces n a h

pub right_same : (w : ℕ) (a b : List ℕ) → (get_or a 0 0 ≡ 32 → ⊥) → (get_or b 0 0 ≡ 32 → ⊥) → right w a ≡ right w b → a ≡ b
right_same w a b h k e = sym (strip_spaces (w - length a) a h) ∙ ap strip e ∙ strip_spaces (w - length b) b k

-- up to the first space
before : List ℕ → List ℕ
before [] = []
before (c ∷ s) = cond (eqb c 32) [] (c ∷ before s)

pub data Plain : List ℕ → Type 0 where
  plain_none : Plain []
  plain_more : {c : ℕ} {s : List ℕ} → 32 < c → Plain s → Plain (c ∷ s)

before_spaces : (n : ℕ) → before (replicate n 32) ≡ []
unfolding before
before_spaces zero = refl
before_spaces (suc n) = refl

before_text : (n : ℕ) (a : List ℕ) → Plain a → before (a ++ replicate n 32) ≡ a
unfolding before
before_text n [] p = before_spaces n
before_text n (c ∷ a) (plain_more h p) = let d : c ≡ 32 → ⊥ = λ (e : c ≡ 32). omega arith in rw (ne_eqb c 32 d) (ap (λ (t : List ℕ). c ∷ t) (before_text n a p))

pub left_same : (w : ℕ) (a b : List ℕ) → Plain a → Plain b → left w a ≡ left w b → a ≡ b
left_same w a b p q e = sym (before_text (w - length a) a p) ∙ ap before e ∙ before_text (w - length b) b q

digit_plain : (d : ℕ) → 32 < hex_digit d
digit_plain d = go (ltb d 10)
  where
    go : (b : Bool) → 32 < cond b (d + 48) (d + 87)
    go true = omega arith
    go false = omega arith

pub hex_plain : (s : List ℕ) → Plain (hex_text s)
unfolding hex_text
hex_plain [] = plain_none
hex_plain (b ∷ s) = plain_more {c = hex_digit (b / 16)} (digit_plain (b / 16)) (plain_more {c = hex_digit (b % 16)} (digit_plain (b % 16)) (hex_plain s))

digit_same : (d e : ℕ) → d < 16 → e < 16 → hex_digit d ≡ hex_digit e → d ≡ e
digit_same d e h k f = go (ltb d 10) (ltb e 10) refl refl f
  where
    go : (x y : Bool) → ltb d 10 ≡ x → ltb e 10 ≡ y → cond x (d + 48) (d + 87) ≡ cond y (e + 48) (e + 87) → d ≡ e
    go true true a b f = omega arith
    go false false a b f = omega arith
    go true false a b f = let l : d < 10 = ltb-true d 10 a in absurd (omega arith)
    go false true a b f = let l : e < 10 = ltb-true e 10 b in absurd (omega arith)

pub hex_same : (a b : List ℕ) → Bytes a → Bytes b → hex_text a ≡ hex_text b → a ≡ b
unfolding hex_text
hex_same [] [] p q e = refl
hex_same [] (y ∷ b) p q e = absurd (let l : 0 ≡ suc (suc (length (hex_text b))) = ap length e in omega arith)
hex_same (x ∷ a) [] p q e = absurd (let l : suc (suc (length (hex_text a))) ≡ 0 = ap length e in omega arith)
hex_same (x ∷ a) (y ∷ b) (one_byte h p) (one_byte k q) e =
    let high : x / 16 ≡ y / 16 = digit_same (x / 16) (y / 16) (omega arith) (omega arith) (ap (λ (l : List ℕ). get_or l 0 0) e) in
    let low : x % 16 ≡ y % 16 = digit_same (x % 16) (y % 16) (omega arith) (omega arith) (ap (λ (l : List ℕ). get_or l 1 0) e) in
    let same : x ≡ y = omega arith in
    ap₂ ◌∷◌ same (hex_same a b p q (ap (drop 2) e))

pub deadline_head : (d : ℕ) → get_or (deadline_text d) 0 0 ≡ 32 → ⊥
unfolding deadline_text
deadline_head d = go (eqb d 65535)
  where
    go : (b : Bool) → get_or (cond b (ascii "never") (decimal_text d)) 0 0 ≡ 32 → ⊥
    go true e = omega (arith, e)
    go false e = omega (arith, e, (decimal_head d d (omega arith)).0)

pub deadline_same : (a b : ℕ) → deadline_text a ≡ deadline_text b → a ≡ b
unfolding deadline_text
deadline_same a b e = go (eqb a 65535) (eqb b 65535) refl refl e
  where
    go : (x y : Bool) → eqb a 65535 ≡ x → eqb b 65535 ≡ y → cond x (ascii "never") (decimal_text a) ≡ cond y (ascii "never") (decimal_text b) → a ≡ b
    go true true f g e = eqb-true a 65535 f ∙ sym (eqb-true b 65535 g)
    go true false f g e = let h : 110 ≡ get_or (decimal_text b) 0 0 = ap (λ (l : List ℕ). get_or l 0 0) e in absurd (omega (arith, (decimal_head b b (omega arith)).1))
    go false true f g e = let h : get_or (decimal_text a) 0 0 ≡ 110 = ap (λ (l : List ℕ). get_or l 0 0) e in absurd (omega (arith, (decimal_head a a (omega arith)).1))
    go false false f g e = decimal_same a b e
