-- Laws of unsigned LEB128: the two equations of the writer, how long it writes, that the standard's reader reads what it wrote, and that nothing else
-- as short reads as that number.
-- Assumes nothing.
use mathlib.Core.Path.{◌≡◌, refl, sym, ap, ap₂, ◌∙◌, subst₂}
use mathlib.Core.Bool.{Bool, true, false, cond}
use mathlib.Core.List.{List, [], ◌∷◌, ◌++◌}
use Prim.Native.Nat.{ℕ, zero, suc, ◌+◌, ◌*◌, ◌/◌, ◌%◌, ◌^◌, ◌≤◌, ◌<◌, max}
use native.Mathlib.Nat.{pow-suc, one-le-pow, pow-le-pow_right, div-lt_iff_lt-mul, not-suc-le-zero}
use native.Mathlib.Decide.{le_ind, dec_le}
use native.Mathlib.Omega.{arith}
use borrow.Author.Tests.{lt-ltb, le-ltb}
use lib.Dec.{ltb, lit<}
use lib.ListN.{length, take}
use Rattle.std.proofs.lemmas.Nat.{pow-add}
use Rattle.hash_parts.proofs.Bytes.{Bytes, one_byte}
use Rattle.records.specs.Uleb128.{uleb_in, uleb128, Decoded, decoded, unended, continued, decode}

-- ---- the writer

-- more steps than the number write the same
one_more : (steps n : ℕ) → n ≤ steps → uleb_in (suc steps) n ≡ uleb_in steps n
unfolding uleb_in
one_more zero n h =
    let e : n < 128 = omega arith in
    simp (lt-ltb _ _ e)
one_more (suc steps) n h = ap (λ (r : List ℕ). cond (ltb n 128) (n ∷ []) ((n % 128 + 128) ∷ r)) (one_more steps (n / 128) (omega arith))

enough : (steps n : ℕ) → n ≤ steps → uleb_in steps n ≡ uleb_in n n
enough steps n h = le_ind (λ (m : ℕ). uleb_in m n ≡ uleb_in n n) refl (λ m l e. one_more m n l ∙ e) steps h

pub leb_small : (n : ℕ) → n < 128 → uleb128 n ≡ n ∷ []
unfolding uleb128 uleb_in
leb_small zero h = refl
leb_small (suc n) h = simp (lt-ltb _ _ h)

pub leb_large : (n : ℕ) → 128 ≤ n → uleb128 n ≡ (n % 128 + 128) ∷ uleb128 (n / 128)
unfolding uleb128 uleb_in
leb_large zero h = absurd (not-suc-le-zero h)
leb_large (suc n) h = simp (le-ltb _ _ h) (ap (λ (r : List ℕ). (suc n % 128 + 128) ∷ r) (enough n (suc n / 128) (omega arith)))

-- what holds of one byte, and of a byte more, holds of every number
pub leb_ind : (P : ℕ → Type 0) → ((n : ℕ) → n < 128 → P n) → ((n : ℕ) → 128 ≤ n → P (n / 128) → P n) → (n : ℕ) → P n
leb_ind P small large n = go n n (omega arith)
  where
    go : (bound m : ℕ) → m ≤ bound → P m
    go zero m h = small m (omega arith)
    go (suc bound) m h =
        elim (dec_le 128 m) as (λ _. P m) [
          | yes l ↦ large m l (go bound (m / 128) (omega arith))
          | no s ↦ small m (omega arith)
        ]

pub leb_pos : (n : ℕ) → 1 ≤ length (uleb128 n)
leb_pos = leb_ind (λ (n : ℕ). 1 ≤ length (uleb128 n)) (λ n s. rw (leb_small n s) (omega arith)) (λ n l i. rw (leb_large n l) (omega arith))

-- as many bytes as the number has digits of seven bits
pub leb_short : (k n : ℕ) → n < 128 ^ suc k → length (uleb128 n) ≤ suc k
leb_short zero n h = rw (leb_small n h) (omega arith)
leb_short (suc k) n h =
    elim (dec_le 128 n) as (λ _. length (uleb128 n) ≤ suc (suc k)) [
      | yes l ↦
          let q : n / 128 < 128 ^ suc k = (div-lt_iff_lt-mul (lit< tt)).1 (rw (pow-suc 128 (suc k)) at h) in
          rw (leb_large n l) (omega (arith, leb_short k (n / 128) q))
      | no s ↦ let h : n < 128 = omega arith in rw (leb_small n h) (omega arith)
    ]

pub leb_ten : (n : ℕ) → n < 2 ^ 64 → length (uleb128 n) ≤ 10
leb_ten n h = leb_short 9 n (omega arith)

pub leb_long : (k n : ℕ) → 128 ^ k ≤ max n 1 → suc k ≤ length (uleb128 n)
leb_long zero n h = leb_pos n
leb_long (suc k) n h =
    let e : 128 ^ k * 128 ≤ max n 1 = rw (pow-suc 128 k) at h in
    let some : 1 ≤ 128 ^ k = one-le-pow k 128 (lit< tt) in
    let large : 128 ≤ n = omega arith in
    rw (leb_large n large) (omega (arith, leb_long k (n / 128) (omega arith)))

sevens : (k : ℕ) → 2 ^ (7 * k) ≡ 128 ^ k
sevens zero = refl
sevens (suc k) =
    let e : 7 * suc k ≡ 7 * k + 7 = omega arith in
    rw (e, pow-add 2 (7 * k) 7, sevens k, pow-suc 128 k)

-- by the bits below the number's highest
pub leb_bits : (n r : ℕ) → 2 ^ r ≤ max n 1 → max n 1 < 2 * 2 ^ r → r / 7 + 1 ≡ length (uleb128 n)
leb_bits n r low high =
    let k : ℕ = r / 7 in
    let below : 2 ^ (7 * k) ≤ 2 ^ r = pow-le-pow_right (lit< tt) (omega arith) in
    let above : 2 ^ suc r ≤ 2 ^ (7 * suc k) = pow-le-pow_right (lit< tt) (omega arith) in
    let most = leb_short k n (omega (arith, above, pow-suc 2 r, sevens (suc k))) in
    let least = leb_long k n (omega (arith, below, sevens k)) in
    omega arith

-- ---- the reader

pub decode_last : (b : ℕ) (s : List ℕ) → b < 128 → decode (b ∷ s) ≡ decoded b 1
unfolding decode
decode_last b s h = simp (lt-ltb _ _ h)

pub decode_next : (b : ℕ) (s : List ℕ) → 128 ≤ b → decode (b ∷ s) ≡ continued b (decode s)
unfolding decode
decode_next b s h = simp (le-ltb _ _ h)

-- what was written is read, whatever stands after it
pub decode_encode : (n : ℕ) (rest : List ℕ) → decode (uleb128 n ++ rest) ≡ decoded n (length (uleb128 n))
decode_encode n rest =
    leb_ind (λ (m : ℕ). decode (uleb128 m ++ rest) ≡ decoded m (length (uleb128 m)))
    (λ m s. rw (leb_small m s) (decode_last m rest s))
    (λ m l i.
    let b : ℕ = m % 128 + 128 in
    let e : b % 128 + 128 * (m / 128) ≡ m = omega arith in
    rw (leb_large m l)
    (decode_next b _ (omega arith) ∙ ap (continued b) i ∙ ap (λ (x : ℕ). decoded x (suc (length (uleb128 (m / 128))))) e))
    n

-- the reader takes at least one byte and none past the end, and what stands after does not matter
pub decode_inside : (s : List ℕ) (v n : ℕ) → decode s ≡ decoded v n → (1 ≤ n) × (n ≤ length s) × ((post : List ℕ) → decode (s ++ post) ≡ decoded v n)
unfolding decode
decode_inside [] v n e = absurd (let z : ◌≡◌ {A = ℕ} 0 1 = cc in omega arith)
decode_inside (b ∷ s) v n e = go (ltb b 128) refl e (decode s) refl (decode_inside s)
  where
    go : (t : Bool) → ltb b 128 ≡ t → cond t (decoded b 1) (continued b (decode s)) ≡ decoded v n → (d : Decoded) → decode s ≡ d
        → ((w m : ℕ) → decode s ≡ decoded w m → (1 ≤ m) × (m ≤ length s) × ((post : List ℕ) → decode (s ++ post) ≡ decoded w m))
        → (1 ≤ n) × (n ≤ suc (length s)) × ((post : List ℕ) → cond t (decoded b 1) (continued b (decode (s ++ post))) ≡ decoded v n)
    go true q f d r i =
        let one : 1 ≡ n = cc in
        (omega arith, omega arith, λ post. f)
    go false q f unended r i = absurd (let z : ◌≡◌ {A = ℕ} 0 1 = cc in omega arith)
    go false q f (decoded w m) r i =
        let k : suc m ≡ n = cc in
        let j = i w m r in
        (omega arith, omega arith, λ post. ap (continued b) (j.2 post ∙ sym r) ∙ f)

-- ---- the other direction: of all bytes that the reader takes for a number the writer's are the fewest, and no others are as few

-- what holds of a last byte, and of a byte more, holds of all that the reader takes
decode_ind : (P : List ℕ → ℕ → ℕ → Type 0)
    → ((b : ℕ) (s : List ℕ) → b < 128 → P (b ∷ s) b 1)
    → ((b : ℕ) (s : List ℕ) (v n : ℕ) → 128 ≤ b → decode s ≡ decoded v n → P s v n → P (b ∷ s) (b % 128 + 128 * v) (suc n))
    → (s : List ℕ) (v n : ℕ) → decode s ≡ decoded v n → P s v n
unfolding decode
decode_ind P last next [] v n e = absurd (let z : ◌≡◌ {A = ℕ} 0 1 = cc in omega arith)
decode_ind P last next (b ∷ s) v n e =
    elim (dec_le 128 b) as (λ _. P (b ∷ s) v n) [
      | yes l ↦ go l (decode_ind P last next s) (decode s) refl (sym (decode_next b s l) ∙ e)
      | no k ↦
          let h : b < 128 = omega arith in
          let f : decoded b 1 ≡ decoded v n = sym (decode_last b s h) ∙ e in
          let x : b ≡ v = cc in
          let y : 1 ≡ n = cc in
          subst₂ (P (b ∷ s)) x y (last b s h)
    ]
  where
    go : 128 ≤ b → ((w m : ℕ) → decode s ≡ decoded w m → P s w m) → (d : Decoded) → decode s ≡ d → continued b d ≡ decoded v n → P (b ∷ s) v n
    go l i unended q f = absurd (let z : ◌≡◌ {A = ℕ} 0 1 = cc in omega arith)
    go l i (decoded w m) q f =
        let x : b % 128 + 128 * w ≡ v = cc in
        let y : suc m ≡ n = cc in
        subst₂ (P (b ∷ s)) x y (next b s w m l q (i w m q))

-- seven bits more take at most one byte more
leb_longer : (r v : ℕ) → r < 128 → length (uleb128 (r + 128 * v)) ≤ suc (length (uleb128 v))
leb_longer r v h =
    elim (dec_le 128 (r + 128 * v)) as (λ _. length (uleb128 (r + 128 * v)) ≤ suc (length (uleb128 v))) [
      | yes l ↦
          let q : (r + 128 * v) / 128 ≡ v = omega arith in
          rw (leb_large (r + 128 * v) l, q) (omega arith)
      | no k ↦ let f : r + 128 * v < 128 = omega arith in rw (leb_small (r + 128 * v) f) (omega arith)
    ]

pub leb_least : (s : List ℕ) (v n : ℕ) → decode s ≡ decoded v n → length (uleb128 v) ≤ n
leb_least =
    decode_ind (λ s v n. length (uleb128 v) ≤ n) (λ b s h. rw (leb_small b h) (omega arith))
    (λ b s v n l e i. omega (arith, leb_longer (b % 128) v (omega arith)))

-- a number of more than one byte is written by its lowest seven bits, marked, and the rest
leb_next : (b v : ℕ) → 128 ≤ b → b < 256 → 1 < length (uleb128 (b % 128 + 128 * v)) → uleb128 (b % 128 + 128 * v) ≡ b ∷ uleb128 v
leb_next b v l h long =
    elim (dec_le 128 (b % 128 + 128 * v)) as (λ _. uleb128 (b % 128 + 128 * v) ≡ b ∷ uleb128 v) [
      | yes k ↦
          let low : (b % 128 + 128 * v) % 128 + 128 ≡ b = omega arith in
          let rest : (b % 128 + 128 * v) / 128 ≡ v = omega arith in
          leb_large (b % 128 + 128 * v) k ∙ ap₂ (λ (x y : ℕ). x ∷ uleb128 y) low rest
      | no k ↦
          let f : b % 128 + 128 * v < 128 = omega arith in
          let one : length (uleb128 (b % 128 + 128 * v)) ≡ 1 = ap length (leb_small (b % 128 + 128 * v) f) in
          absurd (omega arith)
    ]

pub leb_only : (s : List ℕ) (v n : ℕ) → Bytes s → decode s ≡ decoded v n → n ≡ length (uleb128 v) → take n s ≡ uleb128 v
leb_only s v n bytes e =
    decode_ind (λ s v n. Bytes s → n ≡ length (uleb128 v) → take n s ≡ uleb128 v) (λ b s h bytes f. sym (leb_small b h)) next s v n e bytes
  where
    next : (b : ℕ) (s : List ℕ) (v n : ℕ) → 128 ≤ b → decode s ≡ decoded v n → (Bytes s → n ≡ length (uleb128 v) → take n s ≡ uleb128 v)
        → Bytes (b ∷ s) → suc n ≡ length (uleb128 (b % 128 + 128 * v)) → take (suc n) (b ∷ s) ≡ uleb128 (b % 128 + 128 * v)
    next b s v n l e i (one_byte h bytes) f =
        let w : uleb128 (b % 128 + 128 * v) ≡ b ∷ uleb128 v = leb_next b v l h (omega (arith, f, (decode_inside s v n e).0)) in
        let g : n ≡ length (uleb128 v) = omega (arith, f, ap length w) in
        ap (◌∷◌ b) (i bytes g) ∙ sym w
