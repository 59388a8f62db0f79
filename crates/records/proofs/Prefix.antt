-- Laws of length prefixes: the reader is the standard's for every number below 2^64 in at most ten bytes, it stays inside the list, and what
-- stands around the prefix does not matter; and the steps by which the code reads it.
-- Assumes nothing.
use mathlib.Core.Path.{◌≡◌, refl, ap, ap₂, ◌∙◌}
use mathlib.Core.Bool.{Bool, true, false, cond}
use mathlib.Core.List.{List, ◌++◌}
use Prim.Native.Nat.{ℕ, zero, suc, ◌+◌, ◌*◌, ◌-◌, ◌%◌, ◌^◌, ◌≤◌, ◌<◌}
use native.Mathlib.Nat.{pow-suc, mul_comm, mul_assoc, mul-add, add_assoc, not-suc-le-zero, mod-eq_of_lt, mul-le-mul_left, mul-le-mul_right, one-le-pow}
use native.Mathlib.Numerals.{add-one}
use native.Mathlib.Omega.{arith}
use borrow.Author.Tests.{le-leb, lt-leb}
use lib.Dec.{leb, lit<, leb-suc-suc}
use lib.ListN.{length, get_or, drop, length-drop, drop_of_length-le}
use lib.Seq.{drop_at, drop-cons, drop-append-le, drop-append-add}
use Rattle.std.proofs.lemmas.Option.{some_pair_parts}
use Rattle.records.specs.Uleb128.{uleb128, Decoded, decoded, unended, continued, decode}
use Rattle.records.specs.Varint.{limited, read_varint}
use Rattle.std.specs.Prelude.{Option, Some, None}
use Rattle.records.proofs.Uleb128.{decode_last, decode_next, decode_encode, decode_inside, leb_ten}

-- ---- reading at a position

-- the standard's number for every number below 2^64 in at most ten bytes
pub read_standard : (s : List ℕ) (at v n : ℕ) → decode (drop at s) ≡ decoded v n → v < 2 ^ 64 → n ≤ 10 → read_varint s at ≡ Some (v, at + n)
unfolding read_varint
read_standard s at v n e h l = rw (e, le-leb n 10 l, mod-eq_of_lt h)

-- never an eleventh byte
pub read_long : (s : List ℕ) (at v n : ℕ) → decode (drop at s) ≡ decoded v n → 10 < n → read_varint s at ≡ None
unfolding read_varint
read_long s at v n e h = rw (e, lt-leb n 10 h)

-- what was written is read, whatever stands before and after
pub read_written : (p rest : List ℕ) (n at : ℕ) → length p ≡ at → n < 2 ^ 64 → read_varint (p ++ (uleb128 n ++ rest)) at ≡ Some (n, at + length (uleb128 n))
read_written p rest n at e h =
    read_standard (p ++ (uleb128 n ++ rest)) at n (length (uleb128 n)) (rw (drop_at p (uleb128 n ++ rest) at e) (decode_encode n rest)) h (leb_ten n h)

-- a prefix that is read was read by the standard's reader
read_is : (s : List ℕ) (at v n : ℕ) → read_varint s at ≡ Some (v, n)
    → (w : ℕ) × (m : ℕ) × (decode (drop at s) ≡ decoded w m) × (cond {A = Option (ℕ × ℕ)} (leb m 10) (Some (w % 2 ^ 64, at + m)) None ≡ Some (v, n))
unfolding read_varint
read_is s at v n e = go (decode (drop at s)) refl e
  where
    go : (d : Decoded) → decode (drop at s) ≡ d → limited at d ≡ Some (v, n)
        → (w : ℕ) × (m : ℕ) × (decode (drop at s) ≡ decoded w m) × (cond {A = Option (ℕ × ℕ)} (leb m 10) (Some (w % 2 ^ 64, at + m)) None ≡ Some (v, n))
    go (decoded w m) q f = (w, m, q, f)
    go unended q f = absurd (let z : ◌≡◌ {A = ℕ} 0 1 = cc in omega arith)

-- the position moves with what stands before
moved : (t : Bool) (x v k n m : ℕ) → cond {A = Option (ℕ × ℕ)} t (Some (x, n)) None ≡ Some (v, m) → (n ≡ m) × (cond {A = Option (ℕ × ℕ)} t (Some (x, k + n)) None ≡ Some (v, k + m))
moved true x v k n m e =
    let p = some_pair_parts x v n m e in
    (p.1, ap₂ (λ (a b : ℕ). Some (a, k + b)) p.0 p.1)
moved false x v k n m e = absurd (let z : ◌≡◌ {A = ℕ} 0 1 = cc in omega arith)

-- a prefix lies inside
pub read_inside : (s : List ℕ) (at v n : ℕ) → read_varint s at ≡ Some (v, n) → (at < n) × (n ≤ length s)
read_inside s at v n e =
    let r = read_is s at v n e in
    let i = decode_inside (drop at s) r.0 r.1 r.2 in
    let p : at + r.1 ≡ n = (moved (leb r.1 10) (r.0 % 2 ^ 64) v 0 (at + r.1) n r.3).0 in
    (omega (arith, i.0, p), omega (arith, i.0, i.1, p, length-drop at s))

-- it is read in any list that holds the list
pub read_wider : (pre s post : List ℕ) (at v n : ℕ) → read_varint s at ≡ Some (v, n) → read_varint (pre ++ (s ++ post)) (length pre + at) ≡ Some (v, length pre + n)
unfolding read_varint
read_wider pre s post at v n e =
    let r = read_is s at v n e in
    let i = decode_inside (drop at s) r.0 r.1 r.2 in
    let l : at ≤ length s = omega (arith, read_inside s at v n e) in
    let d : decode (drop at (s ++ post)) ≡ decoded r.0 r.1 = rw (drop-append-le at s post l) (i.2 post) in
    rw (drop-append-add pre (s ++ post) at, d, add_assoc (length pre) at r.1) (moved (leb r.1 10) (r.0 % 2 ^ 64) v (length pre) (at + r.1) n r.3).1

-- ---- reading byte by byte

pub byte_none : (s : List ℕ) (i : ℕ) → length s ≤ i → decode (drop i s) ≡ unended
unfolding decode
byte_none s i h = rw (drop_of_length-le s h)

pub byte_last : (s : List ℕ) (i b : ℕ) → b ≡ get_or s i 0 → i < length s → b < 128 → decode (drop i s) ≡ decoded b 1
byte_last s i b e h l = rw (drop-cons s i 0 h, ← e) (decode_last b (drop (suc i) s) l)

pub byte_next : (s : List ℕ) (i b : ℕ) → b ≡ get_or s i 0 → i < length s → 128 ≤ b → decode (drop i s) ≡ continued b (decode (drop (i + 1) s))
byte_next s i b e h l = rw (drop-cons s i 0 h, ← e, add-one i) (decode_next b (drop (suc i) s) l)

-- what reading answers, where the bytes before i gave acc, one bit of the next counts scale, and left bytes may stand before the last
abbrev pub answer : ℕ → ℕ → ℕ → ℕ → Decoded → Option (ℕ × ℕ)
answer acc scale i left (decoded v n) = cond (leb n (suc left)) (Some ((acc + scale * v) % 2 ^ 64, i + n)) None
answer acc scale i left unended = None

pub answer_start : (s : List ℕ) (at : ℕ) → read_varint s at ≡ answer 0 1 at 9 (decode (drop at s))
unfolding read_varint
answer_start s at = go (decode (drop at s))
  where
    go : (d : Decoded) → limited at d ≡ answer 0 1 at 9 d
    go (decoded v n) =
        let e : v ≡ 0 + 1 * v = omega arith in
        ap (λ (x : ℕ). cond {A = Option (ℕ × ℕ)} (leb n 10) (Some (x % 2 ^ 64, at + n)) None) e
    go unended = refl

-- nothing is read at the end, or behind it
pub read_past : (s : List ℕ) (at : ℕ) → length s ≤ at → read_varint s at ≡ None
read_past s at h = answer_start s at ∙ ap (answer 0 1 at 9) (byte_none s at h)

-- one more byte, of payload b % 128
pub answer_next : (acc scale i b left : ℕ) (d : Decoded) → 0 < left
    → answer acc scale i left (continued b d) ≡ answer (acc + b % 128 * scale) (scale * 128) (i + 1) (left - 1) d
answer_next acc scale i b zero d p = absurd (not-suc-le-zero p)
answer_next acc scale i b (suc m) unended p = refl
answer_next acc scale i b (suc m) (decoded v n) p =
    let g : i + suc n ≡ i + 1 + n = omega arith in
    let z : suc m - 1 ≡ m = omega arith in
    rw (z, leb-suc-suc n (suc m)) (ap₂ (λ (x y : ℕ). cond {A = Option (ℕ × ℕ)} (leb n (suc m)) (Some (x % 2 ^ 64, y)) None) (regroup (b % 128)) g)
  where
    regroup : (x : ℕ) → acc + scale * (x + 128 * v) ≡ acc + x * scale + scale * 128 * v
    regroup x = rw (mul-add scale x (128 * v), ← mul_assoc scale 128 v, mul_comm scale x, ← add_assoc acc (x * scale) (scale * 128 * v))

-- the last byte
pub answer_last : (acc scale i b left : ℕ) → b < 128 → acc + b % 128 * scale < 2 ^ 64
    → answer acc scale i left (decoded b 1) ≡ Some (acc + b % 128 * scale, i + 1)
answer_last acc scale i b left l h =
    let e : b % 128 ≡ b = mod-eq_of_lt l in
    let k : acc + b * scale < 2 ^ 64 = rw e at h in
    rw (e, le-leb 1 (suc left) (omega arith), mul_comm scale b, mod-eq_of_lt k)

-- the tenth byte: of the last its lowest bit counts, and no byte may follow
pub answer_tenth : (acc scale i b left : ℕ) → scale ≡ 2 ^ 63 → acc < scale → answer acc scale i left (decoded b 1) ≡ Some (acc + b % 2 * scale, i + 1)
answer_tenth acc scale i b left e h =
    let g : (acc + 2 ^ 63 * b) % 2 ^ 64 ≡ acc + b % 2 * 2 ^ 63 = omega arith in
    rw (le-leb 1 (suc left) (omega arith), e, g)

pub answer_over : (acc scale i b left : ℕ) (s : List ℕ) → left ≤ 0 → answer acc scale i left (continued b (decode s)) ≡ None
answer_over acc scale i b (suc m) s h = absurd (not-suc-le-zero h)
answer_over acc scale i b zero s h = go (decode s) refl
  where
    go : (d : Decoded) → decode s ≡ d → answer acc scale i 0 (continued b d) ≡ None
    go unended e = refl
    go (decoded v n) e = simp (lt-leb (suc n) 1 (omega (arith, (decode_inside s v n e).0)))

-- ---- what a byte counts

pub scale_next : (scale left : ℕ) → 0 < left → scale * 128 ^ left ≡ 2 ^ 63 → scale * 128 * 128 ^ (left - 1) ≡ 2 ^ 63
scale_next scale zero p e = absurd (not-suc-le-zero p)
scale_next scale (suc m) p e =
    let g : suc m - 1 ≡ m = omega arith in
    rw (g, mul_assoc scale 128 (128 ^ m), mul_comm 128 (128 ^ m), ← pow-suc 128 m) e

pub scale_last : (scale left : ℕ) → left ≤ 0 → scale * 128 ^ left ≡ 2 ^ 63 → scale ≡ 2 ^ 63
scale_last scale zero h e = omega arith
scale_last scale (suc m) h e = absurd (not-suc-le-zero h)

-- a payload's part of the number fits, and so does the next scale
pub part_small : (value scale left b : ℕ) → value < scale → 0 < left → scale * 128 ^ left ≡ 2 ^ 63 → b < 128
    → (b * scale ≤ 127 * scale) × (value + b * scale < scale * 128) × (scale * 128 ≤ 2 ^ 63)
part_small value scale left b h p e l =
    let g : b * scale ≤ 127 * scale = mul-le-mul_right scale (omega arith) in
    let k : scale * 128 * 1 ≤ scale * 128 * 128 ^ (left - 1) = mul-le-mul_left (scale * 128) (one-le-pow (left - 1) 128 (lit< tt)) in
    (g, omega arith, omega (arith, k, scale_next scale left p e))

-- and of the tenth byte the lowest bit
pub tenth_small : (value scale b : ℕ) → scale ≡ 2 ^ 63 → value < scale → value + b % 2 * scale < 2 ^ 64
tenth_small value scale b e h =
    let g : b % 2 * scale ≤ 1 * scale = mul-le-mul_right scale (omega arith) in
    omega arith

-- a prefix of one byte is that byte
pub read_one : (s : List ℕ) (at : ℕ) → at < length s → get_or s at 0 < 128 → read_varint s at ≡ Some (get_or s at 0, at + 1)
read_one s at h l = read_standard s at (get_or s at 0) 1 (byte_last s at (get_or s at 0) refl h l) (omega arith) (omega arith)
