-- Laws of numbers in bytes, of writing from a position of an area on, and of words with some bits cleared. Assumes nothing.
use mathlib.Core.Path.{◌≡◌, refl, ap, ◌∙◌}
use mathlib.Core.List.{List, [], ◌∷◌, ◌++◌, append_assoc}
use Prim.Native.Nat.{ℕ, zero, suc, ◌+◌, ◌-◌, ◌*◌, ◌/◌, ◌%◌, ◌≤◌, ◌<◌}
use native.Mathlib.Decide.{dec_lt}
use borrow.Rule.Slice.PartMut.{put_mid}
use native.Mathlib.Omega.{arith}
use lib.ListN.{length, take, drop, get_or, replicate, length-append, length-drop, length-replicate}
use lib.Seq.{drop-drop, length-take-le, take_all, take_at}
use Rattle.std.specs.Int.{from_le_bytes, to_le_bytes, w64}
use Rattle.std.proofs.lemmas.List.{drop_all, drop_more, drop-replicate, get_or_past}
use Rattle.std.specs.Simd.{first_chunks}
use Rattle.hash_parts.specs.ZeroBytes.{bytes_of, number_of}
use Rattle.hash_parts.proofs.Bytes.{Bytes, no_bytes, one_byte, length_bytes, number_append}
use Rattle.records.specs.Area.{over, part, pasted}
use Rattle.index.specs.Segments.{padded}
use Rattle.records.proofs.Area.{over_length, over_pasted}

-- ---- numbers in bytes, as std reads and writes them

-- the number of bytes from one on
number_step : (l : List ℕ) (i : ℕ) → number_of (drop i l) ≡ get_or l i 0 + 256 * number_of (drop (i + 1) l)
unfolding number_of
number_step l i = go (dec_lt i (length l))
  where
    go : Dec (i < length l) → number_of (drop i l) ≡ get_or l i 0 + 256 * number_of (drop (i + 1) l)
    go (yes h) = rw (drop_more l i 0 h)
    go (no h) = rw (drop_all i l (omega arith), drop_all (i + 1) l (omega arith), get_or_past l i 0 (omega arith))

-- items of eight bits are bytes
pub all_bytes : (l : List ℕ) → ((j : ℕ) → get_or l j 0 < 256) → Bytes l
all_bytes [] f = no_bytes
all_bytes (b ∷ l) f = one_byte (f 0) (all_bytes l (λ j. f (suc j)))

-- eight bytes
pub word_is : (l : List ℕ) → length l ≡ 8 → from_le_bytes w64 l ≡ number_of l
unfolding number_of
word_is l h =
    let none : number_of (drop 8 l) ≡ 0 = rw (drop_all 8 l (omega arith)) in
    omega (arith, none, number_step l 0, number_step l 1, number_step l 2, number_step l 3, number_step l 4, number_step l 5, number_step l 6, number_step l 7)

-- eight bytes of some
pub chunk_at : (k : ℕ) (l : List ℕ) (i : ℕ) (d : List ℕ) → i < k → get_or (first_chunks 8 k l) i d ≡ part (8 * i) 8 l
chunk_at zero l i d h = absurd (omega arith)
chunk_at (suc k) l zero d h = refl
chunk_at (suc k) l (suc i) d h =
    let e : 8 + 8 * i ≡ 8 * suc i = omega arith in
    chunk_at k (drop 8 l) i d (omega arith) ∙ ap (take 8) (drop-drop (8 * i) 8 l) ∙ ap (λ (j : ℕ). part j 8 l) e

zeros_number : (n : ℕ) → number_of (replicate n 0) ≡ 0
unfolding number_of
zeros_number zero = refl
zeros_number (suc n) = omega (arith, zeros_number n)

-- and fewer, before zeros
pub padded_number : (s : List ℕ) → length s ≤ 8 → from_le_bytes w64 (s ++ drop (length s) (replicate 8 0)) ≡ number_of s
padded_number s h =
    let rest : List ℕ = drop (length s) (replicate 8 0) in
    let zeros : rest ≡ replicate (8 - length s) 0 = drop-replicate (length s) 8 0 in
    let long : length (s ++ rest) ≡ 8 = omega (arith, length-append s rest, ap length zeros, length-replicate {A = ℕ} (8 - length s) 0) in
    word_is (s ++ rest) long ∙ number_append s rest ∙ rw (zeros, zeros_number (8 - length s)) (omega arith)

-- the bytes of a word
low_bytes : (n : ℕ) → to_le_bytes w64 n ≡ bytes_of 8 n
unfolding bytes_of
low_bytes n =
    let e₂ : n / 256 / 256 ≡ n / 65_536 = omega arith in
    let e₃ : n / 65_536 / 256 ≡ n / 16_777_216 = omega arith in
    let e₄ : n / 16_777_216 / 256 ≡ n / 4_294_967_296 = omega arith in
    let e₅ : n / 4_294_967_296 / 256 ≡ n / 1_099_511_627_776 = omega arith in
    let e₆ : n / 1_099_511_627_776 / 256 ≡ n / 281_474_976_710_656 = omega arith in
    let e₇ : n / 281_474_976_710_656 / 256 ≡ n / 72_057_594_037_927_936 = omega arith in
    rw (e₂, e₃, e₄, e₅, e₆, e₇)

take_bytes : (k j n : ℕ) → k ≤ j → take k (bytes_of j n) ≡ bytes_of k n
unfolding bytes_of
take_bytes zero j n h = refl
take_bytes (suc k) zero n h = absurd (omega arith)
take_bytes (suc k) (suc j) n h = ap (λ (l : List ℕ). n % 256 ∷ l) (take_bytes k j (n / 256) (omega arith))

pub front_bytes : (k n : ℕ) → k ≤ 8 → take k (to_le_bytes w64 n) ≡ bytes_of k n
front_bytes k n h = ap (take k) (low_bytes n) ∙ take_bytes k 8 n h

-- a number written to a part of an area
pub number_put : (out new : List ℕ) (at width n : ℕ) → at + width ≤ length out → new ≡ bytes_of (length (take (at + width - at) (drop at out))) n
    → put_mid at (at + width - at) out new ≡ pasted at (bytes_of width n) out
number_put out new at width n h e =
    let k : at + width - at ≡ width = omega arith in
    let l : length (take width (drop at out)) ≡ width = length-take-le width (drop at out) (omega (arith, length-drop at out)) in
    let f : new ≡ bytes_of width n = rw (k, l) at e in
    rw (k, f, length_bytes width n)

-- ---- writing to a part of an area, which then comes home

pub front_home : (s new area : List ℕ) (n : ℕ) → new ≡ s → length s ≡ n → new ++ drop n area ≡ over s area
front_home s new area n e h = rw (e, ← h)

pub mid_home : (s new area : List ℕ) (at n : ℕ) → new ≡ s → length s ≡ n → put_mid at n area new ≡ pasted at s area
mid_home s new area at n e h = rw (e, ← h)

-- words before zeros up to 256
pub padded_home : (ws area base zs : List ℕ) (n : ℕ) → base ≡ over ws area → length ws ≡ n → n ≤ 256 → 256 ≤ length area
    → zs ≡ replicate (length (take (256 - n) (drop n base))) 0 → put_mid n (256 - n) base zs ≡ over (padded ws) area
unfolding padded
padded_home ws area base zs n e h few held z =
    let zeros : List ℕ = replicate (256 - n) 0 in
    let long : length base ≡ length area = ap length e ∙ over_length ws area (omega arith) in
    let size : length (take (256 - n) (drop n base)) ≡ 256 - n = length-take-le (256 - n) (drop n base) (omega (arith, length-drop n base)) in
    mid_home zeros zs base n (256 - n) (rw size at z) (length-replicate (256 - n) 0)
    ∙ ap (pasted n zeros) e
    ∙ over_pasted ws zeros area n h
    ∙ rw (take_all 256 ws (omega arith), h)

-- the words are read from there again
pub padded_front : (ws area : List ℕ) (n : ℕ) → length ws ≡ n → n ≤ 256 → take n (over (padded ws) area) ≡ ws
unfolding padded
padded_front ws area n h few = rw (take_all 256 ws (omega arith), append_assoc, take_at ws _ n h)

-- ---- writing from a position on

-- a part that is lent by its start and its end
pub part_lent : (start end count : ℕ) (l : List ℕ) → end ≡ start + count → take (end - start) (drop start l) ≡ part start count l
part_lent start end count l e = let n : end - start ≡ count = omega arith in ap (λ (k : ℕ). take k (drop start l)) n
