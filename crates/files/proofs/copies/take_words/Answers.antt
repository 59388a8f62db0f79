-- `take_words` meets its contract: the words read and those that are left to read are the words of the bytes. Assumes nothing.
use mathlib.Core.Path.{◌≡◌, refl, sym, ap, ap₂, ◌∙◌}
use mathlib.Core.List.{List, [], ◌∷◌, map}
use Prim.Native.Nat.{ℕ, suc, ◌+◌, ◌-◌, ◌*◌, ◌/◌, ◌^◌, ◌≤◌, ◌<◌}
use native.Mathlib.Nat.{mod-eq_of_lt}
use native.Mathlib.Omega.{arith}
use lib.Bits.{and_mask}
use lib.ListN.{get_or, length, drop, length-drop, length-map}
use lib.Seq.{drop-drop, length-take-le}
use Rattle.std.specs.Int.{from_le_bytes, w64}
use Rattle.hash_parts.specs.ZeroBytes.{number_of}
use Rattle.records.specs.Area.{part}
use Rattle.records.proofs.Area.{begin, complete, next_byte, over_all}
use Rattle.index.specs.Packed.{words_of}
use Rattle.files.specs.Copies.{masked_by}
use Rattle.files.proofs.Copying.{chunk_at, word_is}
use Rattle.index.proofs.PackingLoop.{length_words}
use Rattle.files.proofs.copies.take_words.Invariants.{Fitting, from}
use Rattle.files.proofs.copies.take_words.Goals as goal

-- the next, and the others
one_word : (bytes : List ℕ) (n i : ℕ) → i < n → from bytes n i ≡ number_of (part (8 * i) 8 bytes) ∷ from bytes n (i + 1)
unfolding words_of
one_word bytes n i h =
    let e : n - i ≡ suc (n - (i + 1)) = omega arith in
    let d : 8 * i + 8 ≡ 8 * (i + 1) = omega arith in
    rw e (ap (λ (l : List ℕ). number_of (part (8 * i) 8 bytes) ∷ words_of (n - (i + 1)) l) (drop-drop 8 (8 * i) bytes ∙ ap (λ (k : ℕ). drop k bytes) d))

fitting_more : (w : ℕ) (l : List ℕ) → w < 2 ^ 64 → Fitting l → Fitting (w ∷ l)
fitting_more w l h e = ap₂ (λ (x : ℕ) (y : List ℕ). x ∷ y) (and_mask w 64 ∙ mod-eq_of_lt h) e

pub loop-i-init : goal.loop-i-init
loop-i-init c =
    let a = c.args in
    let n = length a.words.now in
    let w = words_of n a.bytes.now in
    let e : n - 0 ≡ n = omega arith in
    let short : length (map (masked_by a.mask) w) ≤ n = omega (arith, length-map w (masked_by a.mask), length_words n a.bytes.now) in
    (rw e (begin (map (masked_by a.mask) w) a.words.now short), λ f. rw e at f)

pub loop-i-preserved : goal.loop-i-preserved
loop-i-preserved c =
    let l = c.loop-i in
    let a = c.args in
    let n = length a.words.now in
    let w = c.from_le_bytes.result in
    let rest = from a.bytes.now n (l.i + 1) in
    let eight : length (part (8 * l.i) 8 a.bytes.now) ≡ 8 = length-take-le 8 (drop (8 * l.i) a.bytes.now) (omega (arith, length-drop (8 * l.i) a.bytes.now)) in
    let chunk = ap (λ (cs : List (List ℕ)). get_or cs l.i []) c.as_chunks.ensures.front ∙ chunk_at (length a.bytes.now / 8) a.bytes.now l.i [] (omega arith) in
    let value = c.from_le_bytes.ensures ∙ ap (from_le_bytes w64) chunk ∙ word_is (part (8 * l.i) 8 a.bytes.now) eight in
    let one : from a.bytes.now n l.i ≡ w ∷ rest = one_word a.bytes.now n l.i (omega arith) ∙ ap (λ (x : ℕ). x ∷ rest) (sym value) in (
      next_byte (masked_by a.mask w) (map (masked_by a.mask) rest) l.invariant.0 (ap (map (masked_by a.mask)) one),
      λ f. l.invariant.1 (rw one (fitting_more w rest c.from_le_bytes.type_inv f)),
    )

pub returns : goal.returns
unfolding words_of
returns c =
    let l = c.loop-i in
    let a = c.args in
    let n = length a.words.now in
    let whole = map (masked_by a.mask) (words_of n a.bytes.now) in
    let z : n - l.i ≡ 0 = omega arith in
    let none : from a.bytes.now n l.i ≡ [] = ap (λ (k : ℕ). words_of k (drop (8 * l.i) a.bytes.now)) z in
    let long : length whole ≡ n = length-map (words_of n a.bytes.now) (masked_by a.mask) ∙ length_words n a.bytes.now in
    ((complete l.invariant.0 (ap (map (masked_by a.mask)) none)).1 ∙ over_all whole a.words.now (sym long), l.invariant.1 (rw none refl))
