-- Packing a bucket. Assumes nothing.
use Rattle.std.proofs.Common.{◌≡◌, ℕ, ◌+◌, ◌*◌, ◌/◌, ◌%◌, ◌^◌, ◌<◌, ◌≤◌, Bool, true, false, cond, eqb, List, [], ◌∷◌, ◌++◌, length, take, drop, get_or, set, take_all, drop-cons, zero, suc, w64, sym, refl, ap, ◌∙◌, ap₂, append_assoc, add-one, arith, length-append, drop-drop, eq-eqb, ne_eqb}
use Rattle.std.specs.Int.{from_le_bytes}
use Rattle.std.specs.Prelude.{Some, None}
use mathlib.Core.List.{flat_map}
use native.Mathlib.Numerals.{add-two, add-three, add-four, add_five, add_six}
use lib.Seq.{sets-eq}
use Rattle.hash_parts.specs.Hash.{control_tag, secondary_tag}
use Rattle.hash_parts.specs.ZeroBytes.{bytes_of, number_of}
use Rattle.hash_parts.proofs.Bytes.{Bytes, bytes_append, bytes_of_law, length_bytes, bytes_number, number_small, number_bytes, number_two}
use Rattle.records.specs.Area.{pasted}
use Rattle.index.specs.Packed.{words_of, control_byte, control_word, reference_bytes, reference_words, packed_slot}
use Rattle.index.specs.Word.{word_tag, word_stored}
use Rattle.index.proofs.Bytes.{number_front, seven_words}

-- ---- a slot's control byte and reference

pub control_small : (w : ℕ) → control_byte w < 128
control_small w = go (eqb w 0)
  where
    go : (t : Bool) → cond t 0 (control_tag (word_tag w)) < 128
    go true = omega arith
    go false = omega arith

pub control_used : (w : ℕ) {t r : ℕ} → (w ≡ 0 → ⊥) → t ≡ word_tag w → r ≡ control_tag t → (r ≡ control_byte w) × (r < 128)
control_used w {r = r} n e f =
    let g : r ≡ control_byte w = rw (ne_eqb w 0 n) (f ∙ ap control_tag e) in
    (g, rw g (control_small w))

pub reference_bytes_law : (w : ℕ) → Bytes (reference_bytes w)
reference_bytes_law w = go (eqb w 0)
  where
    go : (t : Bool) → Bytes (cond t (bytes_of 7 0) (bytes_of 2 (secondary_tag (word_tag w)) ++ bytes_of 5 (word_stored w)))
    go true = bytes_of_law 7 0
    go false = bytes_append (bytes_of_law 2 (secondary_tag (word_tag w))) (bytes_of_law 5 (word_stored w))

pub length_reference : (w : ℕ) → length (reference_bytes w) ≡ 7
length_reference w = go (eqb w 0)
  where
    go : (t : Bool) → length (cond t (bytes_of 7 0) (bytes_of 2 (secondary_tag (word_tag w)) ++ bytes_of 5 (word_stored w))) ≡ 7
    go true = length_bytes 7 0
    go false =
        length-append (bytes_of 2 (secondary_tag (word_tag w))) (bytes_of 5 (word_stored w))
        ∙ ap₂ ◌+◌ (length_bytes 2 (secondary_tag (word_tag w))) (length_bytes 5 (word_stored w))

-- the number of a reference
abbrev pub reference : ℕ → ℕ
reference w = number_of (reference_bytes w)

pub reference_small : (w : ℕ) → reference w < 2 ^ 56
reference_small w = rw (length_reference w) at (number_small (reference_bytes_law w))

pub reference_empty : (w : ℕ) → w ≡ 0 → 0 ≡ reference w
reference_empty w e = rw (eq-eqb w 0 e) (sym (number_bytes 7 0))

pub reference_used : (w : ℕ) {t s l : ℕ} → (w ≡ 0 → ⊥) → t ≡ word_tag w → s ≡ secondary_tag t → l ≡ word_stored w
    → (s + l * 0x1_0000 ≡ reference w) × (s + l * 0x1_0000 < 2 ^ 56)
reference_used w {s = s} {l = l} n e f g =
    let r : s + l * 0x1_0000 ≡ reference w = rw (ne_eqb w 0 n, g, f ∙ ap secondary_tag e) (sym (number_two 2 5 (secondary_tag (word_tag w)) (word_stored w) ∙ omega arith)) in
    (r, rw r (reference_small w))

-- ---- a slot read back

pub slot_empty : (control : ℕ) (bytes : List ℕ) → control % 128 ≡ 0 → None ≡ packed_slot control bytes
unfolding packed_slot
slot_empty control bytes e = rw (eq-eqb (control % 128) 0 e)

pub slot_used : (control : ℕ) {tag number : ℕ} {bytes : List ℕ} → Bytes bytes → tag ≡ control % 128 → (tag ≡ 0 → ⊥) → number ≡ number_of bytes
    → Some (tag + 128 * (number % 0x1_0000), number / 0x1_0000) ≡ packed_slot control bytes
unfolding packed_slot
slot_used control {tag = tag} r e n f = rw (← e, ne_eqb tag 0 n, f, (number_front r).0, (number_front r).1)

-- ---- a bucket

-- so many words from a place on, each by its place
abbrev pub words_from : ℕ → ℕ → List ℕ → List ℕ
words_from zero at l = []
words_from (suc n) at l = get_or l at 0 ∷ words_from n (suc at) l

pub words_from_law : (n at : ℕ) (l : List ℕ) → at + n ≤ length l → take n (drop at l) ≡ words_from n at l
words_from_law zero at l h = refl
words_from_law (suc n) at l h = rw (drop-cons l at 0 (omega arith), words_from_law n (suc at) l (omega arith))

pub eight_words : (words : List ℕ) → length words ≡ 8 → words ≡ words_from 8 0 words
eight_words words e = sym (take_all 8 words (omega arith)) ∙ words_from_law 8 0 words (omega arith)

-- the bytes of a control word, each that of its slot's word
pub control_word_is : (words bytes : List ℕ) → length words ≡ 8 → ((i : ℕ) → i < 8 → get_or bytes i 0 ≡ control_byte (get_or words i 0))
    → from_le_bytes w64 bytes ≡ control_word words
unfolding control_word number_of
control_word_is words bytes long each =
    let e0 = each 0 (omega arith) in
    let e1 = each 1 (omega arith) in
    let e2 = each 2 (omega arith) in
    let e3 = each 3 (omega arith) in
    let e4 = each 4 (omega arith) in
    let e5 = each 5 (omega arith) in
    let e6 = each 6 (omega arith) in
    let e7 = each 7 (omega arith) in
    rw (eight_words words long) (omega arith)

pub reference_words_law : (w0 w1 w2 w3 w4 w5 w6 w7 : ℕ)
    → reference_words (w0 ∷ w1 ∷ w2 ∷ w3 ∷ w4 ∷ w5 ∷ w6 ∷ w7 ∷ [])
    ≡ (reference w0 + reference w1 % 0x100 * 0x100_0000_0000_0000)
    ∷ (reference w1 / 0x100 + reference w2 % 0x1_0000 * 0x1_0000_0000_0000)
    ∷ (reference w2 / 0x1_0000 + reference w3 % 0x100_0000 * 0x100_0000_0000)
    ∷ (reference w3 / 0x100_0000 + reference w4 % 0x1_0000_0000 * 0x1_0000_0000)
    ∷ (reference w4 / 0x1_0000_0000 + reference w5 % 0x100_0000_0000 * 0x100_0000)
    ∷ (reference w5 / 0x100_0000_0000 + reference w6 % 0x1_0000_0000_0000 * 0x1_0000)
    ∷ (reference w6 / 0x1_0000_0000_0000 + reference w7 * 0x100)
    ∷ []
unfolding reference_words flat_map
reference_words_law w0 w1 w2 w3 w4 w5 w6 w7 =
    ap (words_of 7) (join w0 (join w1 (join w2 (join w3 (join w4 (join w5 (join w6 (join w7 refl))))))))
    ∙ seven_words (reference w0) (reference w1) (reference w2) (reference w3) (reference w4) (reference w5) (reference w6) (reference w7) (reference_small w0) (reference_small w1)
    (reference_small w2) (reference_small w3) (reference_small w4) (reference_small w5) (reference_small w6) (reference_small w7)
  where
    join : (w : ℕ) {l m : List ℕ} → l ≡ m → reference_bytes w ++ l ≡ bytes_of 7 (reference w) ++ m
    join w e = ap₂ ◌++◌ (sym (bytes_number 7 (reference_bytes_law w) (length_reference w))) e

-- seven words stored one after the other
seven_stored : (l : List ℕ) (at a0 a1 a2 a3 a4 a5 a6 : ℕ) → at + 7 ≤ length l
    → set (set (set (set (set (set (set l at a0) (at + 1) a1) (at + 2) a2) (at + 3) a3) (at + 4) a4) (at + 5) a5) (at + 6) a6
    ≡ pasted at (a0 ∷ a1 ∷ a2 ∷ a3 ∷ a4 ∷ a5 ∷ a6 ∷ []) l
seven_stored l at a0 a1 a2 a3 a4 a5 a6 h =
    let vs : List ℕ = a0 ∷ a1 ∷ a2 ∷ a3 ∷ a4 ∷ a5 ∷ a6 ∷ [] in
    rw (add-one at, add-two at, add-three at, add-four at, add_five at, add_six at) (sets-eq vs l at h ∙ append_assoc (take at l) vs (drop (at + 7) l) ∙ rw (drop-drop 7 at l))

pub references_stored : (l : List ℕ) (at : ℕ) (words rs : List ℕ) → at + 7 ≤ length l → length words ≡ 8 → ((i : ℕ) → i < 8 → get_or rs i 0 ≡ reference (get_or words i 0))
    → set (set (set (set (set (set (set l at (get_or rs 0 0 + get_or rs 1 0 % 0x100 * 0x100_0000_0000_0000))
    (at + 1) (get_or rs 1 0 / 0x100 + get_or rs 2 0 % 0x1_0000 * 0x1_0000_0000_0000))
    (at + 2) (get_or rs 2 0 / 0x1_0000 + get_or rs 3 0 % 0x100_0000 * 0x100_0000_0000))
    (at + 3) (get_or rs 3 0 / 0x100_0000 + get_or rs 4 0 % 0x1_0000_0000 * 0x1_0000_0000))
    (at + 4) (get_or rs 4 0 / 0x1_0000_0000 + get_or rs 5 0 % 0x100_0000_0000 * 0x100_0000))
    (at + 5) (get_or rs 5 0 / 0x100_0000_0000 + get_or rs 6 0 % 0x1_0000_0000_0000 * 0x1_0000))
    (at + 6) (get_or rs 6 0 / 0x1_0000_0000_0000 + get_or rs 7 0 * 0x100)
    ≡ pasted at (reference_words words) l
references_stored l at words rs h long each =
    let e0 = each 0 (omega arith) in
    let e1 = each 1 (omega arith) in
    let e2 = each 2 (omega arith) in
    let e3 = each 3 (omega arith) in
    let e4 = each 4 (omega arith) in
    let e5 = each 5 (omega arith) in
    let e6 = each 6 (omega arith) in
    let e7 = each 7 (omega arith) in
    let same : words ≡ words_from 8 0 words = eight_words words long in
    rw (e0, e1, e2, e3, e4, e5, e6, e7) (seven_stored l at _ _ _ _ _ _ _ h ∙ sym (ap (λ (ws : List ℕ). pasted at ws l) (ap reference_words same ∙ reference_words_law _ _ _ _ _ _ _ _)))
