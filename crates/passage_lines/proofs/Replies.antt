-- Laws of the lines of the output: how long they are, and writing them piece by piece. Assumes nothing.
use mathlib.Core.Path.{◌≡◌, refl, ap}
use mathlib.Core.List.{List, [], ◌∷◌, ◌++◌, append_assoc}
use Prim.Native.Nat.{ℕ, ◌+◌, ◌*◌, ◌^◌, ◌≤◌, ◌<◌, max}
use native.Mathlib.Omega.{arith}
use native.Mathlib.Numerals.{add-one}
use lib.ListN.{length, get_or, drop, length-append, drop_of_length-le}
use lib.Seq.{drop-cons}
use Rattle.std.specs.List.{flat_map}
use Rattle.records.proofs.Area.{Writing, fits, next}
use Rattle.texts.specs.Output.{decimal_text, output, appended}
use Rattle.texts.proofs.Spelling.{appended_parts, decimal_small, decimal_twenty, hex_length_law}
use Rattle.passage_lines.specs.Reply.{bytes_text, line_of, word_text, line_feed, number_field, refused_text, accepted_text, value_text}
use Rattle.passage_lines.specs.declared.reply.Word.{Word}
use Rattle.passage_lines.specs.declared.reply.Word.TheVariants.{Open, Put, Close, Get}

-- ---- a piece more

-- a text more, where all of it fits
pub next_text : {whole rest area out out' : List ℕ} {at n : ℕ} (s : List ℕ) → Writing whole (s ++ rest) area out at
    → output n out' ≡ appended at s out → Writing whole rest area out' n
next_text {rest = rest} {out = out} {out' = out'} {at = at} {n = n} s w q =
    let p = appended_parts at s out out' n q (fits s rest w refl) in
    next s rest out' n w refl p.0 p.1

-- ---- numbers

-- what is left to write, at a number and after the last
pub number_left : (numbers : List ℕ) (i : ℕ) → i < length numbers
    → flat_map number_field (drop i numbers) ++ line_feed
    ≡ (32 ∷ []) ++ (decimal_text (get_or numbers i 0) ++ (flat_map number_field (drop (i + 1) numbers) ++ line_feed))
number_left numbers i h = rw (drop-cons numbers i 0 h, add-one i) (simp append_assoc)

pub none_left : (numbers : List ℕ) (i : ℕ) → length numbers ≤ i → flat_map number_field (drop i numbers) ++ line_feed ≡ line_feed
none_left numbers i h = rw (drop_of_length-le numbers h)

pub refused_line : (w : Word) (n : ℕ) → line_of w (n ∷ []) ≡ refused_text w n
refused_line w n = simp append_assoc

pub accepted_line : (w : Word) (a b : ℕ) → line_of w (0 ∷ a ∷ b ∷ []) ≡ accepted_text w a b
accepted_line w a b = simp append_assoc

-- ---- lengths

word_short : (w : Word) → length (word_text w) ≤ 5
word_short Open = omega arith
word_short Put = omega arith
word_short Close = omega arith
word_short Get = omega arith

pub refused_short : (w : Word) (n : ℕ) → n < 2 ^ 64 → length (refused_text w n) ≤ 64
refused_short w n h = simp length-append (omega (arith, word_short w, decimal_twenty n h))

pub accepted_short : (w : Word) (a b : ℕ) → a < 2 ^ 64 → b < 2 ^ 64 → length (accepted_text w a b) ≤ 64
accepted_short w a b h k =
    simp length-append (omega (arith, word_short w, ap length (decimal_small 0 (omega arith)), decimal_twenty a h, decimal_twenty b k))

bytes_length : (value : List ℕ) → length (bytes_text value) ≡ max 1 (2 * length value)
unfolding bytes_text
bytes_length [] = refl
bytes_length (b ∷ s) = omega (arith, hex_length_law (b ∷ s))

pub value_length : (value : List ℕ) → length (value_text value) ≡ 7 + max 1 (2 * length value)
unfolding value_text
value_length value = omega (arith, bytes_length value, length-append (bytes_text value) line_feed)
