-- `put_words` meets its contract: what is written and the bytes of the words that are left are the words' bytes. Assumes nothing.
use mathlib.Core.Path.{◌≡◌, sym, ap, ◌∙◌}
use mathlib.Core.List.{List, [], ◌++◌, map}
use Prim.Native.Nat.{ℕ, ◌+◌, ◌*◌, ◌≤◌, ◌<◌}
use native.Mathlib.Numerals.{add-one}
use native.Mathlib.Omega.{arith}
use lib.ListN.{length, get_or, drop, drop_of_length-le, length-map}
use lib.Seq.{drop-cons}
use Rattle.hash_parts.specs.ZeroBytes.{bytes_of}
use Rattle.hash_parts.proofs.Bytes.{length_bytes}
use Rattle.records.proofs.Area.{begin, complete, next, over_all, room}
use Rattle.index.specs.Packed.{word_bytes}
use Rattle.files.specs.Copies.{masked_by}
use Rattle.files.proofs.Copying.{number_put}
use Rattle.files.proofs.Low.{word_bytes_length}
use Rattle.files.proofs.copies.put_words.Invariants.{bytes}
use Rattle.files.proofs.copies.put_words.Goals as goal

bytes_length : (mask : ℕ) (words : List ℕ) → length (bytes mask words) ≡ 8 * length words
bytes_length mask words = word_bytes_length (map (masked_by mask) words) ∙ ap (λ (n : ℕ). 8 * n) (length-map words (masked_by mask))

-- the next word, and the others
one_word : (mask : ℕ) (words : List ℕ) (i : ℕ) → i < length words → bytes mask (drop i words) ≡ bytes_of 8 (masked_by mask (get_or words i 0)) ++ bytes mask (drop (i + 1) words)
unfolding word_bytes
one_word mask words i h = rw (drop-cons words i 0 h, add-one i)

pub loop-i-init : goal.loop-i-init
loop-i-init c = begin (bytes c.args.mask c.args.words.now) c.args.out.now (omega (arith, bytes_length c.args.mask c.args.words.now))

pub loop-i-preserved : goal.loop-i-preserved
loop-i-preserved c =
    let l = c.loop-i in
    let a = c.args in
    let words = a.words.now in
    let word = masked_by a.mask (get_or words l.i 0) in
    let held : 8 * l.i + 8 ≤ length l.out = omega (arith, room l.invariant) in
    next (bytes_of 8 word) (bytes a.mask (drop (l.i + 1) words)) _ (8 * (l.i + 1)) l.invariant (one_word a.mask words l.i c.loop-i-test.true)
    (omega (arith, length_bytes 8 word)) (number_put l.out c.put_number.new.out (8 * l.i) 8 word held c.put_number.ensures)

pub returns : goal.returns
unfolding word_bytes
returns c =
    let a = c.args in
    let words = a.words.now in
    let none : bytes a.mask (drop c.loop-i.i words) ≡ [] = ap (bytes a.mask) (drop_of_length-le words c.loop-i-test.false) in
    (complete c.loop-i.invariant none).1 ∙ over_all (bytes a.mask words) a.out.now (c.requires ∙ sym (bytes_length a.mask words))
