-- `load_index` meets its contract. Assumes nothing.
use Rattle.std.proofs.Common.{◌≡◌, ◌∙◌, ◌-◌, ◌*◌, ◌++◌, ℕ, Bool, List, ap, sym, arith, length, map, take, drop, length-drop}
use Rattle.std.proofs.lemmas.List.{length-take-le, take_rest}
use lib.ListN.{length-map}
use Rattle.records.specs.Area.{over}
use Rattle.records.proofs.Area.{over_length}
use Rattle.index.specs.Packed.{words_of}
use Rattle.files.specs.Contents.{unmarked_index}
use Rattle.files.specs.Copies.{masked_by}
use Rattle.files.proofs.Copying.{front_home, mid_home}
use Rattle.files.proofs.Loading.{index_two, index_words}
use Rattle.index.proofs.PackingLoop.{length_words}
use Rattle.files.proofs.load.load_index.Goals as goal

-- so many words, masked
masked_length : (mask n : ℕ) (l : List ℕ) → length (map (masked_by mask) (words_of n l)) ≡ n
masked_length mask n l = length-map (words_of n l) (masked_by mask) ∙ length_words n l

pub returns-then-not-packed : goal.returns-then-not-packed
returns-then-not-packed c =
    let a = c.args in
    let l = a.words.now in
    let n : a.buckets * 8 ≡ 8 * a.buckets = omega arith in
    let long : length (take (8 * a.buckets) a.index.now) ≡ 8 * a.buckets = length-take-le (8 * a.buckets) a.index.now (omega arith) in
    let words = map (masked_by 0x7fff_ffff_ffff_ffff) (words_of (8 * a.buckets) l) in
    front_home words c.take_words.new.words a.index.now (a.buckets * 8) (rw (n, long) at c.take_words.ensures.0) (masked_length _ (8 * a.buckets) l ∙ sym n)
    ∙ ap (λ (s : List ℕ). over s a.index.now) (index_words a.buckets l)
    ∙ ap (λ (p : Bool). over (unmarked_index p a.buckets (words_of (8 * a.buckets) l)) a.index.now) (sym c.if-not-packed.true)

pub returns : goal.returns
returns c =
    let a = c.args in
    let l = a.words.now in
    let b = a.buckets in
    let t = c.take_words-2 in
    let u = c.take_words-3 in
    let m : b * 8 ≡ 8 * b = omega arith in
    let rest = b * 8 - b in
    let out : List ℕ = t.new.words ++ drop b a.index.now in
    let tail : List ℕ = take (length l - b * 8) (drop (b * 8) l) in
    let all : tail ≡ drop (8 * b) l = take_rest l (b * 8) ∙ ap (λ (k : ℕ). drop k l) m in
    let front : length (take b a.index.now) ≡ b = length-take-le b a.index.now (omega arith) in
    let controls = map (masked_by 0x7f7f_7f7f_7f7f_7f7f) (words_of b l) in
    let one : out ≡ over controls a.index.now = front_home controls t.new.words a.index.now b (rw front at t.ensures.0) (masked_length _ b l) in
    let held : length (drop b out) ≡ length a.index.now - b =
    omega (arith, length-drop b out, ap length one, over_length controls a.index.now (omega (arith, masked_length 0x7f7f_7f7f_7f7f_7f7f b l))) in
    let some : length (take rest (drop b out)) ≡ rest = length-take-le rest (drop b out) (omega arith) in
    let two : u.new.words ≡ words_of rest tail = rw some at (u.ensures.0 ∙ u.ensures.1) in
    index_two b rest l tail a.index.now out _ (omega arith) all one (mid_home (words_of rest tail) u.new.words out b rest two (length_words rest tail))
    ∙ ap (λ (p : Bool). over (unmarked_index p b (words_of (8 * b) l)) a.index.now) (sym c.if-not-packed.false)
