-- `load_lengths` meets its contract. Assumes nothing.
use Rattle.std.proofs.Common.{rules, ◌≡◌, ◌/◌, ◌∙◌, arith, length, take}
use Rattle.std.proofs.lemmas.List.{length-take-le}
use Rattle.index.specs.Packed.{words_of}
use Rattle.files.proofs.Copying.{front_home, padded_home}
use Rattle.index.proofs.PackingLoop.{length_words}
use Rattle.files.proofs.load.load_lengths.Goals as goal

pub returns : goal.returns
returns c =
    let a = c.args in
    let n = length a.from.now / 8 in
    let ws = words_of n a.from.now in
    let front : length (take n a.lengths.now) ≡ n = length-take-le n a.lengths.now (omega arith) in
    let words : c.take_words.new.words ≡ ws = rw front at (c.take_words.ensures.0 ∙ c.take_words.ensures.1) in
    let long = length_words n a.from.now in
    padded_home ws a.lengths.now _ _ n (front_home ws c.take_words.new.words a.lengths.now n words long) long c.requires.0 c.requires.1 (c.fill.ensures.after (λ y e. search rules))
