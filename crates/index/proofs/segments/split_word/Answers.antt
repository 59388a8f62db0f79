-- `split_word` meets its contract, with the segment that the search found. Assumes nothing.
use Rattle.std.proofs.Common.{◌≡◌, ℕ, ◌+◌, ◌-◌, ◌*◌, ◌^◌, get_or, sym, ap, ◌∙◌, ap₂}
use Rattle.index.specs.Word.{word_of, word_stored}
use Rattle.index.specs.Segments.{segment_of}
use Rattle.index.proofs.Splits.{split_none, split_found}
use Rattle.index.proofs.segments.split_word.Goals as goal

pub returns-then-stored-eq0 : goal.returns-then-stored-eq0
returns-then-stored-eq0 c =
    let a = c.args in
    sym (split_none a.starts.now a.word (sym c.index_location-stored.ensures ∙ c.if-stored-eq0.true))

pub returns : goal.returns
returns c =
    let a = c.args in
    let starts = a.starts.now in
    let stored = c.index_location-stored.ensures in
    let found = c.find_segment-segment in
    let named : word_stored a.word ≡ 0 → ⊥ = λ (e : word_stored a.word ≡ 0). c.if-stored-eq0.false (stored ∙ e) in
    c.encode_index_word.ensures
    ∙ ap₂ (λ (tag s : ℕ). word_of tag (found.result * 2 ^ 32 + (s - 1 - get_or starts found.result 0))) c.index_tag.ensures stored
    ∙ split_found starts a.word found.result named (found.ensures.0 ∙ ap (λ (s : ℕ). segment_of starts (s - 1)) stored)
