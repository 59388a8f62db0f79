-- `copy_kept` meets its contract: what is written and what is left to choose are the chosen words. Assumes nothing.
use Rattle.std.proofs.Common.{◌≡◌, ℕ, ◌+◌, ◌<◌, List, [], ◌∷◌, length, get_or, drop, sym, ◌∙◌, arith, rules, length-append}
use Rattle.std.proofs.lemmas.Slice.Zip.{zip_end, zip_turn}
use Rattle.records.proofs.Area.{begin, fits, next_byte, complete}
use Rattle.sets.specs.Kept.{chosen}
use Rattle.sets.proofs.KeptBits.{chosen_length}
use Rattle.sets.proofs.KeptWords.{chosen_dropped, chosen_end, chosen_kept}
use Rattle.sets.proofs.kept.copy_kept.Goals as goal
use Rattle.sets.proofs.kept.copy_kept.Goals.{In-Some}

pub loop-flag-init : goal.loop-flag-init
loop-flag-init c =
    let flags : List ℕ = c.args.flags.now in
    let words : List ℕ = c.args.words.now in
    begin (chosen flags words) c.args.area.now (omega (arith, chosen_length flags words c.requires.0))

-- where a turn stands, its flag and its word
turn : (c : In-Some) → let i = length c.loop-flag.yielded in let flags = c.args.flags.now in let words = c.args.words.now in
    (i < length flags) × (i < length words) × (c.in-Some.field-0-0.now ≡ get_or flags i 0) × (c.in-Some.field-0-1.now ≡ get_or words i 0)
turn c =
    let t = zip_turn c.args.flags.now c.args.words.now c.loop-flag.yielded c.into_iter-flag-iterator.result _ c.next.new.self _ (search rules) (search rules)
    c.loop-flag.yielded_by (c.in-Some.field-0-0, c.in-Some.field-0-1) c.in-Some.is c.next.ensures.steps in
    (t.0, t.1, t.2 0, t.3 0)

pub bounds-area-kept : goal.bounds-area-kept
bounds-area-kept c =
    let t = turn (goal.at.bounds-area-kept c).In-Some in
    let flags = c.args.flags.now in
    let words = c.args.words.now in
    let i = length c.loop-flag.yielded in
    let kept = chosen_kept flags words i t.0 t.1 (λ (z : get_or flags i 0 ≡ 0). c.if-flag-ne0.true (t.2 ∙ z)) in
    omega (arith, fits (get_or words i 0 ∷ []) (chosen (drop (i + 1) flags) (drop (i + 1) words)) c.loop-flag.invariant kept)

pub loop-flag-preserved-then-flag-ne0 : goal.loop-flag-preserved-then-flag-ne0
loop-flag-preserved-then-flag-ne0 c =
    let t = turn (goal.at.loop-flag-preserved-then-flag-ne0 c).In-Some in
    let flags = c.args.flags.now in
    let words = c.args.words.now in
    let i = length c.loop-flag.yielded in
    let kept = chosen_kept flags words i t.0 t.1 (λ (z : get_or flags i 0 ≡ 0). c.if-flag-ne0.true (t.2 ∙ z)) in
    rw (length-append c.loop-flag.yielded ((c.in-Some.field-0-0, c.in-Some.field-0-1) ∷ []), t.3)
    (next_byte (get_or words i 0) (chosen (drop (i + 1) flags) (drop (i + 1) words)) c.loop-flag.invariant kept)

pub loop-flag-preserved : goal.loop-flag-preserved
loop-flag-preserved c =
    let t = turn (goal.at.loop-flag-preserved c).In-Some in
    let flags = c.args.flags.now in
    let words = c.args.words.now in
    let i = length c.loop-flag.yielded in
    let passed = chosen_dropped flags words i t.0 t.1 (sym t.2 ∙ c.if-flag-ne0.false) in
    rw (length-append c.loop-flag.yielded ((c.in-Some.field-0-0, c.in-Some.field-0-1) ∷ []), ← passed) c.loop-flag.invariant

pub returns : goal.returns
returns c =
    let flags = c.args.flags.now in
    let words = c.args.words.now in
    let ended = zip_end flags words c.loop-flag.yielded c.into_iter-flag-iterator.result _ c.next.new.self _ (search rules) (search rules)
    c.loop-flag.yielded_by c.in-None.is c.next.ensures.steps in
    (complete c.loop-flag.invariant (chosen_end flags words (length c.loop-flag.yielded) (omega (arith, ended, c.requires.0)))).1
