-- `lengths_add_up` meets its contract: what is left of the bytes and the words that are left make up the difference. Assumes nothing.
use Rattle.std.proofs.Common.{◌≡◌, ◌∙◌, sym, arith}
use borrow.Author.Tests.{ne_eqb}
use Rattle.files.specs.Contents.{sum}
use Rattle.files.proofs.Reading.{all_words, eqb_same, sum_chunk, sum_short}
use Rattle.files.proofs.content.lengths_add_up.Goals as goal
use Rattle.files.proofs.content.lengths_add_up.Goals.{In-Some}

pub loop-word-init : goal.loop-word-init
loop-word-init c =
    let it = c.chunks_exact-word-items in
    rw c.into_iter-word-iterator.ensures.into_iter_gives
    (omega (arith, it.ensures.size), it.ensures.size, rw it.ensures.rest (omega arith))

pub returns-then-length-left : goal.returns-then-length-left
returns-then-length-left c =
    let s = c.in-Some.ensures.steps in
    let i = c.loop-word.invariant in
    let n = sum_chunk _ _ _ c.number_of-length.result s.1.0 (s.1.1 ∙ i.1) c.number_of-length.ensures.0 in
    sym (ne_eqb (sum (all_words c.args.lengths.now)) c.args.bytes (λ (e : sum (all_words c.args.lengths.now) ≡ c.args.bytes). omega (arith, n, i.2, e)))

pub loop-word-preserved : goal.loop-word-preserved
loop-word-preserved c =
    let s = c.in-Some.ensures.steps in
    let i = c.loop-word.invariant in
    let n = sum_chunk _ _ _ c.number_of-length.result s.1.0 (s.1.1 ∙ i.1) c.number_of-length.ensures.0 in
    (omega (arith, s.0, i.1), s.0 ∙ i.1, omega (arith, n, i.2))

pub returns : goal.returns
returns c =
    let s = c.in-None.ensures.steps in
    let i = c.loop-word.invariant in
    let z = sum_short c.loop-word.word-iterator.rest.now (omega (arith, s.1.0, i.1)) in
    let all = sum (all_words c.args.lengths.now) in
    eqb_same c.loop-word.left 0 all c.args.bytes (λ (e : c.loop-word.left ≡ 0). omega (arith, z, i.2)) (λ (e : all ≡ c.args.bytes). omega (arith, z, i.2))
