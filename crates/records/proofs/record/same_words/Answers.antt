-- `same_words` meets its contract: chunks that differ decide, and else what is behind them. Assumes nothing.
use Rattle.std.proofs.Common.{◌≡◌, ◌∙◌, ◌+◌, ◌&&◌, Bool, true, false, not, refl, sym, ap, arith}
use Rattle.records.proofs.Area.{same_is}
use Rattle.records.proofs.Chunks.{chunks_differ, chunks_same, same_end, same_from, same_next}
use Rattle.records.proofs.record.same_words.Goals as goal

not_true : (t : Bool) → not t ≡ true → t ≡ false
not_true true e = sym e
not_true false e = refl

not_false : (t : Bool) → not t ≡ false → t ≡ true
not_false true e = refl
not_false false e = sym e

pub loop-i-init : goal.loop-i-init
loop-i-init c = refl

pub returns-then-ne : goal.returns-then-ne
returns-then-ne c =
    let a = c.args in
    let x = c.as_chunks.result.0.now in
    let y = c.as_chunks-2.result.0.now in
    let i = c.loop-i.i in
    let here = not_true _ (sym c.ne.ensures ∙ c.if-ne.true) in
    let from = same_next x y i c.loop-i-test.true (omega (arith, c.loop-i-test.true, c.requires, c.as_chunks.ensures.front_len, c.as_chunks-2.ensures.front_len)) in
    let all : same_from 0 x y ≡ false = sym c.loop-i.invariant ∙ from ∙ ap (λ (t : Bool). t && same_from (i + 1) x y) here in
    chunks_differ 8 a.a.now a.b.now c.requires (rw (c.as_chunks.ensures.front, c.as_chunks-2.ensures.front) at all)

pub loop-i-preserved : goal.loop-i-preserved
loop-i-preserved c =
    let x = c.as_chunks.result.0.now in
    let y = c.as_chunks-2.result.0.now in
    let i = c.loop-i.i in
    let here = not_false _ (sym c.ne.ensures ∙ c.if-ne.false) in
    let from = same_next x y i c.loop-i-test.true (omega (arith, c.loop-i-test.true, c.requires, c.as_chunks.ensures.front_len, c.as_chunks-2.ensures.front_len)) in
    sym (from ∙ ap (λ (t : Bool). t && same_from (i + 1) x y) here) ∙ c.loop-i.invariant

pub returns : goal.returns
returns c =
    let a = c.args in
    let x = c.as_chunks.result.0.now in
    let y = c.as_chunks-2.result.0.now in
    let all : same_from 0 x y ≡ true = sym c.loop-i.invariant ∙ same_end x y c.loop-i.i (omega (arith, c.loop-i-test.false)) in
    let behind = c.same_each.ensures ∙ rw (c.as_chunks.ensures.back, c.as_chunks-2.ensures.back) (sym (same_is _ _)) in
    chunks_same 8 a.a.now a.b.now c.requires behind (rw (c.as_chunks.ensures.front, c.as_chunks-2.ensures.front) at all)
