-- `finish_packed_index` meets its contract: a bucket's references never reach the words of the buckets before it. Assumes nothing.
use Rattle.std.proofs.Common.{ℕ, ◌-◌, ◌++◌, ◌∙◌, drop, set, ap, arith, rules}
use Rattle.records.proofs.Area.{copied_law}
use Rattle.index.proofs.PackingLoop.{packing_begins, packing_next, packing_ends, short_index, short_scratch}
use Rattle.index.proofs.packed.finish_packed_index.Goals as goal

pub returns-then-index-buckets : goal.returns-then-index-buckets
returns-then-index-buckets c =
    let a = c.args in
    short_index a.buckets a.index.now a.scratch.now (omega arith)

pub returns-then-scratch-buckets : goal.returns-then-scratch-buckets
returns-then-scratch-buckets c =
    let a = c.args in
    short_scratch a.buckets a.index.now a.scratch.now c.if-scratch-buckets.true

pub loop-bucket-init : goal.loop-bucket-init
loop-bucket-init c =
    let a = c.args in
    packing_begins a.buckets a.index.now a.scratch.now (omega arith) (omega arith)

pub loop-bucket-preserved : goal.loop-bucket-preserved
loop-bucket-preserved c =
    let l = c.loop-bucket in
    let p = c.pack_bucket in
    let b : ℕ = l.bucket - 1 in
    packing_next b p.new.index (set l.scratch b p.result) l.invariant (omega arith) p.ensures.1 (ap (set l.scratch b) p.ensures.0)

pub returns : goal.returns
returns c =
    let l = c.loop-bucket in
    let front = c.copy_words.ensures ∙ copied_law _ _ (search rules) in
    packing_ends _ l.invariant (omega arith) (ap (λ words. words ++ drop c.args.buckets l.index) front)
