-- `load_starts` meets its contract: the starts that are written and those that are left are all of them. Assumes nothing.
use Rattle.std.proofs.Common.{rules, ◌≡◌, ◌+◌, [], ap, arith, get_or, drop}
use Rattle.std.proofs.lemmas.List.{drop_all, drop_more}
use Rattle.records.proofs.Area.{begin, complete, next_byte}
use Rattle.files.specs.Contents.{starts_by}
use Rattle.files.proofs.Copying.{padded_home}
use Rattle.files.proofs.Moved.{starts_length}
use Rattle.files.proofs.Reading.{sum_rest}
use Rattle.files.proofs.load.load_starts.Goals as goal

pub loop-i-init : goal.loop-i-init
loop-i-init c = (begin (starts_by 0 c.args.lengths.now) c.args.starts.now (omega (arith, starts_length c.args.lengths.now 0)), omega arith)

pub overflow_add-next : goal.overflow_add-next
overflow_add-next c = omega (arith, c.loop-i.invariant.1, sum_rest c.args.lengths.now c.loop-i.i, c.requires.2)

pub loop-i-preserved : goal.loop-i-preserved
unfolding starts_by
loop-i-preserved c =
    let l = c.loop-i in
    let ns = c.args.lengths.now in
    let one = drop_more ns l.i 0 c.loop-i-test.true in
    (next_byte l.next (starts_by (l.next + get_or ns l.i 0) (drop (l.i + 1) ns)) l.invariant.0 (ap (starts_by l.next) one), omega (arith, l.invariant.1, sum_rest ns l.i))

pub returns : goal.returns
unfolding starts_by
returns c =
    let l = c.loop-i in
    let ns = c.args.lengths.now in
    let none : starts_by l.next (drop l.i ns) ≡ [] = ap (starts_by l.next) (drop_all l.i ns (omega arith)) in
    let all = (complete l.invariant.0 none).1 in
    padded_home (starts_by 0 ns) c.args.starts.now l.starts _ _ all (starts_length ns 0) c.requires.0 c.requires.1 (c.fill.ensures.after (λ y e. search rules))
