-- `write_starts` meets its contract: the starts written, and those from the next on, are the starts. Assumes nothing.
use Rattle.std.proofs.Common.{◌+◌, ◌-◌, [], length, ap, ◌∙◌, arith}
use Rattle.index.specs.Segments.{starts_of}
use Rattle.index.proofs.Starts.{starts_from, starts_from_law, from_none, from_next, from_last}
use Rattle.index.proofs.Filling.{filling_none, filling_length, filling_next, filling_end, filling_over, over_padded_cleared, over_padded_length}
use Rattle.index.proofs.Splits.{counted_few, counted_many}
use Rattle.index.proofs.segments.write_starts.Goals as goal

pub loop-next-init : goal.loop-next-init
loop-next-init c =
    let a = c.args in
    let words = a.words.now in
    let cleared = c.clear_segments in
    let f = filling_none (starts_of words a.filled a.target) a.starts.now cleared.new.area (omega arith) cleared.ensures in
    (omega arith, rw (← starts_from_law words a.filled a.target) f)

pub shape_of-starts-then-count-eq-MAX_RECORD_SEGMENTS : goal.shape_of-starts-then-count-eq-MAX_RECORD_SEGMENTS
shape_of-starts-then-count-eq-MAX_RECORD_SEGMENTS c =
    let a = c.args in
    let before = ap length c.clear_segments.ensures ∙ over_padded_length [] a.starts.now (omega arith) in
    omega (arith, filling_length c.loop-next.invariant.1)

pub returns-then-count-eq-MAX_RECORD_SEGMENTS : goal.returns-then-count-eq-MAX_RECORD_SEGMENTS
returns-then-count-eq-MAX_RECORD_SEGMENTS c =
    let a = c.args in
    let words = a.words.now in
    let cleared = c.clear_segments in
    let whole = starts_of words a.filled a.target in
    let last = from_last words a.filled a.target (256 - c.loop-next.count) c.loop-next.next c.loop-next-test.true (omega arith) in
    let f = filling_over c.loop-next.next c.loop-next.invariant.1 last c.if-count-eq-MAX_RECORD_SEGMENTS.true in
    (counted_many whole f.0, f.1 ∙ over_padded_cleared whole a.starts.now cleared.new.area cleared.ensures)

pub offset_bounds-starts-count : goal.offset_bounds-starts-count
offset_bounds-starts-count c = omega (arith, filling_length c.loop-next.invariant.1)

pub bounds-starts-count : goal.bounds-starts-count
bounds-starts-count c = omega (arith, filling_length c.loop-next.invariant.1, c.loop-next.invariant.1.room)

pub loop-next-preserved : goal.loop-next-preserved
loop-next-preserved c =
    let a = c.args in
    let words = a.words.now in
    let n = c.loop-next.count in
    let next = c.start_after-next.result in
    let left =
    from_next words a.filled a.target (256 - n) (256 - (n + 1)) c.loop-next.next next
    c.loop-next-test.true (omega arith) c.start_after-next.ensures in
    (omega arith, filling_next c.loop-next.next (starts_from (256 - (n + 1)) words a.filled a.target next) c.loop-next.invariant.1 left (omega arith))

pub shape_of-starts : goal.shape_of-starts
shape_of-starts c =
    let a = c.args in
    let before = ap length c.clear_segments.ensures ∙ over_padded_length [] a.starts.now (omega arith) in
    omega (arith, filling_length c.loop-next.invariant.1)

pub returns : goal.returns
returns c =
    let a = c.args in
    let words = a.words.now in
    let cleared = c.clear_segments in
    let whole = starts_of words a.filled a.target in
    let f = filling_end c.loop-next.invariant.1 (from_none words a.filled a.target (256 - c.loop-next.count) c.loop-next.next c.loop-next-test.false) in
    (counted_few whole c.loop-next.count f.0 (omega arith), f.1 ∙ over_padded_cleared whole a.starts.now cleared.new.area cleared.ensures)
