-- `write_lengths` meets its contract: the lengths written, and those from the next start on, are the lengths. Assumes nothing.
use Rattle.std.proofs.Common.{◌≡◌, ℕ, ◌+◌, ◌-◌, [], length, get_or, drop, set, refl, ap, ◌∙◌, ap₂, arith, length-set}
use Rattle.index.specs.Segments.{lengths_of}
use Rattle.index.proofs.Filling.{filling_none, filling_length, filling_next, filling_end, over_padded_cleared, over_padded_length}
use Rattle.index.proofs.Splits.{start_above, lengths_next, lengths_last}
use Rattle.index.proofs.segments.write_lengths.Goals as goal

pub loop-i-init : goal.loop-i-init
loop-i-init c =
    let a = c.args in
    let cleared = c.clear_segments in
    (omega arith, filling_none (lengths_of a.filled a.starts.now) a.lengths.now cleared.new.area (omega arith) cleared.ensures)

pub overflow_sub-lengths : goal.overflow_sub-lengths
overflow_sub-lengths c =
    let a = c.args in
    let starts = a.starts.now in
    let i = c.loop-i.i in
    let given = c.requires.0 in
    omega (arith, start_above starts i given.ascend (omega arith))

pub offset_bounds-lengths-i : goal.offset_bounds-lengths-i
offset_bounds-lengths-i c = omega (arith, filling_length c.loop-i.invariant.1)

pub bounds-lengths-i : goal.bounds-lengths-i
bounds-lengths-i c = omega (arith, filling_length c.loop-i.invariant.1, c.loop-i.invariant.1.room)

pub loop-i-preserved : goal.loop-i-preserved
loop-i-preserved c =
    let a = c.args in
    let starts = a.starts.now in
    let i = c.loop-i.i in
    let given = c.requires.0 in
    let bytes = get_or starts (i + 1) 0 - get_or starts i 0 in
    let left = lengths_next starts i a.filled (omega arith) in
    (omega arith, filling_next bytes (lengths_of a.filled (drop (i + 1) starts)) c.loop-i.invariant.1 left (omega arith))

pub bounds-lengths-last : goal.bounds-lengths-last
bounds-lengths-last c = omega (arith, filling_length c.loop-i.invariant.1, c.loop-i.invariant.1.room)

pub shape_of-lengths : goal.shape_of-lengths
shape_of-lengths c =
    let a = c.args in
    let before = ap length c.clear_segments.ensures ∙ over_padded_length [] a.lengths.now (omega arith) in
    simp length-set (omega (arith, filling_length c.loop-i.invariant.1))

pub returns : goal.returns
returns c =
    let a = c.args in
    let starts = a.starts.now in
    let i = c.loop-i.i in
    let given = c.requires.0 in
    let cleared = c.clear_segments in
    let whole = lengths_of a.filled starts in
    let last : length starts - 1 ≡ i = omega arith in
    let stored = c.saturating_sub.ensures ∙ ap (λ (k : ℕ). a.filled - get_or starts k 0) last in
    let left = lengths_last starts i a.filled (omega arith) in
    let f = filling_end (filling_next (a.filled - get_or starts i 0) [] c.loop-i.invariant.1 left (omega arith)) refl in
    ap₂ (λ (k x : ℕ). set c.loop-i.lengths k x) last stored
    ∙ f.1
    ∙ over_padded_cleared whole a.lengths.now cleared.new.area cleared.ensures
