-- `split_record_segments` meets its contract, case by case: what the three writers left is what a split leaves. Assumes nothing.
use Rattle.std.proofs.Common.{◌++◌, ◌*◌, drop, refl, ap}
use Rattle.std.proofs.lemmas.List.{take-append-drop}
use Rattle.std.proofs.lemmas.Result.{err_from_is_err_and}
use Rattle.index.proofs.Splits.{short_index, short_starts, short_lengths, split_refused, starts_written_law, split_whole, split_parts}
use Rattle.index.proofs.segments.split_record_segments.Goals as goal

pub returns-then-index-buckets : goal.returns-then-index-buckets
returns-then-index-buckets c =
    let a = c.args in
    short_index a.index.now a.buckets a.filled a.target a.starts.now a.lengths.now c.if-index-buckets.true

pub returns-then-starts-lt-MAX_RECORD_SEGMENTS : goal.returns-then-starts-lt-MAX_RECORD_SEGMENTS
returns-then-starts-lt-MAX_RECORD_SEGMENTS c =
    let a = c.args in
    short_starts a.index.now a.buckets a.filled a.target a.starts.now a.lengths.now c.if-index-buckets.false c.if-starts-lt-MAX_RECORD_SEGMENTS.true

pub returns-then-lengths-lt-MAX_RECORD_SEGMENTS : goal.returns-then-lengths-lt-MAX_RECORD_SEGMENTS
returns-then-lengths-lt-MAX_RECORD_SEGMENTS c =
    let a = c.args in
    short_lengths a.index.now a.buckets a.filled a.target a.starts.now a.lengths.now
    c.if-index-buckets.false c.if-starts-lt-MAX_RECORD_SEGMENTS.false c.if-lengths-lt-MAX_RECORD_SEGMENTS.true

pub returns-in_err-count : goal.returns-in_err-count
returns-in_err-count c =
    let a = c.args in
    let w = c.write_starts in
    let p = err_from_is_err_and c.from_residual.result c.from_residual.ensures.1 in
    rw (p.1, p.2, take-append-drop (8 * a.buckets) a.index.now)
    (split_refused a.index.now a.buckets a.filled a.target a.starts.now a.lengths.now
    c.if-index-buckets.false c.if-starts-lt-MAX_RECORD_SEGMENTS.false c.if-lengths-lt-MAX_RECORD_SEGMENTS.false
    w.result w.new.starts w.ensures.0 w.ensures.1 _ c.in_err-count.was)

pub write_lengths-requires : goal.write_lengths-requires
write_lengths-requires c =
    let a = c.args in
    let w = c.write_starts in
    let written =
    starts_written_law a.index.now a.buckets a.filled a.target a.starts.now a.lengths.now
    c.if-index-buckets.false c.if-starts-lt-MAX_RECORD_SEGMENTS.false c.if-lengths-lt-MAX_RECORD_SEGMENTS.false
    w.result w.new.starts w.ensures.0 w.ensures.1 c.in_ok-count.count c.in_ok-count.was _ refl in
    (written.0, written.1, c.if-lengths-lt-MAX_RECORD_SEGMENTS.false)

pub split_words-requires : goal.split_words-requires
split_words-requires c =
    let a = c.args in
    let w = c.write_starts in
    starts_written_law a.index.now a.buckets a.filled a.target a.starts.now a.lengths.now
    c.if-index-buckets.false c.if-starts-lt-MAX_RECORD_SEGMENTS.false c.if-lengths-lt-MAX_RECORD_SEGMENTS.false
    w.result w.new.starts w.ensures.0 w.ensures.1 c.in_ok-count.count c.in_ok-count.was _ refl

pub returns-then-filled-target : goal.returns-then-filled-target
returns-then-filled-target c =
    let a = c.args in
    let w = c.write_starts in
    split_parts a.index.now a.buckets a.filled a.target a.starts.now a.lengths.now
    c.if-index-buckets.false c.if-starts-lt-MAX_RECORD_SEGMENTS.false c.if-lengths-lt-MAX_RECORD_SEGMENTS.false
    w.result w.new.starts w.ensures.0 w.ensures.1 c.in_ok-count.count c.in_ok-count.was _ refl
    c.write_lengths.new.lengths c.write_lengths.ensures c.if-filled-target.true _ (ap (λ l. l ++ drop (8 * a.buckets) a.index.now) c.split_words.ensures)

pub returns-else-filled-target : goal.returns-else-filled-target
returns-else-filled-target c =
    let a = c.args in
    let w = c.write_starts in
    rw (take-append-drop (8 * a.buckets) a.index.now)
    (split_whole a.index.now a.buckets a.filled a.target a.starts.now a.lengths.now
    c.if-index-buckets.false c.if-starts-lt-MAX_RECORD_SEGMENTS.false c.if-lengths-lt-MAX_RECORD_SEGMENTS.false
    w.result w.new.starts w.ensures.0 w.ensures.1 c.in_ok-count.count c.in_ok-count.was _ refl
    c.write_lengths.new.lengths c.write_lengths.ensures c.if-filled-target.false)
