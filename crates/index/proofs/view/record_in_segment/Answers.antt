-- `record_in_segment` meets its contract: a segment inside the filled bytes is a part of them. Assumes nothing.
use Rattle.std.proofs.Common.{◌≡◌, ◌+◌, ◌≤◌, length, take, sym, ap, ◌∙◌, arith, length-take}
use Rattle.std.specs.Prelude.{Some, None}
use Rattle.records.specs.Area.{part}
use Rattle.records.proofs.Stored.{record_inside}
use Rattle.index.proofs.Views.{front_is, part_is, segment_outside, segment_gives}
use Rattle.index.proofs.view.record_in_segment.Goals as goal
use Rattle.index.proofs.view.record_in_segment.Goals.{In_ok-bytes}

pub returns-in_err-get : goal.returns-in_err-get
returns-in_err-get c =
    let a = c.args in
    let short = c.in_err-get.ensures.lookup.0 in
    let front = ap length (front_is _ a.view.filled a.arena.now c.min.ensures) in
    rw c.from_residual.ensures (segment_outside a.view.expiry (take a.view.filled a.arena.now) a.start a.length a.location (omega arith))

pub returns-in_err-bytes : goal.returns-in_err-bytes
returns-in_err-bytes c =
    let a = c.args in
    let rest = c.in_ok-get.ensures.lookup.0 in
    let short = c.in_err-bytes.ensures.lookup.0 in
    let front = ap length (front_is _ a.view.filled a.arena.now c.min.ensures) in
    rw c.from_residual-in_err-bytes.ensures (segment_outside a.view.expiry (take a.view.filled a.arena.now) a.start a.length a.location (omega arith))

-- the bytes of the segment
found : (c : In_ok-bytes) → let a = c.args in
    (a.start + a.length ≤ length (take a.view.filled a.arena.now)) × (c.in_ok-bytes.bytes.now ≡ part a.start a.length (take a.view.filled a.arena.now))
found c =
    let a = c.args in
    let rest = c.in_ok-get.ensures.lookup.0 in
    let bytes = c.in_ok-bytes.ensures.lookup.0 in
    let front = front_is _ a.view.filled a.arena.now c.min.ensures in
    rw (← front) (omega arith, part_is _ a.start a.length rest.2 bytes.2)

pub returns-in_err-read : goal.returns-in_err-read
returns-in_err-read c =
    let a = c.args in
    let f = found (goal.at.returns-in_err-read c).In_ok-bytes in
    rw c.from_residual-in_err-read.ensures
    (segment_gives a.view.expiry (take a.view.filled a.arena.now) a.start a.length a.location _ None f.0 f.1 (sym c.record_at.ensures ∙ c.in_err-read.was))

pub moved_record-requires : goal.moved_record-requires
moved_record-requires c =
    let a = c.args in
    let f = found (goal.at.moved_record-requires c).In_ok-bytes in
    let s = c.in_ok-bytes.bytes.now in
    let o = c.in_ok-read.read in
    let r = record_inside a.view.expiry s _ o (sym c.record_at.ensures ∙ c.in_ok-read.was) in
    let long = c.in_ok-bytes.ensures.lookup.0.3 in
    let front = length-take a.view.filled a.arena.now in
    let v : o.value.at + o.value.len ≤ length s = r.4 in
    let k : o.value.at ≡ o.key.at + o.key.len = r.3 in
    let at : o.location ≡ _ = r.1 in
    (omega (arith, f.0), omega (arith, f.0), omega arith)

pub returns : goal.returns
returns c =
    let a = c.args in
    let f = found (goal.at.returns c).In_ok-bytes in
    ap Some c.moved_record.ensures
    ∙ segment_gives a.view.expiry (take a.view.filled a.arena.now) a.start a.length a.location _ (Some c.in_ok-read.read) f.0 f.1 (sym c.record_at.ensures ∙ c.in_ok-read.was)
