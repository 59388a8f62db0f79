-- `record_at_location` meets its contract, test by test. Assumes nothing.
use Rattle.std.proofs.Common.{◌≡◌, ◌/◌, ◌^◌, false, ltb, arith, le-ltb, lt-ltb}
use Rattle.index.proofs.Views.{location_none, location_outside, location_inside}
use Rattle.index.proofs.view.SegmentView.record_at_location.Goals as goal

pub returns-in_err-location : goal.returns-in_err-location
returns-in_err-location c =
    let a = c.args in
    let none = c.in_err-location.ensures in
    rw c.from_residual.ensures (location_none a.self a.areas.arena.now a.areas.starts.now a.areas.lengths.now a.stored (omega arith))

pub returns-then-segment-self : goal.returns-then-segment-self
returns-then-segment-self c =
    let a = c.args in
    let l = c.in_ok-location in
    let past : ltb (l.location / 2 ^ 32) a.self.segments ≡ false = le-ltb _ _ c.if-segment-self.true in
    location_outside a.self a.areas.arena.now a.areas.starts.now a.areas.lengths.now a.stored l.location l.ensures.0 l.ensures.1 (simp past)

pub returns-in_err-start : goal.returns-in_err-start
returns-in_err-start c =
    let a = c.args in
    let l = c.in_ok-location in
    let short = c.in_err-start.ensures.lookup in
    rw c.from_residual-in_err-start.ensures
    (location_outside a.self a.areas.arena.now a.areas.starts.now a.areas.lengths.now a.stored l.location l.ensures.0 l.ensures.1
    (simp (lt-ltb _ _ c.if-segment-self.false, le-ltb _ _ short.3)))

pub returns-in_err-length : goal.returns-in_err-length
returns-in_err-length c =
    let a = c.args in
    let l = c.in_ok-location in
    let start = c.in_ok-start.ensures.lookup in
    let short = c.in_err-length.ensures.lookup in
    rw c.from_residual-in_err-length.ensures
    (location_outside a.self a.areas.arena.now a.areas.starts.now a.areas.lengths.now a.stored l.location l.ensures.0 l.ensures.1
    (simp (lt-ltb _ _ c.if-segment-self.false, lt-ltb _ _ start.3.0, le-ltb _ _ short.3)))

pub returns : goal.returns
returns c =
    let a = c.args in
    let l = c.in_ok-location in
    let start = c.in_ok-start.ensures.lookup in
    let length = c.in_ok-length.ensures.lookup in
    rw (c.record_in_segment.ensures, start.3.1 0, length.3.1 0)
    (location_inside a.self a.areas.arena.now a.areas.starts.now a.areas.lengths.now a.stored l.location l.ensures.0 l.ensures.1
    (simp (lt-ltb _ _ c.if-segment-self.false, lt-ltb _ _ start.3.0, lt-ltb _ _ length.3.0)))
