-- `put_segment_bytes` meets its contract: what is written and the segments that are left are the segments' bytes. Assumes nothing.
use Rattle.std.proofs.Common.{◌≡◌, ◌∙◌, ◌+◌, ◌-◌, ◌∷◌, ◌++◌, ◌<◌, ◌≤◌, [], ℕ, List, ap, ap₂, sym, refl, arith, rules, get_or, drop, length, length-append, length-drop}
use native.Mathlib.Nat.{le_refl}
use Rattle.std.proofs.lemmas.List.{length-take-le}
use Rattle.std.proofs.lemmas.Slice.Zip.{zip_end, zip_turn}
use Rattle.records.specs.Area.{part}
use Rattle.records.proofs.Area.{begin, complete, copied_law, fits, next, over_all}
use Rattle.index.specs.declared.view.SegmentAreas.{SegmentAreas}
use Rattle.sets.proofs.RebuildAsked.{segments_each}
use Rattle.files.specs.Write.{segment_bytes}
use Rattle.files.proofs.Copying.{mid_home, part_lent}
use Rattle.files.proofs.Moved.{segments_length}
use Rattle.files.proofs.Pieces.{from_first, from_last, from_next, segments_from}
use Rattle.files.proofs.write.put_segment_bytes.Goals as goal
use Rattle.files.proofs.write.put_segment_bytes.Goals.{In-Some, Start}

long : (s : Start) → let a = s.args.areas in length (segment_bytes (length a.lengths.now) a.starts.now a.lengths.now a.arena.now) ≡ length s.args.out.now
long s =
    let a = s.args.areas in
    let n = length a.lengths.now in
    segments_length a.starts.now a.lengths.now a.arena.now n (le_refl n) (segments_each (length a.arena.now) a.starts.now a.lengths.now n s.requires.inside)
    ∙ sym s.requires.exact

-- the segment of a turn, and the others
module _ (c : In-Some) where
  abbrev areas : SegmentAreas
  areas = c.args.areas

  abbrev turn : ℕ
  turn = length c.loop-start.yielded

  abbrev start : ℕ
  start = c.in-Some.field-0-0.now

  abbrev size : ℕ
  size = c.in-Some.field-0-1.now

  stands : (turn < length areas.starts.now) × (turn < length areas.lengths.now) × (start ≡ get_or areas.starts.now turn 0) × (size ≡ get_or areas.lengths.now turn 0)
  stands =
      let t = zip_turn areas.starts.now areas.lengths.now c.loop-start.yielded c.into_iter-start-iterator.result _ c.next.new.self _ (search rules) (search rules)
      c.loop-start.yielded_by (c.in-Some.field-0-0, c.in-Some.field-0-1) c.in-Some.is c.next.ensures.steps in
      (t.0, t.1, t.2 0, t.3 0)

  inside : start + size ≤ length areas.arena.now
  inside =
      omega (arith, stands.2, stands.3, segments_each (length areas.arena.now) areas.starts.now areas.lengths.now (length areas.lengths.now) c.requires.inside turn stands.1)

  abbrev here : List ℕ
  here = part start size areas.arena.now

  abbrev left : ℕ → List ℕ
  left i = segments_from i (length areas.lengths.now - i) areas.starts.now areas.lengths.now areas.arena.now

  one : left turn ≡ here ++ left (turn + 1)
  one =
      let n = length areas.lengths.now in
      from_next areas.starts.now areas.lengths.now areas.arena.now turn (n - turn) (n - (turn + 1)) (omega (arith, stands.1))
      ∙ ap₂ (λ (x y : ℕ). part x y areas.arena.now ++ left (turn + 1)) (sym stands.2) (sym stands.3)

  here_length : length here ≡ size
  here_length = length-take-le size (drop start areas.arena.now) (omega (arith, length-drop start areas.arena.now, inside))

  room : c.loop-start.at + size ≤ length c.loop-start.out
  room = omega (arith, fits here (left (turn + 1)) c.loop-start.invariant one, here_length)

pub loop-start-init : goal.loop-start-init
loop-start-init c =
    let a = c.args in
    let s = (goal.at.loop-start-init c).Start in
    let n : length a.areas.lengths.now - 0 ≡ length a.areas.lengths.now = omega arith in
    rw (n, from_first a.areas.starts.now a.areas.lengths.now a.areas.arena.now (length a.areas.lengths.now))
    (begin (segment_bytes (length a.areas.lengths.now) a.areas.starts.now a.areas.lengths.now a.areas.arena.now) a.out.now (omega (arith, long s)))

pub overflow_add-at : goal.overflow_add-at
overflow_add-at c = omega (arith, room (goal.at.overflow_add-at c).In-Some)

pub slice_bounds-copy_bytes-end : goal.slice_bounds-copy_bytes-end
slice_bounds-copy_bytes-end c = room (goal.at.slice_bounds-copy_bytes-end c).In-Some

pub overflow_add-start : goal.overflow_add-start
overflow_add-start c = omega (arith, inside (goal.at.overflow_add-start c).In-Some)

pub slice_bounds-copy_bytes-end-in-loop-start : goal.slice_bounds-copy_bytes-end-in-loop-start
slice_bounds-copy_bytes-end-in-loop-start c = inside (goal.at.slice_bounds-copy_bytes-end-in-loop-start c).In-Some

pub loop-start-preserved : goal.loop-start-preserved
loop-start-preserved c =
    let t = (goal.at.loop-start-preserved c).In-Some in
    let at = c.loop-start.at in
    let width : at + size t - at ≡ size t = omega arith in
    rw (length-append c.loop-start.yielded ((c.in-Some.field-0-0, c.in-Some.field-0-1) ∷ []))
    (next (here t) (left t (turn t + 1)) _ (at + size t) c.loop-start.invariant (one t) (ap (λ (k : ℕ). at + k) (sym (here_length t)))
    (mid_home (here t) c.copy_bytes.new.out c.loop-start.out at (at + size t - at)
    (c.copy_bytes.ensures ∙ copied_law _ _ (search rules) ∙ part_lent (start t) (start t + size t) (size t) c.args.areas.arena.now refl)
    (here_length t ∙ sym width)))

pub returns : goal.returns
returns c =
    let a = c.args.areas in
    let i = length c.loop-start.yielded in
    let ended = zip_end a.starts.now a.lengths.now c.loop-start.yielded c.into_iter-start-iterator.result _ c.next.new.self _ (search rules) (search rules)
    c.loop-start.yielded_by c.in-None.is c.next.ensures.steps in
    let none = from_last a.starts.now a.lengths.now a.arena.now i (length a.lengths.now - i) (omega (arith, ended, c.requires.counts)) in
    (complete c.loop-start.invariant none).1 ∙ over_all _ c.args.out.now (sym (long (goal.at.returns c).Start))
