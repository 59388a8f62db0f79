-- `put_varint` meets its contract: what is written and what is left to write are the number's bytes. Assumes nothing.
use mathlib.Core.List.{[]}
use mathlib.Core.Path.{◌≡◌, refl}
use Prim.Native.Nat.{◌+◌, ◌/◌, ◌%◌, ◌<◌}
use native.Mathlib.Omega.{arith}
use lib.ListN.{length, length-set}
use Rattle.records.specs.Uleb128.{uleb128}
use Rattle.records.proofs.Area.{begin, room, next_byte, complete}
use Rattle.records.proofs.Uleb128.{leb_small, leb_large, leb_pos}
use Rattle.records.proofs.varint.put_varint.Goals as goal
use Rattle.records.proofs.varint.put_varint.Goals.{At-loop-rest}

-- there is room for a byte
room_at : (c : At-loop-rest) → (c.loop-rest.at < length c.before.args.output.now) × (length c.loop-rest.output ≡ length c.before.args.output.now)
room_at c = let r = room c.loop-rest.invariant in (omega (arith, leb_pos c.loop-rest.rest), r.1)

pub loop-rest-init : goal.loop-rest-init
loop-rest-init c = begin (uleb128 c.args.value) c.args.output.now c.requires

pub bounds-output-at : goal.bounds-output-at
bounds-output-at c = omega (arith, room_at (goal.at.bounds-output-at c).At-loop-rest)

pub overflow_add-at : goal.overflow_add-at
overflow_add-at c = omega (arith, room_at (goal.at.overflow_add-at c).At-loop-rest)

pub loop-rest-preserved : goal.loop-rest-preserved
loop-rest-preserved c =
    let l = c.loop-rest in
    next_byte (l.rest % 128 + 128) (uleb128 (l.rest / 128)) l.invariant (leb_large l.rest c.loop-rest-test.true)

pub bounds-output-at-2 : goal.bounds-output-at-2
bounds-output-at-2 c = omega (arith, room_at (goal.at.bounds-output-at-2 c).At-loop-rest)

pub overflow_add-result : goal.overflow_add-result
overflow_add-result c = omega (arith, room_at (goal.at.overflow_add-result c).At-loop-rest)

pub shape_of-output : goal.shape_of-output
shape_of-output c = simp length-set (room_at (goal.at.shape_of-output c).At-loop-rest).1

pub returns : goal.returns
returns c =
    let l = c.loop-rest in
    complete (next_byte l.rest [] l.invariant (leb_small l.rest c.loop-rest-test.false)) refl
