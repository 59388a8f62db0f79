-- `put_numbers` meets its contract: what is written and the bytes of the numbers that are left are the numbers' bytes. Assumes nothing.
use Rattle.std.proofs.Common.{◌≡◌, ◌∙◌, ◌+◌, ◌-◌, ◌∷◌, ◌++◌, ◌<◌, ◌≤◌, [], ℕ, List, ap, ap₂, sym, arith, rules, get_or, drop, length, length-append}
use Rattle.std.proofs.lemmas.List.{length-take}
use Rattle.std.proofs.lemmas.Slice.Zip.{zip_end, zip_turn}
use Rattle.hash_parts.specs.ZeroBytes.{bytes_of}
use Rattle.hash_parts.proofs.Bytes.{length_bytes}
use Rattle.records.proofs.Area.{begin, complete, fits, next, over_all}
use Rattle.files.specs.Contents.{bytes_for, widths}
use Rattle.files.proofs.Copying.{number_put}
use Rattle.files.proofs.Pieces.{no_numbers, numbers_long, one_number}
use Rattle.files.proofs.write.put_numbers.Goals as goal
use Rattle.files.proofs.write.put_numbers.Goals.{In-Some}

-- the number of a turn, and the others
module _ (c : In-Some) where
  abbrev numbers : List ℕ
  numbers = c.args.numbers.now

  abbrev turn : ℕ
  turn = length c.loop-width.yielded

  abbrev width : ℕ
  width = c.in-Some.field-0-0.now

  abbrev number : ℕ
  number = c.in-Some.field-0-1.now

  stands : (turn < 10) × (turn < length numbers) × (width ≡ get_or widths turn 0) × (number ≡ get_or numbers turn 0)
  stands =
      let t = zip_turn widths numbers c.loop-width.yielded c.into_iter-width-iterator.result _ c.next.new.self _ (search rules) (search rules)
      c.loop-width.yielded_by (c.in-Some.field-0-0, c.in-Some.field-0-1) c.in-Some.is c.next.ensures.steps in
      (t.0, t.1, t.2 0, t.3 0)

  abbrev others : List ℕ
  others = bytes_for (drop (turn + 1) widths) (drop (turn + 1) numbers)

  one : bytes_for (drop turn widths) (drop turn numbers) ≡ bytes_of width number ++ others
  one =
      one_number widths numbers turn stands.0 stands.1
      ∙ ap₂ (λ (x y : ℕ). bytes_of x y ++ others) (sym stands.2) (sym stands.3)

  room : c.loop-width.at + width ≤ length c.loop-width.out
  room = omega (arith, fits (bytes_of width number) others c.loop-width.invariant one, length_bytes width number)

pub loop-width-init : goal.loop-width-init
loop-width-init c = begin (bytes_for widths c.args.numbers.now) c.args.out.now (omega (arith, numbers_long widths c.args.numbers.now c.requires.0, c.requires.1))

pub overflow_add-at : goal.overflow_add-at
overflow_add-at c = omega (arith, room (goal.at.overflow_add-at c).In-Some)

pub slice_bounds-put_number-end : goal.slice_bounds-put_number-end
slice_bounds-put_number-end c = room (goal.at.slice_bounds-put_number-end c).In-Some

pub put_number-requires : goal.put_number-requires
put_number-requires c =
    let t = (goal.at.put_number-requires c).In-Some in
    let s = stands t in
    let small : get_or widths (turn t) 0 ≤ 8 = grind (arith, s.0) in
    let part = length-take (c.loop-width.at + width t - c.loop-width.at) (drop c.loop-width.at c.loop-width.out) in
    omega (arith, small, s.2, part)

pub loop-width-preserved : goal.loop-width-preserved
loop-width-preserved c =
    let t = (goal.at.loop-width-preserved c).In-Some in
    let w = width t in
    let n = number t in
    rw (length-append c.loop-width.yielded ((c.in-Some.field-0-0, c.in-Some.field-0-1) ∷ []))
    (next (bytes_of w n) (others t) _ (c.loop-width.at + w) c.loop-width.invariant (one t) (ap (λ (k : ℕ). c.loop-width.at + k) (sym (length_bytes w n)))
    (number_put c.loop-width.out c.put_number.new.out c.loop-width.at w n (room t) c.put_number.ensures))

pub returns : goal.returns
returns c =
    let numbers = c.args.numbers.now in
    let i = length c.loop-width.yielded in
    let ended = zip_end widths numbers c.loop-width.yielded c.into_iter-width-iterator.result _ c.next.new.self _ (search rules) (search rules)
    c.loop-width.yielded_by c.in-None.is c.next.ensures.steps in
    (complete c.loop-width.invariant (no_numbers i (drop i numbers) (omega (arith, ended, c.requires.0)))).1
    ∙ over_all (bytes_for widths numbers) c.args.out.now (c.requires.1 ∙ sym (numbers_long widths numbers c.requires.0))
