-- `read_varint` meets its contract: what is read so far and what the standard's reader reads in the rest are what was asked. Assumes nothing.
use mathlib.Core.Path.{◌≡◌, refl, sym, ap, ◌∙◌}
use mathlib.Core.List.{List}
use Prim.Native.Nat.{ℕ, ◌+◌, ◌*◌, ◌-◌, ◌%◌, ◌^◌, ◌≤◌, ◌<◌}
use native.Mathlib.Omega.{arith}
use lib.ListN.{length, get_or, drop}
use Rattle.std.proofs.lemmas.Slice.{between_to_end}
use Rattle.records.specs.Uleb128.{Decoded, decode}
use Rattle.records.specs.Varint.{read_varint}
use Rattle.records.proofs.Prefix.{read_past, byte_none, byte_last, byte_next, scale_next, scale_last, part_small, tenth_small}
use Rattle.records.proofs.Prefix.{answer, answer_start, answer_next, answer_last, answer_tenth, answer_over}
use Rattle.records.proofs.varint.read_varint.Goals as goal
use Rattle.records.proofs.varint.read_varint.Goals.{At-loop-at, After-from-byte, After-from-byte-2}

-- what the rest reads answers what was asked
rest_is : (c : At-loop-at) {d : Decoded} → decode (drop c.loop-at.at c.in_ok-bytes.bytes.now) ≡ d
    → answer c.loop-at.value c.loop-at.scale (c.args.cursor + c.loop-at.at) (9 - c.loop-at.at) d ≡ read_varint c.args.input.now c.args.cursor
rest_is c e = let l = c.loop-at in sym (l.invariant.answers ∙ ap (answer l.value l.scale (c.args.cursor + l.at) (9 - l.at)) e)

-- a payload's part of the number fits
part_of : (c : After-from-byte) → let l = c.loop-at in let b = c.from-byte.result % 128 in
    (b * l.scale ≤ 127 * l.scale) × (l.value + b * l.scale < l.scale * 128) × (l.scale * 128 ≤ 2 ^ 63)
part_of c =
    let l = c.loop-at in
    part_small l.value l.scale (9 - l.at) (c.from-byte.result % 128) l.invariant.below (omega arith) l.invariant.scale_left (omega arith)

byte_is : (c : After-from-byte) → (c.from-byte.result ≡ get_or c.in_ok-bytes.bytes.now c.loop-at.at 0) × (c.loop-at.at < length c.in_ok-bytes.bytes.now)
byte_is c = let r = c.in_ok-get.ensures.lookup in (c.from-byte.ensures ∙ r.4 (omega arith) 0, r.3.0)

last_byte : (c : After-from-byte-2) → (c.from-byte-2.result ≡ get_or c.in_ok-bytes.bytes.now c.loop-at.at 0) × (c.loop-at.at < length c.in_ok-bytes.bytes.now)
last_byte c =
    let r = c.in_ok-get-2.ensures.lookup in
    let e : c.loop-at.at ≡ 9 = omega arith in
    rw e (c.from-byte-2.ensures ∙ r.4 (omega arith) 0, r.3.0)

pub returns-in_err-bytes : goal.returns-in_err-bytes
returns-in_err-bytes c = c.from_residual.ensures ∙ sym (read_past c.args.input.now c.args.cursor (omega (arith, c.in_err-bytes.ensures.lookup)))

pub loop-at-init : goal.loop-at-init
loop-at-init c =
    let start : c.args.cursor + 0 ≡ c.args.cursor = omega arith in
    let all = between_to_end c.args.input.now c.args.cursor (length c.args.input.now) (omega arith) in
    record {
      answers = rw (c.in_ok-bytes.ensures.lookup.0.2, all, start) (answer_start c.args.input.now c.args.cursor);
      below = omega arith;
      scale_left = refl;
    }

pub returns-in_err-get : goal.returns-in_err-get
returns-in_err-get c =
    let at = goal.at.returns-in_err-get c in
    c.from_residual-in_err-get.ensures
    ∙ rest_is at.At-loop-at (byte_none c.in_ok-bytes.bytes.now c.loop-at.at (omega (arith, c.in_err-get.ensures.lookup)))

pub overflow_mul-value : goal.overflow_mul-value
overflow_mul-value c = omega (arith, part_of c)

pub overflow_add-value : goal.overflow_add-value
overflow_add-value c = omega (arith, part_of c)

pub returns-then-byte-lt128 : goal.returns-then-byte-lt128
returns-then-byte-lt128 c =
    let at = goal.at.returns-then-byte-lt128 c in
    let l = c.loop-at in
    let b : ℕ = c.from-byte.result in
    let i = byte_is at.After-from-byte in
    sym (answer_last l.value l.scale (c.args.cursor + l.at) b (9 - l.at) c.if-byte-lt128.true (omega (arith, part_of at.After-from-byte)))
    ∙ rest_is at.At-loop-at (byte_last c.in_ok-bytes.bytes.now l.at b i.0 i.1 c.if-byte-lt128.true)

pub overflow_mul-scale : goal.overflow_mul-scale
overflow_mul-scale c = omega (arith, part_of (goal.at.overflow_mul-scale c).After-from-byte)

pub loop-at-preserved : goal.loop-at-preserved
loop-at-preserved c =
    let at = goal.at.loop-at-preserved c in
    let l = c.loop-at in
    let b : ℕ = c.from-byte.result in
    let bytes : List ℕ = c.in_ok-bytes.bytes.now in
    let i = byte_is at.After-from-byte in
    let more : 0 < 9 - l.at = omega arith in
    let e : 9 - l.at - 1 ≡ 9 - (l.at + 1) = omega arith in
    let next : c.args.cursor + (l.at + 1) ≡ c.args.cursor + l.at + 1 = omega arith in
    record {
      answers = rw (← e, next)
          (sym (rest_is at.At-loop-at (byte_next bytes l.at b i.0 i.1 c.if-byte-lt128.false))
          ∙ answer_next l.value l.scale (c.args.cursor + l.at) b (9 - l.at) (decode (drop (l.at + 1) bytes)) more);
      below = (part_of at.After-from-byte).1;
      scale_left = rw (← e) (scale_next l.scale (9 - l.at) more l.invariant.scale_left);
    }

pub returns-in_err-get-2 : goal.returns-in_err-get-2
returns-in_err-get-2 c =
    let at = goal.at.returns-in_err-get-2 c in
    let past : length c.in_ok-bytes.bytes.now ≤ 9 = omega (arith, c.in_err-get-2.ensures.lookup) in
    c.from_residual-in_err-get-2.ensures ∙ rest_is at.At-loop-at (byte_none c.in_ok-bytes.bytes.now c.loop-at.at (omega arith))

pub returns-then-byte-ge128 : goal.returns-then-byte-ge128
returns-then-byte-ge128 c =
    let at = goal.at.returns-then-byte-ge128 c in
    let l = c.loop-at in
    let b : ℕ = c.from-byte-2.result in
    let bytes : List ℕ = c.in_ok-bytes.bytes.now in
    let i = last_byte at.After-from-byte-2 in
    sym (answer_over l.value l.scale (c.args.cursor + l.at) b (9 - l.at) (drop (l.at + 1) bytes) (omega arith))
    ∙ rest_is at.At-loop-at (byte_next bytes l.at b i.0 i.1 c.if-byte-ge128.true)

-- after nine bytes one bit is left
last_scale : (c : After-from-byte-2) → c.loop-at.scale ≡ 2 ^ 63
last_scale c = let l = c.loop-at in scale_last l.scale (9 - l.at) (omega arith) l.invariant.scale_left

pub overflow_add-result-2 : goal.overflow_add-result-2
overflow_add-result-2 c =
    let l = c.loop-at in
    omega (arith, tenth_small l.value l.scale c.from-byte-2.result (last_scale (goal.at.overflow_add-result-2 c).After-from-byte-2) l.invariant.below)

pub returns : goal.returns
returns c =
    let at = goal.at.returns c in
    let l = c.loop-at in
    let b : ℕ = c.from-byte-2.result in
    let i = last_byte at.After-from-byte-2 in
    let e : c.args.cursor + 9 + 1 ≡ c.args.cursor + l.at + 1 = omega arith in
    rw e
    (sym (answer_tenth l.value l.scale (c.args.cursor + l.at) b (9 - l.at) (last_scale at.After-from-byte-2) l.invariant.below)
    ∙ rest_is at.At-loop-at (byte_last c.in_ok-bytes.bytes.now l.at b i.0 i.1 c.if-byte-ge128.false))
