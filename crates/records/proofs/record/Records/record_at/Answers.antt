-- `record_at` meets its contract: two prefixes of one byte are their bytes; else a prefix that is read lies inside, so the second ends inside and
-- past the record's position. Assumes nothing.
use mathlib.Core.Path.{◌≡◌, sym, ap, ◌∙◌}
use mathlib.Core.List.{List}
use Prim.Native.Nat.{ℕ, ◌+◌, ◌≤◌}
use native.Mathlib.Nat.{add-zero}
use native.Mathlib.Omega.{arith}
use lib.ListN.{length, get_or, length-drop}
use Rattle.std.specs.Prelude.{Some}
use Rattle.std.proofs.lemmas.List.{get_or-drop}
use Rattle.std.proofs.lemmas.Slice.{between_to_end}
use Rattle.records.specs.Varint.{read_varint}
use Rattle.records.proofs.Prefix.{read_inside}
use Rattle.records.proofs.Parts.{no_key, no_value, at_is, at_short}
use Rattle.records.proofs.record.Records.record_at.Goals as goal
use Rattle.records.proofs.record.Records.record_at.Goals.{In_ok-key_len, In_ok-value_len}

pub returns-in-Some-0-to-127 : goal.returns-in-Some-0-to-127
returns-in-Some-0-to-127 c =
    let a = c.args in
    let s : List ℕ = a.self.bytes.now in
    let rest = c.in-Some-0-to-127.ensures.lookup.0.2 ∙ between_to_end s a.location (length s) (omega arith) in
    let key : c.from.result ≡ get_or s a.location 0 = c.from.ensures ∙ ap (λ (l : List ℕ). get_or l 0 0) rest ∙ get_or-drop a.location s 0 0 ∙ ap (λ (n : ℕ). get_or s n 0) (add-zero a.location) in
    let value : c.from-in-Some-0-to-127.result ≡ get_or s (a.location + 1) 0 =
    c.from-in-Some-0-to-127.ensures ∙ ap (λ (l : List ℕ). get_or l 1 0) rest ∙ get_or-drop a.location s 1 0 in
    let long : a.location + 2 ≤ length s = omega (arith, c.in-Some-0-to-127.len_at_least, ap length rest, length-drop a.location s) in
    rw (at_short a.self.expiry s a.location long (omega (arith, key)) (omega (arith, value)), ← key, ← value) c.record_of.ensures

-- what the prefixes read
key_read : (c : In_ok-key_len)
    → let a = c.args in read_varint a.self.bytes.now a.location ≡ Some (c.in_ok-key_len.key_len, c.in_ok-key_len.cursor)
key_read c = sym c.read_varint.ensures ∙ c.in_ok-key_len.was

value_read : (c : In_ok-value_len)
    → let a = c.args in
    read_varint a.self.bytes.now c.in_ok-key_len.cursor ≡ Some (c.in_ok-value_len.value_len, c.in_ok-value_len.cursor)
value_read c = sym c.read_varint-2.ensures ∙ c.in_ok-value_len.was

pub returns-in_err-key_len : goal.returns-in_err-key_len
returns-in_err-key_len c =
    let a = c.args in
    c.from_residual.ensures ∙ sym (no_key a.self.expiry a.self.bytes.now a.location (sym c.read_varint.ensures ∙ c.in_err-key_len.was))

pub returns-in_err-value_len : goal.returns-in_err-value_len
returns-in_err-value_len c =
    let a = c.args in
    let key = c.in_ok-key_len in
    c.from_residual-in_err-value_len.ensures
    ∙ sym
    (no_value a.self.expiry a.self.bytes.now a.location key.key_len key.cursor (key_read (goal.at.returns-in_err-value_len c).In_ok-key_len)
    (sym c.read_varint-2.ensures ∙ c.in_err-value_len.was))

pub record_of-requires-2 : goal.record_of-requires-2
record_of-requires-2 c =
    let s : List ℕ = c.args.self.bytes.now in
    let key = c.in_ok-key_len in
    let value = c.in_ok-value_len in
    let p = read_inside s c.args.location key.key_len key.cursor (key_read (goal.at.record_of-requires-2 c).In_ok-key_len) in
    let q = read_inside s key.cursor value.value_len value.cursor (value_read c) in
    (omega arith, q.1)

pub returns : goal.returns
returns c =
    let at = goal.at.returns c in
    let a = c.args in
    let key = c.in_ok-key_len in
    let value = c.in_ok-value_len in
    rw
    (at_is a.self.expiry a.self.bytes.now a.location key.key_len key.cursor (key_read at.In_ok-key_len) value.value_len value.cursor
    (value_read at.In_ok-value_len))
    c.record_of-2.ensures
