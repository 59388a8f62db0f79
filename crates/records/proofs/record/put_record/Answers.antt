-- `put_record` meets its contract: after each piece the area has the record's bytes so far. Assumes nothing.
use mathlib.Core.Path.{◌≡◌, refl, sym}
use mathlib.Core.List.{List, [], ◌++◌, append-nil}
use Prim.Native.Nat.{ℕ, ◌+◌, ◌-◌, ◌≤◌}
use native.Mathlib.Omega.{arith}
use borrow.Rule.Slice.PartMut.{put_mid}
use lib.ListN.{length, length-append, take, drop}
use Rattle.records.specs.Area.{over}
use Rattle.hash_parts.specs.declared.setting.SegmentExpiry.{SegmentExpiry}
use Rattle.records.specs.Record.{deadline_bytes, record_bytes}
use Rattle.records.specs.Uleb128.{uleb128}
use Rattle.records.proofs.Area.{Writing, begin, room, fits_home, next, next_home, complete}
use Rattle.records.proofs.record.put_record.Goals as goal
use Rattle.records.proofs.record.put_record.Goals.{After-put_varint-at, After-put_varint-at-2, After-put_deadline-at, After-put_bytes-at}

-- the pieces, and what is left to write after each
module _ (e : SegmentExpiry) (key value : List ℕ) (d : ℕ) where
  abbrev left2 : List ℕ
  left2 = deadline_bytes e d ++ (key ++ value)

  abbrev left1 : List ℕ
  left1 = uleb128 (length value) ++ left2

  abbrev Left : List ℕ → List ℕ → List ℕ → ℕ → Type 0
  Left left area out at = Writing (record_bytes e key value d) left area out at

  at0 : (area : List ℕ) → length (record_bytes e key value d) ≤ length area → Left (uleb128 (length key) ++ left1) area area 0
  unfolding record_bytes
  at0 area h = begin (uleb128 (length key) ++ left1) area h

-- an area whose rest from a position on was lent, and came home
abbrev home : ℕ → List ℕ → List ℕ → List ℕ
home at out new = put_mid at (length out - at) out new

-- after each piece, given what held after the one before it
at1 : (c : After-put_varint-at) → let a = c.args in
    Left a.expiry a.key.now a.value.now a.expires_at (left1 a.expiry a.key.now a.value.now a.expires_at) a.rest.now c.put_varint-at.new.output c.put_varint-at.result
at1 c =
    let a = c.args in
    let p = c.put_varint-at in
    next (uleb128 (length a.key.now)) (left1 a.expiry a.key.now a.value.now a.expires_at) p.new.output p.result
    (at0 a.expiry a.key.now a.value.now a.expires_at a.rest.now c.requires) refl (omega (arith, p.ensures.0)) p.ensures.1

at2 : (c : After-put_varint-at-2) → let a = c.args in let p = c.put_varint-at in
    Left a.expiry a.key.now a.value.now a.expires_at (left1 a.expiry a.key.now a.value.now a.expires_at) a.rest.now p.new.output p.result
    → Left a.expiry a.key.now a.value.now a.expires_at (left2 a.expiry a.key.now a.value.now a.expires_at) a.rest.now
    (home p.result p.new.output c.put_varint-at-2.new.output) (p.result + c.put_varint-at-2.result)
at2 c h =
    let a = c.args in
    let p = c.put_varint-at-2 in
    next_home (uleb128 (length a.value.now)) (left2 a.expiry a.key.now a.value.now a.expires_at) p.new.output p.result h refl p.ensures.0 p.ensures.1

at3 : (c : After-put_deadline-at) (out : List ℕ) (n : ℕ) → let a = c.args in
    Left a.expiry a.key.now a.value.now a.expires_at (left2 a.expiry a.key.now a.value.now a.expires_at) a.rest.now out n
    → c.put_deadline-at.new.out ≡ over (deadline_bytes a.expiry a.expires_at) (take (length out - n) (drop n out))
    → Left a.expiry a.key.now a.value.now a.expires_at (a.key.now ++ a.value.now) a.rest.now (home n out c.put_deadline-at.new.out) (n + c.put_deadline-at.result)
at3 c out n h e =
    let a = c.args in
    let p = c.put_deadline-at in
    next_home (deadline_bytes a.expiry a.expires_at) (a.key.now ++ a.value.now) p.new.out p.result h refl p.ensures.0 e

at4 : (c : After-put_bytes-at) (out : List ℕ) (n : ℕ) → let a = c.args in
    Left a.expiry a.key.now a.value.now a.expires_at (a.key.now ++ a.value.now) a.rest.now out n
    → c.put_bytes-at.new.out ≡ over a.key.now (take (length out - n) (drop n out))
    → Left a.expiry a.key.now a.value.now a.expires_at a.value.now a.rest.now (home n out c.put_bytes-at.new.out) (n + c.put_bytes-at.result)
at4 c out n h e =
    let a = c.args in
    let p = c.put_bytes-at in
    next_home a.key.now a.value.now p.new.out p.result h refl p.ensures.0 e

pub put_varint-at-requires : goal.put_varint-at-requires
put_varint-at-requires c =
    let a = c.args in
    let left = left1 a.expiry a.key.now a.value.now a.expires_at in
    omega (arith, room (at0 a.expiry a.key.now a.value.now a.expires_at a.rest.now c.requires), length-append (uleb128 (length a.key.now)) left)

pub put_varint-at-requires-2 : goal.put_varint-at-requires-2
put_varint-at-requires-2 c =
    let a = c.args in
    fits_home (uleb128 (length a.value.now)) (left2 a.expiry a.key.now a.value.now a.expires_at) (at1 (goal.at.put_varint-at-requires-2 c).After-put_varint-at) refl

pub put_deadline-at-requires : goal.put_deadline-at-requires
put_deadline-at-requires c =
    let at = goal.at.put_deadline-at-requires c in
    let a = c.args in
    fits_home (deadline_bytes a.expiry a.expires_at) (a.key.now ++ a.value.now) (at2 at.After-put_varint-at-2 (at1 at.After-put_varint-at)) refl

pub put_bytes-at-requires : goal.put_bytes-at-requires
put_bytes-at-requires c =
    let at = goal.at.put_bytes-at-requires c in
    let a = c.args in
    let before = at2 at.After-put_varint-at-2 (at1 at.After-put_varint-at) in
    fits_home a.key.now a.value.now (at3 at.After-put_deadline-at _ _ before c.put_deadline-at.ensures.1) refl

pub put_bytes-requires : goal.put_bytes-requires
put_bytes-requires c =
    let at = goal.at.put_bytes-requires c in
    let v = c.args.value.now in
    let before = at3 at.After-put_deadline-at _ _ (at2 at.After-put_varint-at-2 (at1 at.After-put_varint-at)) c.put_deadline-at.ensures.1 in
    fits_home v [] (at4 at.After-put_bytes-at _ _ before c.put_bytes-at.ensures.1) (sym (append-nil v))

pub returns : goal.returns
returns c =
    let at = goal.at.returns c in
    let v = c.args.value.now in
    let p = c.put_bytes in
    let before = at3 at.After-put_deadline-at _ _ (at2 at.After-put_varint-at-2 (at1 at.After-put_varint-at)) c.put_deadline-at.ensures.1 in
    (complete (next_home v [] p.new.out p.result (at4 at.After-put_bytes-at _ _ before c.put_bytes-at.ensures.1) (sym (append-nil v)) p.ensures.0 p.ensures.1) refl).1
