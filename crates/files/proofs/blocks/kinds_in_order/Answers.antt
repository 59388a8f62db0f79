-- `kinds_in_order` meets its contract: what is asked of the kinds that are left is what was asked of the file. Assumes nothing.
use Rattle.std.proofs.Common.{◌≡◌, ◌∙◌, ◌-◌, ◌+◌, ◌<◌, ℕ, suc, ap, sym, arith, true, false, cond, List, length}
use borrow.Author.Tests.{eq-eqb, ne_eqb}
use lib.Dec.{eqb}
use Rattle.files.specs.Blocks.{behind, frames_well, is_whole, kind_in, kinds_from}
use Rattle.files.proofs.Positions.{framed_whole, kinds_last, kinds_next, kinds_none, none_left, some_left, whole_room}
use Rattle.files.proofs.blocks.kinds_in_order.Goals as goal

-- where there is one more block
module _ (g : List ℕ) (kind : ℕ) (more : kind < 6) where
  count : 6 - kind ≡ suc (6 - (kind + 1))
  count = omega arith

  module _ (some : 0 < length g) where
    framed : frames_well (6 - kind) g ≡ true → (is_whole g ≡ true) × (frames_well (6 - (kind + 1)) (behind g) ≡ true)
    framed e = framed_whole g (6 - (kind + 1)) some (rw count at e)

    one_kind : kinds_from kind (6 - kind) g ≡ cond (eqb (kind_in g) kind) (kinds_from (kind + 1) (6 - (kind + 1)) (behind g)) false
    one_kind =
        let k : suc kind ≡ kind + 1 = omega arith in
        rw count (kinds_next g kind (6 - (kind + 1)) some ∙ rw k)

pub returns-then-is_empty : goal.returns-then-is_empty
returns-then-is_empty c =
    let l = c.loop-kind in
    let none = none_left l.rest.now (sym c.is_empty.ensures ∙ c.if-is_empty.true) in
    sym (kinds_none l.kind (6 - (l.kind + 1))) ∙ rw (count l.rest.now l.kind (omega arith), none) at l.invariant.1

pub kind_in-requires : goal.kind_in-requires
kind_in-requires c =
    let l = c.loop-kind in
    let some = some_left l.rest.now (sym c.is_empty.ensures ∙ c.if-is_empty.false) in
    omega (arith, whole_room l.rest.now (framed l.rest.now l.kind (omega arith) some l.invariant.0).0)

pub returns-then-kind_in-kind : goal.returns-then-kind_in-kind
returns-then-kind_in-kind c =
    let l = c.loop-kind in
    let some = some_left l.rest.now (sym c.is_empty.ensures ∙ c.if-is_empty.false) in
    let other = ne_eqb (kind_in l.rest.now) l.kind (λ (e : kind_in l.rest.now ≡ l.kind). c.if-kind_in-kind.true (c.kind_in.ensures ∙ e)) in
    sym (one_kind l.rest.now l.kind (omega arith) some ∙ rw other) ∙ l.invariant.1

pub loop-kind-preserved : goal.loop-kind-preserved
loop-kind-preserved c =
    let l = c.loop-kind in
    let some = some_left l.rest.now (sym c.is_empty.ensures ∙ c.if-is_empty.false) in
    let same = eq-eqb (kind_in l.rest.now) l.kind (sym c.kind_in.ensures ∙ c.if-kind_in-kind.false) in (
      ap (frames_well (6 - (l.kind + 1))) c.behind-rest.ensures ∙ (framed l.rest.now l.kind (omega arith) some l.invariant.0).1,
      ap (kinds_from (l.kind + 1) (6 - (l.kind + 1))) c.behind-rest.ensures ∙ sym (one_kind l.rest.now l.kind (omega arith) some ∙ rw same) ∙ l.invariant.1,
    )

pub returns : goal.returns
returns c =
    let l = c.loop-kind in
    let z : 6 - l.kind ≡ 0 = omega arith in
    sym (kinds_last l.kind l.rest.now) ∙ rw z at l.invariant.1
