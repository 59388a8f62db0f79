-- `find_in_slot` meets its contract, case by case. Assumes nothing.
use Rattle.std.proofs.Common.{ℕ, List, sym, ap, ◌∙◌}
use Rattle.std.specs.Prelude.{Option}
use Rattle.records.specs.declared.record.RecordRef.{RecordRef}
use Rattle.records.specs.Area.{same_bytes}
use Rattle.index.specs.View.{record_in}
use Rattle.index.proofs.Finds.{slot_empty, slot_other, slot_broken, slot_match, slot_differs}
use Rattle.index.proofs.find.find_in_slot.Goals as goal
use Rattle.index.proofs.find.find_in_slot.Goals.{Start}

abbrev reads : Start → ℕ → Option RecordRef
reads s =
    let a = s.args in
    record_in a.view a.areas.arena.now a.areas.starts.now a.areas.lengths.now

pub returns-in_default : goal.returns-in_default
returns-in_default c =
    let a = c.args in
    slot_empty (reads (goal.at.returns-in_default c).Start) a.areas.arena.now a.key.now a.tag a.slot a.content c.in_default.is

pub returns-then-kept-tag : goal.returns-then-kept-tag
returns-then-kept-tag c =
    let at = goal.at.returns-then-kept-tag c in
    let a = c.args in
    slot_other (reads at.Start) a.areas.arena.now a.key.now a.tag a.slot a.content c.in-Some.kept c.in-Some.stored c.in-Some.is c.if-kept-tag.true

pub returns-in_default-record_at_location : goal.returns-in_default-record_at_location
returns-in_default-record_at_location c =
    let at = goal.at.returns-in_default-record_at_location c in
    let a = c.args in
    slot_broken (reads at.Start) a.areas.arena.now a.key.now a.tag a.slot a.content c.in-Some.kept c.in-Some.stored c.in-Some.is
    c.if-kept-tag.false (sym c.record_at_location.ensures ∙ c.in_default-record_at_location.is)

pub returns-then-same_bytes : goal.returns-then-same_bytes
returns-then-same_bytes c =
    let a = c.args in
    let compared = sym (c.same_bytes.ensures ∙ ap (λ (l : List ℕ). same_bytes l a.key.now) c.value_slice.ensures) in
    slot_match (reads (goal.at.returns-then-same_bytes c).Start) a.areas.arena.now a.key.now a.tag a.slot a.content c.in-Some.kept c.in-Some.stored c.in-Some.is
    c.if-kept-tag.false c.in-Some-record_at_location.entry (sym c.record_at_location.ensures ∙ c.in-Some-record_at_location.is) (compared ∙ c.if-same_bytes.true)

pub returns : goal.returns
returns c =
    let a = c.args in
    let compared = sym (c.same_bytes.ensures ∙ ap (λ (l : List ℕ). same_bytes l a.key.now) c.value_slice.ensures) in
    slot_differs (reads (goal.at.returns c).Start) a.areas.arena.now a.key.now a.tag a.slot a.content c.in-Some.kept c.in-Some.stored c.in-Some.is
    c.if-kept-tag.false c.in-Some-record_at_location.entry (sym c.record_at_location.ensures ∙ c.in-Some-record_at_location.is) (compared ∙ c.if-same_bytes.false)
