-- `holds_key` meets its contract: a record that is read has its key inside the bytes. Assumes nothing.
use Rattle.std.proofs.Common.{ℕ, List, sym, ap, ◌∙◌, arith}
use Rattle.records.specs.Area.{same_bytes}
use Rattle.index.proofs.Slots.{other_tag, names_none, names_unreadable, names_record}
use Rattle.index.proofs.build.holds_key.Goals as goal

pub returns-then-index_tag-tag : goal.returns-then-index_tag-tag
returns-then-index_tag-tag c =
    let a = c.args in
    sym (other_tag a.records.expiry a.records.bytes.now a.key.now a.tag a.word (λ e. c.if-index_tag-tag.true (c.index_tag.ensures ∙ e)))

pub returns-then-stored-eq0 : goal.returns-then-stored-eq0
returns-then-stored-eq0 c =
    let a = c.args in
    sym
    (names_none a.records.expiry a.records.bytes.now a.key.now a.tag a.word
    (sym c.index_tag.ensures ∙ c.if-index_tag-tag.false) c.index_location-stored.result c.index_location-stored.ensures c.if-stored-eq0.true)

pub returns-in_default : goal.returns-in_default
returns-in_default c =
    let a = c.args in
    sym
    (names_unreadable a.records.expiry a.records.bytes.now a.key.now a.tag a.word
    (sym c.index_tag.ensures ∙ c.if-index_tag-tag.false) c.index_location-stored.result c.index_location-stored.ensures (omega arith)
    (sym c.record_at.ensures ∙ c.in_default.is))

pub returns : goal.returns
returns c =
    let a = c.args in
    let read = sym c.record_at.ensures ∙ c.in-Some.is in
    c.same_bytes.ensures
    ∙ ap (λ (k : List ℕ). same_bytes k a.key.now) c.value_slice-stored_key.ensures
    ∙ sym
    (names_record a.records.expiry a.records.bytes.now a.key.now a.tag a.word
    (sym c.index_tag.ensures ∙ c.if-index_tag-tag.false) c.index_location-stored.result c.index_location-stored.ensures c.in-Some.«record» (omega arith) read)
