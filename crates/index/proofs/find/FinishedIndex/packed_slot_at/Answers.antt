-- `packed_slot_at` meets its contract: a reference lies in the two words that end and begin it. Assumes nothing.
use Rattle.std.proofs.Common.{◌≡◌, ◌+◌, ◌*◌, ◌%◌, ◌<◌, get_or, sym, refl, arith}
use Rattle.index.proofs.PackedReads.{slot_at}
use Rattle.index.proofs.find.FinishedIndex.packed_slot_at.Goals as goal

pub returns-then-offset-eq7 : goal.returns-then-offset-eq7
returns-then-offset-eq7 c =
    let a = c.args in
    let p = c.requires in
    let x = a.self.words.now in
    let e : a.offset % 8 ≡ a.offset = omega arith in
    rw (c.packed_slot.ensures, e)
    (sym (slot_at a.self.buckets x a.bucket a.offset _ 0 p.0 p.2 p.1 (λ h. refl) (λ (h : a.offset < 7). absurd (omega arith))))

pub returns : goal.returns
returns c =
    let a = c.args in
    let p = c.requires in
    let x = a.self.words.now in
    let e : a.offset % 8 ≡ a.offset = omega arith in
    rw (c.packed_slot-2.ensures, e)
    (sym (slot_at a.self.buckets x a.bucket a.offset _ (get_or x (a.self.buckets + 7 * a.bucket + a.offset) 0) p.0 p.2 p.1 (λ h. refl) (λ (h : a.offset < 7). refl)))
