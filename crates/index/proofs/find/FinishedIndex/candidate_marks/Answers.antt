-- `candidate_marks` meets its contract, layout by layout. Assumes nothing.
use Rattle.std.proofs.Common.{◌≡◌, ℕ, ◌+◌, ◌-◌, ◌*◌, get_or, ap, ◌∙◌, arith}
use Rattle.hash_parts.specs.ZeroBytes.{marks}
use Rattle.index.specs.FindSteps.{from_on, tagged}
use Rattle.index.proofs.find.FinishedIndex.candidate_marks.Goals as goal

pub returns-then-self : goal.returns-then-self
returns-then-self c =
    let a = c.args in
    rw c.if-self.true
    (c.tagged_bytes.ensures ∙ ap (λ (t : ℕ). marks (tagged t (get_or a.self.words.now a.bucket 0))) (c.from.ensures ∙ c.packed_control_tag.ensures))

pub returns : goal.returns
returns c =
    let b = c.args.bucket in
    let eight : 8 * b + 8 - 8 * b ≡ 8 = omega arith in
    rw c.if-self.false
    (c.marks_from.ensures ∙ ap (λ (s : ℕ). marks (from_on s 8)) (rw eight at c.passed_over.ensures.0))
