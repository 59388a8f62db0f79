-- `put_text` meets its contract. Assumes nothing.
use Rattle.std.proofs.Common.{◌+◌, ◌<◌, ◌∙◌, length, refl, arith, rules}
use Rattle.records.proofs.Area.{copied_law}
use Rattle.texts.proofs.Spelling.{appended_at, appended_out}
use Rattle.texts.proofs.output.put_text.Goals as goal
use Rattle.texts.proofs.output.put_text.Goals.{then-out-at-via-then-out-at, then-out-at-via-else-out-at+then-out-at-2}

pub returns-then-out-at : goal.returns-then-out-at
returns-then-out-at c =
    let a = c.args in
    let short : length a.out.now < a.at + length a.text.now =
    elim c.then-out-at.branch [ then-out-at-via-then-out-at w ↦ omega arith | then-out-at-via-else-out-at+then-out-at-2 w ↦ omega arith ] in
    appended_out a.at a.text.now a.out.now short

pub returns : goal.returns
returns c =
    let a = c.args in
    appended_at a.at a.text.now a.out.now _ _ c.copy_bytes.new.out (omega arith) refl refl (c.copy_bytes.ensures ∙ copied_law a.text.now _ (search rules))
