-- Questions asked in order: what a call that was asked said, in the terms of its contract, and what is left after some yes. Assumes nothing.
use Rattle.std.proofs.Common.{◌≡◌, Bool, true, false, not, sym, ap, ◌∙◌}
use borrow.Author.Tests.{not-true, not-false}

-- `!asked` was taken, or it was not
pub said_no : {answer meaning : Bool} → answer ≡ meaning → not answer ≡ true → meaning ≡ false
said_no {answer} ensures taken = sym ensures ∙ not-true answer taken

pub said_yes : {answer meaning : Bool} → answer ≡ meaning → not answer ≡ false → meaning ≡ true
said_yes {answer} ensures left = sym ensures ∙ not-false answer left

-- the same of the answer itself, which is what a test of `!asked` tells
pub answered_no : {answer meaning : Bool} → answer ≡ meaning → answer ≡ false → meaning ≡ false
answered_no ensures said = said_no ensures (ap not said)

pub answered_yes : {answer meaning : Bool} → answer ≡ meaning → answer ≡ true → meaning ≡ true
answered_yes ensures said = said_yes ensures (ap not said)
