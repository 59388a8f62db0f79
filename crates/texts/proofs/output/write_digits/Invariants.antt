-- What each turn of the loop keeps.
use Rattle.texts.proofs.Spelling.{Spelt}
use Rattle.texts.proofs.output.write_digits.Given as goal

abbrev pub invariant-loop-i : goal.invariant-loop-i
invariant-loop-i l = Spelt l.value l.rest l.digits l.i
