-- What each turn of the loop keeps.
use Rattle.std.proofs.Common.{◌≡◌, ◌≤◌, drop}
use Rattle.passage_lines.specs.Text.{spelled, at_most, number_in}
use Rattle.passage_lines.proofs.text.parse_number.Given as goal

abbrev pub invariant-loop-character : goal.invariant-loop-character
invariant-loop-character l = (number_in l.base l.max l.text ≡ at_most l.max (spelled l.base l.value (drop l.character-index l.text))) × (l.value ≤ l.max)
