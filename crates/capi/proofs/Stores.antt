-- Laws of words stored over lent ones. Assumes nothing.
use Rattle.std.proofs.Common.{◌≡◌, ◌≤◌, ℕ, List, ◌++◌, length, sym, ap, ◌∙◌, le_of_eq, drop_of_length-le, append-nil}
use Rattle.records.proofs.Area.{written_in_law}
use Rattle.records.specs.Area.{Written, over}
use Rattle.capi.specs.Words.{stored}

-- what fits is stored
pub stored_in_law : (w old : List ℕ) → length w ≤ length old → stored w old ≡ over w old
stored_in_law w old h = ap (λ (t : Written). t.area) (written_in_law w old h)

-- words of the same number are all there is
pub stored_whole : (w old : List ℕ) → length w ≡ length old → stored w old ≡ w
stored_whole w old e =
    stored_in_law w old (le_of_eq e) ∙ ap (λ (t : List ℕ). w ++ t) (drop_of_length-le old (le_of_eq (sym e))) ∙ append-nil w
