-- `is_hex` meets its contract: an even number of digits spells bytes. Assumes nothing.
use Rattle.std.proofs.Common.{◌≡◌, ◌%◌, length, rules, tests, sym, ◌∙◌}
use Rattle.std.proofs.lemmas.Iterator.{YieldsList-from_slice}
use Rattle.std.proofs.lemmas.Iterator.Search.{all_from_yields_List}
use Rattle.std.specs.List.{list_all}
use borrow.Author.Tests.{eq-eqb}
use Rattle.passage_lines.proofs.Digits.{is_digit, is_hex_law}
use Rattle.passage_lines.proofs.hex.is_hex.Goals as goal

pub returns-then-text-eq0 : goal.returns-then-text-eq0
returns-then-text-eq0 c =
    let text = c.args.text.now in
    let a : c.all.result ≡ list_all is_digit text = all_from_yields_List is_digit _ _ _ c.all.ensures.ran (YieldsList-from_slice text cc) (λ x b q k. search (rules, tests)) in
    a ∙ sym (is_hex_law text ∙ rw (eq-eqb (length text % 2) 0 c.if-text-eq0.true))
