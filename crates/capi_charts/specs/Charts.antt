-- The exported calls on a set's chart room sheet: the number that each gives and the content of every lent area that it may write, out of the calls of
-- crates/charts. Assumes nothing.
use Rattle.std.specs.Prelude.{cond, List, ℕ, eqb, length}
use Rattle.sets.specs.Answers.{Reply}
use Rattle.charts.specs.Sheet.{Printed, after_sheet, pages_answer}
use Rattle.capi.specs.Calls.{Told, number_words, on_loaded, told, told_by}
use Rattle.capi.specs.Words.{set_in}

-- ---- the number of pages: one word; a refusal leaves it as it was

abbrev pub pages_told : Reply ℕ (Unit {0}) → List ℕ → Told
pages_told = told_by number_words

unfoldable pub exported_sheet_pages : List ℕ → List ℕ → List ℕ → List ℕ → List ℕ → List ℕ → Told
exported_sheet_pages w index starts lengths arena old =
    cond (eqb (length old) 1) (on_loaded (set_in w) (λ s. pages_told (pages_answer s index starts lengths arena) old) (told 11 old)) (told 11 old)

-- ---- printing

pub record SheetWords : Type 0 where
  pub number : ℕ
  pub page : List ℕ
  pub pages : List ℕ

abbrev pub sheet_words : ℕ → List ℕ → List ℕ → SheetWords
sheet_words number page pages = record { number = number; page = page; pages = pages }

abbrev pub sheet_left : Printed → List ℕ → SheetWords
sheet_left p old = sheet_words (pages_told p.answer old).number p.page (pages_told p.answer old).words

unfoldable pub exported_print_sheet : List ℕ → List ℕ → List ℕ → List ℕ → List ℕ → List ℕ → List ℕ → SheetWords
exported_print_sheet w index starts lengths arena page old =
    cond (eqb (length old) 1)
    (on_loaded (set_in w) (λ s. sheet_left (after_sheet s index starts lengths arena page) old) (sheet_words 11 page old))
    (sheet_words 11 page old)
