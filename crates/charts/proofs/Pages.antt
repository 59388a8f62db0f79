-- Laws of lines one after the other. Assumes nothing.
use mathlib.Core.Bool.{true}
use mathlib.Core.List.{List, [], ◌∷◌, ◌++◌, append_assoc}
use mathlib.Core.Path.{◌≡◌, refl, sym, ap, ap₂, ◌∙◌}
use Prim.Native.Nat.{ℕ, zero, suc, ◌+◌, ◌-◌, ◌*◌, ◌≤◌, ◌<◌}
use native.Mathlib.Omega.{arith}
use lib.ListN.{length, take, drop, length-append, take-append-drop}
use borrow.Rule.Slice.PartMut.{put_mid}
use Rattle.records.specs.Area.{over, pasted}
use Rattle.records.proofs.Area.{over_pasted, part_home}
use Rattle.texts.proofs.Spelling.{pasted_length, pasted_more}
use Rattle.charts.specs.Line.{Row, blank, line, lines, pages_for, sheet}
use Rattle.charts.specs.Sheet.{row_fits, rows_fit}
use Rattle.charts.proofs.Columns.{length_blank}
use Rattle.charts.proofs.Rows.{fit_next}

-- ---- blank lines

pub length_blanks : (n : ℕ) → length (lines n []) ≡ 65 * n
unfolding lines
length_blanks zero = refl
length_blanks (suc n) = length-append blank (lines n []) ∙ ap₂ ◌+◌ length_blank (length_blanks n) ∙ omega arith

pub blanks_next : (count number : ℕ) → number < count → lines (count - number) [] ≡ blank ++ lines (count - (number + 1)) []
unfolding lines
blanks_next count number h = let n : count - number ≡ suc (count - (number + 1)) = omega arith in rw n

pub no_blanks : (count number : ℕ) → count ≤ number → lines (count - number) [] ≡ []
unfolding lines
no_blanks count number h = let n : count - number ≡ 0 = omega arith in rw n

-- ---- rows, and blank lines after them

pub lines_next : (r : Row) (rows : List Row) → lines (length (r ∷ rows)) (r ∷ rows) ≡ line r ++ lines (length rows) rows
unfolding lines
lines_next r rows = refl

pub lines_parts : (n : ℕ) (rows : List Row) → length rows ≤ n → lines n rows ≡ lines (length rows) rows ++ lines (n - length rows) []
unfolding lines
lines_parts n [] h = let e : n - 0 ≡ n = omega arith in rw e
lines_parts zero (r ∷ rows) h = absurd (omega arith)
lines_parts (suc n) (r ∷ rows) h =
    let e : suc n - suc (length rows) ≡ n - length rows = omega arith in
    rw e (ap (λ (t : List ℕ). line r ++ t) (lines_parts n rows (omega arith)) ∙ sym (append_assoc (line r) (lines (length rows) rows) (lines (n - length rows) [])))

-- ---- printing row by row: `rest` is left to print, and what is printed of it behind the rows that stand on the page makes up the whole

pub record Printing (all rest : List Row) (page₀ page : List ℕ) (rows : ℕ) : Type 0 where
  pub whole : pasted (65 * rows) (lines (length rest) rest) page ≡ over (lines (length all) all) page₀
  pub count : rows + length rest ≡ length all
  pub fit : rows_fit rest ≡ true
  pub room : 65 * length all ≤ length page₀
  pub long : length page ≡ length page₀
  pub size : 65 * rows + length (lines (length rest) rest) ≡ length (lines (length all) all)

pub print_start : (all : List Row) (page : List ℕ) → rows_fit all ≡ true → 65 * length all ≤ length page → Printing all all page page 0
print_start all page f h = record { whole = refl; count = omega arith; fit = f; room = h; long = refl; size = omega arith }

module _ {all : List Row} {page₀ page : List ℕ} {rows : ℕ} (r : Row) (rest : List Row) (p : Printing all (r ∷ rest) page₀ page rows) where
  -- there is room for a line more
  pub print_room : (65 * rows + 65 ≤ length page) × (row_fits r ≡ true)
  print_room = (omega (arith, p.count, p.room, p.long), (fit_next r rest p.fit).0)

  pub print_next : (out : List ℕ) (n : ℕ) → length (line r) ≡ 65 → n ≡ rows + 1 → out ≡ pasted (65 * rows) (line r) page → Printing all rest page₀ out n
  print_next out n l e f =
      let at : 65 * n ≡ 65 * rows + length (line r) = omega arith in
      let fits : 65 * rows + length (line r) ≤ length page = omega (arith, print_room.0) in
      record {
        whole =
            ap (pasted (65 * n) (lines (length rest) rest)) f
            ∙ pasted_more (65 * rows) (65 * n) (line r) (lines (length rest) rest) page fits at
            ∙ ap (λ (t : List ℕ). pasted (65 * rows) t page) (sym (lines_next r rest))
            ∙ p.whole;
        count = omega (arith, p.count);
        fit = (fit_next r rest p.fit).1;
        room = p.room;
        long = ap length f ∙ pasted_length (65 * rows) (line r) page fits ∙ p.long;
        size = omega (arith, p.size, ap length (lines_next r rest), length-append (line r) (lines (length rest) rest));
      }

pub printed : {all : List Row} {page₀ page : List ℕ} {rows : ℕ} → Printing all [] page₀ page rows
    → ((rows ≡ length all) × (65 * rows ≡ length (lines (length all) all))) × (page ≡ over (lines (length all) all) page₀)
unfolding lines
printed {page = page} {rows = rows} p = ((omega (arith, p.count), omega (arith, p.size)), sym (take-append-drop (65 * rows) page) ∙ p.whole)

-- ---- a sheet: the rows, and blank lines written to what is left of the last page

pub sheet_home : (rows : List Row) (page out home : List ℕ) (n pages : ℕ) → out ≡ over (lines (length rows) rows) page → n ≡ length rows → 65 * n ≡ length (lines (length rows) rows)
    → pages ≡ pages_for (length rows) → home ≡ over (lines (pages * 50 - n) []) (take (length out - n * 65) (drop (n * 65) out))
    → put_mid (n * 65) (length out - n * 65) out home ≡ over (sheet rows) page
unfolding sheet
sheet_home rows page out home n pages o e l p h =
    let left : pages * 50 - n ≡ 50 * pages_for (length rows) - length rows = omega arith in
    let at : length (lines (length rows) rows) ≡ n * 65 = omega arith in
    part_home (lines (pages * 50 - n) []) out home (n * 65) h
    ∙ ap (pasted (n * 65) (lines (pages * 50 - n) [])) o
    ∙ over_pasted (lines (length rows) rows) (lines (pages * 50 - n) []) page (n * 65) at
    ∙ ap (λ (k : ℕ). over (lines (length rows) rows ++ lines k []) page) left
    ∙ ap (λ (t : List ℕ). over t page) (sym (lines_parts (50 * pages_for (length rows)) rows (omega arith)))
