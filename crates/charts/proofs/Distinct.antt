-- "No two sets whose walks differ in a slot, key, value or deadline give the same sheet." Assumes nothing.
use mathlib.Core.List.{List, [], ◌∷◌, ◌++◌, append_assoc}
use mathlib.Core.Path.{◌≡◌, refl, sym, ap, ap₂, ◌∙◌}
use Prim.Native.Nat.{ℕ, zero, suc, ◌+◌, ◌-◌, ◌*◌, ◌≤◌}
use native.Mathlib.Omega.{arith}
use lib.ListN.{length, get_or, take, drop, replicate, length-append}
use lib.Seq.{take_at}
use Rattle.hash_parts.proofs.Bytes.{Bytes}
use Rattle.sets.specs.Answers.{accept}
use Rattle.sets.specs.Lookup.{view_of}
use Rattle.sets.specs.declared.cache.FrozenSegmentCache.{FrozenSegmentCache}
use Rattle.texts.specs.Output.{decimal_text, hex_text}
use Rattle.texts.proofs.Spelling.{decimal_pos, hex_length_law}
use Rattle.charts.specs.Line.{Row, blank, deadline_text, left, line, lines, pages_for, right, sheet}
use Rattle.charts.specs.Sheet.{Printed, after_sheet, rows_of}
use Rattle.charts.proofs.Asked.{sheet_accepted, slots_few}
use Rattle.charts.proofs.Columns.{length_blank, length_left, length_line, length_right}
use Rattle.charts.proofs.Spelled.{deadline_head, deadline_same, decimal_head, decimal_same, head_append, hex_plain, hex_same, left_same, parts_same, right_same, strip, strip_spaces}
use Rattle.charts.proofs.Visited.{Every, Fits, every_more, every_row}

-- ---- lines

length_hex : (s : List ℕ) → length s ≤ 12 → length (left 24 (hex_text s)) ≡ 24
length_hex s h = length_left 24 (hex_text s) (omega (arith, hex_length_law s))

line_long : (r : Row) → Fits r → length (line r) ≡ 65
line_long r f = length_line r.slot r.deadline r.key r.value f.slot_fits f.key_fits f.value_fits f.deadline_fits

slot_head : (r : Row) → get_or (decimal_text r.slot) 0 0 ≡ 32 → ⊥
slot_head r e = omega (arith, e, (decimal_head r.slot r.slot (omega arith)).0)

pub line_same : (r q : Row) → Fits r → Fits q → line r ≡ line q → r ≡ q
unfolding line
line_same r q f g e =
    let one = parts_same (right 8 (decimal_text r.slot)) (right 8 (decimal_text q.slot)) _ _
    (length_right 8 (decimal_text r.slot) f.slot_fits ∙ sym (length_right 8 (decimal_text q.slot) g.slot_fits)) e in
    let two = parts_same (left 24 (hex_text r.key)) (left 24 (hex_text q.key)) _ _ (length_hex r.key f.key_fits ∙ sym (length_hex q.key g.key_fits)) (ap (drop 1) one.1) in
    let three = parts_same (left 24 (hex_text r.value)) (left 24 (hex_text q.value)) _ _ (length_hex r.value f.value_fits ∙ sym (length_hex q.value g.value_fits))
    (ap (drop 1) two.1) in
    let four = parts_same (right 5 (deadline_text r.deadline)) (right 5 (deadline_text q.deadline)) _ _
    (length_right 5 (deadline_text r.deadline) f.deadline_fits ∙ sym (length_right 5 (deadline_text q.deadline) g.deadline_fits)) (ap (drop 1) three.1) in
    let slot : r.slot ≡ q.slot = decimal_same r.slot q.slot (right_same 8 (decimal_text r.slot) (decimal_text q.slot) (slot_head r) (slot_head q) one.0) in
    let key : r.key ≡ q.key = hex_same r.key q.key f.key_bytes g.key_bytes (left_same 24 (hex_text r.key) (hex_text q.key) (hex_plain r.key) (hex_plain q.key) two.0) in
    let val : r.value ≡ q.value =
    hex_same r.value q.value f.value_bytes g.value_bytes (left_same 24 (hex_text r.value) (hex_text q.value) (hex_plain r.value) (hex_plain q.value) three.0) in
    let due : r.deadline ≡ q.deadline =
    deadline_same r.deadline q.deadline
    (right_same 5 (deadline_text r.deadline) (deadline_text q.deadline) (deadline_head r.deadline) (deadline_head q.deadline) four.0) in
    λ i. record { slot = slot i; key = key i; value = val i; deadline = due i }

-- a blank line is no entry's
pub line_not_blank : (r : Row) → line r ≡ blank → ⊥
unfolding line blank
line_not_blank r e =
    let s : List ℕ = decimal_text r.slot in
    let rest : List ℕ = 32 ∷ (left 24 (hex_text r.key) ++ (32 ∷ (left 24 (hex_text r.value) ++ (32 ∷ (right 5 (deadline_text r.deadline) ++ (10 ∷ [])))))) in
    let head : get_or (s ++ rest) 0 0 ≡ get_or s 0 0 = head_append s rest (decimal_pos r.slot) in
    let digit : 48 ≤ get_or s 0 0 = (decimal_head r.slot r.slot (omega arith)).0 in
    let other : get_or (s ++ rest) 0 0 ≡ 32 → ⊥ = λ (e : get_or (s ++ rest) 0 0 ≡ 32). omega arith in
    let here : strip (line r) ≡ s ++ rest = ap strip (append_assoc (replicate (8 - length s) 32) s rest) ∙ strip_spaces (8 - length s) (s ++ rest) other in
    let there : strip blank ≡ 10 ∷ [] = strip_spaces 64 (10 ∷ []) (λ (e : 10 ≡ 32). omega arith) in
    let ten : get_or (s ++ rest) 0 0 ≡ 10 = ap (λ (l : List ℕ). get_or l 0 0) (sym here ∙ ap strip e ∙ there) in
    omega arith

-- ---- sheets

length_lines : (n : ℕ) (rows : List Row) → Every rows → length (lines n rows) ≡ 65 * n
unfolding lines
length_lines zero rows p = refl
length_lines (suc n) [] p = length-append blank (lines n []) ∙ ap₂ ◌+◌ length_blank (length_lines n [] p) ∙ omega arith
length_lines (suc n) (r ∷ rows) (every_more f p) = length-append (line r) (lines n rows) ∙ ap₂ ◌+◌ (line_long r f) (length_lines n rows p) ∙ omega arith

lines_same : (n : ℕ) (a b : List Row) → Every a → Every b → length a ≤ n → length b ≤ n → lines n a ≡ lines n b → a ≡ b
unfolding lines
lines_same zero [] [] p q h k e = refl
lines_same zero [] (y ∷ b) p q h k e = absurd (omega (arith, k))
lines_same zero (x ∷ a) b p q h k e = absurd (omega (arith, h))
lines_same (suc n) [] [] p q h k e = refl
lines_same (suc n) [] (y ∷ b) p (every_more g q) h k e =
    absurd (line_not_blank y (sym (parts_same blank (line y) (lines n []) (lines n b) (length_blank ∙ sym (line_long y g)) e).0))
lines_same (suc n) (x ∷ a) [] (every_more f p) q h k e = absurd (line_not_blank x (parts_same (line x) blank (lines n a) (lines n []) (line_long x f ∙ sym length_blank) e).0)
lines_same (suc n) (x ∷ a) (y ∷ b) (every_more f p) (every_more g q) h k e =
    let two = parts_same (line x) (line y) (lines n a) (lines n b) (line_long x f ∙ sym (line_long y g)) e in
    ap₂ ◌∷◌ (line_same x y f g two.0) (lines_same n a b p q (omega (arith, h)) (omega (arith, k)) two.1)

-- rows that differ give sheets that differ
pub sheets_distinct : (a b : List Row) → Every a → Every b → sheet a ≡ sheet b → a ≡ b
unfolding sheet
sheets_distinct a b p q e =
    let n : ℕ = 50 * pages_for (length a) in
    let m : ℕ = 50 * pages_for (length b) in
    let long : 65 * n ≡ 65 * m = sym (length_lines n a p) ∙ ap length e ∙ length_lines m b q in
    let same : m ≡ n = omega arith in
    lines_same n a b p q (omega arith) (omega arith) (e ∙ ap (λ (t : ℕ). lines t b) same)

-- ---- sets: of two accepted calls, with whatever set, areas and page area, the sheets on the pages are the same only where the rows are

-- what an accepted call has on its pages
on_pages : (s : FrozenSegmentCache) (index starts lengths arena page : List ℕ) (n : ℕ) → Bytes arena → accept n ≡ (after_sheet s index starts lengths arena page).answer
    → Every (rows_of s index starts lengths arena) × (take (3250 * n) (after_sheet s index starts lengths arena page).page ≡ sheet (rows_of s index starts lengths arena))
unfolding sheet
on_pages s index starts lengths arena page n bytes e =
    let rows : List Row = rows_of s index starts lengths arena in
    let k = sheet_accepted s index starts lengths arena n page e in
    let few : 8 * s.buckets ≤ 100000000 = (slots_few s (length index) (length starts) (length lengths) (length arena) k.0).1 in
    let every : Every rows = every_row (view_of s) arena starts lengths s.config.packed_bucket_index s.buckets index bytes few k.1 in
    let long : length (sheet rows) ≡ 3250 * n = length_lines (50 * pages_for (length rows)) rows every ∙ omega (arith, k.2) in
    (every, ap (take (3250 * n)) k.3 ∙ take_at (sheet rows) (drop (length (sheet rows)) page) (3250 * n) long)

pub sets_distinct : (s t : FrozenSegmentCache) (index starts lengths arena page index' starts' lengths' arena' page' : List ℕ) (m n : ℕ) → Bytes arena → Bytes arena'
    → accept m ≡ (after_sheet s index starts lengths arena page).answer → accept n ≡ (after_sheet t index' starts' lengths' arena' page').answer
    → take (3250 * m) (after_sheet s index starts lengths arena page).page ≡ take (3250 * n) (after_sheet t index' starts' lengths' arena' page').page
    → rows_of s index starts lengths arena ≡ rows_of t index' starts' lengths' arena'
sets_distinct s t index starts lengths arena page index' starts' lengths' arena' page' m n b c e f same =
    let p = on_pages s index starts lengths arena page m b e in
    let q = on_pages t index' starts' lengths' arena' page' n c f in
    sheets_distinct (rows_of s index starts lengths arena) (rows_of t index' starts' lengths' arena') p.0 q.0 (sym p.1 ∙ same ∙ q.1)

-- so are two accepted calls that answer alike and leave the same page area, whole
pub pages_distinct : (s t : FrozenSegmentCache) (index starts lengths arena page index' starts' lengths' arena' page' : List ℕ) (n : ℕ) → Bytes arena → Bytes arena'
    → accept n ≡ (after_sheet s index starts lengths arena page).answer
    → after_sheet s index starts lengths arena page ≡ after_sheet t index' starts' lengths' arena' page'
    → rows_of s index starts lengths arena ≡ rows_of t index' starts' lengths' arena'
pages_distinct s t index starts lengths arena page index' starts' lengths' arena' page' n b c e same =
    sets_distinct s t index starts lengths arena page index' starts' lengths' arena' page' n n b c e (e ∙ ap (λ (p : Printed). p.answer) same)
    (ap (λ (p : Printed). take (3250 * n) p.page) same)
