-- Filling the first 256 words of an area from the front, the rest of them 0. Assumes nothing.
use Rattle.std.proofs.Common.{◌≡◌, ℕ, suc, ◌+◌, ◌-◌, ◌<◌, ◌≤◌, List, [], ◌∷◌, ◌++◌, length, take, drop, set, replicate, sym, refl, ap, ◌∙◌, ap₂, append_assoc, append-nil, arith, length-append, length-drop, length-take, take_all, take_at, drop_at}
use lib.ListN.{length-replicate}
use lib.Seq.{set_at}
use Rattle.records.specs.Area.{over}
use Rattle.index.specs.Segments.{padded}

padded_length : (l : List ℕ) → length (padded l) ≡ 256
unfolding padded
padded_length l = omega (arith, length-append (take 256 l) (replicate (256 - length l) 0), length-take 256 l, length-replicate {A = ℕ} (256 - length l) 0)

pub over_padded_length : (l area : List ℕ) → 256 ≤ length area → length (over (padded l) area) ≡ length area
over_padded_length l area h = omega (arith, padded_length l, length-append (padded l) (drop (length (padded l)) area), length-drop (length (padded l)) area)

-- none is written
pub padded_none : (area : List ℕ) → over (replicate 256 0) area ≡ over (padded []) area
unfolding padded
padded_none area = ap (λ (zeros : List ℕ). over zeros area) all
  where
    all : replicate 256 0 ≡ padded []
    all = refl

-- a word more
padded_more : (l : List ℕ) (x : ℕ) → length l < 256 → (rest : List ℕ) → set (padded l ++ rest) (length l) x ≡ padded (l ++ (x ∷ [])) ++ rest
unfolding padded
padded_more l x h rest =
    let zeros : List ℕ = replicate (255 - length l) 0 in
    let left : 256 - length l ≡ suc (255 - length l) = omega arith in
    let longer : length (l ++ (x ∷ [])) ≡ length l + 1 = length-append l (x ∷ []) in
    let left' : 256 - length (l ++ (x ∷ [])) ≡ 255 - length l = omega arith in
    rw (take_all 256 l (omega arith), left, take_all 256 (l ++ (x ∷ [])) (omega arith), left')
    (ap (λ (t : List ℕ). set t (length l) x) (append_assoc l (0 ∷ zeros) rest)
    ∙ set_at l 0 (zeros ++ rest) x (length l) refl
    ∙ sym (append_assoc (l ++ (x ∷ [])) zeros rest ∙ append_assoc l (x ∷ []) (zeros ++ rest)))

-- past 256 words nothing is written
padded_full : (l m : List ℕ) → length l ≡ 256 → padded (l ++ m) ≡ padded l
unfolding padded
padded_full l m e =
    let a : 256 - length (l ++ m) ≡ 0 = omega (arith, length-append l m) in
    let b : 256 - length l ≡ 0 = omega arith in
    rw (take_at l m 256 e, take_all 256 l (omega arith), a, b)

-- what stood in the first 256 words does not matter
over_padded_again : (l m area : List ℕ) → over (padded l) (over (padded m) area) ≡ over (padded l) area
over_padded_again l m area =
    let e : length (padded m) ≡ length (padded l) = padded_length m ∙ sym (padded_length l) in
    ap (λ (t : List ℕ). padded l ++ t) (drop_at (padded m) (drop (length (padded m)) area) (length (padded l)) e ∙ ap (λ (k : ℕ). drop k area) e)

-- nor that they were cleared before
pub over_padded_cleared : (l area out : List ℕ) → out ≡ over (padded []) area → over (padded l) out ≡ over (padded l) area
over_padded_cleared l area out e = ap (over (padded l)) e ∙ over_padded_again l [] area

-- `out` is an area after the words of `whole` before `left`, so many, were written to its front
pub record Filling (whole left area out : List ℕ) (count : ℕ) : Type 0 where
  pub done : List ℕ
  pub parts : whole ≡ done ++ left
  pub long : length done ≡ count
  pub list : out ≡ over (padded done) area
  pub room : 256 ≤ length area

-- the area was cleared before
pub filling_none : (whole area out : List ℕ) → 256 ≤ length area → out ≡ over (padded []) area → Filling whole whole out out 0
filling_none whole area out h e =
    record {
      done = [];
      parts = refl;
      long = refl;
      list = e ∙ sym (over_padded_cleared [] area out e);
      room = omega (arith, ap length e ∙ over_padded_length [] area h);
    }

pub filling_length : {whole left area out : List ℕ} {count : ℕ} → Filling whole left area out count → length out ≡ length area
filling_length {area = area} f = ap length f.list ∙ over_padded_length f.done area f.room

pub filling_next : {whole left area out : List ℕ} {count : ℕ} (x : ℕ) (rest : List ℕ) → Filling whole left area out count → left ≡ x ∷ rest → count < 256
    → Filling whole rest area (set out count x) (count + 1)
filling_next {area = area} {count = count} x rest f e h =
    let d = f.done in
    record {
      done = d ++ (x ∷ []);
      parts = f.parts ∙ ap (λ (t : List ℕ). d ++ t) e ∙ sym (append_assoc d (x ∷ []) rest);
      long = length-append d (x ∷ []) ∙ ap (λ (k : ℕ). k + 1) f.long;
      list =
          ap₂ (λ (o : List ℕ) (k : ℕ). set o k x) f.list (sym f.long)
          ∙ padded_more d x (omega (arith, f.long)) (drop (length (padded d)) area)
          ∙ ap (λ (k : ℕ). padded (d ++ (x ∷ [])) ++ drop k area) (padded_length d ∙ sym (padded_length (d ++ (x ∷ []))));
      room = f.room;
    }

pub filling_end : {whole left area out : List ℕ} {count : ℕ} → Filling whole left area out count → left ≡ [] → (count ≡ length whole) × (out ≡ over (padded whole) area)
filling_end {area = area} f e =
    let all : f.done ≡ _ = sym (append-nil f.done) ∙ ap (λ (t : List ℕ). f.done ++ t) (sym e) ∙ sym f.parts in
    (sym f.long ∙ ap length all, f.list ∙ ap (λ (t : List ℕ). over (padded t) area) all)

-- one word too many
pub filling_over : {whole left area out : List ℕ} {count : ℕ} (x : ℕ) → Filling whole left area out count → left ≡ x ∷ [] → count ≡ 256
    → (257 ≡ length whole) × (out ≡ over (padded whole) area)
filling_over {left = left} {area = area} x f e full = (
  omega (arith, ap length f.parts ∙ length-append f.done left, ap length e, f.long),
  f.list ∙ ap (λ (t : List ℕ). over t area) (sym (padded_full f.done left (f.long ∙ full)) ∙ ap padded (sym f.parts)),
)

-- what was filled in is read back
pub filled_back : (l area : List ℕ) → length l ≤ 256 → take (length l) (over (padded l) area) ≡ l
unfolding padded
filled_back l area h =
    let zeros : List ℕ = replicate (256 - length l) 0 in
    let rest : List ℕ = drop (length (padded l)) area in
    ap (take (length l)) (ap (λ (t : List ℕ). (t ++ zeros) ++ rest) (take_all 256 l h) ∙ append_assoc l zeros rest) ∙ take_at l (zeros ++ rest) (length l) refl
