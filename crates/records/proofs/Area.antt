-- Laws of written areas, and of comparing bytes. Assumes nothing.
use mathlib.Core.Path.{◌≡◌, refl, sym, ap, ap₂, ◌∙◌}
use mathlib.Core.Bool.{Bool, true, false, cond, ◌&&◌}
use mathlib.Core.List.{List, [], ◌∷◌, ◌++◌, append_assoc, append-nil}
use Prim.Native.Nat.{ℕ, ◌+◌, ◌-◌, ◌≤◌, ◌<◌}
use native.Mathlib.Nat.{le_of_eq}
use native.Mathlib.Numerals.{add-one}
use native.Mathlib.Omega.{arith}
use borrow.Author.Tests.{eqb-true, eq-eqb, le-leb, lt-leb}
use borrow.Rule.Slice.PartMut.{put_mid}
use lib.Dec.{eqb}
use Rattle.std.proofs.Common.{ne_eqb}
use lib.ListN.{length, take, drop, set, length-append, length-drop, drop_of_length-le}
use lib.Seq.{take_all, take_at, drop_at, drop-drop, set_at, drop-cons}
use Rattle.std.specs.Prelude.{nat_eq}
use Rattle.std.specs.Cmp.Lexicographic.{pointwise}
use Rattle.hash_parts.specs.Outcome.{accepted, refused}
use Rattle.hash_parts.specs.declared.error.SegmentCacheBuildError.TheVariants.{AreaTooShort}
use Rattle.records.specs.Area.{copied, over, pasted, written, spanned, same_bytes}
use Rattle.records.specs.declared.record.Span.{Span}

-- ---- writing over an area's front

-- over a whole area
pub over_all : (s area : List ℕ) → length area ≡ length s → over s area ≡ s
over_all s area e = ap (λ (t : List ℕ). s ++ t) (drop_of_length-le area (le_of_eq e)) ∙ append-nil s

pub copied_law : (s area : List ℕ) → length area ≡ length s → copied s area ≡ s
unfolding copied
copied_law s area e = rw (eq-eqb _ _ e) refl

pub copied_not : (s area : List ℕ) → (length area ≡ length s → ⊥) → copied s area ≡ area
unfolding copied
copied_not s area n = rw (ne_eqb _ _ n) refl

-- all of s written over an area of its length, bit by bit
pub copied_whole : (s area out : List ℕ) (i : ℕ) → length s ≤ i → length area ≡ length s → out ≡ over (take i s) area → out ≡ copied s area
copied_whole s area out i h e w =
    w ∙ ap (λ (t : List ℕ). over t area) (take_all i s h) ∙ over_all s area e ∙ sym (copied_law s area e)

-- one byte more after what is written
pub over_set : (s area : List ℕ) (i x : ℕ) → length s ≡ i → i < length area → set (over s area) i x ≡ over (s ++ (x ∷ [])) area
over_set s area i x e h =
    let g : length s < length area = omega arith in
    ap (λ (t : List ℕ). set (s ++ t) i x) (drop-cons area (length s) 0 g)
    ∙ set_at s _ _ x i e
    ∙ simp (append_assoc, length-append, add-one)

pub over_length : (s area : List ℕ) → length s ≤ length area → length (over s area) ≡ length area
over_length s area h = simp (length-append, length-drop) (omega arith)

-- t written after s
pub over_pasted : (s t area : List ℕ) (at : ℕ) → length s ≡ at → pasted at t (over s area) ≡ over (s ++ t) area
over_pasted s t area at e =
    rw (take_at s (drop (length s) area) at e, drop_at s (drop (length s) area) at e) (simp (append_assoc, length-append, drop-drop))

-- a rest that was lent and written to comes home
pub part_home : (s area home : List ℕ) (at : ℕ) → home ≡ over s (take (length area - at) (drop at area)) → put_mid at (length area - at) area home ≡ pasted at s area
part_home s area home at e =
    let h : length (drop at area) ≤ length area - at = le_of_eq (length-drop at area) in
    let all : take (length area - at) (drop at area) ≡ drop at area = take_all (length area - at) (drop at area) h in
    ap (λ (t : List ℕ). take at area ++ t)
    (ap₂ (λ (x y : List ℕ). x ++ y) (e ∙ ap (λ (t : List ℕ). over s t) all) (drop_of_length-le (drop at area) h) ∙ append-nil (over s (drop at area)))

-- what fits is written
pub written_in_law : (s area : List ℕ) → length s ≤ length area → written s area ≡ record { answer = accepted (length s); area = over s area }
unfolding written
written_in_law s area h = rw (le-leb (length s) (length area) h)

-- what does not fit changes nothing
pub written_out : (s area : List ℕ) → length area < length s → written s area ≡ record { answer = refused AreaTooShort; area = area }
unfolding written
written_out s area h = rw (lt-leb (length s) (length area) h)

-- ---- parts

pub spanned_in : (arena : List ℕ) (span : Span) → span.at + span.len ≤ length arena → take (span.at + span.len - span.at) (drop span.at arena) ≡ spanned arena span
unfolding spanned
spanned_in arena span h =
    let e : span.at + span.len - span.at ≡ span.len = omega arith in
    rw (e, le-leb (span.at + span.len) (length arena) h)

pub spanned_out : (arena : List ℕ) (span : Span) → length arena < span.at + span.len → [] ≡ spanned arena span
unfolding spanned
spanned_out arena span h = rw (lt-leb (span.at + span.len) (length arena) h)

-- ---- writing piece by piece: out is the area after the bytes of `whole` before `left`, which end at a position

pub record Writing (whole left area out : List ℕ) (at : ℕ) : Type 0 where
  pub done : List ℕ
  pub parts : whole ≡ done ++ left
  pub count : length done ≡ at
  pub list : out ≡ over done area
  pub short : length whole ≤ length area

pub begin : (whole area : List ℕ) → length whole ≤ length area → Writing whole whole area area 0
begin whole area h = record { done = []; parts = refl; count = refl; list = refl; short = h }

-- there is room for what is left
pub room : {whole left area out : List ℕ} {at : ℕ} → Writing whole left area out at → (at + length left ≤ length area) × (length out ≡ length area)
room {whole} {left} {area} w =
    let l : length whole ≡ length w.done + length left = ap length w.parts ∙ length-append w.done left in
    (omega arith, ap length w.list ∙ over_length w.done area (omega arith))

-- and for its first piece
pub fits : {whole left area out : List ℕ} {at : ℕ} (s rest : List ℕ) → Writing whole left area out at → left ≡ s ++ rest → at + length s ≤ length out
fits s rest w e = omega (arith, room w, ap length e ∙ length-append s rest)

-- a piece more
pub next : {whole left area out : List ℕ} {at : ℕ} (s rest out' : List ℕ) (at' : ℕ) → Writing whole left area out at → left ≡ s ++ rest
    → at' ≡ at + length s → out' ≡ pasted at s out → Writing whole rest area out' at'
next {area = area} {at = at} s rest out' at' w e n f =
    record {
      done = w.done ++ s;
      parts = w.parts ∙ ap (λ (t : List ℕ). w.done ++ t) e ∙ sym (append_assoc w.done s rest);
      count = length-append w.done s ∙ ap (λ (k : ℕ). k + length s) w.count ∙ sym n;
      list = f ∙ ap (λ (t : List ℕ). pasted at s t) w.list ∙ over_pasted w.done s area at w.count;
      short = w.short;
    }

-- the same where the rest of the area is lent, and comes home with the piece written to its front
pub fits_home : {whole left area out : List ℕ} {at : ℕ} (s rest : List ℕ) → Writing whole left area out at → left ≡ s ++ rest
    → length s ≤ length (take (length out - at) (drop at out))
fits_home {out = out} {at = at} s rest w e =
    rw (take_all (length out - at) (drop at out) (le_of_eq (length-drop at out))) (omega (arith, length-drop at out, fits s rest w e))

pub next_home : {whole left area out : List ℕ} {at : ℕ} (s rest home : List ℕ) (n : ℕ) → Writing whole left area out at → left ≡ s ++ rest → n ≡ length s
    → home ≡ over s (take (length out - at) (drop at out)) → Writing whole rest area (put_mid at (length out - at) out home) (at + n)
next_home {out = out} {at = at} s rest home n w e k f = next s rest _ (at + n) w e (ap (λ (m : ℕ). at + m) k) (part_home s out home at f)

-- a byte more
pub next_byte : {whole left area out : List ℕ} {at : ℕ} (b : ℕ) (rest : List ℕ) → Writing whole left area out at → left ≡ b ∷ rest → Writing whole rest area (set out at b) (at + 1)
next_byte {area = area} {at = at} b rest w e =
    let h : at < length area = omega (arith, room w, ap length e) in
    record {
      done = w.done ++ (b ∷ []);
      parts = w.parts ∙ ap (λ (t : List ℕ). w.done ++ t) e ∙ sym (append_assoc w.done (b ∷ []) rest);
      count = length-append w.done (b ∷ []) ∙ ap (λ (k : ℕ). k + 1) w.count;
      list = ap (λ (t : List ℕ). set t at b) w.list ∙ over_set w.done area at b w.count h;
      short = w.short;
    }

-- all is written
pub complete : {whole left area out : List ℕ} {at : ℕ} → Writing whole left area out at → left ≡ [] → (at ≡ length whole) × (out ≡ over whole area)
complete {area = area} w e =
    let all : w.done ≡ _ = sym (append-nil w.done) ∙ ap (λ (t : List ℕ). w.done ++ t) (sym e) ∙ sym w.parts in
    (sym w.count ∙ ap length all, w.list ∙ ap (λ (t : List ℕ). over t area) all)

-- ---- comparing bytes

pub same_refl : (a : List ℕ) → same_bytes a a ≡ true
unfolding same_bytes
same_refl [] = refl
same_refl (x ∷ a) = rw (eq-eqb x x refl) (same_refl a)

pub same_true : (a b : List ℕ) → same_bytes a b ≡ true → a ≡ b
unfolding same_bytes
same_true [] [] e = refl
same_true [] (y ∷ b) e = cc
same_true (x ∷ a) [] e = cc
same_true (x ∷ a) (y ∷ b) e = go (eqb x y) refl e (same_true a b)
  where
    go : (t : Bool) → eqb x y ≡ t → cond t (same_bytes a b) false ≡ true → (same_bytes a b ≡ true → a ≡ b) → x ∷ a ≡ y ∷ b
    go true q s f =
        let h : x ≡ y = eqb-true x y q in
        let t : a ≡ b = f s in
        cc
    go false q s f = cc

-- it is what `==` says
pub same_is : (a b : List ℕ) → pointwise nat_eq a b ≡ same_bytes a b
unfolding same_bytes
same_is [] [] = refl
same_is [] (y ∷ b) = refl
same_is (x ∷ a) [] = refl
same_is (x ∷ a) (y ∷ b) = go (eqb x y) (same_is a b)
  where
    go : (t : Bool) → pointwise nat_eq a b ≡ same_bytes a b → (t && pointwise nat_eq a b) ≡ cond t (same_bytes a b) false
    go true e = e
    go false e = refl
