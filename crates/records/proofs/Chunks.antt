-- Laws of comparing bytes a chunk at a time. Assumes nothing.
use Rattle.std.proofs.Common.{◌≡◌, ℕ, zero, suc, ◌+◌, ◌*◌, ◌/◌, ◌<◌, ◌≤◌, Bool, true, false, ◌&&◌, cond, eqb, nat_eq}
use Rattle.std.proofs.Common.{List, [], ◌∷◌, length, take, drop, get_or, refl, sym, ap, ◌∙◌, arith}
use Rattle.std.proofs.Math.Bool.{and_assoc}
use lib.ListN.{drop_of_length-le}
use lib.Seq.{drop-cons}
use Rattle.std.proofs.lemmas.List.{drop-drop}
use Rattle.std.specs.Cmp.Lexicographic.{pointwise}
use Rattle.std.specs.List.{list_all, zip}
use Rattle.std.specs.Simd.{first_chunks}
use Rattle.records.specs.Area.{same_bytes}
use Rattle.records.proofs.Area.{same_is, same_true}

abbrev pub same : List ℕ × List ℕ → Bool
same p = pointwise nat_eq p.0 p.1

-- two lists are the same where their fronts are, and what is behind them
same_split : (n : ℕ) (a b : List ℕ) → (same (take n a, take n b) && same (drop n a, drop n b)) ≡ same (a, b)
same_split zero a b = refl
same_split (suc n) [] [] = refl
same_split (suc n) [] (y ∷ b) = refl
same_split (suc n) (x ∷ a) [] = refl
same_split (suc n) (x ∷ a) (y ∷ b) = and_assoc (eqb x y) _ _ ∙ ap (λ (t : Bool). eqb x y && t) (same_split n a b)

-- where so many chunks of their fronts are, and what is behind those
same_chunks : (n k : ℕ) (a b : List ℕ) → (list_all same (zip (first_chunks n k a) (first_chunks n k b)) && same (drop (k * n) a, drop (k * n) b)) ≡ same (a, b)
same_chunks n zero a b =
    let none : 0 * n ≡ 0 = omega arith in
    rw none refl
same_chunks n (suc k) a b =
    let behind : (l : List ℕ) → drop (suc k * n) l ≡ drop (k * n) (drop n l) = λ l. ap (λ m. drop m l) (omega arith) ∙ sym (drop-drop (k * n) n l) in
    rw (behind a, behind b)
    (and_assoc (same (take n a, take n b)) _ _ ∙ ap (λ (t : Bool). same (take n a, take n b) && t) (same_chunks n k (drop n a) (drop n b)) ∙ same_split n a b)

-- of two lists of one length
module _ (n : ℕ) (a b : List ℕ) (long : length a ≡ length b) {r : Bool} (behind : r ≡ same (drop (length a / n * n) a, drop (length b / n * n) b)) where
  abbrev pub each : Bool
  each = list_all same (zip (first_chunks n (length a / n) a) (first_chunks n (length b / n) b))

  both : (each && r) ≡ same_bytes a b
  both = rw (behind, ← long) (same_chunks n (length a / n) a b) ∙ same_is a b

  -- where the chunks are the same, what is behind them decides
  pub chunks_same : each ≡ true → r ≡ same_bytes a b
  chunks_same e = sym (ap (λ (t : Bool). t && r) e) ∙ both

-- where they are not, nothing else does
pub chunks_differ : (n : ℕ) (a b : List ℕ) → length a ≡ length b
    → list_all same (zip (first_chunks n (length a / n) a) (first_chunks n (length b / n) b)) ≡ false → false ≡ same_bytes a b
chunks_differ n a b long e =
    let r : Bool = same (drop (length a / n * n) a, drop (length b / n * n) b) in
    sym (ap (λ (t : Bool). t && r) e) ∙ both n a b long {r = r} refl

-- the chunks from one on
abbrev pub same_from : ℕ → List (List ℕ) → List (List ℕ) → Bool
same_from i x y = list_all same (zip (drop i x) (drop i y))

pub same_next : (x y : List (List ℕ)) (i : ℕ) → i < length x → i < length y → same_from i x y ≡ (same (get_or x i [], get_or y i []) && same_from (i + 1) x y)
same_next x y i h k =
    let next : suc i ≡ i + 1 = omega arith in
    rw (drop-cons x i [] h, drop-cons y i [] k) (ap (λ (j : ℕ). same (get_or x i [], get_or y i []) && same_from j x y) next)

pub same_end : (x y : List (List ℕ)) (i : ℕ) → length x ≤ i → same_from i x y ≡ true
same_end x y i h = rw (drop_of_length-le x h) refl

-- lists of other lengths differ
pub lengths_differ : (a b : List ℕ) → (length a ≡ length b → ⊥) → false ≡ same_bytes a b
lengths_differ a b n = go (same_bytes a b) refl
  where
    go : (t : Bool) → same_bytes a b ≡ t → false ≡ t
    go true e = absurd (n (ap length (same_true a b e)))
    go false e = refl

-- pairs of bytes, one by one
abbrev pub each_same : ℕ × ℕ → Bool
each_same p = eqb p.0 p.1

pub each_is : (a b : List ℕ) → length a ≡ length b → list_all each_same (zip a b) ≡ same_bytes a b
unfolding same_bytes
each_is [] [] e = refl
each_is [] (y ∷ b) e = absurd (let z : 0 ≡ suc (length b) = e in omega arith)
each_is (x ∷ a) [] e = absurd (let z : suc (length a) ≡ 0 = e in omega arith)
each_is (x ∷ a) (y ∷ b) e = go (eqb x y) (each_is a b (let z : suc (length a) ≡ suc (length b) = e in omega arith))
  where
    go : (t : Bool) → list_all each_same (zip a b) ≡ same_bytes a b → (t && list_all each_same (zip a b)) ≡ cond t (same_bytes a b) false
    go true e = e
    go false e = refl
