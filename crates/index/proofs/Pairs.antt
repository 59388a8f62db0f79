-- Two lists related element by element, and parts of them. Assumes nothing.
use Rattle.std.proofs.Common.{◌≡◌, ℕ, zero, suc, List, ◌++◌, length, take, drop, set, replicate, refl, ap}
use mathlib.Core.List.{Forall₂}
use Rattle.index.specs.Walk.{rot}

module _ {A B : Type 0} {P : A → B → Type 0} where
  pub pairs_take : (n : ℕ) {l : List A} {m : List B} → Forall₂ P l m → Forall₂ P (take n l) (take n m)
  pairs_take zero r = Forall₂.nil
  pairs_take (suc n) Forall₂.nil = Forall₂.nil
  pairs_take (suc n) (Forall₂.cons x r) = Forall₂.cons x (pairs_take n r)

  pub pairs_drop : (n : ℕ) {l : List A} {m : List B} → Forall₂ P l m → Forall₂ P (drop n l) (drop n m)
  pairs_drop zero r = r
  pairs_drop (suc n) Forall₂.nil = Forall₂.nil
  pairs_drop (suc n) (Forall₂.cons x r) = pairs_drop n r

  pairs_append : {l x : List A} {m y : List B} → Forall₂ P l m → Forall₂ P x y → Forall₂ P (l ++ x) (m ++ y)
  pairs_append Forall₂.nil s = s
  pairs_append (Forall₂.cons x r) s = Forall₂.cons x (pairs_append r s)

  pub pairs_rot : (a : ℕ) {l : List A} {m : List B} → Forall₂ P l m → Forall₂ P (rot a l) (rot a m)
  pairs_rot a r = pairs_append (pairs_drop a r) (pairs_take a r)

  pub pairs_set : (i : ℕ) (a : A) (b : B) {l : List A} {m : List B} → P a b → Forall₂ P l m → Forall₂ P (set l i a) (set m i b)
  pairs_set zero a b x Forall₂.nil = Forall₂.nil
  pairs_set (suc i) a b x Forall₂.nil = Forall₂.nil
  pairs_set zero a b x (Forall₂.cons y r) = Forall₂.cons x r
  pairs_set (suc i) a b x (Forall₂.cons y r) = Forall₂.cons y (pairs_set i a b x r)

  pub pairs_replicate : (n : ℕ) (a : A) (b : B) → P a b → Forall₂ P (replicate n a) (replicate n b)
  pairs_replicate zero a b x = Forall₂.nil
  pairs_replicate (suc n) a b x = Forall₂.cons x (pairs_replicate n a b x)

  pub pairs_length : {l : List A} {m : List B} → Forall₂ P l m → length l ≡ length m
  pairs_length Forall₂.nil = refl
  pairs_length (Forall₂.cons x r) = ap suc (pairs_length r)
