-- Where a call is refused, and where not. Assumes nothing.
use Rattle.std.proofs.Common.{◌≡◌, ℕ, zero, suc, Bool, cond, eqb, List, refl, ap, arith, ne_eqb}
use Rattle.hash_parts.specs.Error.{error_number}
use Rattle.hash_parts.specs.declared.error.SegmentCacheBuildError.{SegmentCacheBuildError}
use Rattle.hash_parts.proofs.Refusals.{refusal_pos}
use Rattle.sets.specs.Answers.{Reply, accept, refuse}
use Rattle.sets.specs.Questions.{decided, first_no}

module _ {A : Type 0} where
  -- a number that is not 0 refuses
  decided_pos : (n : ℕ) (x : A) (f : ℕ → A) → (n ≡ 0 → ⊥) → decided n x f ≡ f n
  decided_pos zero x f h = absurd (h refl)
  decided_pos (suc n) x f h = refl

  pub decided_refused : (e : SegmentCacheBuildError) (x : A) (f : ℕ → A) → decided (error_number e) x f ≡ f (error_number e)
  decided_refused e x f = decided_pos (error_number e) x f (λ (z : error_number e ≡ 0). omega (arith, refusal_pos e))

  -- so does a question whose number is its own answer
  pub own_refused : (e : SegmentCacheBuildError) (n : ℕ) (x : A) (f : ℕ → A) → decided (cond (eqb (error_number e) 0) n (error_number e)) x f ≡ f (error_number e)
  own_refused e n x f = rw (ne_eqb (error_number e) 0 (λ (z : error_number e ≡ 0). omega (arith, refusal_pos e))) (decided_refused e x f)

  -- what holds of an accepted call and of every refusal holds of the call
  pub decided_either : (P : A → Type 0) (n : ℕ) (x : A) (f : ℕ → A) → P x → ((m : ℕ) → P (f m)) → P (decided n x f)
  decided_either P zero x f holds refused = holds
  decided_either P (suc n) x f holds refused = refused (suc n)

-- ---- a plan

-- what a plan comes to, by its questions
abbrev pub plan : {A : Type 0} → A → List (Bool × ℕ) → Reply A (Unit {0})
plan x l = decided (first_no l) (accept x) (λ n. refuse n tt)

module _ {A : Type 0} where
  pub planned_yes : (n : ℕ) (x y : A) → ◌≡◌ {A = Reply A (Unit {0})} (decided n (accept x) (λ m. refuse m tt)) (accept y) → (n ≡ 0) × (x ≡ y)
  planned_yes zero x y e = (refl, cc)
  planned_yes (suc n) x y e = absurd (let z : ◌≡◌ {A = ℕ} 0 1 = cc in omega arith)

  pub planned_no : (n m : ℕ) (x : A) → ◌≡◌ {A = Reply A (Unit {0})} (decided n (accept x) (λ k. refuse k tt)) (refuse m tt) → n ≡ m
  planned_no zero m x e = absurd (let z : ◌≡◌ {A = ℕ} 0 1 = cc in omega arith)
  planned_no (suc n) m x e = cc

pub planned_two : (n x y s d : ℕ) → ◌≡◌ {A = Reply (ℕ × ℕ) (Unit {0})} (decided n (accept (x, y)) (λ m. refuse m tt)) (accept (s, d)) → (n ≡ 0) × (x ≡ s) × (y ≡ d)
planned_two n x y s d e =
    let p = planned_yes n (x, y) (s, d) e in
    (p.0, ap (λ (z : ℕ × ℕ). z.0) p.1, ap (λ (z : ℕ × ℕ). z.1) p.1)
