-- The buckets' numbers in the order of a walk, as a loop makes them. Assumes nothing.
use Rattle.std.proofs.Common.{◌≡◌, ℕ, zero, suc, ◌+◌, ◌-◌, ◌<◌, ◌≤◌, List, [], ◌∷◌, ◌++◌, take, drop, sym, refl, ap, ◌∙◌, ap₂, not-suc-le-zero, add-zero, add-suc, add-one, arith}
use Rattle.index.specs.Build.{next_bucket}
use Rattle.index.specs.Walk.{up_from, rot}
use Rattle.index.proofs.Walks.{next_on, next_around}

-- so many buckets from bucket b on, around
unfoldable pub around : ℕ → ℕ → ℕ → List ℕ
around zero b buckets = []
around (suc n) b buckets = b ∷ around n (next_bucket b buckets) buckets

pub around_step : (n b buckets : ℕ) → 0 < n → around n b buckets ≡ b ∷ around (n - 1) (next_bucket b buckets) buckets
unfolding around
around_step zero b buckets h = absurd (not-suc-le-zero h)
around_step (suc n) b buckets h = let e : suc n - 1 ≡ n = omega arith in rw e

pub around_end : (n b buckets : ℕ) → n ≤ 0 → around n b buckets ≡ []
unfolding around
around_end zero b buckets h = refl
around_end (suc n) b buckets h = absurd (not-suc-le-zero h)

drop_up : (k a n : ℕ) → drop k (up_from a (n + k)) ≡ up_from (a + k) n
unfolding up_from
drop_up zero a n = rw (add-zero n, add-zero a)
drop_up (suc k) a n =
    let e : suc a + k ≡ a + suc k = omega arith in
    rw (add-suc n k) (drop_up k (suc a) n ∙ ap (λ (x : ℕ). up_from x n) e)

take_up : (k a n : ℕ) → take k (up_from a (n + k)) ≡ up_from a k
unfolding up_from
take_up zero a n = refl
take_up (suc k) a n = rw (add-suc n k) (ap (λ (l : List ℕ). a ∷ l) (take_up k (suc a) n))

-- up to the last bucket
around_straight : (n b buckets : ℕ) → b + n ≤ buckets → around n b buckets ≡ up_from b n
unfolding around up_from
around_straight zero b buckets h = refl
around_straight (suc zero) b buckets h = refl
around_straight (suc (suc n)) b buckets h =
    let e : b + 1 ≡ suc b = omega arith in
    ap (λ (l : List ℕ). b ∷ l)
    (ap (λ (x : ℕ). around (suc n) x buckets) (next_on b buckets (omega arith) ∙ e) ∙ around_straight (suc n) (suc b) buckets (omega arith))

-- and past it
around_past : (n m b buckets : ℕ) → b + suc n ≡ buckets → around (m + suc n) b buckets ≡ up_from b (suc n) ++ around m 0 buckets
unfolding around up_from
around_past zero m b buckets h = rw (add-one m) (ap (λ (x : ℕ). b ∷ around m x buckets) (next_around b buckets (omega arith)))
around_past (suc n) m b buckets h =
    let e : b + 1 ≡ suc b = omega arith in
    rw (add-suc m (suc n))
    (ap (λ (l : List ℕ). b ∷ l)
    (ap (λ (x : ℕ). around (m + suc n) x buckets) (next_on b buckets (omega arith) ∙ e) ∙ around_past n m (suc b) buckets (omega arith)))

pub walk_around : (buckets f : ℕ) → f ≤ buckets - 1 → rot f (up_from 0 buckets) ≡ around buckets f buckets
unfolding around up_from
walk_around zero f h =
    let e : f ≡ 0 = omega arith in
    rw e
walk_around (suc k) f h =
    let n : ℕ = k - f in
    let split : suc n + f ≡ suc k = omega arith in
    let turned : f + suc n ≡ suc k = omega arith in
    let z : 0 + f ≡ f = omega arith in
    ap (λ (j : ℕ). rot f (up_from 0 j)) (sym split)
    ∙ ap₂ ◌++◌ (drop_up f 0 (suc n) ∙ ap (λ (x : ℕ). up_from x (suc n)) z) (take_up f 0 (suc n) ∙ sym (around_straight f 0 (suc k) (omega arith)))
    ∙ sym (around_past n f f (suc k) turned)
    ∙ ap (λ (j : ℕ). around j f (suc k)) turned
