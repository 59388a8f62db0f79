-- Where the entries of a list stand in a table: each on the walk from its home, with no empty slot before it, and those of one key in the list's order.
-- Assumes nothing.
use Rattle.std.proofs.Common.{◌≡◌, ℕ, zero, suc, ◌-◌, ◌<◌, ◌≤◌, Bool, true, false, ◌⊎◌, List, [], ◌∷◌, ◌++◌, length, take, drop, set, replicate, sym, refl, ap, ◌∙◌, inl, inr, arith, length-append, length-set, drop-set-lt}
use Rattle.std.specs.Prelude.{Option, Some, None}
use native.Mathlib.Decide.{dec_lt}
use Rattle.index.specs.Walk.{rot}
use Rattle.index.proofs.Table.{true≢false, not-true, length_rot, rot_back, rot_set, only, hits, past, gap_at, occupied, fold_slots, fold_list, place, occupied_rot, cond_append, only_yes, only_no, hits_drop, hits_rot, nothing_past}

-- ---- one slot changes from empty to occupied

module _ {E : Type 0} (e : E) where
  -- somewhere
  data Swap : List (Option E) → List (Option E) → Type 0 where
    here : {l : List (Option E)} → Swap (None ∷ l) (Some e ∷ l)
    there : {c : Option E} {l m : List (Option E)} → Swap l m → Swap (c ∷ l) (c ∷ m)

  -- the first empty one
  data Fill : List (Option E) → List (Option E) → Type 0 where
    at : {l : List (Option E)} → Fill (None ∷ l) (Some e ∷ l)
    on : {d : E} {l m : List (Option E)} → Fill l m → Fill (Some d ∷ l) (Some d ∷ m)

  fill_swap : {l m : List (Option E)} → Fill l m → Swap l m
  fill_swap at = here
  fill_swap (on r) = there (fill_swap r)

  fill_set : (l : List (Option E)) → gap_at l < length l → Fill l (set l (gap_at l) (Some e))
  fill_set [] h = absurd (omega arith)
  fill_set (None ∷ l) h = at
  fill_set (Some d ∷ l) h = on (fill_set l (omega arith))

  swap_left : {l m : List (Option E)} (x : List (Option E)) → Swap l m → Swap (l ++ x) (m ++ x)
  swap_left x here = here
  swap_left x (there r) = there (swap_left x r)

  swap_right : {l m : List (Option E)} (x : List (Option E)) → Swap l m → Swap (x ++ l) (x ++ m)
  swap_right [] r = r
  swap_right (c ∷ x) r = there (swap_right x r)

  -- it stands in the front or in the rest
  abbrev Cut : ℕ → List (Option E) → List (Option E) → Type 0
  Cut n l m = (Swap (take n l) (take n m) × (drop n l ≡ drop n m)) ⊎ ((take n l ≡ take n m) × Swap (drop n l) (drop n m))

  swap_cut : (n : ℕ) {l m : List (Option E)} → Swap l m → Cut n l m
  swap_cut zero r = inr (refl, r)
  swap_cut (suc n) here = inl (here, refl)
  swap_cut (suc n) (there {c = c} {l} {m} r) =
      elim (swap_cut n r) as (λ _. Cut (suc n) (c ∷ l) (c ∷ m)) [
        | inl p ↦ inl (there p.0, p.1)
        | inr p ↦ inr (ap (λ (x : List (Option E)). c ∷ x) p.0, p.1)
      ]

  swap_rot : (a : ℕ) {l m : List (Option E)} → Swap l m → Swap (rot a l) (rot a m)
  swap_rot a {l} {m} r =
      elim (swap_cut a r) as (λ _. Swap (rot a l) (rot a m)) [
        | inl p ↦ rw p.1 (swap_right (drop a m) p.0)
        | inr p ↦ rw p.0 (swap_left (take a m) p.1)
      ]

  occupied_fill : {l m : List (Option E)} → Fill l m → occupied m ≡ suc (occupied l)
  occupied_fill at = refl
  occupied_fill (on r) = ap suc (occupied_fill r)

-- what does not depend on the order
module _ {E : Type 0} (f : E → ℕ → ℕ) (comm : (a b : E) (n : ℕ) → f a (f b n) ≡ f b (f a n)) (z : ℕ) (e : E) where
  swap_fold : {l m : List (Option E)} → Swap e l m → fold_slots f z m ≡ f e (fold_slots f z l)
  swap_fold here = refl
  swap_fold (there {c = None} r) = swap_fold r
  swap_fold (there {c = Some d} {l} r) = ap (f d) (swap_fold r) ∙ comm d e (fold_slots f z l)

  snoc_fold : (l : List E) → fold_list f z (l ++ (e ∷ [])) ≡ f e (fold_list f z l)
  snoc_fold [] = refl
  snoc_fold (d ∷ l) = ap (f d) (snoc_fold l) ∙ comm d e (fold_list f z l)

module _ {E : Type 0} (has : E → Bool) (e : E) where
  -- an entry that fails the test
  module _ (h : has e ≡ false) where
    swap_hits : {l m : List (Option E)} → Swap e l m → hits has m ≡ hits has l
    swap_hits (here {l}) = rw h
    swap_hits (there {c = None} r) = swap_hits r
    swap_hits (there {c = Some d} r) = rw (swap_hits r)

    swap_past : {l m : List (Option E)} → Swap e l m → hits has (past l) ≡ [] → hits has (past m) ≡ []
    swap_past (here {l}) p = nothing_past has l p
    swap_past (there {c = None} r) p = swap_hits r ∙ p
    swap_past (there {c = Some d} r) p = swap_past r p

    swap_drop : (n : ℕ) {l m : List (Option E)} → Swap e l m → hits has (drop n m) ≡ hits has (drop n l)
    swap_drop n {l} {m} r = elim (swap_cut e n r) as (λ _. hits has (drop n m) ≡ hits has (drop n l)) [ inl p ↦ rw p.1 | inr p ↦ swap_hits p.1 ]

  -- one that passes it
  fill_hits : {l m : List (Option E)} → has e ≡ true → Fill e l m → hits has (past l) ≡ [] → hits has m ≡ hits has l ++ (e ∷ [])
  fill_hits h (at {l}) p = rw (h, p)
  fill_hits h (on {d} {l} {m} r) p = rw (fill_hits h r p, cond_append has (has d) d (hits has l) (e ∷ []))

  fill_past : {l m : List (Option E)} → Fill e l m → hits has (past l) ≡ [] → hits has (past m) ≡ []
  fill_past (at {l}) p = nothing_past has l p
  fill_past (on r) p = fill_past r p

-- ---- the invariant

-- K: the keys. `has k e`: the entry e has the key k. `home k`: the slot where the walk of k starts. `span`: how many slots a lookup visits unasked.
module _ {E K : Type 0} (has : K → E → Bool) (home : K → ℕ) (span : ℕ) where
  pub record Placed (may : K → Bool) (t : List (Option E)) (r : List E) : Type 0 where
    pub whole : (k : K) → hits (has k) (rot (home k) t) ≡ only (has k) r
    pub front : (k : K) → hits (has k) (past (rot (home k) t)) ≡ []
    pub beyond : (k : K) → may k ≡ false → hits (has k) (drop span (rot (home k) t)) ≡ []
    pub count : occupied t ≡ length r
    pub folds : (f : E → ℕ → ℕ) → ((a b : E) (n : ℕ) → f a (f b n) ≡ f b (f a n)) → (z : ℕ) → fold_slots f z t ≡ fold_list f z r

  pub placed_none : (may : K → Bool) (n : ℕ) → Placed may (replicate n None) []
  placed_none may n =
      record {
        whole = λ k. blank k;
        front = λ k. nothing_past (has k) (rot (home k) (replicate n None)) (blank k);
        beyond = λ k _. hits_drop (has k) span (rot (home k) (replicate n None)) (blank k);
        count = none_occupied n;
        folds = λ f c z. none_folded f z n;
      }
    where
      none_occupied : (m : ℕ) → occupied {E = E} (replicate m None) ≡ 0
      none_occupied zero = refl
      none_occupied (suc m) = none_occupied m

      none_folded : (f : E → ℕ → ℕ) (z m : ℕ) → fold_slots f z (replicate m None) ≡ z
      none_folded f z zero = refl
      none_folded f z (suc m) = none_folded f z m

      no_hits : (f : E → Bool) (m : ℕ) → hits f (replicate m None) ≡ []
      no_hits f zero = refl
      no_hits f (suc m) = no_hits f m

      blank : (k : K) → hits (has k) (rot (home k) (replicate n None)) ≡ []
      blank k = hits_rot (has k) (home k) (replicate n None) (no_hits (has k) n)

  -- A push. The entry's walk starts at slot a, and a mark is set if it ends up past the span.
  module _ (may may' : K → Bool) (t : List (Option E)) (r : List E) (e : E) (a : ℕ) (p : Placed may t r) (ha : a ≤ length t)
      (room : gap_at (rot a t) < length t) (homes : (k : K) → has k e ≡ true → home k ≡ a) (grows : (k : K) → may k ≡ true → may' k ≡ true)
      (asks : (k : K) → has k e ≡ true → span ≤ gap_at (rot a t) → may' k ≡ true) where
    pub placed_push : Placed may' (place t a e) (r ++ (e ∷ []))
    placed_push =
        record {
          whole = λ k. whole' k (has k e) refl;
          front = λ k. front' k (has k e) refl;
          beyond = λ k m. beyond' k m (has k e) refl;
          count = count';
          folds = λ f c z. swap_fold f c z e swap ∙ ap (f e) (p.folds f c z) ∙ sym (snoc_fold f c z e r);
        }
      where
        q : ℕ
        q = gap_at (rot a t)

        fits : q < length (rot a t)
        fits = rw length_rot room

        own : rot a (place t a e) ≡ set (rot a t) q (Some e)
        own = rot_set t a q ha (omega (arith, fits, length_rot a t)) (Some e)

        fill : Fill e (rot a t) (rot a (place t a e))
        fill = rw own (fill_set e (rot a t) fits)

        swap : Swap e t (place t a e)
        swap =
            let n : ℕ = length t in
            rw (rot_back a n t refl, rot_back a n (place t a e) (length-set t _ (Some e))) at (swap_rot e (n - a) (fill_swap e fill))

        count' : occupied (place t a e) ≡ length (r ++ (e ∷ []))
        count' = omega (arith, p.count, occupied_fill e fill, occupied_rot a t, occupied_rot a (place t a e), length-append r (e ∷ []))

        whole' : (k : K) (b : Bool) → has k e ≡ b → hits (has k) (rot (home k) (place t a e)) ≡ only (has k) (r ++ (e ∷ []))
        whole' k true h =
            let w : hits (has k) (rot a t) ≡ only (has k) r = rw (homes k h) at (p.whole k) in
            rw (homes k h) (fill_hits (has k) e h fill (rw (homes k h) at (p.front k)) ∙ rw w (sym (only_yes (has k) e r h)))
        whole' k false h = swap_hits (has k) e h (swap_rot e (home k) swap) ∙ p.whole k ∙ sym (only_no (has k) e r h)

        front' : (k : K) (b : Bool) → has k e ≡ b → hits (has k) (past (rot (home k) (place t a e))) ≡ []
        front' k true h = rw (homes k h) (fill_past (has k) e fill (rw (homes k h) at (p.front k)))
        front' k false h = swap_past (has k) e h (swap_rot e (home k) swap) (p.front k)

        was : (k : K) → may' k ≡ false → may k ≡ false
        was k m = not-true (may k) (λ y. true≢false (sym (grows k y) ∙ m))

        beyond' : (k : K) → may' k ≡ false → (b : Bool) → has k e ≡ b → hits (has k) (drop span (rot (home k) (place t a e))) ≡ []
        beyond' k m true h =
            let near : q < span = elim (dec_lt q span) as (λ _. q < span) [ yes y ↦ y | no y ↦ absurd (true≢false (sym (asks k h (omega arith)) ∙ m)) ] in
            rw (homes k h, own, drop-set-lt span (rot a t) q (Some e)) (rw (homes k h) at (p.beyond k (was k m)))
        beyond' k m false h = swap_drop (has k) e h span (swap_rot e (home k) swap) ∙ p.beyond k (was k m)
