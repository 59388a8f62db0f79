-- A table of slots, each empty or with an entry, seen by walks that start at any slot and go around. Assumes nothing.
use Rattle.std.proofs.Common.{◌≡◌, ℕ, suc, ◌+◌, ◌-◌, ◌<◌, ◌≤◌, Bool, true, false, cond, T, ltb, List, [], ◌∷◌, ◌++◌, length, get_or, take, drop, set, sym, refl, ap, ◌∙◌, subst, append-nil, suc-add, zero-add, arith, length-append, length-drop, take-append-drop, length-take, get_or-drop, get_or-take, take_at, get_or-append-add, drop-set-lt, drop_at, ltb-false, ltb-true}
use Rattle.std.specs.Prelude.{Option, Some, None}
use lib.ListN.{get_or-append}
use lib.Seq.{set-append_left, take-set-le, drop-set-add, take-set-lt}
use Rattle.index.specs.Walk.{rot}

-- ---- tests

pub true≢false : ¬ (true ≡ false)
true≢false e = subst T e tt

pub not-true : (b : Bool) → ¬ (b ≡ true) → b ≡ false
not-true true h = absurd (h refl)
not-true false h = refl

-- ---- the slot at position s of the walk from slot a, of n

abbrev pub slot_of : ℕ → ℕ → ℕ → ℕ
slot_of n a s = cond (ltb (a + s) n) (a + s) (a + s - n)

pub slot_below : (n a q : ℕ) → a ≤ n → q < n → slot_of n a q < n
slot_below n a q ha hq = go (ltb (a + q) n) refl
  where
    go : (b : Bool) → ltb (a + q) n ≡ b → cond b (a + q) (a + q - n) < n
    go true e = ltb-true _ _ e
    go false e = omega (arith, ltb-false (a + q) n e)

module _ {A : Type 0} where
  set_append_right : (xs ys : List A) (i : ℕ) (a : A) → set (xs ++ ys) (length xs + i) a ≡ xs ++ set ys i a
  set_append_right [] ys i a = rw zero-add
  set_append_right (x ∷ xs) ys i a = rw (suc-add, set_append_right xs ys i a)

  nil_left : (l m : List A) → l ++ m ≡ [] → l ≡ []
  nil_left [] m e = refl
  nil_left (x ∷ l) m e = cc

  pub nil_right : (l m : List A) → l ++ m ≡ [] → m ≡ []
  nil_right [] m e = e
  nil_right (x ∷ l) m e = cc

  pub length_rot : (a : ℕ) (l : List A) → length (rot a l) ≡ length l
  length_rot a l = length-append (drop a l) (take a l) ∙ simp (length-drop, length-take) (omega arith)

  pub rot_back : (a n : ℕ) (l : List A) → length l ≡ n → rot (n - a) (rot a l) ≡ l
  rot_back a n l h =
      let d : length (drop a l) ≡ n - a = rw h at (length-drop a l) in
      rw (drop_at (drop a l) (take a l) (n - a) d, take_at (drop a l) (take a l) (n - a) d) (take-append-drop a l)

  module _ (l : List A) (a q : ℕ) (ha : a ≤ length l) (hq : q < length l) where
    -- to set a slot is to set its position on the walk
    pub rot_set : (c : A) → rot a (set l (slot_of (length l) a q) c) ≡ set (rot a l) q c
    rot_set c = go (ltb (a + q) (length l)) refl
      where
        len : length (drop a l) ≡ length l - a
        len = length-drop a l

        go : (b : Bool) → ltb (a + q) (length l) ≡ b → rot a (set l (cond b (a + q) (a + q - length l)) c) ≡ set (rot a l) q c
        go true e =
            let h : a + q < length l = ltb-true _ _ e in
            rw (drop-set-add a l q c, take-set-le a l (a + q) c (omega arith), set-append_left (drop a l) (take a l) q c (omega (arith, len)))
        go false e =
            let h : length l ≤ a + q = ltb-false _ _ e in
            let p : ℕ = a + q - length l in
            let s : q ≡ length (drop a l) + p = omega (arith, len) in
            rw (drop-set-lt a l p c (omega arith), take-set-lt a l p c (omega arith))
            (sym (ap (λ (i : ℕ). set (rot a l) i c) s ∙ set_append_right (drop a l) (take a l) p c))

    pub get_d_rot : (d : A) → get_or (rot a l) q d ≡ get_or l (slot_of (length l) a q) d
    get_d_rot d = go (ltb (a + q) (length l)) refl
      where
        len : length (drop a l) ≡ length l - a
        len = length-drop a l

        go : (b : Bool) → ltb (a + q) (length l) ≡ b → get_or (rot a l) q d ≡ get_or l (cond b (a + q) (a + q - length l)) d
        go true e =
            let h : a + q < length l = ltb-true _ _ e in
            get_or-append (drop a l) (take a l) d q (omega (arith, len)) ∙ get_or-drop a l q d
        go false e =
            let h : length l ≤ a + q = ltb-false _ _ e in
            let p : ℕ = a + q - length l in
            let i : q ≡ length (drop a l) + p = omega (arith, len) in
            ap (λ (j : ℕ). get_or (rot a l) j d) i ∙ get_or-append-add (drop a l) (take a l) p d ∙ get_or-take a l p d (omega arith)

module _ {E : Type 0} where
  -- the entries that pass the test, in order: of a list, and of the slots
  abbrev pub only : (E → Bool) → List E → List E
  only has [] = []
  only has (e ∷ l) = cond (has e) (e ∷ only has l) (only has l)

  abbrev pub hits : (E → Bool) → List (Option E) → List E
  hits has [] = []
  hits has (None ∷ l) = hits has l
  hits has (Some e ∷ l) = cond (has e) (e ∷ hits has l) (hits has l)

  -- what stands past the first empty slot
  abbrev pub past : List (Option E) → List (Option E)
  past [] = []
  past (None ∷ l) = l
  past (Some e ∷ l) = past l

  -- the position of the first empty slot; the length where there is None
  abbrev pub gap_at : List (Option E) → ℕ
  gap_at [] = 0
  gap_at (None ∷ l) = 0
  gap_at (Some e ∷ l) = suc (gap_at l)

  -- how many slots are occupied
  abbrev pub occupied : List (Option E) → ℕ
  occupied [] = 0
  occupied (None ∷ l) = occupied l
  occupied (Some e ∷ l) = suc (occupied l)

  -- a number made from the entries, one after the other: of the slots, and of a list
  abbrev pub fold_slots : (E → ℕ → ℕ) → ℕ → List (Option E) → ℕ
  fold_slots f z [] = z
  fold_slots f z (None ∷ l) = fold_slots f z l
  fold_slots f z (Some e ∷ l) = f e (fold_slots f z l)

  abbrev pub fold_list : (E → ℕ → ℕ) → ℕ → List E → ℕ
  fold_list f z [] = z
  fold_list f z (e ∷ l) = f e (fold_list f z l)

  -- the table with e in the first empty slot of the walk from slot a
  abbrev pub place : List (Option E) → ℕ → E → List (Option E)
  place t a e = set t (slot_of (length t) a (gap_at (rot a t))) (Some e)

  occupied_append : (l m : List (Option E)) → occupied (l ++ m) ≡ occupied l + occupied m
  occupied_append [] m = omega arith
  occupied_append (None ∷ l) m = occupied_append l m
  occupied_append (Some e ∷ l) m = omega (arith, occupied_append l m)

  pub occupied_rot : (a : ℕ) (l : List (Option E)) → occupied (rot a l) ≡ occupied l
  occupied_rot a l =
      omega (arith, occupied_append (drop a l) (take a l), occupied_append (take a l) (drop a l), ap (λ (x : List (Option E)). occupied x) (take-append-drop a l))

  gap_lt : (l : List (Option E)) → occupied l < length l → gap_at l < length l
  gap_lt [] h = h
  gap_lt (None ∷ l) h = omega arith
  gap_lt (Some e ∷ l) h = omega (arith, gap_lt l (omega arith))

  -- in a table that is not full every walk meets an empty slot
  pub walk_gap : (a : ℕ) (l : List (Option E)) → occupied l < length l → gap_at (rot a l) < length l
  walk_gap a l h = rw length_rot at (gap_lt (rot a l) (rw (occupied_rot, length_rot) h))

-- ---- what a test finds

module _ {E : Type 0} (has : E → Bool) where
  pub cond_append : (b : Bool) (e : E) (x m : List E) → cond b (e ∷ x) x ++ m ≡ cond b (e ∷ (x ++ m)) (x ++ m)
  cond_append true e x m = refl
  cond_append false e x m = refl

  pub hits_append : (l m : List (Option E)) → hits has (l ++ m) ≡ hits has l ++ hits has m
  hits_append [] m = refl
  hits_append (None ∷ l) m = hits_append l m
  hits_append (Some e ∷ l) m = rw (hits_append l m, cond_append (has e) e (hits has l) (hits has m))

  only_append : (l m : List E) → only has (l ++ m) ≡ only has l ++ only has m
  only_append [] m = refl
  only_append (d ∷ l) m = rw (only_append l m, cond_append (has d) d (only has l) (only has m))

  pub only_yes : (e : E) (l : List E) → has e ≡ true → only has (l ++ (e ∷ [])) ≡ only has l ++ (e ∷ [])
  only_yes e l h = only_append l (e ∷ []) ∙ rw h

  pub only_no : (e : E) (l : List E) → has e ≡ false → only has (l ++ (e ∷ [])) ≡ only has l
  only_no e l h = only_append l (e ∷ []) ∙ rw h (append-nil (only has l))

  -- what is found passes the test
  pub only_has : (r : List E) {e : E} {l : List E} → only has r ≡ e ∷ l → has e ≡ true
  only_has [] h = cc
  only_has (d ∷ r) {e = e} {l = l} h = go (has d) refl h (λ q. only_has r q)
    where
      go : (b : Bool) → has d ≡ b → cond b (d ∷ only has r) (only has r) ≡ e ∷ l → (only has r ≡ e ∷ l → has e ≡ true) → has e ≡ true
      go true y q f =
          let same : d ≡ e = cc in
          rw same at y
      go false y q f = f q

  pub hits_drop : (a : ℕ) (l : List (Option E)) → hits has l ≡ [] → hits has (drop a l) ≡ []
  hits_drop a l h = nil_right (hits has (take a l)) (hits has (drop a l)) (sym (hits_append (take a l) (drop a l)) ∙ rw (take-append-drop a l) h)

  hits_take : (a : ℕ) (l : List (Option E)) → hits has l ≡ [] → hits has (take a l) ≡ []
  hits_take a l h = nil_left (hits has (take a l)) (hits has (drop a l)) (sym (hits_append (take a l) (drop a l)) ∙ rw (take-append-drop a l) h)

  pub hits_rot : (a : ℕ) (l : List (Option E)) → hits has l ≡ [] → hits has (rot a l) ≡ []
  hits_rot a l h = hits_append (drop a l) (take a l) ∙ rw (hits_drop a l h, hits_take a l h)

  pub nothing_past : (l : List (Option E)) → hits has l ≡ [] → hits has (past l) ≡ []
  nothing_past [] h = refl
  nothing_past (None ∷ l) h = h
  nothing_past (Some e ∷ l) h = nothing_past l (nil_right (hits has (Some e ∷ [])) (hits has l) (sym (hits_append (Some e ∷ []) l) ∙ h))

  pub past_after : (l m : List (Option E)) → hits has (past (l ++ m)) ≡ [] → hits has (past m) ≡ []
  past_after [] m h = h
  past_after (None ∷ l) m h = nothing_past m (nil_right (hits has l) (hits has m) (sym (hits_append l m) ∙ h))
  past_after (Some e ∷ l) m h = past_after l m h
