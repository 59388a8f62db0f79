-- The search for a push's slot as one search over the slots of the walk, and what the slots say of the entries in them. Assumes nothing.
use Rattle.std.proofs.Common.{◌≡◌, ℕ, zero, suc, ◌+◌, ◌*◌, ◌<◌, ◌≤◌, Bool, true, false, cond, eqb, List, [], ◌∷◌, ◌++◌, map, length, get_or, take, drop, sym, refl, ap, ◌∙◌, ap₂, add-zero, arith, le-leb}
use Rattle.std.specs.Prelude.{Some, None, Ok, Err, Option}
use Rattle.hash_parts.specs.declared.error.SegmentCacheBuildError.TheVariants.{CapacityOverflow, DuplicateKey}
use mathlib.Core.List.{flatten, Forall₂}
use mathlib.Mathlib.Data.List.Forall2.{Forall₂-map_left_iff}
use Rattle.hash_parts.specs.Hash.{tag_of, first_bucket}
use Rattle.records.specs.Record.{Stored}
use Rattle.index.specs.Build.{PushLook, vacant, same, passed, push_look, looks, searched, searched_all, slot_for, SlotAnswer}
use Rattle.index.specs.Slot.{word_slot}
use Rattle.index.specs.Walk.{rot, bucket_walk}
use Rattle.index.specs.Word.{word_tag, word_stored}
use Rattle.index.proofs.Contents.{word_slots}
use Rattle.index.proofs.Entries.{Cell, cell_empty, cell_used, Indexed}
use Rattle.index.proofs.Flat.{bucket_at, walk_slots}
use Rattle.index.proofs.Pairs.{pairs_rot}
use Rattle.index.proofs.Table.{hits, past, gap_at}

-- ---- the search as one over the slots of the walk

searched_append : (l m : List PushLook) (after : SlotAnswer) → searched (l ++ m) after ≡ searched l (searched m after)
unfolding searched
searched_append [] m after = refl
searched_append (vacant i ∷ l) m after = refl
searched_append (same ∷ l) m after = refl
searched_append (passed ∷ l) m after = searched_append l m after

searched_flat : (f g : ℕ → List PushLook) → ((b : ℕ) → f b ≡ g b) → (bs : List ℕ) → searched_all f bs ≡ searched (flatten (map g bs)) (Err CapacityOverflow)
unfolding searched_all searched flatten
searched_flat f g e [] = refl
searched_flat f g e (b ∷ bs) = ap₂ searched (e b) (searched_flat f g e bs) ∙ sym (searched_append (g b) (flatten (map g bs)) (Err CapacityOverflow))

module _ (taken : ℕ → Bool) where
  looks_take : (n i : ℕ) (l : List ℕ) → take n (looks taken i l) ≡ looks taken i (take n l)
  unfolding looks
  looks_take zero i l = refl
  looks_take (suc n) i [] = refl
  looks_take (suc n) i (w ∷ l) = ap (λ (r : List PushLook). push_look taken i w ∷ r) (looks_take n (suc i) l)

  looks_drop : (n i : ℕ) (l : List ℕ) → drop n (looks taken i l) ≡ looks taken (i + n) (drop n l)
  unfolding looks
  looks_drop zero i l = rw (add-zero i)
  looks_drop (suc n) i [] = refl
  looks_drop (suc n) i (w ∷ l) =
      let e : suc i + n ≡ i + suc n = omega arith in
      looks_drop n (suc i) l ∙ ap (λ (j : ℕ). looks taken j (drop n l)) e

  pub length_looks : (i : ℕ) (l : List ℕ) → length (looks taken i l) ≡ length l
  unfolding looks
  length_looks i [] = refl
  length_looks i (w ∷ l) = ap suc (length_looks (suc i) l)

  get_d_looks : (i : ℕ) (l : List ℕ) (p : ℕ) → p < length l → get_or (looks taken i l) p passed ≡ push_look taken (i + p) (get_or l p 0)
  unfolding looks
  get_d_looks i [] p h = absurd (omega arith)
  get_d_looks i (w ∷ l) zero h = rw (add-zero i)
  get_d_looks i (w ∷ l) (suc p) h =
      let e : suc i + p ≡ i + suc p = omega arith in
      get_d_looks (suc i) l p (omega arith) ∙ ap (λ (j : ℕ). push_look taken j (get_or l p 0)) e

  -- a slot is vacant only under its own number
  pub vacant_own : (l : List ℕ) (p s : ℕ) → p < length l → get_or (looks taken 0 l) p passed ≡ vacant s → s ≡ p
  vacant_own l p s h e =
      let z : 0 + p ≡ p = omega arith in
      go (eqb (get_or l p 0) 0) (taken (get_or l p 0)) (sym (get_d_looks 0 l p h ∙ ap (λ (j : ℕ). push_look taken j (get_or l p 0)) z) ∙ e)
    where
      go : (x y : Bool) → cond x (vacant p) (cond y same passed) ≡ vacant s → s ≡ p
      go true y q = cc
      go false true q = cc
      go false false q = cc

  pub slot_search : (index : List ℕ) (buckets h : ℕ) → 8 * buckets ≤ length index
      → slot_for taken index buckets h ≡ searched (rot (8 * first_bucket h buckets) (looks taken 0 (take (8 * buckets) index))) (Err CapacityOverflow)
  unfolding slot_for
  slot_search index buckets h long =
      simp (le-leb _ _ long)
      (searched_flat _ (bucket_at (looks taken 0 index)) bucket (bucket_walk h buckets)
      ∙ ap (λ (l : List PushLook). searched l (Err CapacityOverflow))
      (walk_slots (looks taken 0 index) buckets (first_bucket h buckets) (omega (arith, length_looks 0 index))
      ∙ ap (rot (8 * first_bucket h buckets)) (looks_take (8 * buckets) 0 index)))
    where
      bucket : (b : ℕ) → looks taken (8 * b) (take 8 (drop (8 * b) index)) ≡ bucket_at (looks taken 0 index) b
      bucket b =
          let z : 0 + 8 * b ≡ 8 * b = omega arith in
          sym (ap (take 8) (looks_drop (8 * b) 0 index ∙ ap (λ (j : ℕ). looks taken j (drop (8 * b) index)) z) ∙ looks_take 8 (8 * b) (drop (8 * b) index))

-- ---- what the slots say to a push, and the entries in them

-- `Tells b e`: what is known of an entry where its word is taken by the key, or not
module _ {E : Type 0} (Tells : Bool → E → Type 0) where
  pub data Says : PushLook → Option E → Type 0 where
    says_vacant : {i : ℕ} → Says (vacant i) None
    says_same : {e : E} → Tells true e → Says same (Some e)
    says_passed : {e : E} → Tells false e → Says passed (Some e)

  -- the answer Empty names the first empty slot
  pub empty_gap : {l : List PushLook} {m : List (Option E)} {s : ℕ} → Forall₂ Says l m → searched l (Err CapacityOverflow) ≡ Ok s
      → (gap_at m < length m) × (get_or l (gap_at m) passed ≡ vacant s)
  unfolding searched
  empty_gap Forall₂.nil e = absurd (let z : ◌≡◌ {A = ℕ} 0 1 = cc in omega arith)
  empty_gap {s = s} (Forall₂.cons (says_vacant {i = i}) r) e = (omega arith, let q : i ≡ s = cc in rw q)
  empty_gap (Forall₂.cons (says_same t) r) e = absurd (let z : ◌≡◌ {A = ℕ} 0 1 = cc in omega arith)
  empty_gap (Forall₂.cons (says_passed t) r) e = let q = empty_gap r e in (omega arith, q.1)

  -- where there is an empty slot the answer is never Full
  pub never_full : {l : List PushLook} {m : List (Option E)} → Forall₂ Says l m → gap_at m < length m → searched l (Err CapacityOverflow) ≡ (Err CapacityOverflow) → ⊥
  unfolding searched
  never_full Forall₂.nil h e = omega arith
  never_full (Forall₂.cons says_vacant r) h e = let z : ◌≡◌ {A = ℕ} 0 1 = cc in omega arith
  never_full (Forall₂.cons (says_same t) r) h e = let z : ◌≡◌ {A = ℕ} 0 1 = cc in omega arith
  never_full (Forall₂.cons (says_passed t) r) h e = never_full r (omega arith) e

  -- the answer Duplicate comes from a word that is taken
  pub duplicate_taken : {l : List PushLook} {m : List (Option E)} → Forall₂ Says l m → searched l (Err CapacityOverflow) ≡ (Err DuplicateKey) → (e : E) × Tells true e
  unfolding searched
  duplicate_taken Forall₂.nil e = absurd (let z : ◌≡◌ {A = ℕ} 0 1 = cc in omega arith)
  duplicate_taken (Forall₂.cons says_vacant r) e = absurd (let z : ◌≡◌ {A = ℕ} 0 1 = cc in omega arith)
  duplicate_taken (Forall₂.cons (says_same {e = d} t) r) e = (d, t)
  duplicate_taken (Forall₂.cons (says_passed t) r) e = duplicate_taken r e

-- where the words taken are those of the entries that pass a test
module _ {E : Type 0} (has : E → Bool) where
  abbrev pub Passes : Bool → E → Type 0
  Passes b e = has e ≡ b

  pub empty_hits : {l : List PushLook} {m : List (Option E)} {s : ℕ} → Forall₂ (Says Passes) l m → searched l (Err CapacityOverflow) ≡ Ok s → hits has (past m) ≡ [] → hits has m ≡ []
  unfolding searched
  empty_hits Forall₂.nil e p = refl
  empty_hits (Forall₂.cons says_vacant r) e p = p
  empty_hits (Forall₂.cons (says_same t) r) e p = absurd (let z : ◌≡◌ {A = ℕ} 0 1 = cc in omega arith)
  empty_hits (Forall₂.cons (says_passed t) r) e p = rw t (empty_hits r e p)

  pub duplicate_hits : {l : List PushLook} {m : List (Option E)} → Forall₂ (Says Passes) l m → searched l (Err CapacityOverflow) ≡ (Err DuplicateKey) → hits has m ≡ [] → ⊥
  unfolding searched
  duplicate_hits Forall₂.nil e p = let z : ◌≡◌ {A = ℕ} 0 1 = cc in omega arith
  duplicate_hits (Forall₂.cons says_vacant r) e p = let z : ◌≡◌ {A = ℕ} 0 1 = cc in omega arith
  duplicate_hits (Forall₂.cons (says_same t) r) e p = let z : ◌≡◌ {A = ℕ} 0 1 = cc in omega arith
  duplicate_hits (Forall₂.cons (says_passed t) r) e p = duplicate_hits r e (rw t at p)

module _ {E : Type 0} {stored : E → Stored} {H : List ℕ → ℕ} {Holds : ℕ → E → Type 0} (taken : ℕ → Bool) (Tells : Bool → E → Type 0)
    (tells : (w : ℕ) (e : E) → word_tag w ≡ tag_of (H (stored e).key) → Holds (word_stored w) e → Tells (taken w) e) where
  look_says : (i w : ℕ) {c : Option E} → Cell stored H false Holds (word_slot w) c → Says Tells (push_look taken i w) c
  unfolding word_slot
  look_says i w x = go (eqb w 0) x
    where
      used : {t l : ℕ} {c : Option E} → t ≡ word_tag w → l ≡ word_stored w → Cell stored H false Holds (Some (t, l)) c → Says Tells (cond (taken w) same passed) c
      used p q (cell_used {e = e} r y) = at (taken w) (tells w e (sym p ∙ r) (rw q at y))
        where
          at : (b : Bool) → Tells b e → Says Tells (cond b same passed) (Some e)
          at true v = says_same v
          at false v = says_passed v

      go : (b : Bool) {c : Option E} → Cell stored H false Holds (cond b None (Some (word_tag w, word_stored w))) c
          → Says Tells (cond b (vacant i) (cond (taken w) same passed)) c
      go true cell_empty = says_vacant
      go false y = used refl refl y

  looks_say : (i : ℕ) {ws : List ℕ} {m : List (Option E)} → Forall₂ (λ (w : ℕ) (c : Option E). Cell stored H false Holds (word_slot w) c) ws m
      → Forall₂ (Says Tells) (looks taken i ws) m
  unfolding looks
  looks_say i Forall₂.nil = Forall₂.nil
  looks_say i (Forall₂.cons {a = w} x r) = Forall₂.cons (look_says i w x) (looks_say (suc i) r)

  -- the slots of the walk from slot a
  pub walk_says : (buckets : ℕ) (index : List ℕ) {filter : List ℕ} {words : ℕ} {r : List E} (x : Indexed stored H false Holds buckets (word_slots buckets index) filter words r) (a : ℕ)
      → Forall₂ (Says Tells) (rot a (looks taken 0 (take (8 * buckets) index))) (rot a x.table)
  walk_says buckets index x a = pairs_rot a (looks_say 0 ((Forall₂-map_left_iff word_slot).0 x.cells))
