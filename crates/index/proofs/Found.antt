-- What a lookup makes of the slots of its walk is the first entry of its key in them: in both layouts, with the filter and the early stop. Assumes nothing.
use Rattle.std.proofs.Common.{◌≡◌, ℕ, suc, ◌+◌, ◌*◌, ◌<◌, ◌≤◌, Bool, true, false, cond, not, eqb, List, [], ◌∷◌, ◌++◌, length, drop, sym, refl, ap, ◌∙◌, arith, eqb-true}
use Rattle.std.specs.Prelude.{Some, None, Option, option_map, slice_get}
use mathlib.Core.List.{flatten, Forall₂}
use lib.Seq.{drop-append-add}
use Rattle.records.specs.Record.{Stored, contents}
use Rattle.index.specs.Find.{ends_at, Look, empty, other, match, scan, sweep, has_empty, ended, in_bucket, followed, found}
use Rattle.index.specs.declared.find.FindStep.{FindStep}
use Rattle.index.specs.declared.find.FindStep.TheVariants.{Hit, Stop, Next}
use Rattle.index.specs.declared.find.FoundRecord.{FoundRecord}
use Rattle.index.proofs.Entries.{keyed}
use Rattle.index.proofs.Flat.{bucket_at, bucket_eight, walked, Below, no_more, one_more}
use Rattle.index.proofs.Table.{true≢false, nil_right, hits, past, hits_append, past_after}

-- key, value and deadline of the record that a lookup answers
abbrev pub found_stored : List ℕ → Option FoundRecord → Option Stored
found_stored arena (Some x) = contents arena (Some x.entry)
found_stored arena None = None

followed_ended : (gap : Bool) (s : FindStep) (after : Option FoundRecord) → followed (ended gap s) after ≡ followed s (cond gap None after)
followed_ended gap (Hit x) after = refl
followed_ended gap Stop after = refl
followed_ended true Next after = refl
followed_ended false Next after = refl

-- ---- what the slots say, and the entries in them

module _ {E : Type 0} (stored : E → Stored) (arena k : List ℕ) where
  -- a slot says of its entry whether it has the key; no slot is broken
  pub data Sees : Look → Option E → Type 0 where
    sees_empty : Sees empty None
    sees_other : {e : E} → keyed stored k e ≡ false → Sees other (Some e)
    sees_match : {x : FoundRecord} {e : E} → keyed stored k e ≡ true → contents arena (Some x.entry) ≡ Some (stored e) → Sees (match x) (Some e)

  abbrev pub has : E → Bool
  has = keyed stored k

  -- an answer is the first entry of the key in the slots d
  abbrev pub IsFirst : Option FoundRecord → List (Option E) → Type 0
  IsFirst a d = found_stored arena a ≡ option_map stored (slice_get (hits has d) 0)

  match_first : (x : FoundRecord) (e : E) (d : List (Option E)) → has e ≡ true → contents arena (Some x.entry) ≡ Some (stored e) → IsFirst (Some x) (Some e ∷ d)
  match_first x e d h v = rw h v

  scan_first : {l : List Look} {m : List (Option E)} (d : List (Option E)) (after : Option FoundRecord) → Forall₂ Sees l m → hits has (past (m ++ d)) ≡ []
      → IsFirst after d → IsFirst (followed (scan l) after) (m ++ d)
  unfolding scan
  scan_first d after Forall₂.nil g s = s
  scan_first d after (Forall₂.cons sees_empty r) g s = rw g
  scan_first d after (Forall₂.cons (sees_other h) r) g s = rw h (scan_first d after r g s)
  scan_first d after (Forall₂.cons {l₂ = m} (sees_match {x = x} {e} h v) r) g s = match_first x e (m ++ d) h v

  sweep_first : {l : List Look} {m : List (Option E)} (d : List (Option E)) (after : Option FoundRecord) → Forall₂ Sees l m → IsFirst after d → IsFirst (followed (sweep l) after) (m ++ d)
  unfolding sweep
  sweep_first d after Forall₂.nil s = s
  sweep_first d after (Forall₂.cons sees_empty r) s = sweep_first d after r s
  sweep_first d after (Forall₂.cons (sees_other h) r) s = rw h (sweep_first d after r s)
  sweep_first d after (Forall₂.cons {l₂ = m} (sees_match {x = x} {e} h v) r) s = match_first x e (m ++ d) h v

  -- past a bucket with an empty slot there is no entry of the key
  gap_ends : {l : List Look} {m : List (Option E)} (d : List (Option E)) → Forall₂ Sees l m → has_empty l ≡ true → hits has (past (m ++ d)) ≡ [] → hits has d ≡ []
  unfolding has_empty
  gap_ends d Forall₂.nil t g = absurd (true≢false (sym t))
  gap_ends d (Forall₂.cons {l₂ = m} sees_empty r) t g = nil_right (hits has m) (hits has d) (sym (hits_append has m d) ∙ g)
  gap_ends d (Forall₂.cons (sees_other h) r) t g = gap_ends d r t g
  gap_ends d (Forall₂.cons (sees_match h v) r) t g = gap_ends d r t g

  bucket_first : (packed : Bool) {l : List Look} {m : List (Option E)} (d : List (Option E)) (after : Option FoundRecord) → Forall₂ Sees l m
      → hits has (past (m ++ d)) ≡ [] → IsFirst after d → IsFirst (followed (in_bucket packed l) after) (m ++ d)
  bucket_first false d after r g s = scan_first d after r g s
  bucket_first true {l} {m} d after r g s = rw (followed_ended (has_empty l) (sweep l) after) (sweep_first d (cond (has_empty l) None after) r (go (has_empty l) refl))
    where
      go : (b : Bool) → has_empty l ≡ b → IsFirst (cond b None after) d
      go true t = rw (gap_ends d r t g)
      go false t = s

  -- ---- the walk

  -- past the sixteenth slot of a walk there is nothing that the filter denies; d are its slots from the i-th bucket on
  abbrev pub Denied : Bool → ℕ → List (Option E) → Type 0
  Denied may i d = (j : ℕ) → 16 ≤ 8 * i + j → may ≡ false → hits has (drop j d) ≡ []

  denied_next : (may : Bool) (i : ℕ) (m d : List (Option E)) → length m ≡ 8 → Denied may i (m ++ d) → Denied may (suc i) d
  denied_next may i m d e f j l q =
      let c : length m + j ≡ 8 + j = omega arith in
      ap (hits has) (sym (drop-append-add m d j) ∙ ap (λ (n : ℕ). drop n (m ++ d)) c) ∙ f (8 + j) (omega arith) q

  asked_first : (may : Bool) (i : ℕ) (d : List (Option E)) (rest : Option FoundRecord) → Denied may (suc i) d → IsFirst rest d → IsFirst (cond (ends_at i may) None rest) d
  asked_first may i d rest f s = go (eqb i 1) refl may refl
    where
      go : (x : Bool) → eqb i 1 ≡ x → (y : Bool) → may ≡ y → IsFirst (cond (cond x (not y) false) None rest) d
      go false p y q = s
      go true p true q = s
      go true p false q = rw (f 0 (omega (arith, eqb-true i 1 p)) q)

  module _ (packed may : Bool) (looks : ℕ → List Look) (t : List (Option E)) (buckets : ℕ) (size : length t ≡ 8 * buckets)
      (sees : (b : ℕ) → b < buckets → Forall₂ Sees (looks b) (bucket_at t b)) where
    pub walk_first : (i : ℕ) {bs : List ℕ} → Below buckets bs → hits has (past (walked t bs)) ≡ [] → Denied may i (walked t bs) → IsFirst (found packed may looks i bs) (walked t bs)
    unfolding found flatten
    walk_first i no_more g f = refl
    walk_first i (one_more {b = b} {l = bs} h r) g f =
        let m : List (Option E) = bucket_at t b in
        let d : List (Option E) = walked t bs in
        let f' : Denied may (suc i) d = denied_next may i m d (bucket_eight t b (omega arith)) f in
        let s : IsFirst (found packed may looks (suc i) bs) d = walk_first (suc i) r (past_after has m d g) f' in
        bucket_first packed d (cond (ends_at i may) None (found packed may looks (suc i) bs)) (sees b h) g
        (asked_first may i d (found packed may looks (suc i) bs) f' s)
