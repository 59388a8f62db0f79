-- A lookup in a finished index finds the first entry of its key, and nothing where there is None. Assumes nothing.
use Rattle.std.proofs.Common.{◌≡◌, ℕ, zero, suc, ◌+◌, ◌-◌, ◌*◌, ◌%◌, ◌^◌, ◌<◌, ◌≤◌, Bool, true, false, cond, eqb, List, [], ◌∷◌, length, take, drop, sym, refl, ap, ◌∙◌, arith, length-take, take_all, drop-drop, le-leb}
use Rattle.std.specs.Prelude.{Option, Some, None, option_map, slice_get}
use mathlib.Core.List.{Forall₂}
use borrow.Author.Tests.{eqb-false}
use Rattle.hash_parts.specs.Hash.{tag_of, first_bucket}
use Rattle.hash_parts.proofs.Products.{first_bucket_below}
use Rattle.records.specs.Area.{spanned, part}
use Rattle.records.specs.Record.{Stored, contents}
use Rattle.records.specs.declared.record.RecordRef.{RecordRef}
use Rattle.records.proofs.Area.{same_true, spanned_in}
use Rattle.records.proofs.Stored.{record_inside}
use Rattle.index.specs.Filter.{filter_has}
use Rattle.index.specs.Find.{other, match, seen, look, looks_from, slots_of, find_in}
use Rattle.index.specs.Slot.{kept_tag, IndexSlot}
use Rattle.index.specs.View.{record_in}
use Rattle.index.specs.Walk.{rot, bucket_walk}
use Rattle.index.specs.declared.find.FoundRecord.{FoundRecord}
use Rattle.index.specs.declared.view.SegmentView.{SegmentView}
use Rattle.index.proofs.Contents.{stored_in}
use Rattle.index.proofs.Entries.{keyed, Cell, cell_empty, cell_used, Indexed}
use Rattle.index.proofs.Flat.{bucket_at, walked, walk_slots, index_slots, index_bucket, walk_below}
use Rattle.index.proofs.Found.{found_stored, Sees, sees_empty, sees_other, sees_match, Denied, walk_first}
use Rattle.index.proofs.Pairs.{pairs_take, pairs_drop}
use Rattle.index.proofs.Table.{not-true, only, hits, past, hits_drop}
use Rattle.index.proofs.Views.{read_in}

-- ---- what is read under a stored location

module _ (view : SegmentView) (arena starts lengths : List ℕ) where
  -- the key of a record that is read lies in the arena
  span_inside : (l : ℕ) (x : RecordRef) → record_in view arena starts lengths l ≡ Some x → x.key.at + x.key.len ≤ length arena
  unfolding record_in
  span_inside zero x f = absurd (let z : ◌≡◌ {A = ℕ} 0 1 = cc in omega arith)
  span_inside (suc location) x f =
      let w = read_in view arena starts lengths location x f in
      let i = record_inside view.expiry (part w.start w.len (take view.filled arena)) (location % 2 ^ 32) w.r w.read in
      let b : length (take view.filled arena) ≤ length arena = rw length-take (omega arith) in
      rw (← w.is) (omega (arith, w.inside, w.short))

  -- what a location holds is read there, with its key
  reads : (l : ℕ) (v : Stored) → stored_in view arena starts lengths l ≡ Some v
      → (x : RecordRef) × (record_in view arena starts lengths l ≡ Some x) × (contents arena (Some x) ≡ Some v) × (spanned arena x.key ≡ v.key)
  unfolding stored_in
  reads l v f = go (record_in view arena starts lengths l) refl f
    where
      go : (a : Option RecordRef) → record_in view arena starts lengths l ≡ a → contents arena a ≡ Some v
          → (x : RecordRef) × (record_in view arena starts lengths l ≡ Some x) × (contents arena (Some x) ≡ Some v) × (spanned arena x.key ≡ v.key)
      go None g e = absurd (let z : ◌≡◌ {A = ℕ} 0 1 = cc in omega arith)
      go (Some x) g e =
          let i : x.key.at + x.key.len ≤ length arena = span_inside l x g in
          let n : x.key.at + x.key.len - x.key.at ≡ x.key.len = omega arith in
          let s : Stored = record { key = part x.key.at x.key.len arena; value = part x.value.at x.value.len arena; deadline = x.expires_at } in
          let same : s ≡ v = cc in
          (x, g, e, sym (spanned_in arena x.key i) ∙ ap (λ (m : ℕ). take m (drop x.key.at arena)) n ∙ ap (λ (y : Stored). y.key) same)

-- ---- looks

module _ {E : Type 0} (stored : E → Stored) (H : List ℕ → ℕ) (packed : Bool) (Holds : ℕ → E → Type 0) (read : ℕ → Option RecordRef) (arena k : List ℕ)
    (held : (l : ℕ) (e : E) → Holds l e → (x : RecordRef) × (read l ≡ Some x) × (contents arena (Some x) ≡ Some (stored e)) × (spanned arena x.key ≡ (stored e).key))
    (h : ℕ) (hash : h ≡ H k) where
  look_sees : (i : ℕ) {s : IndexSlot} {c : Option E} → Cell stored H packed Holds s c → Sees stored arena k (look read arena k (kept_tag packed (tag_of h)) i s) c
  look_sees i cell_empty = sees_empty
  look_sees i (cell_used {t} {l} {e} p y) = go (eqb t (kept_tag packed (tag_of h))) refl
    where
      x : RecordRef
      x = (held l e y).0

      in_tag : (b : Bool) → keyed stored k e ≡ b → Sees stored arena k (cond b (match (record { slot = i; entry = x })) other) (Some e)
      in_tag true q = sees_match q (held l e y).2
      in_tag false q = sees_other q

      go : (b : Bool) → eqb t (kept_tag packed (tag_of h)) ≡ b → Sees stored arena k (cond b (seen arena k i (read l)) other) (Some e)
      go true q = rw ((held l e y).1, (held l e y).3) (in_tag (keyed stored k e) refl)
      go false q =
          sees_other
          (not-true _ (λ z. eqb-false _ _ q (p ∙ ap (λ (j : List ℕ). kept_tag packed (tag_of (H j))) (same_true (stored e).key k z) ∙ ap (λ (j : ℕ). kept_tag packed (tag_of j)) (sym hash))))

  looks_see : (i : ℕ) {s : List IndexSlot} {c : List (Option E)} → Forall₂ (Cell stored H packed Holds) s c
      → Forall₂ (Sees stored arena k) (looks_from read arena k (kept_tag packed (tag_of h)) i s) c
  unfolding looks_from
  looks_see i Forall₂.nil = Forall₂.nil
  looks_see i (Forall₂.cons x r) = Forall₂.cons (look_sees i x) (looks_see (suc i) r)

-- ---- a lookup

-- H gives each key's hash; what stands at a stored location is what a lookup reads there
module _ {E : Type 0} {stored : E → Stored} {H : List ℕ → ℕ} {packed : Bool} {Holds : ℕ → E → Type 0} {filter : List ℕ} {words : ℕ} {r : List E}
    (view : SegmentView) (index : List ℕ) (buckets : ℕ) (starts lengths arena : List ℕ) (x : Indexed stored H packed Holds buckets (index_slots packed buckets index) filter words r)
    (long : 8 * buckets ≤ length index) (held : (l : ℕ) (e : E) → Holds l e → stored_in view arena starts lengths l ≡ Some (stored e))
    (k : List ℕ) (h : ℕ) (hash : h ≡ H k) (bound : h < 2 ^ 64) where
  -- the answer has key, value and deadline of the first entry of the key
  pub find_first : found_stored arena (find_in view packed index buckets filter words starts lengths arena k h) ≡ option_map stored (slice_get (only (keyed stored k) r) 0)
  unfolding find_in
  find_first =
      simp (le-leb _ _ long)
      (walk_first stored arena k packed (filter_has filter words h) _ t buckets x.size sees 0 (walk_below buckets (first_bucket h buckets) (first_bucket_below h buckets bound))
      (ap (λ (l : List (Option E)). hits (keyed stored k) (past l)) walk ∙ x.placed.front k) denied
      ∙ ap (λ (l : List (Option E)). option_map stored (slice_get (hits (keyed stored k) l) 0)) walk
      ∙ ap (λ (l : List E). option_map stored (slice_get l 0)) (x.placed.whole k))
    where
      t : List (Option E)
      t = x.table

      home : ℕ
      home = 8 * first_bucket (H k) buckets

      walk : walked t (bucket_walk h buckets) ≡ rot home t
      walk =
          walk_slots t buckets (first_bucket h buckets) (omega (arith, x.size))
          ∙ ap (rot (8 * first_bucket h buckets)) (take_all (8 * buckets) t (omega (arith, x.size)))
          ∙ ap (λ (j : ℕ). rot (8 * first_bucket j buckets) t) hash

      sees : (b : ℕ) → b < buckets
          → Forall₂ (Sees stored arena k) (looks_from (record_in view arena starts lengths) arena k (kept_tag packed (tag_of h)) (8 * b) (slots_of packed buckets index b)) (bucket_at t b)
      sees b l =
          looks_see stored H packed Holds (record_in view arena starts lengths) arena k (λ m e y. reads view arena starts lengths m (stored e) (held m e y)) h hash (8 * b)
          (rw (index_bucket packed buckets index b l) at (pairs_take 8 (pairs_drop (8 * b) x.cells)))

      denied : Denied stored arena k (filter_has filter words h) 0 (walked t (bucket_walk h buckets))
      denied j l e =
          let s : 16 + (j - 16) ≡ j = omega arith in
          ap (λ (m : List (Option E)). hits (keyed stored k) (drop j m)) walk
          ∙ ap (λ (n : ℕ). hits (keyed stored k) (drop n (rot home t))) (sym s)
          ∙ ap (hits (keyed stored k)) (sym (drop-drop (j - 16) 16 (rot home t)))
          ∙ hits_drop (keyed stored k) (j - 16) (drop 16 (rot home t)) (x.placed.beyond k (ap (filter_has filter words) (sym hash) ∙ e))

  -- nothing, where no entry has the key
  pub find_nothing : only (keyed stored k) r ≡ [] → find_in view packed index buckets filter words starts lengths arena k h ≡ None
  find_nothing none_has = go _ (find_first ∙ ap (λ (l : List E). option_map stored (slice_get l 0)) none_has)
    where
      go : (a : Option FoundRecord) → found_stored arena a ≡ None → a ≡ None
      go None f = refl
      go (Some y) f = cc

  -- else a record of the first that has it
  pub find_found : {e : E} {l : List E} → only (keyed stored k) r ≡ e ∷ l
      → (y : FoundRecord) × (find_in view packed index buckets filter words starts lengths arena k h ≡ Some y) × (contents arena (Some y.entry) ≡ Some (stored e))
  find_found {e} {l} first = go _ refl (find_first ∙ ap (λ (m : List E). option_map stored (slice_get m 0)) first)
    where
      answer : Option FoundRecord
      answer = find_in view packed index buckets filter words starts lengths arena k h

      go : (a : Option FoundRecord) → answer ≡ a → found_stored arena a ≡ Some (stored e)
          → (y : FoundRecord) × (answer ≡ Some y) × (contents arena (Some y.entry) ≡ Some (stored e))
      go None g f = absurd (let z : ◌≡◌ {A = ℕ} 0 1 = cc in omega arith)
      go (Some y) g f = (y, g, f)
