-- The candidates of a bucket, visited from the lowest mark up: packed, the slots whose control byte has the tag; words, those from the first that
-- is empty or has the tag on. Assumes nothing.
use Rattle.std.proofs.Common.{add-one, ◌≡◌, ℕ, zero, suc, ◌+◌, ◌*◌, ◌/◌, ◌%◌, ◌^◌, ◌<◌, ◌≤◌, Bool, true, false, cond, eqb, ltb, List, [], ◌∷◌, map, length, get_or, take, drop, sym, refl, ap, ◌∙◌, subst, ap₂, add-zero, div-add-mod', mul-suc, arith, lit<, shr_lt, le-ltb, lt-ltb, eq-eqb, ne_eqb, eqb-true}
use Rattle.std.specs.Prelude.{Some, None, Option}
use Rattle.records.specs.declared.record.RecordRef.{RecordRef}
use lib.Bits.{bit_and, bit_xor, and_comm, and_block, and_mask, and_le_r, xor_block, xor_lt, xor_add_and, xor_self}
use borrow.Author.Tests.{eqb-false}
use native.Mathlib.Decide.{ℕ_discrete, dec_lt}
use Rattle.hash_parts.specs.ZeroBytes.{bytes_of, is_zero, marks, zero_bytes, zero_marks, number_of}
use Rattle.hash_parts.proofs.Visit.{visited}
use Rattle.hash_parts.proofs.ZeroBytes.{lo}
use Rattle.records.specs.Area.{same_bytes, spanned}
use Rattle.index.specs.Find.{Look, empty, other, broken, match, seen, look, looks_from, scan, sweep, has_empty}
use Rattle.index.specs.FindSteps.{step_of, has_tag, tagged, passed_over, from_on}
use Rattle.index.specs.Packed.{packed_slot, packed_slots_of}
use Rattle.index.specs.Slot.{word_slot, IndexSlot}
use Rattle.index.specs.Word.{word_tag, word_stored}
use Rattle.index.specs.declared.find.FindStep.{FindStep}
use Rattle.index.specs.declared.find.FindStep.TheVariants.{Next}
use Rattle.index.proofs.Bytes.{below_eight}
use Rattle.index.proofs.Finds.{and_then, scan_cons}

-- ---- which control bytes have the tag

-- a byte repeated k times
abbrev repeated : ℕ → ℕ → ℕ
repeated zero t = 0
repeated (suc k) t = repeated k t * 256 + t

xor_zero : (a b : ℕ) → bit_xor a b ≡ 0 → a ≡ b
xor_zero a b e =
    let l : bit_and a b ≤ a = rw (and_comm a b) (and_le_r b a) in
    omega (arith, xor_add_and a b, and_le_r a b)

byte_zero : (c t : ℕ) → is_zero (bit_xor (bit_and c 127) t) ≡ has_tag t c
byte_zero c t = rw (and_mask c 7) (go (ℕ_discrete (c % 128) t))
  where
    go : Dec (c % 128 ≡ t) → eqb (bit_xor (c % 128) t) 0 ≡ eqb (c % 128) t
    go (yes p) = eq-eqb _ _ (ap (λ (x : ℕ). bit_xor x t) p ∙ xor_self t) ∙ sym (eq-eqb _ _ p)
    go (no n) = ne_eqb _ _ (λ e. n (xor_zero (c % 128) t e)) ∙ sym (ne_eqb _ _ n)

tag_bytes : (k c t : ℕ) → c < 2 ^ (8 * k) → t < 128 → map is_zero (bytes_of k (bit_xor (bit_and c (lo k)) (repeated k t))) ≡ map (has_tag t) (bytes_of k c)
unfolding bytes_of
tag_bytes zero c t h ht = refl
tag_bytes (suc k) c t h ht =
    let a : ℕ = c / 256 in
    let r : ℕ = c % 256 in
    let hr : r < 256 = omega arith in
    let x : ℕ = bit_xor (bit_and a (lo k)) (repeated k t) in
    let y : ℕ = bit_xor (bit_and r 127) t in
    let hm : bit_and r 127 < 256 = omega (arith, and_le_r r 127) in
    let hy : y < 256 = xor_lt 8 (bit_and r 127) t hm (omega arith) in
    let ha : a < 2 ^ (8 * k) = shr_lt (8 * k) 8 (subst (λ (z : ℕ). c < 2 ^ z) (mul-suc 8 k) h) in
    let split : bit_xor (bit_and c (lo k * 256 + 127)) (repeated k t * 256 + t) ≡ x * 256 + y =
    ap (λ (z : ℕ). bit_xor (bit_and z (lo k * 256 + 127)) (repeated k t * 256 + t)) (sym (div-add-mod' c 256))
    ∙ ap (λ (z : ℕ). bit_xor z (repeated k t * 256 + t)) (and_block 8 a (lo k) r 127 hr (lit< tt))
    ∙ xor_block 8 (bit_and a (lo k)) (repeated k t) (bit_and r 127) t hm (omega arith) in
    let low : (x * 256 + y) % 256 ≡ y = omega arith in
    let high : (x * 256 + y) / 256 ≡ x = omega arith in
    rw (split, low, high) (ap₂ ◌∷◌ (byte_zero r t) (tag_bytes k a t ha ht))

-- the candidates by the word test
pub tagged_are : (c t : ℕ) → c < 2 ^ 64 → t < 128 → zero_marks (bit_xor (bit_and c (lo 8)) (t * 0x0101010101010101)) ≡ marks (tagged t c)
unfolding zero_marks zero_bytes
tagged_are c t h ht =
    let e : t * 0x0101010101010101 ≡ repeated 8 t = omega arith in
    ap (λ (x : ℕ). zero_marks (bit_xor (bit_and c (lo 8)) x)) e ∙ ap marks (tag_bytes 8 c t h ht)

-- ---- a used slot never says that it is empty

module _ (read : ℕ → Option RecordRef) (arena key : List ℕ) (tag i : ℕ) where
  seen_used : (a : Option RecordRef) → seen arena key i a ≡ empty → ⊥
  seen_used None q = let z : ◌≡◌ {A = ℕ} 0 1 = cc in omega arith
  seen_used (Some r) q = go (same_bytes (spanned arena r.key) key) q
    where
      go : (x : Bool) → cond x (match (record { slot = i; entry = r })) other ≡ empty → ⊥
      go true q = let z : ◌≡◌ {A = ℕ} 0 1 = cc in omega arith
      go false q = let z : ◌≡◌ {A = ℕ} 0 1 = cc in omega arith

  used_look : (t stored : ℕ) → look read arena key tag i (Some (t, stored)) ≡ empty → ⊥
  used_look t stored q = go (eqb t tag) q
    where
      go : (x : Bool) → cond x (seen arena key i (read stored)) other ≡ empty → ⊥
      go true q = seen_used (read stored) q
      go false q = let z : ◌≡◌ {A = ℕ} 0 1 = cc in omega arith

-- ---- a sweep visits the candidates

sweep_used : (l : Look) (ls : List Look) → (l ≡ empty → ⊥) → sweep (l ∷ ls) ≡ and_then (step_of l) (sweep ls)
unfolding sweep
sweep_used empty ls n = absurd (n refl)
sweep_used other ls n = refl
sweep_used broken ls n = refl
sweep_used (match r) ls n = refl

module _ (read : ℕ → Option RecordRef) (arena key : List ℕ) (tag rest : ℕ) (pos : 0 < tag) (small : tag < 128) where
  abbrev kept : ℕ
  kept = tag + 128 * rest

  abbrev at : ℕ → IndexSlot → Look
  at i s = look read arena key kept i s

  -- a slot whose control byte has the tag is used
  used_slot : (i c : ℕ) (bytes : List ℕ) → has_tag tag c ≡ true → at i (packed_slot c bytes) ≡ empty → ⊥
  unfolding packed_slot
  used_slot i c bytes h e = go (eqb (c % 128) 0) refl e
    where
      go : (z : Bool) → eqb (c % 128) 0 ≡ z → at i (cond z None (Some (c % 128 + 128 * number_of (take 2 bytes), number_of (drop 2 bytes)))) ≡ empty → ⊥
      go true z q = omega (arith, eqb-true (c % 128) 0 z, eqb-true (c % 128) tag h)
      go false z q = used_look read arena key kept i _ _ q

  -- any other is passed over
  passed_slot : (i c : ℕ) (bytes : List ℕ) (ls : List Look) → has_tag tag c ≡ false → sweep (at i (packed_slot c bytes) ∷ ls) ≡ sweep ls
  unfolding packed_slot sweep
  passed_slot i c bytes ls h = go (eqb (c % 128) 0) refl
    where
      apart : c % 128 + 128 * number_of (take 2 bytes) ≡ kept → ⊥
      apart e = let m : c % 128 ≡ tag = omega arith in eqb-false (c % 128) tag h m

      go : (z : Bool) → eqb (c % 128) 0 ≡ z → sweep (at i (cond z None (Some (c % 128 + 128 * number_of (take 2 bytes), number_of (drop 2 bytes)))) ∷ ls) ≡ sweep ls
      go true z = refl
      go false z = rw (ne_eqb _ _ apart)

  -- g gives what slot j of the bucket says, counted from p
  pub sweep_visits : (cs bytes : List ℕ) (i p : ℕ) (g : ℕ → FindStep)
      → ((j : ℕ) → j < length cs → g (p + j) ≡ step_of (at (i + j) (get_or (packed_slots_of cs bytes) j None)))
      → sweep (looks_from read arena key kept i (packed_slots_of cs bytes)) ≡ visited (λ j after. and_then (g j) after) (map (has_tag tag) cs) p Next
  unfolding packed_slots_of looks_from visited sweep
  sweep_visits [] bytes i p g says = refl
  sweep_visits (c ∷ cs) bytes i p g says =
      go (has_tag tag c) refl
      (sweep_visits cs (drop 7 bytes) (suc i) (suc p) g
      (λ j h.
      let e : suc p + j ≡ p + suc j = omega arith in
      let f : suc i + j ≡ i + suc j = omega arith in
      rw (e, f) (says (suc j) (omega arith))))
    where
      first : g p ≡ step_of (at i (packed_slot c (take 7 bytes)))
      first = rw (add-zero p, add-zero i) at (says 0 (omega arith))

      go : (x : Bool) → has_tag tag c ≡ x
          → sweep (looks_from read arena key kept (suc i) (packed_slots_of cs (drop 7 bytes))) ≡ visited (λ j after. and_then (g j) after) (map (has_tag tag) cs) (suc p) Next
          → sweep (at i (packed_slot c (take 7 bytes)) ∷ looks_from read arena key kept (suc i) (packed_slots_of cs (drop 7 bytes)))
          ≡ visited (λ j after. and_then (g j) after) (x ∷ map (has_tag tag) cs) p Next
      go true h tail =
          sweep_used (at i (packed_slot c (take 7 bytes))) (looks_from read arena key kept (suc i) (packed_slots_of cs (drop 7 bytes))) (used_slot i c (take 7 bytes) h) ∙ ap₂ and_then (sym first) tail
      go false h tail = passed_slot i c (take 7 bytes) (looks_from read arena key kept (suc i) (packed_slots_of cs (drop 7 bytes))) h ∙ tail

-- ---- a scan visits the slots that it does not pass over

module _ (read : ℕ → Option RecordRef) (arena key : List ℕ) (tag : ℕ) (g : ℕ → FindStep) where
  -- g gives what slot j says, counted from p
  abbrev pub Says : List IndexSlot → ℕ → ℕ → Type 0
  Says l i p = (j : ℕ) → j < length l → g (p + j) ≡ step_of (look read arena key tag (i + j) (get_or l j None))

  says_first : (s : IndexSlot) (l : List IndexSlot) (i p : ℕ) → Says (s ∷ l) i p → g p ≡ step_of (look read arena key tag i s)
  says_first s l i p says = rw (add-zero p, add-zero i) at (says 0 (omega arith))

  says_rest : (s : IndexSlot) (l : List IndexSlot) (i p : ℕ) → Says (s ∷ l) i p → Says l (suc i) (suc p)
  says_rest s l i p says j h =
      let e : suc p + j ≡ p + suc j = omega arith in
      let f : suc i + j ≡ i + suc j = omega arith in
      rw (e, f) (says (suc j) (omega arith))

  scan_all : (l : List IndexSlot) (i p : ℕ) → Says l i p → scan (looks_from read arena key tag i l) ≡ visited (λ j after. and_then (g j) after) (from_on 0 (length l)) p Next
  unfolding looks_from visited from_on scan
  scan_all [] i p says = refl
  scan_all (s ∷ l) i p says =
      scan_cons (look read arena key tag i s) (looks_from read arena key tag (suc i) l)
      ∙ ap₂ and_then (sym (says_first s l i p says)) (scan_all l (suc i) (suc p) (says_rest s l i p says))

  pub scan_visits : (l : List IndexSlot) (i p : ℕ) → Says l i p
      → scan (looks_from read arena key tag i l) ≡ visited (λ j after. and_then (g j) after) (from_on (passed_over tag l) (length l)) p Next
  unfolding looks_from visited from_on passed_over scan
  scan_visits [] i p says = refl
  scan_visits (None ∷ l) i p says = scan_all (None ∷ l) i p says
  scan_visits (Some (t, stored) ∷ l) i p says = go (eqb t tag) refl (scan_visits l (suc i) (suc p) (says_rest (Some (t, stored)) l i p says))
    where
      ls : List Look
      ls = looks_from read arena key tag (suc i) l

      go : (x : Bool) → eqb t tag ≡ x → scan ls ≡ visited (λ j after. and_then (g j) after) (from_on (passed_over tag l) (length l)) (suc p) Next
          → scan (cond x (seen arena key i (read stored)) other ∷ ls)
          ≡ visited (λ j after. and_then (g j) after) (from_on (cond x 0 (suc (passed_over tag l))) (suc (length l))) p Next
      go true e rest = rw e at (scan_all (Some (t, stored) ∷ l) i p says)
      go false e rest = rest

-- ---- how many slots of a bucket of words are passed over

-- a word at which they end: an empty one, or one with the tag
abbrev pub ends : ℕ → ℕ → Bool
ends tag w = cond (eqb w 0) true (eqb (word_tag w) tag)

pub passed_none : (tag : ℕ) → passed_over tag (map word_slot []) ≡ 0
unfolding passed_over
passed_none tag = refl

module _ (tag w : ℕ) (ws : List ℕ) where
  pub passed_hit : ends tag w ≡ true → passed_over tag (map word_slot (w ∷ ws)) ≡ 0
  unfolding passed_over word_slot
  passed_hit e = go (eqb w 0) e
    where
      go : (x : Bool) → cond x true (eqb (word_tag w) tag) ≡ true → passed_over tag (cond x None (Some (word_tag w, word_stored w)) ∷ map word_slot ws) ≡ 0
      go true f = refl
      go false f = rw f

  pub passed_miss : ends tag w ≡ false → passed_over tag (map word_slot (w ∷ ws)) ≡ passed_over tag (map word_slot ws) + 1
  unfolding passed_over word_slot
  passed_miss e = go (eqb w 0) e
    where
      go : (x : Bool) → cond x true (eqb (word_tag w) tag) ≡ false
          → passed_over tag (cond x None (Some (word_tag w, word_stored w)) ∷ map word_slot ws) ≡ passed_over tag (map word_slot ws) + 1
      go true f = cc
      go false f = rw f (sym (add-one (passed_over tag (map word_slot ws))))

pub passed_most : (tag : ℕ) (ws : List ℕ) → passed_over tag (map word_slot ws) ≤ length ws
passed_most tag [] = omega (arith, passed_none tag)
passed_most tag (w ∷ ws) = go (ends tag w) refl (passed_most tag ws)
  where
    go : (b : Bool) → ends tag w ≡ b → passed_over tag (map word_slot ws) ≤ length ws → passed_over tag (map word_slot (w ∷ ws)) ≤ length (w ∷ ws)
    go true e h = omega (arith, passed_hit tag w ws e)
    go false e h = omega (arith, passed_miss tag w ws e)

pub from_length : (s n : ℕ) → length (from_on s n) ≡ n
unfolding from_on
from_length s zero = refl
from_length zero (suc n) = ap suc (from_length zero n)
from_length (suc s) (suc n) = ap suc (from_length s n)

-- the marks on the slots from one on
pub from_marks : (s : ℕ) → s < 8 → 0x8080808080808080 * 2 ^ (s * 8) % 2 ^ 64 ≡ marks (from_on s 8)
unfolding marks from_on
from_marks = below_eight (λ s. 0x8080808080808080 * 2 ^ (s * 8) % 2 ^ 64 ≡ marks (from_on s 8)) refl refl refl refl refl refl refl refl

pub no_marks : 0 ≡ marks (from_on 8 8)
unfolding marks from_on
no_marks = refl

-- ---- an empty slot

module _ (read : ℕ → Option RecordRef) (arena key : List ℕ) (tag : ℕ) where
  -- a bucket has an empty slot exactly where a control byte has the tag 0
  pub empty_marked : (cs bytes : List ℕ) (i : ℕ) → has_empty (looks_from read arena key tag i (packed_slots_of cs bytes)) ≡ ltb 0 (marks (map (has_tag 0) cs))
  unfolding packed_slots_of looks_from has_empty marks packed_slot
  empty_marked [] bytes i = refl
  empty_marked (c ∷ cs) bytes i = go (eqb (c % 128) 0) (empty_marked cs (drop 7 bytes) (suc i))
    where
      ls : List Look
      ls = looks_from read arena key tag (suc i) (packed_slots_of cs (drop 7 bytes))

      m : ℕ
      m = marks (map (has_tag 0) cs)

      used_on : (l : Look) → (l ≡ empty → ⊥) → has_empty (l ∷ ls) ≡ has_empty ls
      used_on empty n = absurd (n refl)
      used_on other n = refl
      used_on broken n = refl
      used_on (match r) n = refl

      positive : ltb 0 m ≡ ltb 0 (m * 256 + 0)
      positive = split (dec_lt 0 m)
        where
          split : Dec (0 < m) → ltb 0 m ≡ ltb 0 (m * 256 + 0)
          split (yes p) = lt-ltb 0 m p ∙ sym (lt-ltb 0 (m * 256 + 0) (omega arith))
          split (no n) = le-ltb 0 m (omega arith) ∙ sym (le-ltb 0 (m * 256 + 0) (omega arith))

      go : (x : Bool) → has_empty ls ≡ ltb 0 m → has_empty (look read arena key tag i
          (cond x None (Some (c % 128 + 128 * number_of (take 2 (take 7 bytes)), number_of (drop 2 (take 7 bytes))))) ∷ ls) ≡ ltb 0 (m * 256 + cond x 0x80 0)
      go true r = sym (lt-ltb 0 (m * 256 + 0x80) (omega arith))
      go false r = used_on _ (used_look read arena key tag i _ _) ∙ r ∙ positive
