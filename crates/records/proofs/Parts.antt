-- Laws of the parts of a stored record: its size, the deadline's bytes, and what is read at a position by what its two prefixes say.
-- Assumes nothing.
use mathlib.Core.Path.{◌≡◌, refl, sym, ap, ◌∙◌}
use mathlib.Core.Bool.{Bool, true, false, cond}
use mathlib.Core.List.{List}
use Prim.Native.Nat.{ℕ, ◌+◌, ◌-◌, ◌^◌, ◌≤◌, ◌<◌}
use native.Mathlib.Omega.{arith}
use borrow.Author.Tests.{le-leb, lt-leb, lt-ltb, le-ltb, ltb-false}
use lib.Dec.{ltb}
use lib.ListN.{length, get_or, length-append}
use Rattle.hash_parts.specs.Outcome.{accepted, Outcome, outcome_of, refused}
use Rattle.hash_parts.specs.Setting.{bytes_per_record}
use Rattle.hash_parts.specs.declared.error.SegmentCacheBuildError.{SegmentCacheBuildError}
use Rattle.hash_parts.specs.declared.error.SegmentCacheBuildError.TheVariants.{CapacityOverflow}
use Rattle.hash_parts.proofs.Refusals.{refusal_pos}
use Rattle.hash_parts.specs.declared.setting.SegmentExpiry.{SegmentExpiry}
use Rattle.hash_parts.specs.declared.setting.SegmentExpiry.TheVariants as setting
use Rattle.records.specs.Record.{deadline_bytes, record_bytes, record_size, encoded_size, deadline_in, record_of, after_value, after_key, record_at}
use Rattle.records.specs.Uleb128.{uleb128}
use Rattle.records.specs.Varint.{read_varint}
use Rattle.std.specs.Prelude.{Option, Some, None, Ok, Err, SomeIff, ok_or}
use Rattle.records.proofs.Prefix.{read_one}

-- ---- the deadline's bytes

pub deadline_length : (e : SegmentExpiry) (d : ℕ) → length (deadline_bytes e d) ≡ bytes_per_record e
deadline_length setting.None d = refl
deadline_length (setting.Relative16 tick) d = refl

-- ---- sizes

pub size_is : (e : SegmentExpiry) (key value : List ℕ) (d : ℕ) → length (record_bytes e key value d) ≡ record_size e (length key) (length value)
unfolding record_bytes record_size
size_is e key value d = simp (length-append, deadline_length) (omega arith)

-- the size as the code adds it up
pub size_in_law : (e : SegmentExpiry) (k v a b w : ℕ) → a ≡ length (uleb128 k) → b ≡ length (uleb128 v) → w ≡ bytes_per_record e → a + b + w + k + v < 2 ^ 64
    → accepted (a + b + w + k + v) ≡ encoded_size e k v
unfolding encoded_size record_size
size_in_law e k v a b w x y z h = rw (← x, ← y, ← z, lt-ltb (a + b + w + k + v) (2 ^ 64) h)

pub size_out : (e : SegmentExpiry) (k v a b w : ℕ) → a ≡ length (uleb128 k) → b ≡ length (uleb128 v) → w ≡ bytes_per_record e → 2 ^ 64 ≤ a + b + w + k + v
    → refused CapacityOverflow ≡ encoded_size e k v
unfolding encoded_size record_size
size_out e k v a b w x y z h = rw (← x, ← y, ← z, le-ltb (a + b + w + k + v) (2 ^ 64) h)

-- a sum that may overflow, with a refusal where it does
pub sum_refused : (sum : Option ℕ) (P : Type 0) (v : ℕ) (e x : SegmentCacheBuildError) → SomeIff sum P v → ok_or sum e ≡ Err x → (¬ P) × (e ≡ x)
sum_refused None P v e x n q = let same : e ≡ x = cc in (n, same)
sum_refused (Some m) P v e x p q = cc

pub sum_accepted : (sum : Option ℕ) (P : Type 0) (v n : ℕ) (e : SegmentCacheBuildError) → SomeIff sum P v → ok_or sum e ≡ Ok n → P × (n ≡ v)
sum_accepted None P v n e p q = cc
sum_accepted (Some m) P v n e p q = let same : m ≡ n = cc in (p.0, sym same ∙ p.1)

-- the whole size, where all but the value is known to fit
pub size_answer : (e : SegmentExpiry) (k v a b w at : ℕ) (sum : Option ℕ) → a ≡ length (uleb128 k) → b ≡ length (uleb128 v) → w ≡ bytes_per_record e
    → at ≡ a + b + w + k → SomeIff sum (at + v < 2 ^ 64) (at + v) → outcome_of (ok_or sum CapacityOverflow) ≡ encoded_size e k v
size_answer e k v a b w at None x y z f n = size_out e k v a b w x y z (omega (arith, n))
size_answer e k v a b w at (Some s) x y z f p =
    let g : s ≡ a + b + w + k + v = omega (arith, p.1) in
    ap accepted g ∙ size_in_law e k v a b w x y z (omega (arith, p.0))

-- an accepted size is the record's, and a refused one does not fit 64 bits
pub size_accepted : (e : SegmentExpiry) (k v n : ℕ) → accepted n ≡ encoded_size e k v → n ≡ record_size e k v
unfolding encoded_size
size_accepted e k v n f = go (ltb (record_size e k v) (2 ^ 64)) f
  where
    go : (t : Bool) → accepted n ≡ cond t (accepted (record_size e k v)) (refused CapacityOverflow) → n ≡ record_size e k v
    go true q = ap (λ (o : Outcome). o.value) q
    go false q = absurd (let z : ◌≡◌ {A = ℕ} 0 3 = ap (λ (o : Outcome). o.number) q in omega arith)

pub size_refused : (e : SegmentExpiry) (k v : ℕ) (x : SegmentCacheBuildError) → refused x ≡ encoded_size e k v → 2 ^ 64 ≤ record_size e k v
unfolding encoded_size
size_refused e k v x f = go (ltb (record_size e k v) (2 ^ 64)) refl f
  where
    go : (t : Bool) → ltb (record_size e k v) (2 ^ 64) ≡ t → refused x ≡ cond t (accepted (record_size e k v)) (refused CapacityOverflow) → 2 ^ 64 ≤ record_size e k v
    go true l q = absurd (omega (arith, refusal_pos x, ap (λ (o : Outcome). o.number) q))
    go false l q = ltb-false (record_size e k v) (2 ^ 64) l

-- ---- the record at a position whose prefixes were read

pub of_out : (e : SegmentExpiry) (s : List ℕ) (at key value q w : ℕ) → w ≡ bytes_per_record e → length s < q + w + key + value → None ≡ record_of e s at key value q
unfolding record_of
of_out e s at key value q w x h = rw (← x, lt-leb (q + w + key + value) (length s) h)

pub of_in : (e : SegmentExpiry) (s : List ℕ) (at key value q w d : ℕ) → w ≡ bytes_per_record e → d ≡ deadline_in e s q → q + w + key + value ≤ length s
    → Some record {
      location = at;
      key_offset = q + w - at;
      key = record { at = q + w; len = key };
      value = record { at = q + w + key; len = value };
      end = q + w + key + value;
      expires_at = d;
    }
    ≡ record_of e s at key value q
unfolding record_of
of_in e s at key value q w d x y h = rw (← x, ← y, le-leb (q + w + key + value) (length s) h) refl

-- ---- the record at a position, by what its prefixes read

module _ (e : SegmentExpiry) (s : List ℕ) (at : ℕ) where
  pub no_key : read_varint s at ≡ None → record_at e s at ≡ None
  unfolding record_at
  no_key f = ap (after_key e s at) f

  module _ (key p : ℕ) (f : read_varint s at ≡ Some (key, p)) where
    pub no_value : read_varint s p ≡ None → record_at e s at ≡ None
    unfolding record_at
    no_value g = ap (after_key e s at) f ∙ ap (after_value e s at key) g

    pub at_is : (value q : ℕ) → read_varint s p ≡ Some (value, q) → record_at e s at ≡ record_of e s at key value q
    unfolding record_at
    at_is value q g = ap (after_key e s at) f ∙ ap (after_value e s at key) g

  -- prefixes of one byte each
  pub at_short : at + 2 ≤ length s → get_or s at 0 < 128 → get_or s (at + 1) 0 < 128 → record_at e s at ≡ record_of e s at (get_or s at 0) (get_or s (at + 1) 0) (at + 2)
  at_short h k v =
      let n : at + 1 + 1 ≡ at + 2 = omega arith in
      at_is (get_or s at 0) (at + 1) (read_one s at (omega arith) k) (get_or s (at + 1) 0) (at + 1 + 1) (read_one s (at + 1) (omega arith) v)
      ∙ ap (record_of e s at (get_or s at 0) (get_or s (at + 1) 0)) n
