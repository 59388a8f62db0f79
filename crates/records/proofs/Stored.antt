-- Laws of stored records: what was written is read back, whatever stands around it; a record that is read lies inside; and it is read in
-- every list that holds the list.
-- Assumes nothing.
use mathlib.Core.Path.{◌≡◌, refl, sym, ap, ap₂, ◌∙◌}
use mathlib.Core.Bool.{Bool, true, false, cond}
use mathlib.Core.List.{List, [], ◌∷◌, ◌++◌, append_assoc, append-nil}
use Prim.Native.Nat.{ℕ, ◌+◌, ◌*◌, ◌-◌, ◌/◌, ◌%◌, ◌^◌, ◌≤◌, ◌<◌}
use native.Mathlib.Nat.{add_assoc}
use native.Mathlib.Omega.{arith}
use borrow.Author.Tests.{leb-true}
use lib.Dec.{leb}
use lib.ListN.{length, get_or, drop, length-append, length-drop, get_or-append}
use lib.Seq.{take_at, drop_at, get_or_at, get_or-append-add, drop-append-add, drop-append-le, take-append-le}
use Rattle.hash_parts.specs.Setting.{bytes_per_record}
use Rattle.hash_parts.specs.declared.setting.SegmentExpiry.{SegmentExpiry}
use Rattle.hash_parts.specs.declared.setting.SegmentExpiry.TheVariants as setting
use Rattle.records.specs.Area.{part}
use Rattle.records.specs.Record.{deadline_bytes, record_bytes, record_size, deadline_in, ref_at, record_of, after_value, after_key, record_at, Stored, held, contents, stored_at}
use Rattle.records.specs.Uleb128.{uleb128}
use Rattle.records.specs.Varint.{read_varint}
use Rattle.std.specs.Prelude.{Option, Some, None}
use Rattle.records.specs.declared.record.RecordRef.{RecordRef}
use Rattle.records.proofs.Parts.{deadline_length, size_is, of_in, at_is}
use Rattle.records.proofs.Prefix.{read_written, read_inside, read_wider}

-- ---- what was written is read back

-- how many bytes stand before the key, by the lengths of key and value
abbrev pub header_bytes : SegmentExpiry → ℕ → ℕ → ℕ
header_bytes e key value = length (uleb128 key) + length (uleb128 value) + bytes_per_record e

-- the deadline that a record keeps
abbrev pub deadline_kept : SegmentExpiry → ℕ → ℕ
deadline_kept setting.None d = 65535
deadline_kept (setting.Relative16 tick) d = d

deadline_back : (e : SegmentExpiry) (p rest : List ℕ) (d q : ℕ) → length p ≡ q → deadline_kept e d ≡ deadline_in e (p ++ (deadline_bytes e d ++ rest)) q
deadline_back setting.None p rest d q h = refl
deadline_back (setting.Relative16 tick) p rest d q h =
    let a : ℕ = d % 256 in
    let b : ℕ = d / 256 in
    let n : length (p ++ (a ∷ [])) ≡ q + 1 = length-append p (a ∷ []) ∙ ap (λ (k : ℕ). k + 1) h in
    let low : get_or (p ++ (a ∷ b ∷ rest)) q 0 ≡ a = get_or_at p a (b ∷ rest) 0 q h in
    let high : get_or (p ++ (a ∷ b ∷ rest)) (q + 1) 0 ≡ b =
    ap (λ (l : List ℕ). get_or l (q + 1) 0) (sym (append_assoc p (a ∷ []) (b ∷ rest))) ∙ get_or_at (p ++ (a ∷ [])) b rest 0 (q + 1) n in
    omega (arith, low, high)

module _ (e : SegmentExpiry) (p key value rest : List ℕ) (d : ℕ) (key_fits : length key < 2 ^ 64) (value_fits : length value < 2 ^ 64) where
  abbrev arena : List ℕ
  arena = p ++ (record_bytes e key value d ++ rest)

  abbrev key_at : ℕ
  key_at = length p + header_bytes e (length key) (length value)

  -- what stands before the value's prefix, the deadline, the key and the value
  abbrev front₁ : List ℕ
  front₁ = p ++ uleb128 (length key)

  abbrev front₂ : List ℕ
  front₂ = front₁ ++ uleb128 (length value)

  abbrev front₃ : List ℕ
  front₃ = front₂ ++ deadline_bytes e d

  flat : arena ≡ p ++ (uleb128 (length key) ++ (uleb128 (length value) ++ (deadline_bytes e d ++ (key ++ (value ++ rest)))))
  unfolding record_bytes
  flat = simp append_assoc

  flat₁ : arena ≡ front₁ ++ (uleb128 (length value) ++ (deadline_bytes e d ++ (key ++ (value ++ rest))))
  flat₁ = flat ∙ simp append_assoc

  flat₂ : arena ≡ front₂ ++ (deadline_bytes e d ++ (key ++ (value ++ rest)))
  flat₂ = flat ∙ simp append_assoc

  flat₃ : arena ≡ front₃ ++ (key ++ (value ++ rest))
  flat₃ = flat ∙ simp append_assoc

  flat₄ : arena ≡ (front₃ ++ key) ++ (value ++ rest)
  flat₄ = flat ∙ simp append_assoc

  front_length : length front₃ ≡ key_at
  front_length = simp (length-append, deadline_length) (omega arith)

  -- the record as it is read
  abbrev pub ref_back : RecordRef
  ref_back =
      record {
        location = length p;
        key_offset = header_bytes e (length key) (length value);
        key = record { at = key_at; len = length key };
        value = record { at = key_at + length key; len = length value };
        end = key_at + length key + length value;
        expires_at = deadline_kept e d;
      }

  pub record_back : record_at e arena (length p) ≡ Some ref_back
  record_back =
      let a : ℕ = length p + length (uleb128 (length key)) in
      let q : ℕ = a + length (uleb128 (length value)) in
      let f : read_varint arena (length p) ≡ Some (length key, a) = rw flat (read_written p _ (length key) (length p) refl key_fits) in
      let g : read_varint arena a ≡ Some (length value, q) = rw flat₁ (read_written front₁ _ (length value) a (length-append p (uleb128 (length key))) value_fits) in
      let t : deadline_kept e d ≡ deadline_in e arena q = rw flat₂ (deadline_back e front₂ (key ++ (value ++ rest)) d q (simp length-append)) in
      let l : q + bytes_per_record e + length key + length value ≤ length arena = rw flat₄ (simp (length-append, deadline_length) (omega arith)) in
      let x : q + bytes_per_record e ≡ key_at = omega arith in
      let y : key_at - length p ≡ header_bytes e (length key) (length value) = omega arith in
      at_is e arena (length p) (length key) a f (length value) q g ∙ sym (of_in e arena (length p) (length key) (length value) q (bytes_per_record e) (deadline_kept e d) refl t l) ∙ rw (x, y)

  pub key_back : part key_at (length key) arena ≡ key
  key_back = rw (flat₃, drop_at front₃ (key ++ (value ++ rest)) key_at front_length) (take_at key (value ++ rest) (length key) refl)

  pub value_back : part (key_at + length key) (length value) arena ≡ value
  value_back =
      let n : length (front₃ ++ key) ≡ key_at + length key = length-append front₃ key ∙ ap (λ (k : ℕ). k + length key) front_length in
      rw (flat₄, drop_at (front₃ ++ key) (value ++ rest) (key_at + length key) n) (take_at value rest (length value) refl)

  -- its end is the byte behind what was written
  pub end_back : ref_back.end ≡ length p + length (record_bytes e key value d)
  unfolding record_size
  end_back = omega (arith, size_is e key value d)

  pub held_back : held arena ref_back ≡ record { key = key; value = value; deadline = deadline_kept e d }
  held_back = ap₂ (λ (k v : List ℕ). record { key = k; value = v; deadline = deadline_kept e d }) key_back value_back

  pub stored_written : stored_at e arena (length p) ≡ Some record { key = key; value = value; deadline = deadline_kept e d }
  unfolding stored_at
  stored_written = ap (contents arena) record_back ∙ ap Some held_back

-- a record alone
pub stored_back : (e : SegmentExpiry) (key value : List ℕ) (d : ℕ) → length key < 2 ^ 64 → length value < 2 ^ 64 → (e ≡ setting.None → d ≡ 65535)
    → stored_at e (record_bytes e key value d) 0 ≡ Some record { key = key; value = value; deadline = d }
stored_back e key value d k v never =
    ap (λ (s : List ℕ). stored_at e s 0) (sym (append-nil (record_bytes e key value d)))
    ∙ stored_written e [] key value [] d k v
    ∙ ap (λ (t : ℕ). Some record { key = key; value = value; deadline = t }) (kept e never)
  where
    kept : (x : SegmentExpiry) → (x ≡ setting.None → d ≡ 65535) → deadline_kept x d ≡ d
    kept setting.None n = sym (n refl)
    kept (setting.Relative16 tick) n = refl

-- ---- a record that is read

-- by which prefixes, and that it fits
pub record ReadBy (e : SegmentExpiry) (s : List ℕ) (at : ℕ) (r : RecordRef) : Type 0 where
  pub key : ℕ
  pub p : ℕ
  pub value : ℕ
  pub q : ℕ
  pub key_read : read_varint s at ≡ Some (key, p)
  pub value_read : read_varint s p ≡ Some (value, q)
  pub inside : q + bytes_per_record e + key + value ≤ length s
  pub is : ref_at e s at key value q ≡ r

pub read_by : (e : SegmentExpiry) (s : List ℕ) (at : ℕ) (r : RecordRef) → record_at e s at ≡ Some r → ReadBy e s at r
unfolding record_at record_of
read_by e s at r f = after_key_law (read_varint s at) refl f
  where
    clash : None ≡ Some r → ReadBy e s at r
    clash y = absurd (let z : ◌≡◌ {A = ℕ} 0 1 = cc in omega arith)

    fitting : (k p v q : ℕ) → read_varint s at ≡ Some (k, p) → read_varint s p ≡ Some (v, q) → (t : Bool) → leb (q + bytes_per_record e + k + v) (length s) ≡ t
        → cond t (Some (ref_at e s at k v q)) None ≡ Some r → ReadBy e s at r
    fitting k p v q g h true l y = record { key = k; p = p; value = v; q = q; key_read = g; value_read = h; inside = leb-true _ _ l; is = cc }
    fitting k p v q g h false l y = clash y

    after_value_law : (k p : ℕ) → read_varint s at ≡ Some (k, p) → (x : Option (ℕ × ℕ)) → read_varint s p ≡ x → after_value e s at k x ≡ Some r → ReadBy e s at r
    after_value_law k p g (Some (v, q)) h y = fitting k p v q g h (leb (q + bytes_per_record e + k + v) (length s)) refl y
    after_value_law k p g None h y = clash y

    after_key_law : (x : Option (ℕ × ℕ)) → read_varint s at ≡ x → after_key e s at x ≡ Some r → ReadBy e s at r
    after_key_law (Some (k, p)) g y = after_value_law k p g (read_varint s p) refl y
    after_key_law None g y = clash y

-- it lies inside
pub record_inside : (e : SegmentExpiry) (s : List ℕ) (at : ℕ) (r : RecordRef) → record_at e s at ≡ Some r
    → (at < length s) × (r.location ≡ at) × (r.key.at ≡ at + r.key_offset) × (r.value.at ≡ r.key.at + r.key.len) × (r.value.at + r.value.len ≤ length s)
    × (r.end ≡ r.value.at + r.value.len)
record_inside e s at r f =
    let b = read_by e s at r f in
    let k = read_inside s at b.key b.p b.key_read in
    let v = read_inside s b.p b.value b.q b.value_read in
    rw (sym b.is) (omega arith, refl, omega arith, refl, b.inside, refl)

-- what is stored at a position is what a record that is read there holds
stored_by : (e : SegmentExpiry) (s : List ℕ) (at : ℕ) (t : Stored) → stored_at e s at ≡ Some t → (r : RecordRef) × (record_at e s at ≡ Some r) × (contents s (Some r) ≡ Some t)
unfolding stored_at
stored_by e s at t f = go (record_at e s at) refl f
  where
    go : (x : Option RecordRef) → record_at e s at ≡ x → contents s x ≡ Some t → (r : RecordRef) × (record_at e s at ≡ Some r) × (contents s (Some r) ≡ Some t)
    go (Some r) g y = (r, g, y)
    go None g y = absurd (let z : ◌≡◌ {A = ℕ} 0 1 = cc in omega arith)

pub stored_inside : (e : SegmentExpiry) (s : List ℕ) (at : ℕ) (t : Stored) → stored_at e s at ≡ Some t → at < length s
stored_inside e s at t f = let b = stored_by e s at t f in (record_inside e s at b.0 b.1).0

-- ---- it is read in every list that holds the list

-- a record whose list begins n bytes later
abbrev pub moved : ℕ → RecordRef → RecordRef
moved n r =
    record {
      location = n + r.location;
      key_offset = r.key_offset;
      key = record { at = n + r.key.at; len = r.key.len };
      value = record { at = n + r.value.at; len = r.value.len };
      end = n + r.end;
      expires_at = r.expires_at;
    }

module _ (pre s post : List ℕ) where
  abbrev wide : List ℕ
  wide = pre ++ (s ++ post)

  byte_wider : (i : ℕ) → i < length s → get_or s i 0 ≡ get_or wide (length pre + i) 0
  byte_wider i h = sym (get_or-append-add pre (s ++ post) i 0 ∙ get_or-append s post 0 i h)

  deadline_wider : (e : SegmentExpiry) (q : ℕ) → q + bytes_per_record e ≤ length s → deadline_in e s q ≡ deadline_in e wide (length pre + q)
  deadline_wider setting.None q h = refl
  deadline_wider (setting.Relative16 tick) q h =
      rw (add_assoc (length pre) q 1) (ap₂ (λ (a b : ℕ). a + b * 256) (byte_wider q (omega arith)) (byte_wider (q + 1) (omega arith)))

  part_wider : (at len : ℕ) → at + len ≤ length s → part (length pre + at) len wide ≡ part at len s
  part_wider at len h = rw (drop-append-add pre (s ++ post) at, drop-append-le at s post (omega arith)) (take-append-le len (drop at s) post (omega (arith, length-drop at s)))

  pub record_wider : (e : SegmentExpiry) (at : ℕ) (r : RecordRef) → record_at e s at ≡ Some r → record_at e wide (length pre + at) ≡ Some (moved (length pre) r)
  record_wider e at r f =
      let n : ℕ = length pre in
      let w : ℕ = bytes_per_record e in
      let b = read_by e s at r f in
      let k = read_inside s at b.key b.p b.key_read in
      let v = read_inside s b.p b.value b.q b.value_read in
      let long : length wide ≡ n + (length s + length post) = simp length-append in
      let x : n + b.q + w ≡ n + (b.q + w) = omega arith in
      let y : n + (b.q + w) - (n + at) ≡ b.q + w - at = omega arith in
      rw (sym b.is)
      (at_is e wide (n + at) b.key (n + b.p) (read_wider pre s post at b.key b.p b.key_read)
      b.value (n + b.q) (read_wider pre s post b.p b.value b.q b.value_read)
      ∙ sym (of_in e wide (n + at) b.key b.value (n + b.q) w (deadline_in e s b.q) refl (deadline_wider e b.q (omega arith)) (omega arith))
      ∙ rw (x, y, add_assoc n (b.q + w) b.key, add_assoc n (b.q + w + b.key) b.value))

  contents_wider : (e : SegmentExpiry) (at : ℕ) (r : RecordRef) → record_at e s at ≡ Some r → contents wide (Some (moved (length pre) r)) ≡ contents s (Some r)
  contents_wider e at r f =
      let i = record_inside e s at r f in
      ap₂ (λ (k v : List ℕ). Some record { key = k; value = v; deadline = r.expires_at })
      (part_wider r.key.at r.key.len (omega arith))
      (part_wider r.value.at r.value.len i.4)

  pub stored_wider : (e : SegmentExpiry) (at : ℕ) (t : Stored) → stored_at e s at ≡ Some t → stored_at e wide (length pre + at) ≡ Some t
  unfolding stored_at
  stored_wider e at t f =
      let b = stored_by e s at t f in
      ap (contents wide) (record_wider e at b.0 b.1) ∙ contents_wider e at b.0 b.1 ∙ b.2
