-- Stored records as bytes: "Key length, value length (LEB128), with expiry on the deadline in 2 bytes
-- little-endian, key, value."
-- Assumes nothing.
use Rattle.std.specs.Prelude.{ℕ, ◌+◌, ◌*◌, ◌-◌, ◌/◌, ◌%◌, ◌^◌, cond, List, [], ◌∷◌, ◌++◌, Option, Some, None, leb, ltb, length, get_or}
use Rattle.hash_parts.specs.Duration.{never_expires}
use Rattle.hash_parts.specs.Outcome.{Outcome, accepted, refused}
use Rattle.hash_parts.specs.Setting.{bytes_per_record}
use Rattle.hash_parts.specs.declared.error.SegmentCacheBuildError.TheVariants.{CapacityOverflow}
use Rattle.hash_parts.specs.declared.setting.SegmentExpiry.{SegmentExpiry}
use Rattle.hash_parts.specs.declared.setting.SegmentExpiry.TheVariants as setting
use Rattle.records.specs.Area.{part}
use Rattle.records.specs.Uleb128.{uleb128}
use Rattle.records.specs.Varint.{read_varint}
use Rattle.records.specs.declared.record.RecordRef.{RecordRef}

-- ---- writing

abbrev pub deadline_bytes : SegmentExpiry → ℕ → List ℕ
deadline_bytes setting.None d = []
deadline_bytes (setting.Relative16 tick) d = d % 256 ∷ d / 256 ∷ []

-- the bytes of a record
unfoldable pub record_bytes : SegmentExpiry → List ℕ → List ℕ → ℕ → List ℕ
record_bytes e key value d = uleb128 (length key) ++ (uleb128 (length value) ++ (deadline_bytes e d ++ (key ++ value)))

-- how many they are, by the lengths of key and value
unfoldable pub record_size : SegmentExpiry → ℕ → ℕ → ℕ
record_size e key value = length (uleb128 key) + length (uleb128 value) + bytes_per_record e + key + value

-- the size where it fits 64 bits
unfoldable pub encoded_size : SegmentExpiry → ℕ → ℕ → Outcome
encoded_size e key value = cond (ltb (record_size e key value) (2 ^ 64)) (accepted (record_size e key value)) (refused CapacityOverflow)

-- ---- reading

-- the deadline at a position; never, where records keep none
abbrev pub deadline_in : SegmentExpiry → List ℕ → ℕ → ℕ
deadline_in setting.None s at = never_expires
deadline_in (setting.Relative16 tick) s at = get_or s at 0 + get_or s (at + 1) 0 * 256

-- the record at a position whose prefixes say key and value and end at q. "Reading a record now also hands over the position just
-- after its value, counted as its own is .. Over-long prefixes count with their real bytes."
abbrev pub ref_at : SegmentExpiry → List ℕ → ℕ → ℕ → ℕ → ℕ → RecordRef
ref_at e s at key value q =
    record {
      location = at;
      key_offset = q + bytes_per_record e - at;
      key = record { at = q + bytes_per_record e; len = key };
      value = record { at = q + bytes_per_record e + key; len = value };
      end = q + bytes_per_record e + key + value;
      expires_at = deadline_in e s q;
    }

-- it is read where it lies inside
unfoldable pub record_of : SegmentExpiry → List ℕ → ℕ → ℕ → ℕ → ℕ → Option RecordRef
record_of e s at key value q = cond (leb (q + bytes_per_record e + key + value) (length s)) (Some (ref_at e s at key value q)) None

abbrev pub after_value : SegmentExpiry → List ℕ → ℕ → ℕ → Option (ℕ × ℕ) → Option RecordRef
after_value e s at key (Some (value, q)) = record_of e s at key value q
after_value e s at key None = None

abbrev pub after_key : SegmentExpiry → List ℕ → ℕ → Option (ℕ × ℕ) → Option RecordRef
after_key e s at (Some (key, p)) = after_value e s at key (read_varint s p)
after_key e s at None = None

-- the record at a position of a list of bytes
unfoldable pub record_at : SegmentExpiry → List ℕ → ℕ → Option RecordRef
record_at e s at = after_key e s at (read_varint s at)

-- ---- what a record holds

pub record Stored : Type 0 where
  pub key : List ℕ
  pub value : List ℕ
  pub deadline : ℕ

abbrev pub held : List ℕ → RecordRef → Stored
held s r = record { key = part r.key.at r.key.len s; value = part r.value.at r.value.len s; deadline = r.expires_at }

abbrev pub contents : List ℕ → Option RecordRef → Option Stored
contents s (Some r) = Some (held s r)
contents s None = None

-- key, value and deadline of the record at a position
unfoldable pub stored_at : SegmentExpiry → List ℕ → ℕ → Option Stored
stored_at e s at = contents s (record_at e s at)
