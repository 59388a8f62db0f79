-- The answers of the lower calls as numbers and words. Assumes nothing.
use Rattle.std.specs.Prelude.{ℕ, ◌+◌, ◌^◌, Bool, true, false, cond, List, [], ◌∷◌, eqb, leb, ltb, length, get_or, None, Option, Some}
use Rattle.hash_parts.specs.Outcome.{Outcome}
use Rattle.hash_parts.specs.declared.duration.Duration.{Duration}
use Rattle.hash_parts.specs.Duration.{Nanoseconds}
use Rattle.hash_parts.specs.declared.duration.SegmentRemainingTtl.{SegmentRemainingTtl}
use Rattle.hash_parts.specs.declared.duration.SegmentRemainingTtl.TheVariants as left
use Rattle.hash_parts.specs.declared.setting.SegmentExpiry.{SegmentExpiry}
use Rattle.hash_parts.specs.declared.setting.SegmentExpiry.TheVariants as setting
use Rattle.index.specs.declared.view.SegmentView.{SegmentView}
use Rattle.records.specs.Area.{over}
use Rattle.records.specs.declared.record.Span.{Span}
use Rattle.index.specs.declared.find.FoundRecord.{FoundRecord}
use Rattle.records.specs.declared.record.RecordRef.{RecordRef}

-- ---- what goes in

abbrev pub duration_of : ℕ → ℕ → Duration
duration_of secs nanos = record { secs = secs; nanos = nanos }

abbrev pub expiry_of : Bool → ℕ → ℕ → SegmentExpiry
expiry_of on secs nanos = cond on (setting.Relative16 (duration_of secs nanos)) setting.None

abbrev pub lifetime_of : Bool → ℕ → ℕ → Option Duration
lifetime_of finite secs nanos = cond finite (Some (duration_of secs nanos)) None

abbrev pub span_of : ℕ → ℕ → Span
span_of at len = record { at = at; len = len }

abbrev pub view_of : Bool → ℕ → ℕ → SegmentView
view_of on filled segments = record { expiry = expiry_of on 1 0; filled = filled; segments = segments }

-- ---- what comes out

-- an answer as one number: its value, or a base and the refusal's number
unfoldable pub code_of : ℕ → Outcome → ℕ
code_of base o = cond (eqb o.number 0) o.value (base + o.number)

-- a slot as one number: itself, or 2^63 and 4 for a duplicate, 3 for a full index
abbrev pub slot_code : Outcome → ℕ
slot_code o = code_of (2 ^ 63) o

-- lent words with these written over their front where all of them fit; else as they were
unfoldable pub placed : List ℕ → List ℕ → List ℕ
placed words out = cond (leb (length words) (length out)) (over words out) out

-- an answer and words
pub record Told (A : Type 0) : Type 0 where
  pub answer : A
  pub words : List ℕ

abbrev pub told : {A : Type 0} → A → List ℕ → Told A
told answer words = record { answer = answer; words = words }

-- an answer and the lent words after it placed its own there
abbrev pub lent : {A : Type 0} → Told A → List ℕ → Told A
lent t out = told t.answer (placed t.words out)

-- the refusal's number, or 0 and the value
unfoldable pub outcome_told : Outcome → Told ℕ
outcome_told o = told o.number (cond (eqb o.number 0) (o.value ∷ []) [])

-- the upper and the lower word
abbrev pub nanos_told : Nanoseconds → List ℕ
nanos_told n = n.high ∷ n.low ∷ []

-- 0: nothing is left; 1: it never lapses; 2: seconds and nanoseconds
abbrev pub left_told : Option SegmentRemainingTtl → Told ℕ
left_told None = told 0 []
left_told (Some left.Never) = told 1 []
left_told (Some (left.Finite d)) = told 2 (d.secs ∷ d.nanos ∷ [])

-- whether there is a number; the number and the position after it
abbrev pub varint_told : Option (ℕ × ℕ) → Told Bool
varint_told None = told false []
varint_told (Some (v, next)) = told true (v ∷ next ∷ [])

-- location, bytes before the key, key's place and length, value's place and length, deadline, end
abbrev pub record_words : RecordRef → List ℕ
record_words r = r.location ∷ r.key_offset ∷ r.key.at ∷ r.key.len ∷ r.value.at ∷ r.value.len ∷ r.expires_at ∷ r.end ∷ []

-- whether there is a record, and its words
abbrev pub record_told : Option RecordRef → Told Bool
record_told None = told false []
record_told (Some r) = told true (record_words r)

-- whether there is a record of the key; its slot, and the words of the record
abbrev pub found_told : Option FoundRecord → Told Bool
found_told None = told false []
found_told (Some f) = told true (f.slot ∷ record_words f.entry)

-- the byte at i, or 256 past the end
unfoldable pub byte_or256 : List ℕ → ℕ → ℕ
byte_or256 s i = cond (ltb i (length s)) (get_or s i 0) 256
