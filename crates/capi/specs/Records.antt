-- The exported calls on records outside of any set: the size of one, and the one at a position of lent bytes. Assumes nothing.
use Rattle.std.specs.Prelude.{cond, List, [], ◌∷◌, ℕ, Option, Some, None, eqb, length}
use Rattle.hash_parts.specs.Outcome.{Outcome}
use Rattle.hash_parts.specs.declared.setting.SegmentCacheConfig.{SegmentCacheConfig}
use Rattle.records.specs.Record.{encoded_size, record_at}
use Rattle.records.specs.declared.record.RecordRef.{RecordRef}
use Rattle.sets.specs.Answers.{Reply, accept, refuse}
use Rattle.sets.specs.Questions.{decided, first_no}
use Rattle.capi.specs.Calls.{Told, found_words, told}
use Rattle.capi.specs.Words.{ask_widths, setting_alone, stored}

-- ---- a setting lent by itself: its form, then what its words are too wide for

abbrev pub fitting_from : Option SegmentCacheConfig → ℕ → Reply SegmentCacheConfig (Unit {0})
fitting_from (Some c) n = decided n (accept c) (λ n. refuse n tt)
fitting_from None n = refuse 11 tt

unfoldable pub setting_fitting : List ℕ → Reply SegmentCacheConfig (Unit {0})
setting_fitting w = fitting_from (setting_alone w) (first_no (ask_widths w))

-- what it gives, where it fits; else what is left with the number
abbrev pub on_fitting : {A : Type 0} → Reply SegmentCacheConfig (Unit {0}) → (SegmentCacheConfig → A) → (ℕ → A) → A
on_fitting (accept c) f refused = f c
on_fitting (refuse n u) f refused = refused n

-- ---- the size of a record

abbrev pub size_told : Outcome → List ℕ → Told
size_told o old = told o.number (cond (eqb o.number 0) (stored (o.value ∷ []) old) old)

unfoldable pub exported_size : List ℕ → ℕ → ℕ → List ℕ → Told
exported_size w key value old =
    cond (eqb (length old) 1) (on_fitting (setting_fitting w) (λ c. size_told (encoded_size c.expiry key value) old) (λ n. told n old)) (told 11 old)

-- ---- the record at a position: nine words, nine zeros for nothing. "The harbour offices' loader steps through a segment without the
-- index."

abbrev pub read_words : RecordRef → List ℕ
read_words r =
    1
    ∷ r.location
    ∷ r.key_offset
    ∷ r.key.at
    ∷ r.key.len
    ∷ r.value.at
    ∷ r.value.len
    ∷ r.expires_at
    ∷ r.end
    ∷ []

abbrev pub read_told : Option RecordRef → List ℕ → Told
read_told r old = told 0 (stored (found_words 9 read_words r) old)

unfoldable pub exported_record_at : List ℕ → List ℕ → ℕ → List ℕ → Told
exported_record_at w records position old =
    cond (eqb (length old) 9) (on_fitting (setting_fitting w) (λ c. read_told (record_at c.expiry records position) old) (λ n. told n old)) (told 11 old)
