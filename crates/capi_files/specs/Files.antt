-- The exported calls on files: the number that each gives and the content of every lent area that it may write, out of the calls of crates/files.
-- Assumes nothing.
use Rattle.std.specs.Prelude.{cond, List, [], ◌∷◌, ℕ, eqb, length}
use Rattle.sets.specs.Answers.{Reply}
use Rattle.sets.specs.declared.cache.FrozenSegmentCache.{FrozenSegmentCache}
use Rattle.files.specs.Load.{Loaded, after_load, needs_answer}
use Rattle.files.specs.Write.{FileWritten, after_write, size_answer}
use Rattle.files.specs.declared.load.FileNeeds.{FileNeeds}
use Rattle.capi.specs.Calls.{Told, number_words, on_loaded, told, told_by}
use Rattle.capi.specs.Words.{set_in, set_words}

-- ---- bytes of a file: one word; a refusal leaves it as it was

abbrev pub size_told : Reply ℕ (Unit {0}) → List ℕ → Told
size_told = told_by number_words

unfoldable pub exported_file_bytes : List ℕ → List ℕ → List ℕ → List ℕ → Told
exported_file_bytes w starts lengths old =
    cond (eqb (length old) 1) (on_loaded (set_in w) (λ s. size_told (size_answer s starts lengths) old) (told 11 old)) (told 11 old)

-- ---- writing

pub record WriteWords : Type 0 where
  pub number : ℕ
  pub file : List ℕ
  pub bytes : List ℕ

abbrev pub write_words : ℕ → List ℕ → List ℕ → WriteWords
write_words number file bytes = record { number = number; file = file; bytes = bytes }

abbrev pub write_left : FileWritten → List ℕ → WriteWords
write_left w old = write_words (size_told w.answer old).number w.file (size_told w.answer old).words

unfoldable pub exported_write_file : List ℕ → List ℕ → List ℕ → List ℕ → List ℕ → List ℕ → List ℕ → List ℕ → WriteWords
exported_write_file w index filter starts lengths arena file old =
    cond (eqb (length old) 1)
    (on_loaded (set_in w) (λ s. write_left (after_write s index filter starts lengths arena file) old) (write_words 11 file old))
    (write_words 11 file old)

-- ---- what a file needs: index, filter, starts, lengths, and the arena's bytes

abbrev pub needs_words : FileNeeds → List ℕ
needs_words n = n.index ∷ n.filter ∷ n.starts ∷ n.lengths ∷ n.arena ∷ []

abbrev pub needs_told : Reply FileNeeds (Unit {0}) → List ℕ → Told
needs_told = told_by needs_words

unfoldable pub exported_file_needs : List ℕ → List ℕ → Told
exported_file_needs f old = cond (eqb (length old) 5) (needs_told (needs_answer f) old) (told 11 old)

-- ---- loading

abbrev pub load_told : Reply FrozenSegmentCache (Unit {0}) → List ℕ → Told
load_told = told_by set_words

pub record LoadWords : Type 0 where
  pub number : ℕ
  pub index : List ℕ
  pub filter : List ℕ
  pub starts : List ℕ
  pub lengths : List ℕ
  pub arena : List ℕ
  pub set : List ℕ

abbrev pub load_words : ℕ → List ℕ → List ℕ → List ℕ → List ℕ → List ℕ → List ℕ → LoadWords
load_words number index filter starts lengths arena set =
    record { number = number; index = index; filter = filter; starts = starts; lengths = lengths; arena = arena; set = set }

abbrev pub load_left : Loaded → List ℕ → LoadWords
load_left l old =
    load_words (load_told l.answer old).number l.index l.filter l.starts l.lengths l.arena (load_told l.answer old).words

unfoldable pub exported_load_file : List ℕ → List ℕ → List ℕ → List ℕ → List ℕ → List ℕ → List ℕ → LoadWords
exported_load_file f index filter starts lengths arena old =
    cond (eqb (length old) 15) (load_left (after_load f index filter starts lengths arena) old) (load_words 11 index filter starts lengths arena old)
