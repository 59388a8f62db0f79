-- What the sheet command leaves of a file: the load, then the sheet of what is loaded.
-- Assumes nothing.
use Rattle.std.specs.Prelude.{cond, List, ℕ, ◌*◌, ltb, length, take, Result}
use Rattle.hash_parts.specs.declared.error.SegmentCacheBuildError.{SegmentCacheBuildError}
use Rattle.sets.specs.Answers.{Reply, accept, refuse}
use Rattle.sets.specs.declared.cache.FrozenSegmentCache.{FrozenSegmentCache}
use Rattle.files.specs.Load.{Loaded, after_load}
use Rattle.charts.specs.Sheet.{Printed, after_sheet, sheet_reply}

-- nothing is printed of a file that does not load
abbrev pub refused : ℕ → List ℕ → Printed
refused n page = record { answer = refuse n tt; page = page }

abbrev pub printed : Reply FrozenSegmentCache (Unit {0}) → Loaded → List ℕ → Printed
printed (accept s) l page = after_sheet s l.index l.starts l.lengths l.arena page
printed (refuse n u) l page = refused n page

-- the sheet of what a load leaves
unfoldable pub sheet_of : Loaded → List ℕ → Printed
sheet_of l page = printed l.answer l page

-- an input that fills its area may go on past it: refusal 10, and no part of it is taken for the file
unfoldable pub sheet_of_input : ℕ → List ℕ → List ℕ → List ℕ → List ℕ → List ℕ → List ℕ → List ℕ → Printed
sheet_of_input size area index filter starts lengths arena page =
    cond (ltb size (length area)) (sheet_of (after_load (take size area) index filter starts lengths arena) page) (refused 10 page)

-- ---- for private functions alone

abbrev pub pages_of : Reply ℕ (Unit {0}) → ℕ
pages_of (accept n) = n
pages_of (refuse n u) = 0

-- the bytes of the pages that an answer tells
abbrev pub page_bytes : Result ℕ SegmentCacheBuildError → ℕ
page_bytes r = 3250 * pages_of (sheet_reply r)
