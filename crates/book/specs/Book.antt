-- The book, of "What each call must say of itself": the answers of lookups, worked out from the calls' arguments and from whether each was accepted. It cites
-- the deadline by Setting and the stored bytes, and nothing of how a lookup works. A load's argument is the file's bytes, which the book reads by itself.
-- Assumes nothing.
use Rattle.std.specs.Prelude.{Bool, true, false, cond, List, [], ◌∷◌, ◌++◌, ℕ, zero, suc, ◌+◌, ◌*◌, ◌/◌, ◌%◌, ◌^◌, min, eqb, leb, ltb, length, take, drop, get_or, None, Option, Some, slice_get}
use Rattle.hash_parts.specs.Duration.{encoded_expiry}
use Rattle.hash_parts.specs.declared.setting.SegmentCacheConfig.{SegmentCacheConfig}
use Rattle.hash_parts.specs.declared.setting.SegmentExpiry.{SegmentExpiry}
use Rattle.hash_parts.specs.declared.setting.SegmentExpiry.TheVariants as setting
use Rattle.records.specs.Record.{record_bytes}
use Rattle.book.specs.Calls.{Call, opening, push, finish, lookup, peek, clear, probe, walk, stats, reopen, reuse, copy, refinish, write, load, Answer, value, nothing, absent, newest}

-- ---- the book

-- a record in a list: where its stored bytes begin on the tape of the build or rebuild that listed it, and what was pushed
pub record Entry : Type 0 where
  pub at : ℕ
  pub key : List ℕ
  pub value : List ℕ
  pub deadline : ℕ

-- a finished set: its list, its segments' starts, its filled bytes
pub record ListedSet : Type 0 where
  pub list : List Entry
  pub starts : List ℕ
  pub filled : ℕ

-- a file that was written: whether its set's records have deadlines, and its set's list
pub record ListedFile : Type 0 where
  pub expiry : SegmentExpiry
  pub list : List Entry

-- the stored bytes of all records, the list of the open builder or rebuild, and the finished sets; the last is the newest. Of a rebuild also the tick given
-- at its open, and the starts of the segments that it keeps. And the files that were written, the first is 0.
pub record Book : Type 0 where
  pub expiry : SegmentExpiry
  pub tape : List ℕ
  pub list : List Entry
  pub tick : ℕ
  pub kept : List ℕ
  pub sets : List ListedSet
  pub written : List ListedFile

-- "Open: empty list, empty tape." Before the first open the book is blank too, with any setting: nothing asks for that before an open is accepted.
abbrev pub blank : SegmentCacheConfig → Book
blank config = record { expiry = config.expiry; tape = []; list = []; tick = 0; kept = []; sets = []; written = [] }

-- ---- starts. Segments: "Up to the target: one. Else each next segment starts at the lowest record location not below the last start plus target; with
-- none, no more."

abbrev pub lower : ℕ → Option ℕ → Option ℕ
lower a None = Some a
lower a (Some b) = Some (min a b)

-- the lowest location of a list that is not below a bound
abbrev pub lowest_from : ℕ → List Entry → Option ℕ
lowest_from bound [] = None
lowest_from bound (e ∷ l) = cond (leb bound e.at) (lower e.at (lowest_from bound l)) (lowest_from bound l)

-- the starts from one on, at most so many after it
unfoldable pub starts_from : ℕ → ℕ → List Entry → Option ℕ → List ℕ
starts_from zero target l None = []
starts_from zero target l (Some start) = start ∷ []
starts_from (suc n) target l None = []
starts_from (suc n) target l (Some start) = start ∷ starts_from n target l (lowest_from (start + target) l)

-- the starts of a set's segments, at most 256
unfoldable pub book_starts : ℕ → ℕ → List Entry → List ℕ
book_starts filled target l = cond (leb filled target) (0 ∷ []) (starts_from 255 target l (Some 0))

-- ---- the newest set

abbrev pub starts_in : Option ListedSet → List ℕ
starts_in None = []
starts_in (Some s) = s.starts

abbrev pub filled_in : Option ListedSet → ℕ
filled_in None = 0
filled_in (Some s) = s.filled

-- Questions: "keep flags .. (0 drops, else kept)"
unfoldable pub kept_by : List ℕ → List ℕ → List ℕ
kept_by [] starts = []
kept_by (f ∷ flags) [] = []
kept_by (f ∷ flags) (s ∷ starts) = cond (eqb f 0) (kept_by flags starts) (s ∷ kept_by flags starts)

-- Rebuilt set: "appends copied records as one last segment after the filled arena .. No segment is added for zero copied bytes unless none is kept."
abbrev pub rebuilt_starts : List ℕ → ℕ → ℕ → List ℕ
rebuilt_starts [] base filled = base ∷ []
rebuilt_starts (s ∷ kept) base filled = cond (ltb base filled) ((s ∷ kept) ++ (base ∷ [])) (s ∷ kept)

-- Segments: "Location becomes segment × 2^32 + offset."
abbrev pub place_of : List ℕ → ℕ → ℕ
place_of starts location = get_or starts (location / 2 ^ 32) 0 + location % 2 ^ 32

-- ---- the deadline on the tape. Stored record: "Key length, value length (LEB128), with expiry on the deadline in 2 bytes little-endian, key, value."

-- how many bytes a length prefix takes: up to the first below 128
unfoldable pub prefix_bytes : List ℕ → ℕ
prefix_bytes [] = 0
prefix_bytes (b ∷ l) = cond (ltb b 128) 1 (suc (prefix_bytes l))

abbrev pub past_prefix : List ℕ → ℕ → ℕ
past_prefix tape at = at + prefix_bytes (drop at tape)

abbrev pub two_bytes : List ℕ → ℕ → ℕ
two_bytes tape at = get_or tape at 0 + 256 * get_or tape (at + 1) 0

-- "65,535 with expiry off"
abbrev pub deadline_on : SegmentExpiry → List ℕ → ℕ → ℕ
deadline_on setting.None tape at = 65535
deadline_on (setting.Relative16 tick) tape at = two_bytes tape (past_prefix tape (past_prefix tape at))

-- ---- a file's bytes: "blocks, each a 4-byte length of its content, then a 2-byte kind, then the content, all little-endian. Kinds come
-- once each, in order".

-- a number by its bytes, lowest first
unfoldable pub little_endian : List ℕ → ℕ
little_endian [] = 0
little_endian (b ∷ l) = b + 256 * little_endian l

-- the length of the first block's content
abbrev pub length_of : List ℕ → ℕ
length_of file = little_endian (take 4 file)

-- the content of a block, kind 1 is 0
unfoldable pub kind_content : ℕ → List ℕ → List ℕ
kind_content zero file = take (length_of file) (drop 6 file)
kind_content (suc n) file = kind_content n (drop (6 + length_of file) file)

-- "segment lengths (8 bytes each, 1 to 256 of them)": numbers of eight bytes, at most so many
unfoldable pub numbers_in : ℕ → List ℕ → List ℕ
numbers_in zero bytes = []
numbers_in (suc n) [] = []
numbers_in (suc n) (b ∷ bytes) = little_endian (take 8 (b ∷ bytes)) ∷ numbers_in n (drop 8 (b ∷ bytes))

-- each segment starts where the one before it ends
unfoldable pub running_sums : ℕ → List ℕ → List ℕ
running_sums start [] = []
running_sums start (n ∷ l) = start ∷ running_sums (start + n) l

-- ---- what the book notes of a call

-- "Push, copied push: the record joins its set's list with its deadline by Setting and Rebuilt set, and its stored bytes are appended to the tape."
abbrev pub joined : Book → List ℕ → List ℕ → ℕ → Book
joined b key v deadline =
    record {
      expiry = b.expiry;
      tape = b.tape ++ record_bytes b.expiry key v deadline;
      list = b.list ++ (record { at = length b.tape; key = key; value = v; deadline = deadline } ∷ []);
      tick = b.tick;
      kept = b.kept;
      sets = b.sets;
      written = b.written;
    }

-- "Finish, rebuild finish: this set is now the newest, its starts by Segments or Rebuilt set, its filled bytes the tape's length."
abbrev pub closed : Book → List ℕ → Book
closed b starts =
    record {
      expiry = b.expiry;
      tape = b.tape;
      list = [];
      tick = 0;
      kept = [];
      sets = b.sets ++ (record { list = b.list; starts = starts; filled = length b.tape } ∷ []);
      written = b.written;
    }

-- "Rebuild open: a new empty list, the tape cut to the newest set's filled bytes."
abbrev pub reopened : Book → List ℕ → ℕ → Book
reopened b flags tick =
    record {
      expiry = b.expiry;
      tape = take (filled_in (newest b.sets)) b.tape;
      list = [];
      tick = tick;
      kept = kept_by flags (starts_in (newest b.sets));
      sets = b.sets;
      written = b.written;
    }

-- "Reused push: the record joins with the deadline that the tape has at its location by the newest set's starts, 65,535 with expiry off."
abbrev pub rejoined : Book → List ℕ → List ℕ → ℕ → Book
rejoined b key v place =
    record {
      expiry = b.expiry;
      tape = b.tape;
      list = b.list ++ (record { at = place; key = key; value = v; deadline = deadline_on b.expiry b.tape place } ∷ []);
      tick = b.tick;
      kept = b.kept;
      sets = b.sets;
      written = b.written;
    }

-- an open among other calls: empty list, empty tape; the files that were written stay
abbrev pub anew : Book → SegmentCacheConfig → Book
anew b config = record { expiry = config.expiry; tape = []; list = []; tick = 0; kept = []; sets = []; written = b.written }

-- "Lookups in a loaded set are held to the list that its writer was given": at a write that list is noted, with the expiry
abbrev pub filed : Book → Option ListedSet → Book
filed b None = b
filed b (Some l) =
    record {
      expiry = b.expiry;
      tape = b.tape;
      list = b.list;
      tick = b.tick;
      kept = b.kept;
      sets = b.sets;
      written = b.written ++ (record { expiry = b.expiry; list = l.list } ∷ []);
    }

-- "the load then stands in the build's place, and its book has kind 5 as tape, starts by kind 2"
abbrev pub unfiled : Book → Option ListedFile → List ℕ → Book
unfiled b None file = b
unfiled b (Some l) file =
    record {
      expiry = l.expiry;
      tape = kind_content 4 file;
      list = [];
      tick = 0;
      kept = [];
      sets = record { list = l.list; starts = running_sums 0 (numbers_in 256 (kind_content 1 file)); filled = length (kind_content 4 file) } ∷ [];
      written = b.written;
    }

-- of an accepted call; Setting: "the base is 0 in a build"; Rebuilt set: "copies have a tick given at rebuild open as base"
abbrev pub noted : Book → Call (Unit {0}) (ℕ × List ℕ) → Book
noted b (opening config records arena index filter starts lengths) = anew b config
noted b (push key v h lifetime) = joined b key v (encoded_expiry b.expiry lifetime 0).value
noted b (finish target scratch) = closed b (book_starts (length b.tape) target b.list)
noted b (lookup j key h tick) = b
noted b (peek j key h tick) = b
noted b (clear j key h) = b
noted b (probe j key h tick) = b
noted b (walk j slot tick) = b
noted b (stats j) = b
noted b (reopen records copied flags tick index filter starts lengths) = reopened b flags tick
noted b (reuse key v h location header) = rejoined b key v (place_of (starts_in (newest b.sets)) location)
noted b (copy key v h lifetime) = joined b key v (encoded_expiry b.expiry lifetime b.tick).value
noted b (refinish scratch) = closed b (rebuilt_starts b.kept (filled_in (newest b.sets)) (length b.tape))
noted b (write j file) = filed b (slice_get b.sets j)
noted b (load file arena index filter starts lengths) = unfiled b (slice_get b.written file.0) file.1

-- "Other and refused calls: nothing."
abbrev pub heard : Book → Call (Unit {0}) (ℕ × List ℕ) × Bool → Book
heard b c = cond c.1 (noted b c.0) b

-- the book after a list of calls
abbrev pub book_after : Book → List (Call (Unit {0}) (ℕ × List ℕ) × Bool) → Book
book_after b [] = b
book_after b (c ∷ cs) = book_after (heard b c) cs

-- ---- the rule of a lookup's answer

-- whether two keys are the same
unfoldable pub same_key : List ℕ → List ℕ → Bool
same_key [] [] = true
same_key [] (y ∷ b) = false
same_key (x ∷ a) [] = false
same_key (x ∷ a) (y ∷ b) = cond (eqb x y) (same_key a b) false

-- the first entry of a list that has the key
abbrev pub first_of : List ℕ → List Entry → Option Entry
first_of key [] = None
first_of key (e ∷ l) = cond (same_key e.key key) (Some e) (first_of key l)

-- its value before its deadline, else nothing; "65,535 is no deadline, an empty value an answer"
abbrev pub ruled : ℕ → Option Entry → Answer
ruled tick None = nothing
ruled tick (Some e) = cond (eqb e.deadline 65535) (value e.value) (cond (ltb tick e.deadline) (value e.value) nothing)

-- the answer to a lookup or a peek in a set
abbrev pub reply_from : Option ListedSet → List ℕ → ℕ → Answer
reply_from None key tick = absent
reply_from (Some s) key tick = ruled tick (first_of key s.list)

abbrev pub replied : Book → Call (Unit {0}) (ℕ × List ℕ) → List Answer
replied b (opening config records arena index filter starts lengths) = []
replied b (push key v h lifetime) = []
replied b (finish target scratch) = []
replied b (lookup j key h tick) = reply_from (slice_get b.sets j) key tick ∷ []
replied b (peek j key h tick) = reply_from (slice_get b.sets j) key tick ∷ []
replied b (clear j key h) = []
replied b (probe j key h tick) = []
replied b (walk j slot tick) = []
replied b (stats j) = []
replied b (reopen records copied flags tick index filter starts lengths) = []
replied b (reuse key v h location header) = []
replied b (copy key v h lifetime) = []
replied b (refinish scratch) = []
replied b (write j file) = []
replied b (load file arena index filter starts lengths) = []

-- the answers to the lookups and peeks in a list of calls, by the book
abbrev pub replies : Book → List (Call (Unit {0}) (ℕ × List ℕ) × Bool) → List Answer
replies b [] = []
replies b (c ∷ cs) = replied b c.0 ++ replies (heard b c) cs
