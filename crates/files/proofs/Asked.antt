-- What the questions of a write and of a load tell where all are answered yes. Assumes nothing.
use mathlib.Core.Path.{◌≡◌, refl}
use mathlib.Core.Bool.{true}
use mathlib.Core.List.{List}
use Prim.Native.Nat.{ℕ, zero, suc, ◌+◌, ◌*◌, ◌%◌, ◌^◌, ◌≤◌, ◌<◌}
use native.Mathlib.Omega.{arith}
use lib.Dec.{eqb, leb}
use lib.ListN.{length, get_or}
use borrow.Author.Tests.{eqb-true, leb-true}
use Rattle.records.specs.Area.{over}
use Rattle.index.specs.Segments.{padded}
use Rattle.sets.specs.Answers.{accept, refuse}
use Rattle.sets.specs.Lookup.{areas_hold_lookup, areas_hold_set, set_fits}
use Rattle.sets.specs.Questions.{arena_holds, bytes_fit, counts_fit, decided, first_no, segment_areas_hold, setting_fits}
use Rattle.sets.specs.Rebuild.{segments_inside, sum_of}
use Rattle.sets.specs.declared.cache.FrozenSegmentCache.{FrozenSegmentCache}
use Rattle.sets.proofs.Asked.{then}
use Rattle.sets.proofs.Counts.{both}
use Rattle.sets.proofs.RebuildAsked.{segments_each}
use Rattle.files.specs.Blocks.{content_of, frames_well, kinds_from}
use Rattle.files.specs.Contents.{ask_file, buckets_of, content_fits, field, file_filter, file_index, file_set, filter_words_of, records_in, segment_count_fits, segment_lengths, setting_in, starts_by}
use Rattle.files.specs.Contents.{sum, tick_fits}
use Rattle.files.specs.Load.{Loaded, after_load, ask_load, load_areas_hold}
use Rattle.files.specs.Write.{FileWritten, after_write, ask_write, file_of, file_size}

-- ---- a write

module _ (s : FrozenSegmentCache) (index filter starts lengths arena file : List ℕ) where
  pub record WriteAsked : Type 0 where
    pub counts : counts_fit s.config s.entries s.buckets s.filter_words ≡ true
    pub some_segment : 1 ≤ s.segments
    pub few_segments : s.segments ≤ 256
    pub key_bytes : s.logical_key_bytes ≤ s.entries * 2 ^ 30
    pub value_bytes : s.logical_value_bytes ≤ s.entries * 2 ^ 30
    pub header_length : s.record_header_bytes ≤ s.entries * 2 ^ 30
    pub index_holds : 8 * s.buckets ≤ length index
    pub filter_holds : s.filter_words ≤ length filter
    pub starts_hold : 256 ≤ length starts
    pub lengths_hold : 256 ≤ length lengths
    pub filled_held : s.filled ≤ length arena
    pub arena_short : length arena ≤ 1073741824
    pub inside : (g : ℕ) → g < s.segments → get_or starts g 0 + get_or lengths g 0 ≤ s.filled
    pub sum_short : sum_of s.segments lengths ≤ 1073741824
    pub room : file_size s lengths ≤ length file

  pub write_asked : first_no (ask_write s (length index) (length filter) starts lengths (length arena) (length file)) ≡ 0 → WriteAsked
  unfolding ask_write areas_hold_lookup areas_hold_set set_fits segment_areas_hold arena_holds
  write_asked e =
      let t = then (areas_hold_lookup s (length index) (length filter) (length starts) (length lengths) (length arena)) 11 _ (omega arith) e in
      let u = then (segments_inside s.segments s.filled starts lengths) 11 _ (omega arith) t.1 in
      let v = then (leb (sum_of s.segments lengths) 1_073_741_824) 11 _ (omega arith) u.1 in
      let w = then (leb (file_size s lengths) (length file)) 10 _ (omega arith) v.1 in
      let a = both (areas_hold_set s (length index) (length starts) (length lengths) (length arena)) _ t.0 in
      let b = both (set_fits s) _ a.0 in
      let c = both (leb (8 * s.buckets) (length index)) _ b.1 in
      let d = both (segment_areas_hold (length starts) (length lengths)) _ c.1 in
      let r = both (leb s.filled (length arena)) _ d.1 in
      let q = both (leb 256 (length starts)) _ d.0 in
      let n₁ = both (counts_fit s.config s.entries s.buckets s.filter_words) _ b.0 in
      let n₂ = both (leb 1 s.segments) _ n₁.1 in
      let n₃ = both (leb s.segments 256) _ n₂.1 in
      let n₄ = both (bytes_fit s.entries s.logical_key_bytes) _ n₃.1 in
      let n₅ = both (bytes_fit s.entries s.logical_value_bytes) _ n₄.1 in
      record {
        counts = n₁.0;
        some_segment = leb-true _ _ n₂.0;
        few_segments = leb-true _ _ n₃.0;
        key_bytes = leb-true _ _ n₄.0;
        value_bytes = leb-true _ _ n₅.0;
        header_length = leb-true _ _ n₅.1;
        index_holds = leb-true _ _ c.0;
        filter_holds = leb-true _ _ a.1;
        starts_hold = leb-true _ _ q.0;
        lengths_hold = leb-true _ _ q.1;
        filled_held = leb-true _ _ r.0;
        arena_short = leb-true _ _ r.1;
        inside = segments_each s.filled starts lengths s.segments u.0;
        sum_short = leb-true _ _ v.0;
        room = leb-true _ _ w.0;
      }

  -- an accepted write: its questions, its area, its answer
  pub write_made : (n : ℕ) → (after_write s index filter starts lengths arena file).answer ≡ accept n
      → WriteAsked × ((after_write s index filter starts lengths arena file).file ≡ over (file_of s index filter starts lengths arena) file) × (file_size s lengths ≡ n)
  unfolding after_write
  write_made n e = go (first_no (ask_write s (length index) (length filter) starts lengths (length arena) (length file))) refl e
    where
      left : ℕ → FileWritten
      left q =
          decided q (record { answer = accept (file_size s lengths); file = over (file_of s index filter starts lengths arena) file })
          (λ m. record { answer = refuse m tt; file = file })

      go : (q : ℕ) → first_no (ask_write s (length index) (length filter) starts lengths (length arena) (length file)) ≡ q → (left q).answer ≡ accept n
          → WriteAsked × ((left q).file ≡ over (file_of s index filter starts lengths arena) file) × (file_size s lengths ≡ n)
      go zero f y = (write_asked f, refl, cc)
      go (suc q) f y = absurd (let z : ◌≡◌ {A = ℕ} 0 1 = cc in omega arith)

-- ---- a load

module _ (f : List ℕ) where
  pub record FileAsked : Type 0 where
    pub framed : frames_well 5 f ≡ true
    pub kinds : kinds_from 1 5 f ≡ true
    pub setting : setting_fits (setting_in f) ≡ true
    pub records : leb (records_in f) 1_048_576 ≡ true
    pub key_bytes : bytes_fit (records_in f) (field 7 f) ≡ true
    pub value_bytes : bytes_fit (records_in f) (field 8 f) ≡ true
    pub header_length : bytes_fit (records_in f) (field 9 f) ≡ true
    pub whole_words : length (content_of 1 f) % 8 ≡ 0
    pub some_segment : 8 ≤ length (content_of 1 f)
    pub few_segments : length (content_of 1 f) ≤ 2048
    pub adds_up : sum (segment_lengths f) ≡ length (content_of 4 f)

  -- the questions of 15, each answered yes
  pub record ContentAsked : Type 0 where
    pub counts_long : eqb (length (content_of 0 f)) 44 ≡ true
    pub expiry_flag : leb (field 0 f) 1 ≡ true
    pub packed_flag : leb (field 4 f) 1 ≡ true
    pub tick : tick_fits f ≡ true
    pub setting : setting_fits (setting_in f) ≡ true
    pub records : leb (records_in f) 1_048_576 ≡ true
    pub key_bytes : bytes_fit (records_in f) (field 7 f) ≡ true
    pub value_bytes : bytes_fit (records_in f) (field 8 f) ≡ true
    pub header_length : bytes_fit (records_in f) (field 9 f) ≡ true
    pub whole_words : eqb (length (content_of 1 f) % 8) 0 ≡ true
    pub some_segment : leb 8 (length (content_of 1 f)) ≡ true
    pub few_segments : leb (length (content_of 1 f)) 2048 ≡ true
    pub index : eqb (length (content_of 2 f)) (64 * buckets_of f) ≡ true
    pub filter : eqb (length (content_of 3 f)) (8 * filter_words_of f) ≡ true
    pub arena_short : leb (length (content_of 4 f)) 1_073_741_824 ≡ true
    pub adds_up : eqb (sum (segment_lengths f)) (length (content_of 4 f)) ≡ true

  pub content_asked : content_fits f ≡ true → ContentAsked
  unfolding content_fits
  content_asked e =
      let a₁ = both (eqb (length (content_of 0 f)) 44) _ e in
      let a₂ = both (leb (field 0 f) 1) _ a₁.1 in
      let a₃ = both (leb (field 4 f) 1) _ a₂.1 in
      let a₄ = both (tick_fits f) _ a₃.1 in
      let a₅ = both (setting_fits (setting_in f)) _ a₄.1 in
      let a₆ = both (leb (records_in f) 1_048_576) _ a₅.1 in
      let a₇ = both (bytes_fit (records_in f) (field 7 f)) _ a₆.1 in
      let a₈ = both (bytes_fit (records_in f) (field 8 f)) _ a₇.1 in
      let a₉ = both (bytes_fit (records_in f) (field 9 f)) _ a₈.1 in
      let b₁ = both (segment_count_fits (length (content_of 1 f))) _ a₉.1 in
      let b₂ = both (eqb (length (content_of 2 f)) (64 * buckets_of f)) _ b₁.1 in
      let b₃ = both (eqb (length (content_of 3 f)) (8 * filter_words_of f)) _ b₂.1 in
      let b₄ = both (leb (length (content_of 4 f)) 1_073_741_824) _ b₃.1 in
      let c₁ = both (eqb (length (content_of 1 f) % 8) 0) _ b₁.0 in
      let c₂ = both (leb 8 (length (content_of 1 f))) _ c₁.1 in
      record {
        counts_long = a₁.0;
        expiry_flag = a₂.0;
        packed_flag = a₃.0;
        tick = a₄.0;
        setting = a₅.0;
        records = a₆.0;
        key_bytes = a₇.0;
        value_bytes = a₈.0;
        header_length = a₉.0;
        whole_words = c₁.0;
        some_segment = c₂.0;
        few_segments = c₂.1;
        index = b₂.0;
        filter = b₃.0;
        arena_short = b₄.0;
        adds_up = b₄.1;
      }

  file_asked : frames_well 5 f ≡ true → kinds_from 1 5 f ≡ true → ContentAsked → FileAsked
  file_asked framed kinds c =
      record {
        framed = framed;
        kinds = kinds;
        setting = c.setting;
        records = c.records;
        key_bytes = c.key_bytes;
        value_bytes = c.value_bytes;
        header_length = c.header_length;
        whole_words = eqb-true _ _ c.whole_words;
        some_segment = leb-true _ _ c.some_segment;
        few_segments = leb-true _ _ c.few_segments;
        adds_up = eqb-true _ _ c.adds_up;
      }

  module _ (index filter starts lengths arena : List ℕ) where
    pub record LoadAsked : Type 0 where
      pub file : FileAsked
      pub index_holds : 8 * buckets_of f ≤ length index
      pub filter_holds : filter_words_of f ≤ length filter
      pub starts_hold : 256 ≤ length starts
      pub lengths_hold : 256 ≤ length lengths
      pub arena_held : length (content_of 4 f) ≤ length arena
      pub arena_short : length arena ≤ 1073741824

    load_asked : first_no (ask_load f (length index) (length filter) (length starts) (length lengths) (length arena)) ≡ 0 → LoadAsked
    unfolding ask_load ask_file load_areas_hold segment_areas_hold arena_holds
    load_asked e =
        let t = then (frames_well 5 f) 13 _ (omega arith) e in
        let u = then (kinds_from 1 5 f) 14 _ (omega arith) t.1 in
        let v = then (content_fits f) 15 _ (omega arith) u.1 in
        let w = then (load_areas_hold f (length index) (length filter) (length starts) (length lengths) (length arena)) 10 _ (omega arith) v.1 in
        let a = both (leb (8 * buckets_of f) (length index)) _ w.0 in
        let b = both (leb (filter_words_of f) (length filter)) _ a.1 in
        let c = both (segment_areas_hold (length starts) (length lengths)) _ b.1 in
        let d = both (leb 256 (length starts)) _ c.0 in
        let r = both (leb (length (content_of 4 f)) (length arena)) _ c.1 in
        record {
          file = file_asked t.0 u.0 (content_asked v.0);
          index_holds = leb-true _ _ a.0;
          filter_holds = leb-true _ _ b.0;
          starts_hold = leb-true _ _ d.0;
          lengths_hold = leb-true _ _ d.1;
          arena_held = leb-true _ _ r.0;
          arena_short = leb-true _ _ r.1;
        }

    abbrev pub load_made : Loaded
    load_made =
        record {
          answer = accept (file_set f);
          index = over (file_index f) index;
          filter = over (file_filter f) filter;
          starts = over (padded (starts_by 0 (segment_lengths f))) starts;
          lengths = over (padded (segment_lengths f)) lengths;
          arena = over (content_of 4 f) arena;
        }

    -- an accepted load: its questions, and what it leaves
    pub load_made_law : (s : FrozenSegmentCache) → (after_load f index filter starts lengths arena).answer ≡ accept s
        → LoadAsked × (after_load f index filter starts lengths arena ≡ load_made) × (file_set f ≡ s)
    unfolding after_load
    load_made_law s e = go (first_no (ask_load f (length index) (length filter) (length starts) (length lengths) (length arena))) refl e
      where
        left : ℕ → Loaded
        left q = decided q load_made (λ n. record { answer = refuse n tt; index = index; filter = filter; starts = starts; lengths = lengths; arena = arena })

        go : (q : ℕ) → first_no (ask_load f (length index) (length filter) (length starts) (length lengths) (length arena)) ≡ q → (left q).answer ≡ accept s
            → LoadAsked × (left q ≡ load_made) × (file_set f ≡ s)
        go zero g y = (load_asked g, refl, cc)
        go (suc q) g y = absurd (let z : ◌≡◌ {A = ℕ} 0 1 = cc in omega arith)
