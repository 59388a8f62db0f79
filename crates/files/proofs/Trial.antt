-- The definitions run: the example of a finished set as a file. Assumes nothing.
use mathlib.Core.Path.{◌≡◌, refl}
use mathlib.Core.Bool.{true, false}
use mathlib.Core.List.{List, [], ◌∷◌, ◌++◌, flat_map}
use Prim.Native.Nat.{ℕ}
use lib.ListN.{replicate, take, set}
use Rattle.hash_parts.specs.declared.setting.SegmentExpiry.TheVariants.{None, Relative16}
use Rattle.records.specs.Area.{part}
use Rattle.sets.specs.Answers.{accept, refuse}
use Rattle.sets.specs.Questions.{first_no}
use Rattle.sets.specs.declared.cache.FrozenSegmentCache.{FrozenSegmentCache}
use Rattle.files.specs.Contents.{ask_file}
use Rattle.files.specs.Load.{Loaded, after_load, ask_load}
use Rattle.files.specs.Write.{FileWritten, after_write}
use Rattle.hash_parts.specs.ZeroBytes as bytes
use Rattle.index.specs.Build as slots
use Rattle.index.specs.Packed as packing
use Rattle.index.specs.Segments as cuts
use Rattle.index.specs.Walk as walk
use Rattle.sets.specs.Lookup as asks
use Rattle.sets.specs.Questions as questions
use Rattle.sets.specs.Rebuild as rebuilds
use Rattle.files.specs.Blocks as blocks
use Rattle.files.specs.Contents as contents
use Rattle.files.specs.Load as load
use Rattle.files.specs.Write as write

abbrev example : FrozenSegmentCache
example =
    record {
      config = record { expiry = Relative16 record { secs = 1; nanos = 0 }; target_occupied_slots = 7; packed_bucket_index = true; negative_filter_bits_per_entry = 0 };
      entries = 2;
      buckets = 1;
      filter_words = 0;
      segments = 1;
      filled = 12;
      record_bytes = 12;
      logical_key_bytes = 2;
      logical_value_bytes = 2;
      record_header_bytes = 8;
    }

abbrev arena : List ℕ
arena = 1 ∷ 2 ∷ 10 ∷ 0 ∷ 97 ∷ 65 ∷ 66 ∷ 1 ∷ 0 ∷ 255 ∷ 255 ∷ 98 ∷ []

abbrev lengths : List ℕ
lengths = 12 ∷ replicate 255 0

abbrev file : List ℕ
file =
    44 ∷ 0 ∷ 0 ∷ 0 ∷ 1 ∷ 0
    ∷ 1 ∷ 1 ∷ 0 ∷ 0 ∷ 0 ∷ 0 ∷ 0 ∷ 0 ∷ 0 ∷ 0 ∷ 0 ∷ 0 ∷ 0 ∷ 7 ∷ 1 ∷ 0 ∷ 2 ∷ 0 ∷ 0 ∷ 0
    ∷ 2 ∷ 0 ∷ 0 ∷ 0 ∷ 0 ∷ 0 ∷ 0 ∷ 0 ∷ 2 ∷ 0 ∷ 0 ∷ 0 ∷ 0 ∷ 0 ∷ 0 ∷ 0 ∷ 8 ∷ 0 ∷ 0 ∷ 0 ∷ 0 ∷ 0 ∷ 0 ∷ 0
    ∷ 8 ∷ 0 ∷ 0 ∷ 0 ∷ 2 ∷ 0 ∷ 12 ∷ 0 ∷ 0 ∷ 0 ∷ 0 ∷ 0 ∷ 0 ∷ 0
    ∷ 64 ∷ 0 ∷ 0 ∷ 0 ∷ 3 ∷ 0 ∷ 1 ∷ 1 ∷ 0 ∷ 0 ∷ 0 ∷ 0 ∷ 0 ∷ 0 ∷ 0 ∷ 0 ∷ 1 ∷ 0 ∷ 0 ∷ 0 ∷ 0 ∷ 0 ∷ 0 ∷ 8 ∷ 0 ∷ 0 ∷ 0 ∷ 0 ∷ 0 ∷ 0
    ∷ 0 ∷ 0 ∷ 0 ∷ 0 ∷ 0 ∷ 0 ∷ 0 ∷ 0 ∷ 0 ∷ 0 ∷ 0 ∷ 0 ∷ 0 ∷ 0 ∷ 0 ∷ 0 ∷ 0 ∷ 0 ∷ 0 ∷ 0 ∷ 0 ∷ 0 ∷ 0 ∷ 0 ∷ 0 ∷ 0 ∷ 0 ∷ 0 ∷ 0 ∷ 0 ∷ 0 ∷ 0 ∷ 0 ∷ 0 ∷ 0 ∷ 0 ∷ 0 ∷ 0 ∷ 0 ∷ 0
    ∷ 0 ∷ 0 ∷ 0 ∷ 0 ∷ 4 ∷ 0
    ∷ 12 ∷ 0 ∷ 0 ∷ 0 ∷ 5 ∷ 0 ∷ 1 ∷ 2 ∷ 10 ∷ 0 ∷ 97 ∷ 65 ∷ 66 ∷ 1 ∷ 0 ∷ 255 ∷ 255 ∷ 98
    ∷ []

abbrev loaded : List ℕ → Loaded
loaded f = after_load f (replicate 9 5) [] (replicate 257 5) (replicate 256 5) (replicate 13 5)

-- a rebuilt set in the layout of words, its third word marked, with no expiry; its segments begin behind dropped bytes
abbrev rebuilt_arena : List ℕ
rebuilt_arena = 1 ∷ 1 ∷ 97 ∷ 49 ∷ 9 ∷ 9 ∷ 1 ∷ 1 ∷ 98 ∷ 50 ∷ 1 ∷ 1 ∷ 99 ∷ 51 ∷ 1 ∷ 1 ∷ 100 ∷ 52 ∷ []

abbrev written_in : ℕ → List ℕ → FileWritten
written_in filled lengths =
    after_write
    (record {
      config = record { expiry = None; target_occupied_slots = 7; packed_bucket_index = false; negative_filter_bits_per_entry = 8 };
      entries = 3;
      buckets = 1;
      filter_words = 1;
      segments = 3;
      filled = filled;
      record_bytes = 12;
      logical_key_bytes = 3;
      logical_value_bytes = 4;
      record_header_bytes = 6;
    })
    (1 ∷ 4_294_967_297 ∷ 9_223_372_045_444_710_401 ∷ replicate 5 0) (7 ∷ []) (6 ∷ 10 ∷ 14 ∷ replicate 253 0) (lengths ++ replicate 253 0) rebuilt_arena
    (replicate 183 0)

abbrev rebuilt_file : List ℕ
rebuilt_file = (written_in 18 (4 ∷ 4 ∷ 4 ∷ [])).file

pub rebuilt_trials :
    ((written_in 18 (4 ∷ 4 ∷ 4 ∷ [])).answer ≡ accept 182)
    × (part 0 50 rebuilt_file
    ≡ 44 ∷ 0 ∷ 0 ∷ 0 ∷ 1 ∷ 0 ∷ replicate 13 0 ++ (7 ∷ 0 ∷ 8 ∷ 3 ∷ 0 ∷ 0 ∷ 0 ∷ 3 ∷ replicate 7 0 ++ (4 ∷ replicate 7 0 ++ (6 ∷ replicate 7 0))))
    × (part 80 30 rebuilt_file ≡ 64 ∷ 0 ∷ 0 ∷ 0 ∷ 3 ∷ 0 ∷ 1 ∷ replicate 7 0 ++ (1 ∷ 0 ∷ 0 ∷ 0 ∷ 1 ∷ 0 ∷ 0 ∷ 0 ∷ 1 ∷ 0 ∷ 0 ∷ 0 ∷ 2 ∷ 0 ∷ 0 ∷ 0 ∷ []))
    × (part 164 18 rebuilt_file ≡ 12 ∷ 0 ∷ 0 ∷ 0 ∷ 5 ∷ 0 ∷ 1 ∷ 1 ∷ 98 ∷ 50 ∷ 1 ∷ 1 ∷ 99 ∷ 51 ∷ 1 ∷ 1 ∷ 100 ∷ 52 ∷ [])
    × ((written_in 17 (4 ∷ 4 ∷ 4 ∷ [])).answer ≡ refuse 11 tt)
    × ((written_in 18 (4 ∷ 4 ∷ 5 ∷ [])).answer ≡ refuse 11 tt)
unfolding bytes.bytes_of
    slots.buckets_for
    bytes.number_of packing.words_of packing.word_bytes
    flat_map cuts.padded walk.up_from
    asks.set_fits asks.areas_hold_set asks.areas_hold_lookup
    questions.nanoseconds_fit questions.occupancy_fits questions.tick_runs questions.setting_fits questions.counts_fit questions.arena_holds questions.segment_areas_hold
    rebuilds.segments_inside rebuilds.sum_of
    blocks.is_whole blocks.frames_well blocks.kinds_from blocks.content_of
    contents.numbers_in contents.bytes_for contents.starts_by contents.unmarked_index contents.content_fits contents.ask_file
    load.load_areas_hold load.ask_load load.after_load
    write.count_numbers write.count_bytes write.segment_bytes write.file_of write.ask_write write.after_write
rebuilt_trials = (refl, refl, refl, refl, refl, refl)

pub trials :
    (after_write example (33153 ∷ 65536 ∷ 2048 ∷ 0 ∷ 0 ∷ 0 ∷ 0 ∷ 0 ∷ []) [] (replicate 256 0) lengths arena (replicate 160 7) ≡ record { answer = accept 158; file = file ++ (7 ∷ 7 ∷ []) })
    × ((after_write example (33153 ∷ 65536 ∷ 2048 ∷ 0 ∷ 0 ∷ 0 ∷ 0 ∷ 0 ∷ []) [] (replicate 256 0) lengths arena (replicate 157 7)).answer ≡ refuse 10 tt)
    × (loaded file ≡ record {
      answer = accept example;
      index = 257 ∷ 65536 ∷ 2048 ∷ 0 ∷ 0 ∷ 0 ∷ 0 ∷ 0 ∷ 5 ∷ [];
      filter = [];
      starts = replicate 256 0 ++ (5
          ∷ []);
      lengths = lengths;
      arena = arena ++ (5 ∷ []);
    })
    × (first_no (ask_file []) ≡ 14)
    × (first_no (ask_file (take 157 file)) ≡ 13)
    × (first_no (ask_file (file ++ (0 ∷ []))) ≡ 13)
    × (first_no (ask_file (take 157 (set file 54 7))) ≡ 13)
    × (first_no (ask_file (set file 54 7)) ≡ 14)
    × (first_no (ask_file (set file 6 0)) ≡ 15)
    × (first_no (ask_file (set file 56 13)) ≡ 15)
    × (first_no (ask_file (set file 22 3)) ≡ 0)
    × (loaded (set file 70 129) ≡ loaded file)
    × (first_no (ask_load file 7 0 256 256 12) ≡ 10)
    × (first_no (ask_load file 8 0 255 256 12) ≡ 10)
    × (first_no (ask_load file 8 0 256 255 12) ≡ 10)
    × (first_no (ask_load file 8 0 256 256 11) ≡ 10)
    × (first_no (ask_load file 8 0 256 256 1_073_741_825) ≡ 10)
    × (first_no (ask_load (set file 54 7) 8 0 256 256 11) ≡ 14)
unfolding bytes.bytes_of
    slots.buckets_for
    bytes.number_of packing.words_of packing.word_bytes
    flat_map cuts.padded walk.up_from
    asks.set_fits asks.areas_hold_set asks.areas_hold_lookup
    questions.nanoseconds_fit questions.occupancy_fits questions.tick_runs questions.setting_fits questions.counts_fit questions.arena_holds questions.segment_areas_hold
    rebuilds.segments_inside rebuilds.sum_of
    blocks.is_whole blocks.frames_well blocks.kinds_from blocks.content_of
    contents.numbers_in contents.bytes_for contents.starts_by contents.unmarked_index contents.content_fits contents.ask_file
    load.load_areas_hold load.ask_load load.after_load
    write.count_numbers write.count_bytes write.segment_bytes write.file_of write.ask_write write.after_write
trials = (refl, refl, refl, refl, refl, refl, refl, refl, refl, refl, refl, refl, refl, refl, refl, refl, refl, refl)
