-- The definitions run: a list of calls with writes and loads, computed. Each of the wrong programs of files that changes an answer of a list breaks one of
-- these equations. Assumes nothing.
use Rattle.std.specs.Prelude.{None, Some}
use mathlib.Core.Path.{◌≡◌, refl}
use mathlib.Core.Bool.{Bool, true, false}
use mathlib.Core.List.{List, [], ◌∷◌, flat_map, map}
use Prim.Native.Nat.{ℕ, ◌^◌}
use lib.ListN.{replicate, take}
use Rattle.hash_parts.specs.Duration as duration
use Rattle.hash_parts.specs.Hash as hash
use Rattle.hash_parts.specs.Setting.{without_expiry}
use Rattle.hash_parts.specs.ZeroBytes as bytes
use Rattle.hash_parts.specs.declared.setting.SegmentCacheConfig.{SegmentCacheConfig}
use Rattle.hash_parts.specs.declared.setting.SegmentExpiry.{SegmentExpiry}
use Rattle.hash_parts.specs.declared.setting.SegmentExpiry.TheVariants as setting
use Rattle.records.specs.Area as area
use Rattle.records.specs.Record as stored
use Rattle.records.specs.Uleb128 as uleb
use Rattle.records.specs.Varint as varint
use Rattle.index.specs.Build as slots
use Rattle.index.specs.Filter as filters
use Rattle.index.specs.Find as find
use Rattle.index.specs.Packed as packing
use Rattle.index.specs.Segments as cuts
use Rattle.index.specs.Slot as slot
use Rattle.index.specs.View as view
use Rattle.index.specs.Walk as walks
use Rattle.sets.specs.Build as builds
use Rattle.sets.specs.Kept as kept
use Rattle.sets.specs.Lookup as asks
use Rattle.sets.specs.Questions as questions
use Rattle.sets.specs.Rebuild as rebuilds
use Rattle.files.specs.Blocks as blocks
use Rattle.files.specs.Contents as contents
use Rattle.files.specs.Load as loading
use Rattle.files.specs.Write as writing
use Rattle.book.specs.Book as books
use Rattle.book.specs.Book.{ListedSet, blank, book_after, replies}
use Rattle.book.specs.Calls.{Call, opening, push, finish, lookup, reopen, reuse, copy, refinish, write, load, Answer, value, nothing, absent}
use Rattle.book.specs.World.{FinishedSet, unopened, world_after, told, answers}

-- one record to a bucket, eight filter bits to a record
abbrev config : SegmentExpiry → Bool → SegmentCacheConfig
config expiry packed = record { expiry = expiry; target_occupied_slots = 1; packed_bucket_index = packed; negative_filter_bits_per_entry = 8 }

-- areas and an arena of arbitrary content
abbrev begin : SegmentExpiry → Bool → Call (List ℕ) ℕ
begin expiry packed = opening (config expiry packed) 2 (replicate 40 8) (replicate 17 7) (replicate 2 9) (replicate 257 5) (replicate 256 5)

abbrev taking : ℕ → Call (List ℕ) ℕ
taking i = load i (replicate 30 6) (replicate 17 3) (replicate 1 4) (replicate 256 2) (replicate 257 1)

-- Two segments, ticks of one second; written, once in an area too short. Another open, with expiry off, whose world has no set; a load of no file and one of the
-- file. The loaded set is rebuilt: its first segment is dropped, a record reused, one copied. That set and then the older one are written, and each is loaded,
-- and the first file once more.
abbrev calls : Bool → List (Call (List ℕ) ℕ)
calls packed =
    begin (setting.Relative16 record { secs = 1; nanos = 0 }) packed
    ∷ push (2 ∷ []) [] (2 ^ 63) None
    ∷ push (1 ∷ []) (65 ∷ 66 ∷ []) 3 (Some record { secs = 9; nanos = 500_000_000 })
    ∷ finish 5 (1 ∷ 2 ∷ 3 ∷ [])
    ∷ lookup 0 (1 ∷ []) 3 9
    ∷ write 0 (replicate 237 0)
    ∷ write 0 (replicate 239 0)
    ∷ write 1 (replicate 239 0)
    ∷ begin setting.None packed
    ∷ lookup 0 (1 ∷ []) 3 9
    ∷ taking 1
    ∷ taking 0
    ∷ lookup 0 (1 ∷ []) 3 9
    ∷ lookup 0 (1 ∷ []) 3 10
    ∷ lookup 0 (2 ∷ []) (2 ^ 63) 0
    ∷ reopen 2 1 (0 ∷ 1 ∷ []) 5 (replicate 17 7) (replicate 2 9) (replicate 257 5) (replicate 256 5)
    ∷ reuse (1 ∷ []) (65 ∷ 66 ∷ []) 3 (2 ^ 32) 4
    ∷ copy (4 ∷ []) (68 ∷ []) 6 (Some record { secs = 1; nanos = 0 })
    ∷ refinish (1 ∷ 2 ∷ 3 ∷ [])
    ∷ write 1 (replicate 300 0)
    ∷ write 0 (replicate 300 0)
    ∷ taking 1
    ∷ lookup 0 (1 ∷ []) 3 9
    ∷ lookup 0 (1 ∷ []) 3 10
    ∷ lookup 0 (2 ∷ []) (2 ^ 63) 0
    ∷ lookup 0 (4 ∷ []) 6 5
    ∷ lookup 0 (4 ∷ []) 6 6
    ∷ lookup 1 (4 ∷ []) 6 6
    ∷ taking 2
    ∷ lookup 0 (2 ∷ []) (2 ^ 63) 0
    ∷ taking 0
    ∷ lookup 0 (2 ∷ []) (2 ^ 63) 0
    ∷ []

run : Bool → List Answer
run packed = answers (unopened []) (calls packed)

by_book : Bool → List Answer
by_book packed = replies (blank without_expiry) (told (unopened []) (calls packed))

accepted : Bool → List Bool
accepted packed = map (λ c. c.1) (told (unopened []) (calls packed))

abbrev expected : List Answer
expected =
    value (65 ∷ 66 ∷ [])
    ∷ absent
    ∷ value (65 ∷ 66 ∷ [])
    ∷ nothing
    ∷ value []
    ∷ value (65 ∷ 66 ∷ [])
    ∷ nothing
    ∷ nothing
    ∷ value (68 ∷ [])
    ∷ nothing
    ∷ absent
    ∷ value []
    ∷ value []
    ∷ []

trials : (run false ≡ expected)
    × (run true ≡ expected)
    × (by_book false ≡ expected)
    × (by_book true ≡ expected)
    × (accepted true
    ≡ true ∷ true ∷ true ∷ true ∷ true ∷ false ∷ true ∷ false ∷ true ∷ false ∷ false ∷ true ∷ true ∷ true ∷ true ∷ true
    ∷ true ∷ true ∷ true ∷ true ∷ true ∷ true ∷ true ∷ true ∷ true ∷ true ∷ true ∷ false ∷ true ∷ true ∷ true ∷ true ∷ [])
    × (map (λ (s : FinishedSet). take s.cache.segments s.areas.starts) (world_after (unopened []) (calls false)).sets ≡ (0 ∷ 5 ∷ []) ∷ [])
    × (map (λ (l : ListedSet). l.starts) (book_after (blank without_expiry) (told (unopened []) (calls false))).sets ≡ (0 ∷ 5 ∷ []) ∷ [])
unfolding run by_book accepted
    duration.deadline_at duration.encoded_expiry duration.lives_at
    hash.first_bucket hash.rotated hash.mixed_hash
    bytes.bytes_of bytes.number_of
    area.spanned area.same_bytes
    stored.record_bytes stored.record_size stored.record_of stored.record_at stored.stored_at
    uleb.uleb_in uleb.uleb128 uleb.decode
    varint.read_varint
    slots.buckets_for slots.cleared slots.build_record slots.holds_key slots.looks slots.searched slots.searched_all slots.slot_for
    filters.bit_past filters.filter_word filters.filter_mask filters.filter_marked filters.displaced filters.displaced_marked filters.filter_has
    find.slot_at find.looks_from find.scan find.sweep find.has_empty find.found find.find_in
    packing.words_of packing.word_bytes flat_map packing.control_word packing.reference_words packing.packed packing.packed_index
    packing.packed_scratch packing.packed_slot packing.packed_slots_of packing.packed_bucket packing.with_byte
    cuts.next_start cuts.start_after cuts.starts_after cuts.starts_of cuts.lengths_of cuts.segment_of cuts.split_word cuts.padded cuts.all_inside
    cuts.locations_inside
    slot.word_slot
    view.in_segment view.record_in
    walks.buckets_of walks.up_from
    builds.builder_fits builds.areas_hold_builder builds.after_open builds.ask_push builds.after_push builds.ask_finish builds.after_finish
    asks.set_fits asks.areas_hold_set asks.areas_hold_lookup asks.ask_lookup asks.slot_marked asks.live_value asks.live_marked asks.after_get
    kept.bits_of kept.kept_flags kept.is_kept kept.retained kept.new_number kept.kept_count kept.flag_word kept.chosen
    rebuilds.segments_inside rebuilds.areas_hold_source rebuilds.rebuild_fits rebuilds.areas_hold_rebuild rebuilds.ask_rebuild_open rebuilds.after_rebuild_open
    rebuilds.holds_record rebuilds.ask_reused rebuilds.after_reused rebuilds.ask_copied rebuilds.after_copied rebuilds.ask_rebuild_finish rebuilds.adds_segment
    rebuilds.sum_of rebuilds.after_rebuild_finish
    questions.nanoseconds_fit questions.lifetime_fits questions.occupancy_fits questions.tick_runs questions.setting_fits questions.counts_fit questions.arena_holds
    questions.segment_areas_hold questions.target_fits questions.scratch_holds questions.open_areas_hold questions.ask_open
    books.starts_from books.book_starts books.kept_by books.prefix_bytes books.same_key books.little_endian books.kind_content books.numbers_in books.running_sums
    blocks.is_whole blocks.frames_well blocks.kinds_from blocks.content_of
    contents.numbers_in contents.bytes_for contents.starts_by contents.unmarked_index contents.content_fits contents.ask_file
    loading.load_areas_hold loading.ask_load loading.after_load
    writing.count_numbers writing.count_bytes writing.segment_bytes writing.file_of writing.ask_write writing.after_write
trials = (refl, refl, refl, refl, refl, refl, refl)
