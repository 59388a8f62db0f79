-- The definitions run: lists of calls, from nothing on, computed. Each of the must-fail edits that changes an answer of a list breaks one of these equations.
-- Assumes nothing.
use Rattle.std.specs.Prelude.{None, Some}
use mathlib.Core.Path.{◌≡◌, refl}
use mathlib.Core.Bool.{Bool, true, false}
use mathlib.Core.List.{List, [], ◌∷◌, ◌++◌, flat_map, map}
use Prim.Native.Nat.{ℕ, ◌+◌, ◌^◌}
use lib.ListN.{replicate, take}
use Rattle.hash_parts.specs.Duration as duration
use Rattle.hash_parts.specs.Hash as hash
use Rattle.hash_parts.specs.Setting.{without_expiry, with_relative_expiry}
use Rattle.hash_parts.specs.ZeroBytes as bytes
use Rattle.hash_parts.specs.declared.setting.SegmentCacheConfig.{SegmentCacheConfig}
use Rattle.hash_parts.specs.declared.setting.SegmentExpiry.TheVariants.{Relative16}
use Rattle.records.specs.Area as area
use Rattle.records.specs.Record as stored
use Rattle.records.specs.Uleb128 as uleb
use Rattle.records.specs.Varint as varint
use Rattle.index.specs.Build as slots
use Rattle.index.specs.Filter as filters
use Rattle.index.specs.Find as find
use Rattle.index.specs.Packed as packing
use Rattle.index.specs.Segments as cuts
use Rattle.index.specs.Slot as slot
use Rattle.index.specs.View as view
use Rattle.index.specs.Walk as walks
use Rattle.sets.specs.Build as builds
use Rattle.sets.specs.Kept as kept
use Rattle.sets.specs.Lookup as asks
use Rattle.sets.specs.Questions as questions
use Rattle.sets.specs.Rebuild as rebuilds
use Rattle.book.specs.Book as books
use Rattle.book.specs.Book.{ListedSet, blank, book_after, replies}
use Rattle.book.specs.Calls.{Call, opening, push, finish, lookup, peek, clear, probe, walk, stats, reopen, reuse, copy, refinish, Answer, value, nothing, absent}
use Rattle.book.specs.World.{Areas, FinishedSet, World, unopened, world_after, told, answers}

-- ---- what is computed of a list, from nothing on

run : List (Call (List ℕ) ℕ) → List Answer
run calls = answers (unopened []) calls

-- the book before the first open has another setting than the list then opens with
by_book : List (Call (List ℕ) ℕ) → List Answer
by_book calls = replies (blank without_expiry) (told (unopened []) calls)

-- whether each was accepted
accepted : List (Call (List ℕ) ℕ) → List Bool
accepted calls = map (λ c. c.1) (told (unopened []) calls)

-- the starts of each set's segments
starts : List (Call (List ℕ) ℕ) → List (List ℕ)
starts calls = map (λ (s : FinishedSet). take s.cache.segments s.areas.starts) (world_after (unopened []) calls).sets

book_starts : List (Call (List ℕ) ℕ) → List (List ℕ)
book_starts calls = map (λ (l : ListedSet). l.starts) (book_after (blank without_expiry) (told (unopened []) calls)).sets

-- ---- opens

-- areas of arbitrary content
abbrev areas : Areas
areas = record { index = replicate 26 7; filter = replicate 4 9; starts = replicate 257 5; lengths = replicate 256 5 }

-- ticks of one second, so many records to a bucket, eight filter bits to a record
abbrev setting : ℕ → Bool → SegmentCacheConfig
setting occupancy packed =
    record { expiry = Relative16 record { secs = 1; nanos = 0 }; target_occupied_slots = occupancy; packed_bucket_index = packed; negative_filter_bits_per_entry = 8 }

-- in an arena of arbitrary content
abbrev opens : SegmentCacheConfig → ℕ → Call (List ℕ) ℕ
opens config records = opening config records (replicate 40 8) areas.index areas.filter areas.starts areas.lengths

-- a rebuild of the newest set
abbrev reopens : ℕ → ℕ → List ℕ → ℕ → Call (List ℕ) ℕ
reopens records copied flags tick = reopen records copied flags tick areas.index areas.filter areas.starts areas.lengths

-- ---- a build, in both layouts

-- An open that is refused, and one for three records, of which one has an empty key; a key twice, a finish too early, a fourth record, a target of 0. Then
-- lookups, a peek, a clearing, calls out of turn, a probe with another hash than its key has elsewhere, a step of the walk, statistics, and those of a set that
-- there is not.
abbrev build_calls : Bool → List (Call (List ℕ) ℕ)
build_calls packed =
    opens (setting 0 packed) 3
    ∷ opens (setting 1 packed) 3
    ∷ push (1 ∷ []) (65 ∷ 66 ∷ []) 3 (Some record { secs = 9; nanos = 500_000_000 })
    ∷ push (1 ∷ []) (67 ∷ []) 3 None
    ∷ push [] [] (2 ^ 63) None
    ∷ finish 8 (1 ∷ 2 ∷ 3 ∷ 4 ∷ [])
    ∷ push (3 ∷ []) (68 ∷ []) 5 (Some record { secs = 0; nanos = 0 })
    ∷ push (4 ∷ []) [] 6 None
    ∷ finish 0 (1 ∷ 2 ∷ 3 ∷ 4 ∷ [])
    ∷ lookup 0 (1 ∷ []) 3 9
    ∷ finish 8 (1 ∷ 2 ∷ 3 ∷ 4 ∷ [])
    ∷ lookup 0 (1 ∷ []) 3 9
    ∷ lookup 0 (1 ∷ []) 3 10
    ∷ lookup 0 [] (2 ^ 63) 70000
    ∷ lookup 0 (3 ∷ []) 5 0
    ∷ lookup 0 (9 ∷ []) 3 0
    ∷ clear 0 (1 ∷ []) 3
    ∷ peek 0 (1 ∷ []) 3 0
    ∷ push (4 ∷ []) [] 6 None
    ∷ lookup 1 (1 ∷ []) 3 0
    ∷ probe 0 (9 ∷ []) 4 0
    ∷ walk 0 0 0
    ∷ stats 0
    ∷ stats 1
    ∷ []

abbrev build_answers : List Answer
build_answers = absent ∷ value (65 ∷ 66 ∷ []) ∷ nothing ∷ value [] ∷ nothing ∷ nothing ∷ value (65 ∷ 66 ∷ []) ∷ absent ∷ []

-- ---- rebuilds, in both layouts

-- Two segments. A rebuild that is ended; then one that drops the first segment: flags of the wrong number, a record of the dropped segment, another value,
-- a record reused, its key again as a copy, a copy that lapses, one too many; lookups in the new set and in both segments of the old. Then a rebuild that keeps
-- all, reuses two records, copies nothing.
abbrev rebuild_calls : Bool → List (Call (List ℕ) ℕ)
rebuild_calls packed =
    opens (setting 1 packed) 2
    ∷ push (2 ∷ []) [] (2 ^ 63) None
    ∷ reopens 1 0 [] 0
    ∷ push (1 ∷ []) (65 ∷ 66 ∷ []) 3 (Some record { secs = 9; nanos = 500_000_000 })
    ∷ finish 5 (1 ∷ 2 ∷ 3 ∷ [])
    ∷ reopens 1 1 (1 ∷ 1 ∷ []) 3
    ∷ copy (9 ∷ []) [] 7 None
    ∷ reopens 3 1 (0 ∷ 4 ∷ []) 5
    ∷ reopens 3 1 (1 ∷ []) 5
    ∷ reuse (2 ∷ []) [] (2 ^ 63) 0 4
    ∷ reuse (1 ∷ []) (65 ∷ 67 ∷ []) 3 (2 ^ 32) 4
    ∷ reuse (1 ∷ []) (65 ∷ 66 ∷ []) 3 (2 ^ 32) 4
    ∷ copy (1 ∷ []) (67 ∷ []) 3 None
    ∷ refinish (1 ∷ 2 ∷ 3 ∷ [])
    ∷ copy (4 ∷ []) (68 ∷ []) 6 (Some record { secs = 1; nanos = 0 })
    ∷ copy (5 ∷ []) [] 8 None
    ∷ refinish (1 ∷ 2 ∷ 3 ∷ [])
    ∷ lookup 1 (1 ∷ []) 3 9
    ∷ lookup 1 (1 ∷ []) 3 10
    ∷ lookup 1 (4 ∷ []) 6 5
    ∷ lookup 1 (4 ∷ []) 6 6
    ∷ lookup 1 (2 ∷ []) (2 ^ 63) 0
    ∷ lookup 1 (9 ∷ []) 7 0
    ∷ lookup 0 (2 ∷ []) (2 ^ 63) 0
    ∷ lookup 0 (1 ∷ []) 3 9
    ∷ reopens 2 0 (1 ∷ 1 ∷ []) 0
    ∷ reuse (4 ∷ []) (68 ∷ []) 6 (2 ^ 32 + 6) 4
    ∷ reuse (1 ∷ []) (65 ∷ 66 ∷ []) 3 0 4
    ∷ refinish (1 ∷ 2 ∷ 3 ∷ [])
    ∷ lookup 2 (4 ∷ []) 6 5
    ∷ lookup 2 (4 ∷ []) 6 6
    ∷ lookup 2 (1 ∷ []) 3 0
    ∷ []

abbrev rebuild_answers : List Answer
rebuild_answers =
    value (65 ∷ 66 ∷ [])
    ∷ nothing
    ∷ value (68 ∷ [])
    ∷ nothing
    ∷ nothing
    ∷ nothing
    ∷ value []
    ∷ value (65 ∷ 66 ∷ [])
    ∷ value (68 ∷ [])
    ∷ nothing
    ∷ value (65 ∷ 66 ∷ [])
    ∷ []

-- ---- the filter, in both layouts

-- Two records of one hash. In a rebuild of 17 records, seven to a bucket, the first is reused sixteen times and fills two buckets; the second then stands in the
-- third, and a lookup of it goes on after its second bucket only by the mark in the filter.
abbrev displaced_calls : Bool → List (Call (List ℕ) ℕ)
displaced_calls packed =
    (opens (setting 7 packed) 2 ∷ push (1 ∷ []) [] 0 None ∷ push (2 ∷ []) (65 ∷ []) 0 None ∷ finish 4096 (1 ∷ []) ∷ reopens 17 0 (1 ∷ []) 0 ∷ [])
    ++ (replicate 16 (reuse (1 ∷ []) [] 0 0 4)
    ++ (reuse (2 ∷ []) (65 ∷ []) 0 5 4 ∷ refinish (1 ∷ 2 ∷ 3 ∷ []) ∷ lookup 1 (2 ∷ []) 0 0 ∷ lookup 1 (3 ∷ []) 0 0 ∷ []))

abbrev displaced_answers : List Answer
displaced_answers = value (65 ∷ []) ∷ nothing ∷ []

-- ---- the worked example: two records, packed, ticks of one second; before it another line of sets, which its open ends

abbrev example_calls : List (Call (List ℕ) ℕ)
example_calls =
    opens (setting 1 false) 1
    ∷ push (0x61 ∷ []) [] 1 None
    ∷ finish 1 []
    ∷ opening (with_relative_expiry record { secs = 1; nanos = 0 }) 2 (replicate 20 0) areas.index areas.filter areas.starts areas.lengths
    ∷ push (0x61 ∷ []) (0x41 ∷ 0x42 ∷ []) 1 (Some record { secs = 9; nanos = 500_000_000 })
    ∷ push (0x62 ∷ []) [] 2 None
    ∷ finish 4096 (0 ∷ [])
    ∷ lookup 0 (0x61 ∷ []) 1 9
    ∷ lookup 0 (0x61 ∷ []) 1 10
    ∷ lookup 0 (0x62 ∷ []) 2 70000
    ∷ []

example : World
example = world_after (unopened []) example_calls

-- the index of the first finished set
first_index : List FinishedSet → List ℕ
first_index [] = []
first_index (s ∷ l) = s.areas.index

-- ---- what comes out

trials : (run (build_calls false) ≡ build_answers)
    × (run (build_calls true) ≡ build_answers)
    × (by_book (build_calls false) ≡ build_answers)
    × (by_book (build_calls true) ≡ build_answers)
    × (accepted (build_calls true)
    ≡ false ∷ true ∷ true ∷ false ∷ true ∷ false ∷ true ∷ false ∷ false ∷ false ∷ true ∷ true
    ∷ true ∷ true ∷ true ∷ true ∷ true ∷ true ∷ false ∷ false ∷ true ∷ true ∷ true ∷ false ∷ [])
    × (starts (build_calls false) ≡ (0 ∷ 11 ∷ []) ∷ [])
    × (book_starts (build_calls false) ≡ (0 ∷ 11 ∷ []) ∷ [])
    × (run (rebuild_calls false) ≡ rebuild_answers)
    × (run (rebuild_calls true) ≡ rebuild_answers)
    × (by_book (rebuild_calls false) ≡ rebuild_answers)
    × (by_book (rebuild_calls true) ≡ rebuild_answers)
    × (accepted (rebuild_calls true)
    ≡ true ∷ true ∷ false ∷ true ∷ true ∷ true ∷ true ∷ true ∷ false ∷ false ∷ false ∷ true ∷ true ∷ false ∷ true ∷ false ∷ true
    ∷ true ∷ true ∷ true ∷ true ∷ true ∷ true ∷ true ∷ true ∷ true ∷ true ∷ true ∷ true ∷ true ∷ true ∷ true ∷ [])
    × (starts (rebuild_calls false) ≡ (0 ∷ 5 ∷ []) ∷ (5 ∷ 12 ∷ []) ∷ (5 ∷ 12 ∷ []) ∷ [])
    × (book_starts (rebuild_calls false) ≡ (0 ∷ 5 ∷ []) ∷ (5 ∷ 12 ∷ []) ∷ (5 ∷ 12 ∷ []) ∷ [])
    × (run (displaced_calls false) ≡ displaced_answers)
    × (run (displaced_calls true) ≡ displaced_answers)
    × (by_book (displaced_calls true) ≡ displaced_answers)
    × (run example_calls ≡ value (0x41 ∷ 0x42 ∷ []) ∷ nothing ∷ value [] ∷ [])
    × (by_book example_calls ≡ value (0x41 ∷ 0x42 ∷ []) ∷ nothing ∷ value [] ∷ [])
    × (take 12 example.arena ≡ 0x01 ∷ 0x02 ∷ 0x0a ∷ 0x00 ∷ 0x61 ∷ 0x41 ∷ 0x42 ∷ 0x01 ∷ 0x00 ∷ 0xff ∷ 0xff ∷ 0x62 ∷ [])
    × (take 3 (first_index example.sets) ≡ 0x8181 ∷ 0x10000 ∷ 0x800 ∷ [])
unfolding run by_book accepted starts book_starts example first_index
    duration.deadline_at duration.encoded_expiry duration.lives_at
    hash.first_bucket hash.rotated hash.mixed_hash
    bytes.bytes_of bytes.number_of
    area.spanned area.same_bytes
    stored.record_bytes stored.record_size stored.record_of stored.record_at stored.stored_at
    uleb.uleb_in uleb.uleb128 uleb.decode
    varint.read_varint
    slots.buckets_for slots.cleared slots.build_record slots.holds_key slots.looks slots.searched slots.searched_all slots.slot_for
    filters.bit_past filters.filter_word filters.filter_mask filters.filter_marked filters.displaced filters.displaced_marked filters.filter_has
    find.slot_at find.looks_from find.scan find.sweep find.has_empty find.found find.find_in
    packing.words_of packing.word_bytes flat_map packing.control_word packing.reference_words packing.packed packing.packed_index
    packing.packed_scratch packing.packed_slot packing.packed_slots_of packing.packed_bucket packing.with_byte
    cuts.next_start cuts.start_after cuts.starts_after cuts.starts_of cuts.lengths_of cuts.segment_of cuts.split_word cuts.padded cuts.all_inside
    cuts.locations_inside
    slot.word_slot
    view.in_segment view.record_in
    walks.buckets_of walks.up_from
    builds.builder_fits builds.areas_hold_builder builds.after_open builds.ask_push builds.after_push builds.ask_finish builds.after_finish
    asks.set_fits asks.areas_hold_set asks.areas_hold_lookup asks.ask_lookup asks.slot_marked asks.slot_cleared asks.slot_accessed asks.live_value asks.live_marked
    asks.after_get asks.after_peek asks.after_take asks.probe_answer asks.entry_at asks.first_entry asks.next_entry asks.ask_walk asks.walk_answer asks.ask_stats asks.stats_answer
    kept.bits_of kept.kept_flags kept.is_kept kept.retained kept.new_number kept.kept_count kept.flag_word kept.chosen
    rebuilds.segments_inside rebuilds.areas_hold_source rebuilds.rebuild_fits rebuilds.areas_hold_rebuild rebuilds.ask_rebuild_open rebuilds.after_rebuild_open
    rebuilds.holds_record rebuilds.ask_reused rebuilds.after_reused rebuilds.ask_copied rebuilds.after_copied rebuilds.ask_rebuild_finish rebuilds.adds_segment
    rebuilds.sum_of rebuilds.after_rebuild_finish
    questions.nanoseconds_fit questions.lifetime_fits questions.occupancy_fits questions.tick_runs questions.setting_fits questions.counts_fit questions.arena_holds
    questions.segment_areas_hold questions.target_fits questions.scratch_holds questions.open_areas_hold questions.ask_open
    books.starts_from books.book_starts books.kept_by books.prefix_bytes books.same_key
trials = (refl, refl, refl, refl, refl, refl, refl, refl, refl, refl, refl, refl, refl, refl, refl, refl, refl, refl, refl, refl, refl)
