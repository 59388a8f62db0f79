-- The numbers of the kinds of blocks, and the places of the numbers of kind 1; only private functions cite it.
-- Assumes nothing.
use Rattle.std.specs.Prelude.{ℕ}
use Rattle.files.specs.declared.blocks.BlockKind.{BlockKind}
use Rattle.files.specs.declared.blocks.BlockKind.TheVariants.{Counts, Lengths, Index, Filter, Segments}
use Rattle.files.specs.declared.counts.Count.{Count}
use Rattle.files.specs.declared.counts.Count.TheVariants.{ExpiryOn, TickSeconds, TickNanoseconds, Occupancy, Packed, FilterBits, Records, KeyBytes, ValueBytes, HeaderBytes}

abbrev pub kind_number : BlockKind → ℕ
kind_number Counts = 1
kind_number Lengths = 2
kind_number Index = 3
kind_number Filter = 4
kind_number Segments = 5

abbrev pub count_place : Count → ℕ
count_place ExpiryOn = 0
count_place TickSeconds = 1
count_place TickNanoseconds = 2
count_place Occupancy = 3
count_place Packed = 4
count_place FilterBits = 5
count_place Records = 6
count_place KeyBytes = 7
count_place ValueBytes = 8
count_place HeaderBytes = 9
