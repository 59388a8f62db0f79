-- What each turn of the loop keeps.
use Rattle.std.proofs.Common.{drop, length}
use Rattle.records.proofs.Area.{Writing}
use Rattle.files.specs.Contents.{bytes_for, widths}
use Rattle.files.proofs.write.put_numbers.Given as goal

abbrev pub invariant-loop-width : goal.invariant-loop-width
invariant-loop-width l =
    let i = length l.yielded in
    Writing (bytes_for widths l.numbers) (bytes_for (drop i widths) (drop i l.numbers)) l.initial.out l.out l.at
