-- What each turn of the loop keeps.
use Rattle.std.proofs.Common.{◌-◌, length}
use Rattle.records.proofs.Area.{Writing}
use Rattle.files.specs.Write.{segment_bytes}
use Rattle.files.proofs.Pieces.{segments_from}
use Rattle.files.proofs.write.put_segment_bytes.Given as goal

abbrev pub invariant-loop-start : goal.invariant-loop-start
invariant-loop-start l =
    let i = length l.yielded in
    let starts = l.areas.starts.now in
    let lengths = l.areas.lengths.now in
    Writing (segment_bytes (length lengths) starts lengths l.arena) (segments_from i (length lengths - i) starts lengths l.arena) l.initial.out l.out l.at
