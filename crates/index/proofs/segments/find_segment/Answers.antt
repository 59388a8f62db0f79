-- `find_segment` meets its contract: the starts rise, so those not above the location come first. Assumes nothing.
use Rattle.std.proofs.Common.{leb, rules}
use Rattle.std.proofs.lemmas.List.Sorted.{IsPartitionPoint-from_clause}
use Rattle.index.proofs.Splits.{last_start, later, starts_parted}
use Rattle.index.proofs.segments.find_segment.Goals as goal

pub returns : goal.returns
returns c =
    let a = c.args in
    let above = c.partition_point.ensures in
    last_start c.requires a.location _ above.bound
    (IsPartitionPoint-from_clause (λ s. leb s a.location) (later c.requires) _ above.partitioned (starts_parted c.requires a.location) (λ x r q k. search rules))
