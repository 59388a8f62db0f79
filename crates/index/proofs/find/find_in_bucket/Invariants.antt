-- What each turn of the loop keeps.
use Rattle.index.specs.View.{record_in}
use Rattle.index.proofs.Sweeps.{Visiting, says, searched}
use Rattle.index.proofs.find.find_in_bucket.Given as goal

abbrev pub invariant-loop-candidates : goal.invariant-loop-candidates
invariant-loop-candidates l =
    let reads = record_in l.view l.areas.arena.now l.areas.starts.now l.areas.lengths.now in
    let x = l.index in
    Visiting (searched reads l.areas.arena.now l.key x.packed l.tag x.buckets x.words.now l.bucket) (says reads l.areas.arena.now l.key x.packed l.tag x.buckets x.words.now l.bucket) l.candidates

abbrev pub decreases-loop-candidates : goal.decreases-loop-candidates
decreases-loop-candidates l = l.candidates
