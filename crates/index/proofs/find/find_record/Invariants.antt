-- What each turn of the loop keeps.
use Rattle.std.proofs.Common.{◌≡◌, ◌-◌, ◌<◌, ◌≤◌}
use Rattle.index.specs.Filter.{filter_has}
use Rattle.index.specs.Find.{find_in}
use Rattle.index.proofs.Finds.{buckets_found, Looks}
use Rattle.index.proofs.find.find_record.Given as goal

-- the buckets left answer as the whole walk does; the filter is asked for the hash from the second bucket on
abbrev pub invariant-loop-probe : goal.invariant-loop-probe
invariant-loop-probe l =
    let x = l.index in
    let f = l.filter in
    let s = l.areas in
    (l.bucket ≤ x.buckets - 1)
    × (find_in l.view x.packed x.words.now x.buckets f.words.now f.count s.starts.now s.lengths.now s.arena.now l.key l.hash
    ≡ buckets_found x.packed (filter_has f.words.now f.count l.hash) (Looks l.view x.packed x.words.now x.buckets s.starts.now s.lengths.now s.arena.now l.key l.hash)
    x.buckets l.probe (x.buckets - l.probe) l.bucket)
    × (0 < l.probe → l.filter_hash ≡ l.hash)
