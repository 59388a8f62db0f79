-- What each turn of the loop keeps.
use Rattle.std.proofs.Common.{◌≡◌, ◌-◌, ◌*◌}
use Rattle.index.specs.View.{record_in}
use Rattle.sets.specs.Lookup.{entry_at, first_entry, next_entry}
use Rattle.sets.proofs.lookup.SetRecords.next_entry.Given as goal

abbrev pub invariant-loop-slot : goal.invariant-loop-slot
invariant-loop-slot l =
    first_entry (entry_at (record_in l.self.view l.self.areas.arena.now l.self.areas.starts.now l.self.areas.lengths.now) l.self.index.packed l.self.index.buckets l.self.index.words.now) l.slot (8 * l.self.index.buckets - l.slot)
    ≡ next_entry (record_in l.self.view l.self.areas.arena.now l.self.areas.starts.now l.self.areas.lengths.now) l.self.index.packed l.self.index.buckets l.self.index.words.now l.from
