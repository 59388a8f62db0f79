-- What each turn of the loop keeps.
use Rattle.std.proofs.Common.{◌≡◌, ℕ, ◌-◌, ◌≤◌, Bool}
use Rattle.index.specs.Build.{Answers, slot_for}
use Rattle.index.proofs.Slots.{buckets_answer}
use Rattle.index.proofs.build.first_slot.Given as goal

abbrev pub invariant-loop : goal.invariant-loop
invariant-loop g l =
    (l.bucket ≤ l.buckets - 1)
    × ((test : ℕ → Bool) → Answers (goal.F-post g l.taken) test → slot_for test l.index l.buckets l.hash ≡ buckets_answer test l.index l.buckets (l.buckets - l.counter) l.bucket)
