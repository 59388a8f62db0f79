-- What each turn of the loop keeps.
use Rattle.std.proofs.Common.{◌≡◌, ℕ, ◌+◌, ◌-◌, ◌*◌, Bool}
use Rattle.index.specs.Build.{Answers, SlotAnswer}
use Rattle.index.proofs.Slots.{slots_answer}
use Rattle.index.proofs.build.slot_in_bucket.Given as goal

-- the slots left answer as the bucket does, whatever the words after it do
abbrev pub invariant-loop-offset : goal.invariant-loop-offset
invariant-loop-offset g l =
    (test : ℕ → Bool) → Answers (goal.F-post g l.taken) test → (after : SlotAnswer)
    → slots_answer test l.index (8 - l.offset) (8 * l.bucket + l.offset) after ≡ slots_answer test l.index 8 (8 * l.bucket) after
