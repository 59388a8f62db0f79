-- `find_in_bucket` meets its contract: the candidates left say what the bucket's slots say. Assumes nothing.
use Rattle.std.proofs.Common.{◌≡◌, ℕ, ◌+◌, ◌*◌, ◌<◌, Bool, false, cond, ltb, get_or, sym, ◌∙◌, arith}
use Rattle.std.specs.Prelude.{Option}
use Rattle.hash_parts.specs.ZeroBytes.{lowest_set, marks}
use Rattle.records.specs.declared.record.RecordRef.{RecordRef}
use Rattle.index.specs.Find.{in_bucket}
use Rattle.index.specs.FindSteps.{tagged}
use Rattle.index.specs.View.{record_in}
use Rattle.index.specs.declared.find.FindStep.{FindStep}
use Rattle.index.specs.declared.find.FindStep.TheVariants.{Stop, Next}
use Rattle.index.proofs.Sweeps.{says, searched, slots, visiting_begins, visiting_below, visiting_less, visiting_hit, visiting_on, visiting_ends, bucket_step, bucket_ends}
use Rattle.index.proofs.find.find_in_bucket.Goals as goal
use Rattle.index.proofs.find.find_in_bucket.Goals.{After-find_in_slot-step, Start}

abbrev reads : Start → ℕ → Option RecordRef
reads s =
    let a = s.args in
    record_in a.view a.areas.arena.now a.areas.starts.now a.areas.lengths.now

-- what each slot of the bucket says, and what all of them do
abbrev slot_says : Start → ℕ → FindStep
slot_says s =
    let a = s.args in
    let x = a.index in
    says (reads s) a.areas.arena.now a.key.now x.packed a.tag x.buckets x.words.now a.bucket

abbrev bucket_says : Start → FindStep
bucket_says s =
    let a = s.args in
    let x = a.index in
    searched (reads s) a.areas.arena.now a.key.now x.packed a.tag x.buckets x.words.now a.bucket

pub loop-candidates-init : goal.loop-candidates-init
loop-candidates-init c =
    let s = (goal.at.loop-candidates-init c).Start in
    let a = c.args in
    let x = a.index in
    visiting_begins (reads s) a.areas.arena.now a.key.now x.packed a.tag x.buckets x.words.now a.bucket _ (omega arith) c.candidate_marks-candidates.ensures

pub bucket_slot-content-requires : goal.bucket_slot-content-requires
bucket_slot-content-requires c =
    let s = (goal.at.bucket_slot-content-requires c).Start in
    let some : 0 < c.loop-candidates.candidates = omega arith in
    (c.requires.0, c.requires.1, omega (arith, c.lowest_marked_byte-offset.ensures.0, visiting_below (bucket_says s) (slot_says s) c.loop-candidates.invariant some))

-- what the slot of the lowest mark says
said : (c : After-find_in_slot-step) → let a = c.args in let x = a.index in
    c.find_in_slot-step.result
    ≡ says (record_in a.view a.areas.arena.now a.areas.starts.now a.areas.lengths.now) a.areas.arena.now a.key.now x.packed a.tag x.buckets x.words.now
    a.bucket (lowest_set c.loop-candidates.candidates)
said c =
    let a = c.args in
    let at : a.bucket * 8 + c.lowest_marked_byte-offset.result ≡ 8 * a.bucket + c.lowest_marked_byte-offset.result = omega arith in
    rw (← c.lowest_marked_byte-offset.ensures.0, ← at, ← c.bucket_slot-content.ensures, ← c.kept_tag-kept.ensures) c.find_in_slot-step.ensures

pub returns-in_default : goal.returns-in_default
returns-in_default c =
    let at = goal.at.returns-in_default c in
    let s = at.Start in
    let a = c.args in
    let x = a.index in
    let some : 0 < c.loop-candidates.candidates = omega arith in
    let r = c.find_in_slot-step.result in
    let e = said at.After-find_in_slot-step in
    let n = c.in_default.not-Next in
    let hit : bucket_says s ≡ r = rw e (visiting_hit (bucket_says s) (slot_says s) c.loop-candidates.invariant some (λ f. n (e ∙ f))) in
    bucket_step (reads s) a.areas.arena.now a.key.now x.packed a.tag x.buckets x.words.now a.bucket r hit n

pub loop-candidates-smaller : goal.loop-candidates-smaller
loop-candidates-smaller c =
    let s = (goal.at.loop-candidates-smaller c).Start in
    let some : 0 < c.loop-candidates.candidates = omega arith in
    omega (arith, c.without_lowest_mark-candidates.ensures, visiting_less (bucket_says s) (slot_says s) c.loop-candidates.invariant some)

pub loop-candidates-preserved : goal.loop-candidates-preserved
loop-candidates-preserved c =
    let at = goal.at.loop-candidates-preserved c in
    let s = at.Start in
    let some : 0 < c.loop-candidates.candidates = omega arith in
    rw c.without_lowest_mark-candidates.ensures
    (visiting_on (bucket_says s) (slot_says s) c.loop-candidates.invariant some
    (sym (said at.After-find_in_slot-step) ∙ c.in-Next.is))

-- where no mark is left, an empty slot ends the walk
ended : (s : Start) (gap : Bool) → let a = s.args in let x = a.index in
    gap ≡ cond x.packed (ltb 0 (marks (tagged 0 (get_or x.words.now a.bucket 0)))) false → bucket_says s ≡ Next
    → cond gap Stop Next ≡ in_bucket x.packed (slots (reads s) a.areas.arena.now a.key.now x.packed a.tag x.buckets x.words.now a.bucket)
ended s gap g none =
    let a = s.args in
    let x = a.index in
    bucket_ends (reads s) a.areas.arena.now a.key.now x.packed a.tag x.buckets x.words.now a.bucket gap g none

pub returns-then-has_empty : goal.returns-then-has_empty
returns-then-has_empty c =
    let s = (goal.at.returns-then-has_empty c).Start in
    let none = visiting_ends (bucket_says s) (slot_says s) c.loop-candidates.invariant c.loop-candidates-test.false in
    rw c.if-has_empty.true at (ended s c.has_empty.result c.has_empty.ensures none)

pub returns : goal.returns
returns c =
    let s = (goal.at.returns c).Start in
    let none = visiting_ends (bucket_says s) (slot_says s) c.loop-candidates.invariant c.loop-candidates-test.false in
    rw c.if-has_empty.false at (ended s c.has_empty.result c.has_empty.ensures none)
