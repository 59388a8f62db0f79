-- `file_bytes` meets its contract: what the questions leave are numbers whose sum fits. Assumes nothing.
use Rattle.std.proofs.Common.{◌≡◌, ◌∙◌, ◌≤◌, ◌<◌, ◌%◌, ◌^◌, refl, sym, arith, length, take, le-leb}
use borrow.Author.Tests.{lt-leb}
use Rattle.std.proofs.lemmas.List.{length-take-le}
use Rattle.sets.specs.Rebuild.{sum_of}
use Rattle.sets.proofs.Counts.{set_counts}
use Rattle.sets.proofs.Finding.{few_buckets, few_words}
use Rattle.sets.proofs.RebuildAsked.{SourceHolds, source_areas_asked}
use Rattle.sets.proofs.RebuildSteps.{sum_inside, sum_part}
use Rattle.sets.proofs.Said.{answered_no, answered_yes}
use Rattle.files.specs.Write.{ask_size, size_answer}
use Rattle.files.proofs.write.file_bytes.Goals as goal
use Rattle.files.proofs.write.file_bytes.Goals.{Else-bytes-gt-MAX_ARENA_BYTES, Else-not-source_holds}

-- what the first question tells
held : (c : Else-not-source_holds) → let a = c.args in SourceHolds a.set a.starts.now a.lengths.now a.set.filled
held c =
    let a = c.args in
    source_areas_asked a.set a.starts.now a.lengths.now a.set.filled (answered_yes c.source_holds.ensures c.if-not-source_holds.false)

pub returns-then-not-source_holds : goal.returns-then-not-source_holds
unfolding size_answer ask_size
returns-then-not-source_holds c = rw (answered_no c.source_holds.ensures c.if-not-source_holds.true)

-- the segments' lengths, whose sum does not wrap
some : (c : Else-not-source_holds) → let a = c.args in a.set.segments ≤ length a.lengths.now
some c = let h = (held c) in omega (arith, h.few, h.lengths_hold)

summed : (c : Else-not-source_holds)
    → let a = c.args in sum_of (length (take a.set.segments a.lengths.now)) (take a.set.segments a.lengths.now) % 2 ^ 64 ≡ sum_of a.set.segments a.lengths.now
summed c =
    let a = c.args in
    let h = (held c) in
    let each = sum_inside a.set.filled a.starts.now a.lengths.now a.set.segments (omega (arith, h.arena_short)) h.inside in
    sum_part a.set.segments a.lengths.now (some c) (omega (arith, each, h.few))

pub slice_bounds-sum_of-end : goal.slice_bounds-sum_of-end
slice_bounds-sum_of-end c = sym (length-take-le c.args.set.segments c.args.lengths.now (some (goal.at.slice_bounds-sum_of-end c).Else-not-source_holds))

pub returns-then-bytes-gt-MAX_ARENA_BYTES : goal.returns-then-bytes-gt-MAX_ARENA_BYTES
unfolding size_answer ask_size
returns-then-bytes-gt-MAX_ARENA_BYTES c =
    let sum = c.sum_of-bytes.ensures ∙ summed (goal.at.returns-then-bytes-gt-MAX_ARENA_BYTES c).Else-not-source_holds in
    rw (answered_yes c.source_holds.ensures c.if-not-source_holds.false, lt-leb _ _ (rw sum at c.if-bytes-gt-MAX_ARENA_BYTES.true))

-- the numbers that are added are small
few : (c : Else-bytes-gt-MAX_ARENA_BYTES)
    → (let a = c.args in SourceHolds a.set a.starts.now a.lengths.now a.set.filled)
    → let s = c.args.set in (s.segments ≤ 256) ×
    (s.buckets ≤ 1048582) × (s.filter_words ≤ 4194304)
few c h_held =
    let s = c.args.set in
    let h = h_held in
    let counts = set_counts s h.numbers in
    let bits : s.config.negative_filter_bits_per_entry < 256 = omega arith in
    (h.few, few_buckets _ _ _ _ counts, few_words _ _ _ _ counts bits)

pub overflow_mul-result : goal.overflow_mul-result
overflow_mul-result c = omega (arith, (held (goal.at.overflow_mul-result c).Else-not-source_holds).few)

pub overflow_add-result : goal.overflow_add-result
overflow_add-result c = omega (arith, (held (goal.at.overflow_add-result c).Else-not-source_holds).few)

pub overflow_mul-result-2 : goal.overflow_mul-result-2
overflow_mul-result-2 c = let h = (held (goal.at.overflow_mul-result-2 c).Else-not-source_holds) in omega (
  arith,
  few_buckets _ _ _ _ (set_counts c.args.set h.numbers),
)

pub overflow_add-result-2 : goal.overflow_add-result-2
overflow_add-result-2 c = let h = (held (goal.at.overflow_add-result-2 c).Else-not-source_holds) in omega (
  arith,
  h.few,
  few_buckets _ _ _ _ (set_counts c.args.set h.numbers),
)

pub overflow_mul-result-3 : goal.overflow_mul-result-3
overflow_mul-result-3 c =
    let at = goal.at.overflow_mul-result-3 c in
    omega (arith, (few at.Else-bytes-gt-MAX_ARENA_BYTES (held at.Else-not-source_holds)))

pub overflow_add-result-3 : goal.overflow_add-result-3
overflow_add-result-3 c =
    let at = goal.at.overflow_add-result-3 c in
    omega (arith, (few at.Else-bytes-gt-MAX_ARENA_BYTES (held at.Else-not-source_holds)))

pub overflow_add-result-4 : goal.overflow_add-result-4
overflow_add-result-4 c =
    let at = goal.at.overflow_add-result-4 c in
    omega (arith, (few at.Else-bytes-gt-MAX_ARENA_BYTES (held at.Else-not-source_holds)))

pub returns : goal.returns
unfolding size_answer ask_size
returns c =
    let sum = c.sum_of-bytes.ensures ∙ summed (goal.at.returns c).Else-not-source_holds in
    rw (answered_yes c.source_holds.ensures c.if-not-source_holds.false, ← sum, le-leb _ _ c.if-bytes-gt-MAX_ARENA_BYTES.false) refl
