-- `find_record` meets its contract: the buckets left answer as the whole walk does. Assumes nothing.
use Rattle.std.proofs.Common.{◌≡◌, ℕ, ◌+◌, ◌-◌, ◌<◌, Bool, List, sym, refl, ◌∙◌, arith}
use native.Mathlib.Nat.{sub-zero}
use Rattle.index.specs.Filter.{filter_has}
use Rattle.index.specs.Find.{Look, ends_at, in_bucket}
use Rattle.index.proofs.Walks.{next_within}
use Rattle.index.proofs.Finds.{found_end, found_hit, found_stop, found_filtered, found_on, filter_late, find_short, find_walks, Looks}
use Rattle.index.proofs.find.find_record.Goals as goal
use Rattle.index.proofs.find.find_record.Goals.{After-ends_at_filter, After-find_in_bucket, Start}

abbrev may : Start → Bool
may s =
    let a = s.args in
    filter_has a.filter.words.now a.filter.count a.hash

abbrev looks : Start → ℕ → List Look
looks s =
    let a = s.args in
    Looks a.view a.index.packed a.index.words.now a.index.buckets a.areas.starts.now a.areas.lengths.now a.areas.arena.now a.key.now a.hash

-- what the search of the bucket gave is what its slots say
said : (b : After-find_in_bucket) → let a = b.args in
    b.find_in_bucket.result
    ≡ in_bucket a.index.packed (Looks a.view a.index.packed a.index.words.now a.index.buckets a.areas.starts.now a.areas.lengths.now a.areas.arena.now a.key.now a.hash b.loop-probe.bucket)
said b = rw (← b.hash_tag-tag.ensures) b.find_in_bucket.ensures

-- the filter ends the walk where its test says so
asked : (f : After-ends_at_filter) → let a = f.args in (0 < f.loop-probe.probe → f.loop-probe.filter_hash ≡ a.hash)
    → ends_at f.loop-probe.probe (filter_has a.filter.words.now a.filter.count a.hash) ≡ f.ends_at_filter.result
asked f same =
    let a = f.args in
    sym (filter_late f.loop-probe.probe a.filter.words.now a.filter.count f.loop-probe.filter_hash a.hash same)
    ∙ sym f.ends_at_filter.ensures

pub returns-then-index : goal.returns-then-index
returns-then-index c =
    let a = c.args in
    sym
    (find_short a.view a.index.packed a.index.words.now a.index.buckets a.filter.words.now a.filter.count a.areas.starts.now a.areas.lengths.now a.areas.arena.now
    a.key.now a.hash c.if-index.true)

pub loop-probe-init : goal.loop-probe-init
loop-probe-init c =
    let a = c.args in
    let e = c.reduce_hash-bucket.ensures in
    let whole =
    find_walks a.view a.index.packed a.index.words.now a.index.buckets a.filter.words.now a.filter.count a.areas.starts.now a.areas.lengths.now a.areas.arena.now
    a.key.now a.hash (omega arith) (omega arith) in
    (e.1, rw (sub-zero a.index.buckets, e.0) whole, λ (h : 0 < 0). absurd (omega arith))

pub returns-in-Hit : goal.returns-in-Hit
returns-in-Hit c =
    let at = goal.at.returns-in-Hit c in
    let s = at.Start in
    let x = c.args.index in
    let l = c.loop-probe in
    let said = said at.After-find_in_bucket in
    rw l.invariant.1
    (sym (found_hit x.packed (may s) (looks s) x.buckets l.probe (x.buckets - l.probe) l.bucket (omega arith) _ (sym said ∙ c.in-Hit.is)))

pub returns-in-Stop : goal.returns-in-Stop
returns-in-Stop c =
    let at = goal.at.returns-in-Stop c in
    let s = at.Start in
    let x = c.args.index in
    let l = c.loop-probe in
    let said = said at.After-find_in_bucket in
    rw l.invariant.1
    (sym (found_stop x.packed (may s) (looks s) x.buckets l.probe (x.buckets - l.probe) l.bucket (omega arith) (sym said ∙ c.in-Stop.is)))

pub returns-then-ends_at_filter : goal.returns-then-ends_at_filter
returns-then-ends_at_filter c =
    let at = goal.at.returns-then-ends_at_filter c in
    let s = at.Start in
    let x = c.args.index in
    let l = c.loop-probe in
    let said = said at.After-find_in_bucket in
    let asked = asked at.After-ends_at_filter l.invariant.2 in
    rw l.invariant.1
    (sym (found_filtered x.packed (may s) (looks s) x.buckets l.probe (x.buckets - l.probe) l.bucket (omega arith)
    (sym said ∙ c.in-Next.is) (asked ∙ c.if-ends_at_filter.true)))

pub loop-probe-preserved : goal.loop-probe-preserved
loop-probe-preserved c =
    let at = goal.at.loop-probe-preserved c in
    let s = at.Start in
    let x = c.args.index in
    let l = c.loop-probe in
    let e = c.next_bucket-bucket.ensures in
    let said = said at.After-find_in_bucket in
    let asked = asked at.After-ends_at_filter l.invariant.2 in
    let less : x.buckets - (l.probe + 1) ≡ x.buckets - l.probe - 1 = omega arith in
    let on =
    found_on x.packed (may s) (looks s) x.buckets l.probe (x.buckets - l.probe) l.bucket (omega arith)
    (sym said ∙ c.in-Next.is) (asked ∙ c.if-ends_at_filter.false) in
    (omega (arith, e, next_within l.bucket x.buckets), rw (l.invariant.1, e, less) on, λ (h : 0 < l.probe + 1). refl)

pub returns : goal.returns
returns c =
    let s = (goal.at.returns c).Start in
    let x = c.args.index in
    let l = c.loop-probe in
    rw l.invariant.1 (sym (found_end x.packed (may s) (looks s) x.buckets l.probe (x.buckets - l.probe) l.bucket (omega arith)))
