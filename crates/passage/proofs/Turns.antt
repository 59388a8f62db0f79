-- Laws of the commands: out of turn, and how many slots an open gives. Assumes nothing.
use mathlib.Core.Path.{◌≡◌, refl, ap}
use mathlib.Core.List.{List}
use Prim.Native.Nat.{ℕ, ◌*◌, ◌≤◌}
use native.Mathlib.Omega.{arith}
use lib.ListN.{length}
use Rattle.std.proofs.Common.{Option}
use Rattle.hash_parts.specs.declared.duration.Duration.{Duration}
use Rattle.hash_parts.specs.declared.setting.SegmentCacheConfig.{SegmentCacheConfig}
use Rattle.sets.specs.Answers.{accept}
use Rattle.sets.specs.Build.{Opened, builder_opened, after_open}
use Rattle.sets.proofs.Accepted.{OpenCase, open_made, open_refused, open_case}
use Rattle.sets.specs.declared.builder.SegmentCacheBuilder.{SegmentCacheBuilder}
use Rattle.sets.specs.declared.cache.FrozenSegmentCache.{FrozenSegmentCache}
use Rattle.passage.specs.Stage.{bad_text, opening, open_step, putting, put_step, closing, close_step, Getting, get_step}
use Rattle.passage.specs.declared.stage.Stage.{Stage}
use Rattle.passage.specs.declared.stage.Stage.TheVariants.{Fresh, Building, Finished}

-- ---- out of turn

pub open_out : (s : Stage) (records : ℕ) (config : SegmentCacheConfig) (index filter starts lengths arena : List ℕ) → (s ≡ Fresh → ⊥)
    → opening s bad_text index filter ≡ open_step s records config index filter starts lengths arena
unfolding open_step
open_out Fresh records config index filter starts lengths arena n = absurd (n refl)
open_out (Building b) records config index filter starts lengths arena n = refl
open_out (Finished s) records config index filter starts lengths arena n = refl

pub put_out : (s : Stage) (hash : ℕ) (key value : List ℕ) (ttl : Option Duration) (index filter arena : List ℕ) → ((b : SegmentCacheBuilder) → s ≡ Building b → ⊥)
    → putting s bad_text index filter arena ≡ put_step s hash key value ttl index filter arena
unfolding put_step
put_out Fresh hash key value ttl index filter arena n = refl
put_out (Building b) hash key value ttl index filter arena n = absurd (n b refl)
put_out (Finished s) hash key value ttl index filter arena n = refl

pub close_out : (s : Stage) (target : ℕ) (index starts lengths scratch arena : List ℕ) → ((b : SegmentCacheBuilder) → s ≡ Building b → ⊥)
    → closing s bad_text index starts lengths scratch ≡ close_step s target index starts lengths scratch arena
unfolding close_step
close_out Fresh target index starts lengths scratch arena n = refl
close_out (Building b) target index starts lengths scratch arena n = absurd (n b refl)
close_out (Finished s) target index starts lengths scratch arena n = refl

pub get_out : (s : Stage) (hash : ℕ) (key : List ℕ) (tick : ℕ) (index filter starts lengths arena : List ℕ) → ((f : FrozenSegmentCache) → s ≡ Finished f → ⊥)
    → ◌≡◌ {A = Getting} (record { text = bad_text; index = index }) (get_step s hash key tick index filter starts lengths arena)
unfolding get_step
get_out Fresh hash key tick index filter starts lengths arena n = refl
get_out (Building b) hash key tick index filter starts lengths arena n = refl
get_out (Finished f) hash key tick index filter starts lengths arena n = absurd (n f refl)

-- ---- the slots of an open are words of the index

pub open_slots : (c : SegmentCacheConfig) (records : ℕ) (index filter starts lengths arena : List ℕ) (b : SegmentCacheBuilder)
    → (after_open c records index filter starts lengths arena).answer ≡ accept b → 8 * b.bucket_count ≤ length index
open_slots c records index filter starts lengths arena b e = go (after_open c records index filter starts lengths arena) (open_case c records index filter starts lengths arena) e
  where
    go : (o : Opened) → OpenCase c records index filter starts lengths arena o → o.answer ≡ accept b → 8 * b.bucket_count ≤ length index
    go _ (open_made a) q =
        let r : builder_opened c records ≡ b = cc in
        omega (arith, a.index_holds, ap (λ (x : SegmentCacheBuilder). x.bucket_count) r)
    go _ (open_refused n) q = absurd (let z : ◌≡◌ {A = ℕ} 0 1 = cc in omega arith)
