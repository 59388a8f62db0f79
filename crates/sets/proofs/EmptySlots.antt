-- An empty slot that a search finds is a slot of the index. Assumes nothing.
use Rattle.std.proofs.Common.{◌≡◌, ℕ, suc, ◌+◌, ◌*◌, ◌^◌, ◌<◌, ◌≤◌, Bool, true, false, cond, eqb, leb, List, [], ◌∷◌, length, take, drop, arith, length-take, Ok, Err}
use Rattle.hash_parts.specs.Hash.{first_bucket}
use Rattle.hash_parts.proofs.Products.{first_bucket_below}
use Rattle.hash_parts.specs.declared.error.SegmentCacheBuildError.TheVariants.{CapacityOverflow}
use Rattle.index.specs.Build.{vacant, same, passed, looks, searched, searched_all, slot_for, SlotAnswer}
use Rattle.index.specs.Walk.{bucket_walk}
use Rattle.index.proofs.Flat.{Below, no_more, one_more, walk_below}

-- a bucket's own, or one that the buckets after it found
looked : (taken : ℕ → Bool) (i : ℕ) (l : List ℕ) (after : SlotAnswer) (s : ℕ) (limit : ℕ) → i + length l ≤ limit → searched (looks taken i l) after ≡ Ok s
    → (after ≡ Ok s → s < limit) → s < limit
unfolding looks searched
looked taken i [] after s limit h e f = f e
looked taken i (w ∷ l) after s limit h e f = go (eqb w 0) (taken w) e (λ q. looked taken (suc i) l after s limit (omega arith) q f)
  where
    go : (z t : Bool) → searched (cond z (vacant i) (cond t same passed) ∷ looks taken (suc i) l) after ≡ Ok s
        → (searched (looks taken (suc i) l) after ≡ Ok s → s < limit) → s < limit
    go true t q r = let own : i ≡ s = cc in omega arith
    go false true q r = absurd (let z : ◌≡◌ {A = ℕ} 0 1 = cc in omega arith)
    go false false q r = r q

walked : (taken : ℕ → Bool) (index : List ℕ) (buckets s : ℕ) {bs : List ℕ} → Below buckets bs
    → searched_all (λ b. looks taken (8 * b) (take 8 (drop (8 * b) index))) bs ≡ Ok s → s < 8 * buckets
unfolding searched_all
walked taken index buckets s no_more e = absurd (let z : ◌≡◌ {A = ℕ} 0 1 = cc in omega arith)
walked taken index buckets s (one_more {b = b} {l = bs} h r) e =
    looked taken (8 * b) (take 8 (drop (8 * b) index)) _ s (8 * buckets) (omega (arith, length-take 8 (drop (8 * b) index))) e (λ q. walked taken index buckets s r q)

found_below : (taken : ℕ → Bool) (index : List ℕ) (buckets h s : ℕ) → h < 2 ^ 64 → slot_for taken index buckets h ≡ Ok s → s < 8 * buckets
unfolding slot_for
found_below taken index buckets h s bound e = go (leb (8 * buckets) (length index)) e
  where
    go : (b : Bool) → cond b (searched_all (λ c. looks taken (8 * c) (take 8 (drop (8 * c) index))) (bucket_walk h buckets)) (Err CapacityOverflow) ≡ Ok s → s < 8 * buckets
    go true q = walked taken index buckets s (walk_below buckets (first_bucket h buckets) (first_bucket_below h buckets bound)) q
    go false q = absurd (let z : ◌≡◌ {A = ℕ} 0 1 = cc in omega arith)

pub found_inside : (taken : ℕ → Bool) (index : List ℕ) (buckets h s : ℕ) → h < 2 ^ 64 → 8 * buckets ≤ length index → slot_for taken index buckets h ≡ Ok s → s < length index
found_inside taken index buckets h s bound long e = omega (arith, found_below taken index buckets h s bound e)
