-- The slots of an index are those of its words in use, whatever follows them. Assumes nothing.
use mathlib.Core.Path.{◌≡◌, refl, sym, ap, ap₂, ◌∙◌}
use mathlib.Core.Bool.{Bool, true, false}
use mathlib.Core.List.{List, ◌∷◌, ◌++◌, map, flatten}
use Prim.Native.Nat.{ℕ, zero, suc, ◌+◌, ◌*◌, ◌≤◌, ◌<◌}
use native.Mathlib.Omega.{arith}
use lib.ListN.{length, take, drop, get_or, length-drop, get_or-append, take-append-drop}
use lib.Seq.{drop-append-le, take-append-le, length-take-le}
use Rattle.hash_parts.specs.ZeroBytes.{bytes_of}
use Rattle.index.specs.Packed.{packed_slots_of, packed_bucket, word_bytes}
use Rattle.index.proofs.Contents.{packed_buckets}
use Rattle.index.specs.Slot.{word_slot}
use Rattle.index.specs.Slot.{IndexSlot}
use Rattle.index.proofs.Flat.{index_slots}

module _ (buckets : ℕ) (ws rest : List ℕ) (long : length ws ≡ 8 * buckets) where
  bucket_front : (b : ℕ) → b < buckets → packed_bucket buckets (ws ++ rest) b ≡ packed_bucket buckets ws b
  unfolding packed_bucket
  bucket_front b h =
      let control : get_or (ws ++ rest) b 0 ≡ get_or ws b 0 = get_or-append ws rest 0 b (omega arith) in
      let references : take 7 (drop (buckets + 7 * b) (ws ++ rest)) ≡ take 7 (drop (buckets + 7 * b) ws) =
      ap (take 7) (drop-append-le (buckets + 7 * b) ws rest (omega arith)) ∙ take-append-le 7 (drop (buckets + 7 * b) ws) rest (omega (arith, length-drop (buckets + 7 * b) ws)) in
      ap₂ (λ (c : ℕ) (r : List ℕ). packed_slots_of (bytes_of 8 c) (word_bytes r)) control references

  buckets_front : (b n : ℕ) → b + n ≤ buckets → packed_buckets buckets (ws ++ rest) b n ≡ packed_buckets buckets ws b n
  unfolding packed_buckets
  buckets_front b zero h = refl
  buckets_front b (suc n) h =
      ap₂ (λ (x : List IndexSlot) (y : List (List IndexSlot)). x ∷ y) (bucket_front b (omega arith)) (buckets_front (suc b) n (omega arith))

  take_front : take (8 * buckets) (ws ++ rest) ≡ take (8 * buckets) ws
  take_front = take-append-le (8 * buckets) ws rest (omega arith)

  pub slots_front : (packed : Bool) → index_slots packed buckets (ws ++ rest) ≡ index_slots packed buckets ws
  slots_front true = ap flatten (buckets_front 0 buckets (omega arith))
  slots_front false = ap (map word_slot) take_front

-- so those of an area are those of its front
pub slots_taken : (packed : Bool) (buckets : ℕ) (index : List ℕ) → 8 * buckets ≤ length index → index_slots packed buckets (take (8 * buckets) index) ≡ index_slots packed buckets index
slots_taken packed buckets index h =
    sym (slots_front buckets (take (8 * buckets) index) (drop (8 * buckets) index) (length-take-le (8 * buckets) index h) packed)
    ∙ ap (index_slots packed buckets) (take-append-drop (8 * buckets) index)
