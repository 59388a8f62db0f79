-- An index with its marks cleared stands for the same slots. Assumes nothing.
use mathlib.Core.Path.{◌≡◌, refl, ap, ◌∙◌}
use mathlib.Core.Bool.{true}
use mathlib.Core.List.{List, [], ◌∷◌, ◌++◌, map, flatten}
use Prim.Native.Nat.{ℕ, zero, suc, ◌+◌, ◌*◌, ◌%◌, ◌≤◌, ◌<◌}
use native.Mathlib.Omega.{arith}
use lib.ListN.{length, take, drop, get_or, length-map, get_or-append, get_or-map}
use lib.Seq.{drop-append-add, drop-drop, get_or-take, length-take-le}
use Rattle.hash_parts.specs.ZeroBytes.{bytes_of, number_of}
use Rattle.index.specs.Packed.{packed_slot, packed_slots_of, packed_bucket, unmarked_byte, word_bytes}
use Rattle.index.proofs.Contents.{packed_buckets}
use Rattle.hash_parts.proofs.Bytes.{Bytes, bytes_of_law, bytes_number, length_bytes, no_bytes, one_byte}
use Rattle.index.proofs.Flat.{index_slots}
use Rattle.files.specs.Contents.{unmarked_index}

-- ---- packed

abbrev pub cleared : ℕ → ℕ
cleared w = number_of (map unmarked_byte (bytes_of 8 w))

pub unmarked_bytes : {l : List ℕ} → Bytes l → Bytes (map unmarked_byte l)
unmarked_bytes no_bytes = no_bytes
unmarked_bytes (one_byte {b = b} h r) = one_byte {b = unmarked_byte b} (omega arith) (unmarked_bytes r)

pub cleared_bytes : (w : ℕ) → bytes_of 8 (cleared w) ≡ map unmarked_byte (bytes_of 8 w)
cleared_bytes w = bytes_number 8 (unmarked_bytes (bytes_of_law 8 w)) (length-map (bytes_of 8 w) unmarked_byte ∙ length_bytes 8 w)

slots_unmarked : (cs bytes : List ℕ) → packed_slots_of (map unmarked_byte cs) bytes ≡ packed_slots_of cs bytes
unfolding packed_slots_of packed_slot
slots_unmarked [] bytes = refl
slots_unmarked (c ∷ cs) bytes =
    let e : c % 128 % 128 ≡ c % 128 = omega arith in
    rw (e, slots_unmarked cs (drop 7 bytes))

module _ (buckets : ℕ) (ws : List ℕ) (long : buckets ≤ length ws) where
  abbrev controls : List ℕ
  controls = map cleared (take buckets ws)

  front : length controls ≡ buckets
  front = length-map (take buckets ws) cleared ∙ length-take-le buckets ws long

  control_at : (b : ℕ) → b < buckets → get_or (controls ++ drop buckets ws) b 0 ≡ cleared (get_or ws b 0)
  unfolding bytes_of number_of
  control_at b h =
      let inside : b < length controls = rw front h in
      get_or-append controls (drop buckets ws) 0 b inside ∙ get_or-map cleared (take buckets ws) b 0 ∙ ap cleared (get_or-take buckets ws b 0 h)

  references_at : (n : ℕ) → drop (buckets + n) (controls ++ drop buckets ws) ≡ drop (buckets + n) ws
  references_at n =
      let e : buckets + n ≡ length controls + n = omega (arith, front) in
      ap (λ (k : ℕ). drop k (controls ++ drop buckets ws)) e ∙ drop-append-add controls (drop buckets ws) n ∙ drop-drop n buckets ws

  bucket_unmarked : (b : ℕ) → b < buckets → packed_bucket buckets (controls ++ drop buckets ws) b ≡ packed_bucket buckets ws b
  unfolding packed_bucket
  bucket_unmarked b h =
      rw (control_at b h, references_at (7 * b), cleared_bytes (get_or ws b 0)) (slots_unmarked (bytes_of 8 (get_or ws b 0)) (word_bytes (take 7 (drop (buckets + 7 * b) ws))))

  buckets_unmarked : (b n : ℕ) → b + n ≤ buckets → packed_buckets buckets (controls ++ drop buckets ws) b n ≡ packed_buckets buckets ws b n
  unfolding packed_buckets
  buckets_unmarked b zero h = refl
  buckets_unmarked b (suc n) h = rw (bucket_unmarked b (omega arith), buckets_unmarked (suc b) n (omega arith))

  pub packed_unmarked : index_slots true buckets (unmarked_index true buckets ws) ≡ index_slots true buckets ws
  unfolding unmarked_index
  packed_unmarked = ap flatten (buckets_unmarked 0 buckets (omega arith))
