-- Words that are written and read again are their lower 64 bits, and slots and filter are read from these alone. Assumes nothing.
use mathlib.Core.Path.{◌≡◌, refl, sym, ap, ap₂, ◌∙◌}
use mathlib.Core.Bool.{Bool, true, false, cond}
use Rattle.std.specs.Prelude.{Option}
use mathlib.Core.List.{List, [], ◌∷◌, ◌++◌, map, flatten, Forall₂}
use Prim.Native.Nat.{ℕ, zero, suc, ◌+◌, ◌*◌, ◌/◌, ◌%◌, ◌^◌, ◌≤◌, ◌<◌}
use native.Mathlib.Nat.{mod-eq_of_lt}
use native.Mathlib.Omega.{arith}
use native.Mathlib.Decide.{dec_le}
use lib.Bits.{bit_and, bit_or, and_le_r, and_mod, or_lt}
use lib.Dec.{eqb}
use lib.ListN.{length, take, drop, get_or, length-append, length-map, length-drop, get_or-append, get_or-map}
use lib.Pow.{pow-lt}
use lib.Seq.{take_at, drop_at, get_or-take, length-take-le}
use Rattle.hash_parts.specs.Hash.{mixed_hash}
use Rattle.hash_parts.specs.ZeroBytes.{bytes_of, number_of}
use Rattle.records.specs.Area.{over}
use Rattle.records.specs.Record.{Stored}
use Rattle.index.specs.Filter.{bit_past, first_bit, second_bit, third_bit, filter_has, filter_mask, filter_word}
use Rattle.index.specs.Packed.{packed_bucket, packed_slots_of, unmarked_byte, word_bytes, words_of}
use Rattle.index.proofs.Contents.{packed_buckets}
use Rattle.index.specs.Word.{unmarked}
use Rattle.index.specs.Slot.{IndexSlot}
use Rattle.hash_parts.proofs.Bytes.{bytes_of_law, bytes_number, length_bytes, number_bytes}
use Rattle.index.proofs.Entries.{Cell}
use Rattle.index.proofs.Filters.{filter_word_below, has_none, has_is}
use Rattle.index.proofs.Flat.{index_slots}
use Rattle.files.specs.Contents.{unmarked_index}
use Rattle.files.proofs.Cleared.{slots_cleared}
use Rattle.files.proofs.Unmarked.{packed_unmarked}

abbrev pub low : ℕ → ℕ
low w = w % 2 ^ 64

-- ---- words

pub words_low : (ws : List ℕ) → words_of (length ws) (word_bytes ws) ≡ map low ws
unfolding words_of word_bytes
words_low [] = refl
words_low (w ∷ l) = rw (take_at (bytes_of 8 w) (word_bytes l) 8 (length_bytes 8 w), drop_at (bytes_of 8 w) (word_bytes l) 8 (length_bytes 8 w), number_bytes 8 w, words_low l)

pub word_bytes_length : (ws : List ℕ) → length (word_bytes ws) ≡ 8 * length ws
unfolding word_bytes
word_bytes_length [] = refl
word_bytes_length (w ∷ l) = omega (arith, length-append (bytes_of 8 w) (word_bytes l), length_bytes 8 w, word_bytes_length l)

pub bytes_low : (w : ℕ) → bytes_of 8 (low w) ≡ bytes_of 8 w
bytes_low w = ap (bytes_of 8) (sym (number_bytes 8 w)) ∙ bytes_number 8 (bytes_of_law 8 w) (length_bytes 8 w)

word_bytes_low : (ws : List ℕ) → word_bytes (map low ws) ≡ word_bytes ws
unfolding word_bytes
word_bytes_low [] = refl
word_bytes_low (w ∷ l) = ap₂ (λ (x y : List ℕ). x ++ y) (bytes_low w) (word_bytes_low l)

-- numbers of 64 bits are their own
pub low_own : (ws : List ℕ) → ((g : ℕ) → g < length ws → get_or ws g 0 < 2 ^ 64) → map low ws ≡ ws
low_own [] each = refl
low_own (w ∷ l) each = ap₂ (λ (x : ℕ) (y : List ℕ). x ∷ y) (mod-eq_of_lt (each 0 (omega arith))) (low_own l (λ g h. each (suc g) (omega arith)))

-- ---- slots

module _ (f : ℕ → ℕ) where
  map_take : (n : ℕ) (l : List ℕ) → take n (map f l) ≡ map f (take n l)
  map_take zero l = refl
  map_take (suc n) [] = refl
  map_take (suc n) (x ∷ l) = ap (λ (r : List ℕ). f x ∷ r) (map_take n l)

  map_drop : (n : ℕ) (l : List ℕ) → drop n (map f l) ≡ map f (drop n l)
  map_drop zero l = refl
  map_drop (suc n) [] = refl
  map_drop (suc n) (x ∷ l) = map_drop n l

module _ (buckets : ℕ) (ws : List ℕ) where
  bucket_low : (b : ℕ) → packed_bucket buckets (map low ws) b ≡ packed_bucket buckets ws b
  unfolding packed_bucket
  bucket_low b =
      let k : ℕ = buckets + 7 * b in
      ap₂ (λ (c r : List ℕ). packed_slots_of c r) (ap (bytes_of 8) (get_or-map low ws b 0) ∙ bytes_low (get_or ws b 0))
      (ap (λ (r : List ℕ). word_bytes (take 7 r)) (map_drop low k ws) ∙ ap word_bytes (map_take low 7 (drop k ws)) ∙ word_bytes_low (take 7 (drop k ws)))

  buckets_low : (b n : ℕ) → packed_buckets buckets (map low ws) b n ≡ packed_buckets buckets ws b n
  unfolding packed_buckets
  buckets_low b zero = refl
  buckets_low b (suc n) = ap₂ (λ (x : List IndexSlot) (y : List (List IndexSlot)). x ∷ y) (bucket_low b) (buckets_low (suc b) n)

  packed_low : index_slots true buckets (map low ws) ≡ index_slots true buckets ws
  packed_low = ap flatten (buckets_low 0 buckets)

pub unmarked_length : (packed : Bool) (buckets : ℕ) (ws : List ℕ) → buckets ≤ length ws → length (unmarked_index packed buckets ws) ≡ length ws
unfolding unmarked_index
unmarked_length true buckets ws h =
    let f : ℕ → ℕ = λ w. number_of (map unmarked_byte (bytes_of 8 w)) in
    length-append (map f (take buckets ws)) (drop buckets ws)
    ∙ omega (arith, length-map (take buckets ws) f, length-take-le buckets ws h, length-drop buckets ws)
unmarked_length false buckets ws h = length-map ws unmarked

pub again : (ws : List ℕ) → map unmarked (map low (map unmarked ws)) ≡ map unmarked ws
again [] = refl
again (w ∷ l) = let e : w % 2 ^ 63 % 2 ^ 64 % 2 ^ 63 ≡ w % 2 ^ 63 = omega arith in ap₂ (λ (x : ℕ) (y : List ℕ). x ∷ y) e (again l)

module _ {E : Type 0} (stored : E → Stored) (H : List ℕ → ℕ) (Holds : ℕ → E → Type 0) (located : (e : E) → Holds 0 e → ⊥) where
  plain_again : (buckets : ℕ) (ws : List ℕ) → unmarked_index false buckets (map low (unmarked_index false buckets ws)) ≡ unmarked_index false buckets ws
  unfolding unmarked_index
  plain_again buckets ws = again ws

  -- the slots of words that were written with their marks cleared and are read and cleared again
  pub slots_loaded : (packed : Bool) (buckets : ℕ) (ws : List ℕ) → length ws ≡ 8 * buckets → {table : List (Option E)} → Forall₂ (Cell stored H packed Holds) (index_slots packed buckets ws) table
      → index_slots packed buckets (unmarked_index packed buckets (map low (unmarked_index packed buckets ws))) ≡ index_slots packed buckets ws
  slots_loaded true buckets ws long r =
      let len = unmarked_length true buckets ws (omega arith) in
      packed_unmarked buckets (map low (unmarked_index true buckets ws)) (omega (arith, length-map (unmarked_index true buckets ws) low, len))
      ∙ packed_low buckets (unmarked_index true buckets ws)
      ∙ packed_unmarked buckets ws (omega arith)
  slots_loaded false buckets ws long r = ap (index_slots false buckets) (plain_again buckets ws) ∙ slots_cleared stored H Holds located false buckets ws long r

-- ---- the filter

past_small : (a b bit : ℕ) → bit < 64 → bit_past a b bit < 64
unfolding bit_past
past_small a b bit h = go (eqb bit a) (eqb bit b)
  where
    go : (x y : Bool) → cond x ((bit + 1) % 64) (cond y ((bit + 1) % 64) bit) < 64
    go true y = omega arith
    go false true = omega arith
    go false false = h

mask_small : (h : ℕ) → filter_mask h < 2 ^ 64
unfolding filter_mask
mask_small h =
    let second : second_bit h < 64 = past_small (first_bit h) (first_bit h) (mixed_hash h / 2 ^ 21 % 64) (omega arith) in
    let mixed : ℕ = mixed_hash h / 2 ^ 42 % 64 in
    let third : third_bit h < 64 =
    past_small (first_bit h) (second_bit h) (bit_past (first_bit h) (second_bit h) mixed) (past_small (first_bit h) (second_bit h) mixed (omega arith)) in
    let one : first_bit h < 64 = omega arith in
    or_lt 64 (bit_or (2 ^ first_bit h) (2 ^ second_bit h)) (2 ^ third_bit h) (or_lt 64 (2 ^ first_bit h) (2 ^ second_bit h) (pow-lt one) (pow-lt second)) (pow-lt third)

and_low : (w m : ℕ) → m < 2 ^ 64 → bit_and (low w) m ≡ bit_and w m
and_low w m h =
    let small : bit_and w m < 2 ^ 64 = omega (arith, and_le_r w m) in
    sym (sym (mod-eq_of_lt small) ∙ and_mod w m 64 ∙ ap (bit_and (w % 2 ^ 64)) (mod-eq_of_lt h))

-- a filter whose words in use are the lower 64 bits of another's answers alike
pub filter_loaded : (filter area : List ℕ) (words h : ℕ) → h < 2 ^ 64 → words ≤ length filter
    → filter_has (over (map low (take words filter)) area) words h ≡ filter_has filter words h
filter_loaded filter area words h bound held = go (dec_le words 0)
  where
    front : List ℕ
    front = map low (take words filter)

    long : length front ≡ words
    long = length-map (take words filter) low ∙ length-take-le words filter held

    go : Dec (words ≤ 0) → filter_has (over front area) words h ≡ filter_has filter words h
    go (yes z) = let e : words ≡ 0 = omega arith in has_none (over front area) words h e ∙ sym (has_none filter words h e)
    go (no p) =
        let some : words ≡ 0 → ⊥ = λ (e : words ≡ 0). omega arith in
        let i : ℕ = filter_word words h in
        let below : i < words = omega (arith, filter_word_below words h bound) in
        let inside : i < length front = omega (arith, long) in
        let word : get_or (over front area) i 0 ≡ low (get_or filter i 0) =
        get_or-append front (drop (length front) area) 0 i inside ∙ get_or-map low (take words filter) i 0 ∙ ap low (get_or-take words filter i 0 below) in
        has_is (over front area) words h some (omega (arith, long, length-append front (drop (length front) area)))
        ∙ ap (λ (x : ℕ). eqb x (filter_mask h)) (ap (λ (x : ℕ). bit_and x (filter_mask h)) word ∙ and_low (get_or filter i 0) (filter_mask h) (mask_small h))
        ∙ sym (has_is filter words h some held)
