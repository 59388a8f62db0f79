-- The words of a packed index are numbers of 64 bits, so a file gives them back as they are. Assumes nothing.
use mathlib.Core.Path.{◌≡◌, refl, sym, ap, ap₂, ◌∙◌}
use mathlib.Core.Bool.{Bool, true, false, cond}
use mathlib.Core.List.{List, [], ◌∷◌, ◌++◌, map, append_assoc, flat_map}
use Prim.Native.Nat.{ℕ, zero, suc, ◌*◌, ◌/◌, ◌%◌, ◌^◌, ◌≤◌, ◌<◌}
use native.Mathlib.Nat.{mod-eq_of_lt, lt_of_lt_of_le, pow-le-pow_right, zero-lt-suc}
use native.Mathlib.Omega.{arith}
use native.Mathlib.Decide.{dec_lt}
use lib.Dec.{leb}
use lib.ListN.{length, take, drop, set, get_or, length-append, length-map, length-take, length-set}
use lib.Seq.{take_all, take_at, drop_at, length-take-le, take-set-le, take-set-lt}
use borrow.Author.Tests.{le-leb}
use Rattle.hash_parts.specs.ZeroBytes.{bytes_of, number_of}
use Rattle.records.specs.Area.{over}
use Rattle.index.specs.Packed.{control_byte, control_word, marked_byte, packed, packed_index, reference_bytes, reference_words, unmarked_byte, with_byte, words_of}
use Rattle.index.specs.Walk.{buckets_of}
use Rattle.index.specs.Word.{unmarked}
use Rattle.hash_parts.proofs.Bytes.{Bytes, bytes_append, bytes_drop, bytes_of_law, bytes_set, bytes_take, length_bytes, number_small, no_bytes, one_byte}
use Rattle.index.proofs.PackingLoop.{length_words}
use Rattle.index.proofs.Packing.{control_small, reference_bytes_law}
use Rattle.index.proofs.Walks.{length_buckets}
use Rattle.sets.specs.Lookup.{slot_cleared, slot_marked}
use Rattle.files.specs.Contents.{unmarked_index}
use Rattle.files.proofs.Framing.{Words, no_words, one_word}
use Rattle.files.proofs.Low.{again, low, unmarked_length}
use Rattle.files.proofs.Unmarked.{cleared, cleared_bytes, unmarked_bytes}

-- ---- lists of words

words_append : {l m : List ℕ} → Words l → Words m → Words (l ++ m)
words_append no_words s = s
words_append (one_word h r) s = one_word h (words_append r s)

words_take : (n : ℕ) {l : List ℕ} → Words l → Words (take n l)
words_take zero r = no_words
words_take (suc n) no_words = no_words
words_take (suc n) (one_word h r) = one_word h (words_take n r)

words_drop : (n : ℕ) {l : List ℕ} → Words l → Words (drop n l)
words_drop zero r = r
words_drop (suc n) no_words = no_words
words_drop (suc n) (one_word h r) = words_drop n r

words_set : (i a : ℕ) {l : List ℕ} → a < 2 ^ 64 → Words l → Words (set l i a)
words_set zero a h no_words = no_words
words_set (suc i) a h no_words = no_words
words_set zero a h (one_word x r) = one_word h r
words_set (suc i) a h (one_word x r) = one_word x (words_set i a h r)

own_words : {l : List ℕ} → Words l → map low l ≡ l
own_words no_words = refl
own_words (one_word h r) = ap₂ (λ (x : ℕ) (y : List ℕ). x ∷ y) (mod-eq_of_lt h) (own_words r)

low_words : (l : List ℕ) → Words (map low l)
low_words [] = no_words
low_words (w ∷ l) = let h : w % 2 ^ 64 < 2 ^ 64 = omega arith in one_word h (low_words l)

number_short : {l : List ℕ} → Bytes l → length l ≤ 8 → number_of l < 2 ^ 64
number_short r h = lt_of_lt_of_le (number_small r) (pow-le-pow_right (zero-lt-suc 255) h)

words_of_law : (n : ℕ) {l : List ℕ} → Bytes l → Words (words_of n l)
unfolding words_of
words_of_law zero r = no_words
words_of_law (suc n) {l} r = one_word (number_short (bytes_take 8 r) (omega (arith, length-take 8 l))) (words_of_law n (bytes_drop 8 r))

-- ---- a packed index

control_bytes : (ws : List ℕ) → Bytes (map control_byte ws)
control_bytes [] = no_bytes
control_bytes (w ∷ ws) = let h : control_byte w < 256 = omega (arith, control_small w) in one_byte h (control_bytes ws)

references_bytes : (ws : List ℕ) → Bytes (flat_map reference_bytes ws)
unfolding flat_map
references_bytes [] = no_bytes
references_bytes (w ∷ ws) = bytes_append (reference_bytes_law w) (references_bytes ws)

controls : (n : ℕ) (l : List ℕ) → Words (map control_word (buckets_of n l))
unfolding buckets_of control_word
controls zero l = no_words
controls (suc n) l = one_word (number_short (control_bytes (take 8 l)) (omega (arith, length-map (take 8 l) control_byte, length-take 8 l))) (controls n (drop 8 l))

references : (bs : List (List ℕ)) → Words (flat_map reference_words bs)
unfolding flat_map reference_words
references [] = no_words
references (b ∷ bs) = words_append (words_of_law 7 (references_bytes b)) (references bs)

references_length : (bs : List (List ℕ)) → length (flat_map reference_words bs) ≡ 7 * length bs
unfolding flat_map reference_words
references_length [] = refl
references_length (b ∷ bs) =
    omega (arith, length-append (words_of 7 (flat_map reference_bytes b)) (flat_map reference_words bs), length_words 7 (flat_map reference_bytes b), references_length bs)

packed_words : (buckets : ℕ) (index : List ℕ) → Words (take (8 * buckets) (packed buckets index))
unfolding packed
packed_words buckets index =
    let bs : List (List ℕ) = buckets_of buckets index in
    let c : List ℕ = map control_word bs in
    let r : List ℕ = flat_map reference_words bs in
    let rest : List ℕ = drop (8 * buckets) index in
    let n : length (c ++ r) ≡ 8 * buckets = omega (arith, length-append c r, length-map bs control_word, references_length bs, length_buckets buckets index) in
    let e : take (8 * buckets) (c ++ (r ++ rest)) ≡ c ++ r = ap (take (8 * buckets)) (sym (append_assoc c r rest)) ∙ take_at (c ++ r) rest (8 * buckets) n in
    rw e (words_append (controls buckets index) (references bs))

-- ---- what holds of the words in use: where the layout is packed, they are numbers of 64 bits

abbrev pub SmallIf : Bool → ℕ → List ℕ → Type 0
SmallIf true buckets index = Words (take (8 * buckets) index)
SmallIf false buckets index = Unit {0}

-- the words in use alone
pub small_taken : (packs : Bool) (buckets : ℕ) (index : List ℕ) → SmallIf packs buckets index → SmallIf packs buckets (take (8 * buckets) index)
small_taken true buckets index r = words_take (8 * buckets) r
small_taken false buckets index r = tt

pub small_laid : (packs : Bool) (buckets : ℕ) (index scratch : List ℕ) → 8 * buckets ≤ length index → cond packs (leb buckets (length scratch)) true ≡ true
    → SmallIf packs buckets (cond packs (packed_index buckets index scratch) index)
unfolding packed_index
small_laid true buckets index scratch h s = rw (le-leb _ _ h, s) (packed_words buckets index)
small_laid false buckets index scratch h s = tt

byte_small : (f : ℕ → ℕ) → ((c : ℕ) → f c < 256) → (j w : ℕ) → with_byte f j w < 2 ^ 64
unfolding with_byte
byte_small f h j w =
    let v : ℕ = f (get_or (bytes_of 8 w) j 0) in
    number_short (bytes_set j v (h (get_or (bytes_of 8 w) j 0)) (bytes_of_law 8 w)) (omega (arith, length-set (bytes_of 8 w) j v, length_bytes 8 w))

set_small : (n i a : ℕ) (l : List ℕ) → a < 2 ^ 64 → Words (take n l) → Words (take n (set l i a))
set_small n i a l h r = go (dec_lt i n)
  where
    go : Dec (i < n) → Words (take n (set l i a))
    go (yes y) = rw (take-set-lt n l i a y) (words_set i a h r)
    go (no y) = rw (take-set-le n l i a (omega arith)) r

pub small_marked : (packs : Bool) (buckets : ℕ) (index : List ℕ) (slot : ℕ) → SmallIf packs buckets index → SmallIf packs buckets (slot_marked packs index slot)
unfolding slot_marked
small_marked true buckets index slot r =
    set_small (8 * buckets) (slot / 8) (with_byte marked_byte (slot % 8) (get_or index (slot / 8) 0)) index (byte_small marked_byte (λ c. omega arith) (slot % 8) (get_or index (slot / 8) 0)) r
small_marked false buckets index slot r = tt

pub small_cleared : (packs : Bool) (buckets : ℕ) (index : List ℕ) (slot : ℕ) → SmallIf packs buckets index → SmallIf packs buckets (slot_cleared packs index slot)
unfolding slot_cleared
small_cleared true buckets index slot r =
    set_small (8 * buckets) (slot / 8) (with_byte unmarked_byte (slot % 8) (get_or index (slot / 8) 0)) index (byte_small unmarked_byte (λ c. omega arith) (slot % 8) (get_or index (slot / 8) 0)) r
small_cleared false buckets index slot r = tt

-- ---- cleared, written, read and cleared again

cleared_words : (l : List ℕ) → Words (map cleared l)
cleared_words [] = no_words
cleared_words (w ∷ l) =
    one_word (number_short (unmarked_bytes (bytes_of_law 8 w)) (omega (arith, length-map (bytes_of 8 w) unmarked_byte, length_bytes 8 w))) (cleared_words l)

once : (l : List ℕ) → map unmarked_byte (map unmarked_byte l) ≡ map unmarked_byte l
once [] = refl
once (c ∷ l) = let e : c % 128 % 128 ≡ c % 128 = omega arith in ap₂ (λ (x : ℕ) (y : List ℕ). x ∷ y) e (once l)

cleared_once : (l : List ℕ) → map cleared (map cleared l) ≡ map cleared l
cleared_once [] = refl
cleared_once (w ∷ l) = ap₂ (λ (x : ℕ) (y : List ℕ). x ∷ y) (ap (λ (b : List ℕ). number_of (map unmarked_byte b)) (cleared_bytes w) ∙ ap number_of (once (bytes_of 8 w))) (cleared_once l)

packed_once : (buckets : ℕ) (ws : List ℕ) → buckets ≤ length ws → unmarked_index true buckets (unmarked_index true buckets ws) ≡ unmarked_index true buckets ws
unfolding unmarked_index
packed_once buckets ws h =
    let c : List ℕ = map cleared (take buckets ws) in
    let r : List ℕ = drop buckets ws in
    let n : length c ≡ buckets = length-map (take buckets ws) cleared ∙ length-take-le buckets ws h in
    ap₂ (λ (x y : List ℕ). map cleared x ++ y) (take_at c r buckets n) (drop_at c r buckets n) ∙ ap (λ (x : List ℕ). x ++ r) (cleared_once (take buckets ws))

unmarked_words : (buckets : ℕ) (ws : List ℕ) → Words ws → Words (unmarked_index true buckets ws)
unfolding unmarked_index
unmarked_words buckets ws r = words_append (cleared_words (take buckets ws)) (words_drop buckets r)

plain_once : (ws : List ℕ) → map unmarked (map unmarked ws) ≡ map unmarked ws
plain_once [] = refl
plain_once (w ∷ l) = let e : w % 2 ^ 63 % 2 ^ 63 ≡ w % 2 ^ 63 = omega arith in ap₂ (λ (x : ℕ) (y : List ℕ). x ∷ y) e (plain_once l)

plain_same : (buckets : ℕ) (ws : List ℕ) → unmarked_index false buckets (unmarked_index false buckets (map low (unmarked_index false buckets ws))) ≡ unmarked_index false buckets ws
unfolding unmarked_index
plain_same buckets ws = ap (map unmarked) (again ws) ∙ plain_once ws

-- the index words of a written and loaded set are those that were written, marks aside; `ws` are the words in use
pub index_same : (packs : Bool) (buckets : ℕ) (ws : List ℕ) → length ws ≡ 8 * buckets → SmallIf packs buckets ws
    → unmarked_index packs buckets (unmarked_index packs buckets (map low (unmarked_index packs buckets ws))) ≡ unmarked_index packs buckets ws
index_same true buckets ws long r =
    let small : Words ws = rw (take_all (8 * buckets) ws (omega arith)) at r in
    let u : List ℕ = unmarked_index true buckets ws in
    let n : length u ≡ length ws = unmarked_length true buckets ws (omega arith) in
    ap (λ (x : List ℕ). unmarked_index true buckets (unmarked_index true buckets x)) (own_words (unmarked_words buckets ws small))
    ∙ packed_once buckets u (omega (arith, n))
    ∙ packed_once buckets ws (omega arith)
index_same false buckets ws long r = plain_same buckets ws

-- and they are numbers of 64 bits in the area that they were loaded to
pub small_loaded : (packs : Bool) (buckets : ℕ) (ws area loaded : List ℕ) → loaded ≡ unmarked_index packs buckets (map low ws) → length loaded ≡ 8 * buckets → SmallIf packs buckets (over loaded area)
small_loaded true buckets ws area loaded e n = rw (take_at loaded (drop (length loaded) area) (8 * buckets) n, e) (unmarked_words buckets (map low ws) (low_words ws))
small_loaded false buckets ws area loaded e n = tt
