-- What is read from a packed index: the slots that were packed, each by two words at most, and the same under any marks. Assumes nothing.
use Rattle.std.proofs.Common.{◌≡◌, ℕ, zero, suc, ◌+◌, ◌-◌, ◌*◌, ◌%◌, ◌^◌, ◌<◌, ◌≤◌, Bool, true, false, cond, eqb, List, [], ◌∷◌, ◌++◌, map, length, get_or, take, drop, set, sym, refl, ap, ◌∙◌, append_assoc, add-zero, arith, lit<, length-append, length-drop, length-set, take-append-drop, length-take-le, get_or-drop, get_or-set_other, get_or-take, get_or-set_same, drop-drop, take_at, drop-set-lt, drop_at, ne_eqb}
use Rattle.std.specs.Prelude.{Some, None}
use mathlib.Core.List.{flat_map}
use native.Mathlib.Decide.{dec_lt, ℕ_discrete}
use lib.ListN.{length-map}
use lib.Seq.{set_out}
use Rattle.hash_parts.specs.Hash.{control_tag, secondary_tag}
use Rattle.hash_parts.specs.ZeroBytes.{bytes_of, number_of}
use Rattle.hash_parts.proofs.Bytes.{Bytes, no_bytes, one_byte, bytes_append, bytes_take, bytes_drop, bytes_set, bytes_of_law, length_bytes, bytes_number, number_bytes}
use Rattle.index.specs.Packed.{words_of, word_bytes, control_byte, reference_bytes, control_word, control_words, reference_words, packed, reference_in, packed_slot, packed_slots_of, packed_bucket, with_byte, marked_byte, unmarked_byte}
use Rattle.index.specs.Slot.{word_slot}
use Rattle.index.specs.Walk.{buckets_of}
use Rattle.index.specs.Word.{word_of, word_tag, word_stored}
use Rattle.index.proofs.Contents.{packed_buckets, repacked}
use Rattle.index.proofs.Bytes.{below_eight}
use Rattle.index.proofs.Packing.{control_small, reference_bytes_law, length_reference, words_from, words_from_law}
use Rattle.index.proofs.Walks.{length_buckets}
use Rattle.index.proofs.PackingLoop.{length_references}

-- ---- a bucket packed and read back

words_bytes : (n : ℕ) (l : List ℕ) → length l ≡ 8 * n → Bytes l → word_bytes (words_of n l) ≡ l
unfolding word_bytes words_of
words_bytes zero [] h r = refl
words_bytes zero (x ∷ l) h r = absurd (omega arith)
words_bytes (suc n) l h r =
    let e : length (take 8 l) ≡ 8 = length-take-le 8 l (omega arith) in
    rw (bytes_number 8 (bytes_take 8 r) e, words_bytes n (drop 8 l) (length-drop 8 l ∙ omega arith) (bytes_drop 8 r)) (take-append-drop 8 l)

control_bytes : (ws : List ℕ) → Bytes (map control_byte ws)
control_bytes [] = no_bytes
control_bytes (w ∷ ws) =
    let h : control_byte w < 256 = omega (arith, control_small w) in
    one_byte h (control_bytes ws)

references_bytes : (ws : List ℕ) → Bytes (flat_map reference_bytes ws)
unfolding flat_map
references_bytes [] = no_bytes
references_bytes (w ∷ ws) = bytes_append (reference_bytes_law w) (references_bytes ws)

length_reference_bytes : (ws : List ℕ) → length (flat_map reference_bytes ws) ≡ 7 * length ws
unfolding flat_map
length_reference_bytes [] = refl
length_reference_bytes (w ∷ ws) =
    length-append (reference_bytes w) (flat_map reference_bytes ws) ∙ omega (arith, length_reference w, length_reference_bytes ws)

slot_kept : (w : ℕ) → packed_slot (control_byte w) (reference_bytes w) ≡ repacked (word_slot w)
unfolding packed_slot word_slot
slot_kept w = go (eqb w 0)
  where
    tag : ℕ
    tag = word_tag w

    go : (t : Bool)
        → packed_slot (cond t 0 (control_tag tag)) (cond t (bytes_of 7 0) (bytes_of 2 (secondary_tag tag) ++ bytes_of 5 (word_stored w)))
        ≡ repacked (cond t None (Some (tag, word_stored w)))
    go true = refl
    go false =
        let s : List ℕ = bytes_of 2 (secondary_tag tag) in
        let l : List ℕ = bytes_of 5 (word_stored w) in
        let c : control_tag tag % 128 ≡ control_tag tag = omega arith in
        let n : eqb (control_tag tag) 0 ≡ false = ne_eqb _ _ (λ (e : control_tag tag ≡ 0). omega arith) in
        let front : number_of (take 2 (s ++ l)) ≡ secondary_tag tag = ap number_of (take_at s l 2 (length_bytes 2 (secondary_tag tag))) ∙ number_bytes 2 (secondary_tag tag) ∙ omega arith in
        let rest : number_of (drop 2 (s ++ l)) ≡ word_stored w = ap number_of (drop_at s l 2 (length_bytes 2 (secondary_tag tag))) ∙ number_bytes 5 (word_stored w) ∙ omega arith in
        rw (c, n, front, rest)

slots_kept : (ws : List ℕ) → packed_slots_of (map control_byte ws) (flat_map reference_bytes ws) ≡ map (λ w. repacked (word_slot w)) ws
unfolding packed_slots_of flat_map
slots_kept [] = refl
slots_kept (w ∷ ws) =
    let r : List ℕ = flat_map reference_bytes ws in
    rw (take_at (reference_bytes w) r 7 (length_reference w), drop_at (reference_bytes w) r 7 (length_reference w), slot_kept w, slots_kept ws)

bucket_kept : (bucket : List ℕ) → length bucket ≡ 8
    → packed_slots_of (bytes_of 8 (control_word bucket)) (word_bytes (reference_words bucket)) ≡ map (λ w. repacked (word_slot w)) bucket
unfolding control_word reference_words
bucket_kept bucket h =
    rw (
      bytes_number 8 (control_bytes bucket) (length-map bucket control_byte ∙ h),
      words_bytes 7 (flat_map reference_bytes bucket) (omega (arith, length_reference_bytes bucket)) (references_bytes bucket),
    ) (slots_kept bucket)

-- ---- the whole index

length_reference_words : (buckets : List (List ℕ)) → length (flat_map reference_words buckets) ≡ 7 * length buckets
unfolding flat_map
length_reference_words [] = refl
length_reference_words (b ∷ bs) =
    length-append (reference_words b) (flat_map reference_words bs) ∙ omega (arith, length_references b, length_reference_words bs)

length_controls : (B : ℕ) (index : List ℕ) → length (control_words B index) ≡ B
length_controls B index = length-map (buckets_of B index) control_word ∙ length_buckets B index

-- control words and references fill the buckets' words just
length_packed_words : (B : ℕ) (index : List ℕ) → length (control_words B index ++ flat_map reference_words (buckets_of B index)) ≡ 8 * B
length_packed_words B index =
    length-append (control_words B index) (flat_map reference_words (buckets_of B index))
    ∙ omega (arith, length_controls B index, length_reference_words (buckets_of B index), length_buckets B index)

pub packed_length : (B : ℕ) (index : List ℕ) → 8 * B ≤ length index → length (packed B index) ≡ length index
unfolding packed
packed_length B index h =
    ap length (sym (append_assoc (control_words B index) (flat_map reference_words (buckets_of B index)) (drop (8 * B) index)))
    ∙ length-append (control_words B index ++ flat_map reference_words (buckets_of B index)) (drop (8 * B) index)
    ∙ omega (arith, length_packed_words B index, length-drop (8 * B) index)

-- buckets of eight
data Eights : List (List ℕ) → Type 0 where
  none : Eights []
  eight : {b : List ℕ} {bs : List (List ℕ)} → length b ≡ 8 → Eights bs → Eights (b ∷ bs)

eights : (B : ℕ) (index : List ℕ) → 8 * B ≤ length index → Eights (buckets_of B index)
unfolding buckets_of
eights zero index h = none
eights (suc B) index h = eight (length-take-le 8 index (omega arith)) (eights B (drop 8 index) (rw (length-drop 8 index) (omega arith)))

-- buckets whose control words stand from word b on, and whose references from word B + 7 b on
buckets_kept : (B b : ℕ) (index c r : List ℕ) {bs : List (List ℕ)} → Eights bs → drop b index ≡ map control_word bs ++ c → drop (B + 7 * b) index ≡ flat_map reference_words bs ++ r
    → packed_buckets B index b (length bs) ≡ map (map (λ w. repacked (word_slot w))) bs
unfolding packed_buckets packed_bucket flat_map
buckets_kept B b index c r none e f = refl
buckets_kept B b index c r (eight {b = x} {bs = bs} h s) e f =
    let word : get_or index b 0 ≡ control_word x = ap (λ (i : ℕ). get_or index i 0) (sym (add-zero b)) ∙ sym (get_or-drop b index 0 0) ∙ ap (λ (l : List ℕ). get_or l 0 0) e in
    let split : drop (B + 7 * b) index ≡ reference_words x ++ (flat_map reference_words bs ++ r) = f ∙ append_assoc (reference_words x) (flat_map reference_words bs) r in
    let words : take 7 (drop (B + 7 * b) index) ≡ reference_words x = ap (take 7) split ∙ take_at (reference_words x) _ 7 (length_references x) in
    let at : B + 7 * b + 7 ≡ B + 7 * suc b = omega arith in
    let next : b + 1 ≡ suc b = omega arith in
    let e' : drop (suc b) index ≡ map control_word bs ++ c = ap (λ (n : ℕ). drop n index) (sym next) ∙ sym (drop-drop 1 b index) ∙ ap (drop 1) e in
    let f' : drop (B + 7 * suc b) index ≡ flat_map reference_words bs ++ r =
    ap (λ (n : ℕ). drop n index) (sym at) ∙ sym (drop-drop 7 (B + 7 * b) index) ∙ ap (drop 7) split ∙ drop_at (reference_words x) _ 7 (length_references x) in
    rw (word, words, bucket_kept x h, buckets_kept B (suc b) index c r s e' f')

-- packing and then reading gives the slots, as the packed layout keeps them
pub packed_read : (B : ℕ) (index : List ℕ) → 8 * B ≤ length index → packed_buckets B (packed B index) 0 B ≡ map (map (λ w. repacked (word_slot w))) (buckets_of B index)
unfolding packed
packed_read B index h =
    let rest : List ℕ = flat_map reference_words (buckets_of B index) ++ drop (8 * B) index in
    let past : drop (B + 0) (packed B index) ≡ rest = rw (add-zero B) (drop_at (control_words B index) rest B (length_controls B index)) in
    rw (length_buckets B index) at (buckets_kept B 0 (packed B index) rest (drop (8 * B) index) (eights B index h) refl past)

-- ---- a slot by the words that hold it

length_slots : (controls bytes : List ℕ) → length (packed_slots_of controls bytes) ≡ length controls
unfolding packed_slots_of
length_slots [] bytes = refl
length_slots (c ∷ l) bytes = ap suc (length_slots l (drop 7 bytes))

pub bucket_length : (B : ℕ) (index : List ℕ) (b : ℕ) → length (packed_bucket B index b) ≡ 8
unfolding packed_bucket
bucket_length B index b = length_slots (bytes_of 8 (get_or index b 0)) _ ∙ length_bytes 8 (get_or index b 0)

slots_at : (controls bytes : List ℕ) (j : ℕ) → j < length controls → get_or (packed_slots_of controls bytes) j None ≡ packed_slot (get_or controls j 0) (take 7 (drop (7 * j) bytes))
unfolding packed_slots_of
slots_at [] bytes j h = absurd (omega arith)
slots_at (c ∷ l) bytes zero h = refl
slots_at (c ∷ l) bytes (suc j) h =
    let e : 7 * suc j ≡ 7 + 7 * j = omega arith in
    rw (e, ← drop-drop (7 * j) 7 bytes) (slots_at l (drop 7 bytes) j (omega arith))

-- a reference lies in two words
reference_part : (w0 w1 w2 w3 w4 w5 w6 j : ℕ) → j < 8 → (before word : ℕ)
    → (0 < j → before ≡ get_or (w0 ∷ w1 ∷ w2 ∷ w3 ∷ w4 ∷ w5 ∷ w6 ∷ []) (j - 1) 0) → (j < 7 → word ≡ get_or (w0 ∷ w1 ∷ w2 ∷ w3 ∷ w4 ∷ w5 ∷ w6 ∷ []) j 0)
    → take 7 (drop (7 * j) (word_bytes (w0 ∷ w1 ∷ w2 ∷ w3 ∷ w4 ∷ w5 ∷ w6 ∷ []))) ≡ reference_in before word j
unfolding word_bytes reference_in bytes_of
reference_part w0 w1 w2 w3 w4 w5 w6 =
    below_eight
    (λ j. (before word : ℕ)
    → (0 < j → before ≡ get_or (w0 ∷ w1 ∷ w2 ∷ w3 ∷ w4 ∷ w5 ∷ w6 ∷ []) (j - 1) 0) → (j < 7 → word ≡ get_or (w0 ∷ w1 ∷ w2 ∷ w3 ∷ w4 ∷ w5 ∷ w6 ∷ []) j 0)
    → take 7 (drop (7 * j) (word_bytes (w0 ∷ w1 ∷ w2 ∷ w3 ∷ w4 ∷ w5 ∷ w6 ∷ []))) ≡ reference_in before word j)
    (λ before word p q. rw (q (lit< tt)))
    (λ before word p q. rw (p (lit< tt), q (lit< tt)))
    (λ before word p q. rw (p (lit< tt), q (lit< tt)))
    (λ before word p q. rw (p (lit< tt), q (lit< tt)))
    (λ before word p q. rw (p (lit< tt), q (lit< tt)))
    (λ before word p q. rw (p (lit< tt), q (lit< tt)))
    (λ before word p q. rw (p (lit< tt), q (lit< tt)))
    (λ before word p q. rw (p (lit< tt)))

word_in : (at i : ℕ) (l : List ℕ) → at + 7 ≤ length l → i < 7 → get_or l (at + i) 0 ≡ get_or (words_from 7 at l) i 0
word_in at i l h k = sym (get_or-drop at l i 0) ∙ sym (get_or-take 7 (drop at l) i 0 k) ∙ ap (λ (t : List ℕ). get_or t i 0) (words_from_law 7 at l h)

-- of slot 0 the word before, and of slot 7 the word itself, may be any
pub slot_at : (B : ℕ) (index : List ℕ) (b j before word : ℕ) → b < B → j < 8 → 8 * B ≤ length index
    → (0 < j → before ≡ get_or index (B + 7 * b + j - 1) 0) → (j < 7 → word ≡ get_or index (B + 7 * b + j) 0)
    → get_or (packed_bucket B index b) j None ≡ packed_slot (get_or (bytes_of 8 (get_or index b 0)) j 0) (reference_in before word j)
unfolding packed_bucket
slot_at B index b j before word h l long p q =
    let at : ℕ = B + 7 * b in
    let room : at + 7 ≤ length index = omega arith in
    let back : 0 < j → at + j - 1 ≡ at + (j - 1) = λ (k : 0 < j). omega arith in
    let p' : 0 < j → before ≡ get_or (words_from 7 at index) (j - 1) 0 = λ (k : 0 < j). p k ∙ ap (λ (n : ℕ). get_or index n 0) (back k) ∙ word_in at (j - 1) index room (omega arith) in
    let q' : j < 7 → word ≡ get_or (words_from 7 at index) j 0 = λ (k : j < 7). q k ∙ word_in at j index room k in
    slots_at (bytes_of 8 (get_or index b 0)) (word_bytes (take 7 (drop at index))) j (rw (length_bytes 8 (get_or index b 0)) l)
    ∙ ap (packed_slot (get_or (bytes_of 8 (get_or index b 0)) j 0))
    (ap (λ (t : List ℕ). take 7 (drop (7 * j) (word_bytes t))) (words_from_law 7 at index room) ∙ reference_part _ _ _ _ _ _ _ j l before word p' q')

-- ---- marks

buckets_same : (B : ℕ) (index index' : List ℕ) → ((b : ℕ) → b < B → packed_bucket B index b ≡ packed_bucket B index' b) → (b n : ℕ) → b + n ≤ B → packed_buckets B index b n ≡ packed_buckets B index' b n
unfolding packed_buckets
buckets_same B index index' f b zero h = refl
buckets_same B index index' f b (suc n) h = rw (f b (omega arith), buckets_same B index index' f (suc b) n (omega arith))

module _ (f : ℕ → ℕ) (kept : (c : ℕ) → f c % 128 ≡ c % 128) (small : (c : ℕ) → f c < 256) where
  slots_marked : (controls bytes : List ℕ) (j : ℕ) → packed_slots_of (set controls j (f (get_or controls j 0))) bytes ≡ packed_slots_of controls bytes
  unfolding packed_slots_of packed_slot
  slots_marked [] bytes j = refl
  slots_marked (c ∷ l) bytes zero = rw (kept c)
  slots_marked (c ∷ l) bytes (suc j) = rw (slots_marked l (drop 7 bytes) j)

  bytes_marked : (w j : ℕ) → bytes_of 8 (with_byte f j w) ≡ set (bytes_of 8 w) j (f (get_or (bytes_of 8 w) j 0))
  unfolding with_byte
  bytes_marked w j = bytes_number 8 (bytes_set j _ (small _) (bytes_of_law 8 w)) (length-set (bytes_of 8 w) j _ ∙ length_bytes 8 w)

  pub bucket_marked : (B : ℕ) (index : List ℕ) (b j c : ℕ) → b < B → packed_bucket B (set index b (with_byte f j (get_or index b 0))) c ≡ packed_bucket B index c
  unfolding packed_bucket
  bucket_marked B index b j c h = go (ℕ_discrete c b) (dec_lt b (length index))
    where
      x : ℕ
      x = with_byte f j (get_or index b 0)

      rest : drop (B + 7 * c) (set index b x) ≡ drop (B + 7 * c) index
      rest = drop-set-lt (B + 7 * c) index b x (omega arith)

      go : Dec (c ≡ b) → Dec (b < length index) → packed_bucket B (set index b x) c ≡ packed_bucket B index c
      go (no n) d = rw (rest, get_or-set_other index b c x 0 n)
      go (yes e) (no k) = rw (set_out index b x (omega arith))
      go (yes e) (yes k) = rw (rest, e, get_or-set_same index b x 0 k, bytes_marked (get_or index b 0) j) (slots_marked (bytes_of 8 (get_or index b 0)) _ j)

  -- no slot shows a mark
  pub marks_hidden : (B : ℕ) (index : List ℕ) (b j : ℕ) → b < B → packed_buckets B (set index b (with_byte f j (get_or index b 0))) 0 B ≡ packed_buckets B index 0 B
  marks_hidden B index b j h =
      buckets_same B (set index b (with_byte f j (get_or index b 0))) index (λ c l. bucket_marked B index b j c h) 0 B (omega arith)

pub mark_hidden : (B : ℕ) (index : List ℕ) (b j : ℕ) → b < B → packed_buckets B (set index b (with_byte marked_byte j (get_or index b 0))) 0 B ≡ packed_buckets B index 0 B
mark_hidden = marks_hidden marked_byte (λ c. omega arith) (λ c. omega arith)

pub clear_hidden : (B : ℕ) (index : List ℕ) (b j : ℕ) → b < B → packed_buckets B (set index b (with_byte unmarked_byte j (get_or index b 0))) 0 B ≡ packed_buckets B index 0 B
clear_hidden = marks_hidden unmarked_byte (λ c. omega arith) (λ c. omega arith)

-- ---- the document's trial: tags 0 and 127 are one to the packed layout

pub tags_alike : (l : ℕ) → l + 1 < 2 ^ 40 → (reference_bytes (word_of 127 l) ≡ reference_bytes (word_of 0 l)) × (control_byte (word_of 127 l) ≡ control_byte (word_of 0 l))
tags_alike l h =
    let u : eqb (word_of 127 l) 0 ≡ false = ne_eqb _ _ (λ (e : word_of 127 l ≡ 0). omega arith) in
    let v : eqb (word_of 0 l) 0 ≡ false = ne_eqb _ _ (λ (e : word_of 0 l ≡ 0). omega arith) in
    let s : word_tag (word_of 127 l) ≡ 127 = omega arith in
    let t : word_tag (word_of 0 l) ≡ 0 = omega arith in
    let p : word_stored (word_of 127 l) ≡ word_stored (word_of 0 l) = omega arith in
    (rw (u, v, s, t, p), rw (u, v, s, t))
