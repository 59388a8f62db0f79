-- What the search for a push's slot answers: never (Err CapacityOverflow) while there is room, and (Err DuplicateKey) just where an entry has the key. Assumes nothing.
use Rattle.std.proofs.Common.{◌≡◌, ℕ, ◌*◌, ◌<◌, Bool, true, false, cond, eqb, List, [], ◌∷◌, length, take, sym, refl, ap, ◌∙◌, arith}
use Rattle.std.specs.Prelude.{Ok, Err, Option, Some}
use Rattle.hash_parts.specs.declared.error.SegmentCacheBuildError.TheVariants.{CapacityOverflow, DuplicateKey}
use mathlib.Core.List.{Forall₂}
use borrow.Author.Tests.{eqb-false}
use Rattle.hash_parts.specs.Hash.{tag_of, first_bucket}
use Rattle.hash_parts.specs.declared.setting.SegmentExpiry.{SegmentExpiry}
use Rattle.records.specs.Record.{Stored}
use Rattle.records.proofs.Area.{same_true}
use Rattle.index.specs.Build.{PushLook, build_record, has_key, holds_key, looks, searched, slot_for, never, SlotAnswer}
use Rattle.index.specs.Walk.{rot}
use Rattle.index.specs.Word.{word_tag, word_stored}
use Rattle.index.proofs.Contents.{word_slots}
use Rattle.index.proofs.Entries.{keyed, Indexed, words_long}
use Rattle.index.proofs.Searches.{Says, never_full, duplicate_taken, empty_hits, duplicate_hits, walk_says, slot_search}
use Rattle.index.proofs.Slots.{SlotEnds, ends_empty, ends_same, ends_full, slot_ends}
use Rattle.index.proofs.Table.{not-true, true≢false, length_rot, only, only_has, walk_gap, hits, past}

module _ {E : Type 0} {stored : E → Stored} {H : List ℕ → ℕ} {Holds : ℕ → E → Type 0} (index : List ℕ) (buckets : ℕ) {filter : List ℕ} {words : ℕ} {r : List E}
    (x : Indexed stored H false Holds buckets (word_slots buckets index) filter words r) (h : ℕ) where
  -- ---- room

  -- whatever words are taken for the key
  pub has_room : (taken : ℕ → Bool) → length r < 8 * buckets → slot_for taken index buckets h ≡ (Err CapacityOverflow) → ⊥
  has_room taken room e =
      let a : ℕ = 8 * first_bucket h buckets in
      let gap = walk_gap a x.table (omega (arith, x.size, x.placed.count)) in
      never_full (λ b d. Unit {0}) (walk_says taken (λ b d. Unit {0}) (λ w d p y. tt) buckets index x a) (rw length_rot gap) (sym (slot_search taken index buckets h (words_long buckets index x)) ∙ e)

  -- a push that takes keys again finds a slot
  pub finds_empty : length r < 8 * buckets → (s : ℕ) × (slot_for never index buckets h ≡ Ok s)
  finds_empty room = go (slot_ends never index buckets h) refl
    where
      go : {a : SlotAnswer} → SlotEnds a → slot_for never index buckets h ≡ a → (s : ℕ) × (slot_for never index buckets h ≡ Ok s)
      go (ends_empty {s = s}) e = (s, e)
      go ends_full e = absurd (has_room never room e)
      go ends_same e =
          absurd
          (true≢false
          (duplicate_taken (λ b d. b ≡ false) (walk_says never (λ b d. b ≡ false) (λ w d p y. refl) buckets index x (8 * first_bucket h buckets))
          (sym (slot_search never index buckets h (words_long buckets index x)) ∙ e)).1)

  -- ---- duplicates

  -- what stands at a stored location is what the push reads there
  module _ (bytes : List ℕ) (ex : SegmentExpiry) (held : (l : ℕ) (e : E) → Holds l e → build_record ex bytes l ≡ Some (stored e)) (key : List ℕ) (hash : h ≡ H key) where
    -- a word is taken just where its entry has the key
    holds_just : (w : ℕ) (e : E) → word_tag w ≡ tag_of (H (stored e).key) → Holds (word_stored w) e → keyed stored key e ≡ holds_key (build_record ex bytes) key (tag_of h) w
    unfolding holds_key
    holds_just w e p y = go (eqb (word_tag w) (tag_of h)) refl
      where
        go : (b : Bool) → eqb (word_tag w) (tag_of h) ≡ b → keyed stored key e ≡ cond b (has_key key (build_record ex bytes (word_stored w))) false
        go true q = ap (has_key key) (sym (held (word_stored w) e y))
        go false q =
            not-true _ (λ z. eqb-false _ _ q (p ∙ ap (λ (j : List ℕ). tag_of (H j)) (same_true (stored e).key key z) ∙ ap tag_of (sym hash)))

    abbrev test : ℕ → Bool
    test = holds_key (build_record ex bytes) key (tag_of h)

    -- the key's walk, as the search sees it and as the table has it
    abbrev seen : List PushLook
    seen = rot (8 * first_bucket h buckets) (looks test 0 (take (8 * buckets) index))

    abbrev walk : List (Option E)
    walk = rot (8 * first_bucket h buckets) x.table

    said : Forall₂ (Says (λ b e. keyed stored key e ≡ b)) seen walk
    said = walk_says test (λ b e. keyed stored key e ≡ b) holds_just buckets index x (8 * first_bucket h buckets)

    searches : searched seen (Err CapacityOverflow) ≡ slot_for test index buckets h
    searches = sym (slot_search test index buckets h (words_long buckets index x))

    own_walk : walk ≡ rot (8 * first_bucket (H key) buckets) x.table
    own_walk = ap (λ (j : ℕ). rot (8 * first_bucket j buckets) x.table) hash

    entries : hits (keyed stored key) walk ≡ only (keyed stored key) r
    entries = ap (hits (keyed stored key)) own_walk ∙ x.placed.whole key

    -- where a slot is found, no entry has the key
    pub empty_fresh : (s : ℕ) → slot_for test index buckets h ≡ Ok s → only (keyed stored key) r ≡ []
    empty_fresh s e =
        sym entries ∙ empty_hits (keyed stored key) said (searches ∙ e) (ap (λ (m : List (Option E)). hits (keyed stored key) (past m)) own_walk ∙ x.placed.front key)

    -- where the answer is (Err DuplicateKey), one has
    pub duplicate_has : slot_for test index buckets h ≡ (Err DuplicateKey) → (e : E) × (l : List E) × (only (keyed stored key) r ≡ e ∷ l) × ((stored e).key ≡ key)
    duplicate_has d = go (only (keyed stored key) r) refl
      where
        go : (m : List E) → only (keyed stored key) r ≡ m → (e : E) × (l : List E) × (only (keyed stored key) r ≡ e ∷ l) × ((stored e).key ≡ key)
        go [] f = absurd (duplicate_hits (keyed stored key) said (searches ∙ d) (entries ∙ f))
        go (e ∷ l) f = (e, l, f, same_true (stored e).key key (only_has (keyed stored key) r f))
