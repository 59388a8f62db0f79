-- Laws of index words: what a word was made of is read back, and the access mark changes neither tag nor location. Assumes nothing.
use Rattle.std.proofs.Common.{◌≡◌, ℕ, ◌+◌, ◌^◌, ◌<◌, arith}
use Rattle.index.specs.Word.{word_of, word_tag, word_stored, marked, unmarked}

module _ (tag location : ℕ) (tag_fits : tag < 2 ^ 23) (location_fits : location + 1 < 2 ^ 40) where
  pub tag_back : word_tag (word_of tag location) ≡ tag
  tag_back = omega arith

  pub location_back : word_stored (word_of tag location) ≡ location + 1
  location_back = omega arith

  pub word_taken : word_of tag location ≡ 0 → ⊥
  word_taken e = omega arith

pub marked_tag : (w : ℕ) → word_tag (marked w) ≡ word_tag w
marked_tag w = omega arith

pub marked_stored : (w : ℕ) → word_stored (marked w) ≡ word_stored w
marked_stored w = omega arith

pub unmarked_tag : (w : ℕ) → word_tag (unmarked w) ≡ word_tag w
unmarked_tag w = omega arith

pub unmarked_stored : (w : ℕ) → word_stored (unmarked w) ≡ word_stored w
unmarked_stored w = omega arith
