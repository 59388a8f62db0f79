-- What each turn of the loop keeps.
use Rattle.std.proofs.Common.{◌≡◌, ◌+◌}
use Rattle.files.specs.Contents.{sum}
use Rattle.files.proofs.Reading.{all_words}
use Rattle.files.proofs.content.lengths_add_up.Given as goal

abbrev pub invariant-loop-word : goal.invariant-loop-word
invariant-loop-word l =
    (goal.iterator-loop-word).can_next l.word-iterator
    × (l.word-iterator.size ≡ 8)
    × (sum (all_words l.lengths) + l.left ≡ l.bytes + sum (all_words l.word-iterator.rest.now))
