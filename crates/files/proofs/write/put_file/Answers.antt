-- `put_file` meets its contract: each block takes its part of the area. Assumes nothing.
use Rattle.std.proofs.Common.{◌≡◌, ◌∙◌, ◌*◌, ◌<◌, ℕ, sym, arith, true, length, take}
use native.Mathlib.Nat.{le_refl}
use Rattle.std.proofs.lemmas.List.{get_or-take, length-take-le}
use Rattle.sets.specs.Rebuild.{segments_inside, sum_of}
use Rattle.sets.proofs.RebuildAsked.{segments_pass}
use Rattle.files.specs.Write.{file_of, segment_bytes}
use Rattle.files.proofs.Asked.{WriteAsked, write_asked}
use Rattle.files.proofs.Pieces.{from_first, from_front, sum_front}
use Rattle.files.proofs.write.put_file.Goals as goal
use Rattle.files.proofs.write.put_file.Goals.{Start}

module _ (s : Start) where
  abbrev n : ℕ
  n = s.args.set.segments

  asked : WriteAsked s.args.set s.args.index.now s.args.filter.now s.args.areas.starts.now s.args.areas.lengths.now s.args.areas.arena.now s.args.file.now
  asked = write_asked s.args.set s.args.index.now s.args.filter.now s.args.areas.starts.now s.args.areas.lengths.now s.args.areas.arena.now s.args.file.now s.requires.asked

  starts_front : length (take n s.args.areas.starts.now) ≡ n
  starts_front = length-take-le n s.args.areas.starts.now (omega (arith, asked.few_segments, asked.starts_hold))

  lengths_front : length (take n s.args.areas.lengths.now) ≡ n
  lengths_front = length-take-le n s.args.areas.lengths.now (omega (arith, asked.few_segments, asked.lengths_hold))

  index_front : length (take (8 * s.args.set.buckets) s.args.index.now) ≡ 8 * s.args.set.buckets
  index_front = length-take-le (8 * s.args.set.buckets) s.args.index.now asked.index_holds

  filter_front : length (take s.args.set.filter_words s.args.filter.now) ≡ s.args.set.filter_words
  filter_front = length-take-le s.args.set.filter_words s.args.filter.now asked.filter_holds

  inside : segments_inside n (length s.args.areas.arena.now) (take n s.args.areas.starts.now) (take n s.args.areas.lengths.now) ≡ true
  inside =
      segments_pass (length s.args.areas.arena.now) (take n s.args.areas.starts.now) (take n s.args.areas.lengths.now) n
      (λ (g : ℕ) (h : g < n).
      omega (arith, get_or-take n s.args.areas.starts.now g 0 h, get_or-take n s.args.areas.lengths.now g 0 h, asked.inside g h, asked.filled_held))

  sum_is : sum_of n (take n s.args.areas.lengths.now) ≡ sum_of n s.args.areas.lengths.now
  sum_is = sum_front s.args.areas.starts.now s.args.areas.lengths.now s.args.areas.arena.now n n (le_refl n)

  bytes_are : segment_bytes n (take n s.args.areas.starts.now) (take n s.args.areas.lengths.now) s.args.areas.arena.now
      ≡ segment_bytes n s.args.areas.starts.now s.args.areas.lengths.now s.args.areas.arena.now
  bytes_are =
      sym (from_first (take n s.args.areas.starts.now) (take n s.args.areas.lengths.now) s.args.areas.arena.now n)
      ∙ from_front s.args.areas.starts.now s.args.areas.lengths.now s.args.areas.arena.now n 0 n (omega arith)
      ∙ from_first s.args.areas.starts.now s.args.areas.lengths.now s.args.areas.arena.now n

pub slice_bounds-lengths-end : goal.slice_bounds-lengths-end
slice_bounds-lengths-end c = sym (lengths_front (goal.at.slice_bounds-lengths-end c).Start)

pub put_block-requires : goal.put_block-requires
put_block-requires c = omega (arith, lengths_front (goal.at.put_block-requires c).Start, c.split_at_mut-out.ensures.front_len)

pub slice_bounds-words-end : goal.slice_bounds-words-end
slice_bounds-words-end c = sym (index_front (goal.at.slice_bounds-words-end c).Start)

pub put_index-requires : goal.put_index-requires
put_index-requires c = (c.split_at_mut-out-2.ensures.front_len, index_front (goal.at.put_index-requires c).Start)

pub slice_bounds-put_block-end : goal.slice_bounds-put_block-end
slice_bounds-put_block-end c = sym (filter_front (goal.at.slice_bounds-put_block-end c).Start)

pub put_block-requires-2 : goal.put_block-requires-2
put_block-requires-2 c = omega (arith, filter_front (goal.at.put_block-requires-2 c).Start, c.split_at_mut-out-3.ensures.front_len)

pub slice_bounds-segments-end : goal.slice_bounds-segments-end
slice_bounds-segments-end c = sym (starts_front (goal.at.slice_bounds-segments-end c).Start)

pub put_segments-requires : goal.put_segments-requires
put_segments-requires c =
    let s = (goal.at.put_segments-requires c).Start in
    let one = c.split_at_mut-counts.ensures.back_len in
    let two = c.split_at_mut-out.ensures.back_len in
    let three = c.split_at_mut-out-2.ensures.back_len in
    let four = c.split_at_mut-out-3.ensures.back_len in
    record {
      counts = starts_front s ∙ sym (lengths_front s);
      inside = rw (lengths_front s) (inside s);
      exact = rw (lengths_front s, sum_is s) (omega (arith, c.requires.exact, one, two, three, four));
    }

pub returns : goal.returns
unfolding file_of
returns c =
    let s = (goal.at.returns c).Start in
    let last = rw (lengths_front s, bytes_are s) at c.put_segments.ensures in
    rw (c.put_counts.ensures, c.put_block.ensures, c.put_index.ensures, c.put_block-2.ensures, last)
