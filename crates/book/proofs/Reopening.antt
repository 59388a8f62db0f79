-- An accepted rebuild open: the rebuild stands for an empty list, and its kept segments are those of the newest set. Assumes nothing.
use Rattle.std.specs.Prelude.{Some}
use mathlib.Core.Path.{◌≡◌, refl, sym, ap, ◌∙◌}
use mathlib.Core.Bool.{Bool, true, false, cond, not}
use mathlib.Core.List.{List, [], ◌∷◌}
use Prim.Native.Nat.{ℕ, zero, suc, ◌+◌, ◌*◌, ◌≤◌, ◌<◌}
use native.Mathlib.Omega.{arith}
use lib.Dec.{eqb}
use lib.ListN.{length, take, get_or}
use lib.Seq.{get_or-take, length-take-le}
use Rattle.records.specs.Area.{over}
use Rattle.index.specs.Build.{cleared}
use Rattle.index.specs.Segments.{padded}
use Rattle.index.proofs.Filling.{filled_back}
use Rattle.index.proofs.Kept.{cleared_indexed}
use Rattle.index.proofs.Table.{true≢false}
use Rattle.sets.specs.Kept.{chosen, is_kept, kept_count, kept_of, new_number, retained}
use Rattle.sets.specs.Questions.{buckets_in, filter_words_in}
use Rattle.sets.specs.Rebuild.{rebuild_opened, sum_of}
use Rattle.sets.proofs.KeptBits.{chosen_length, chosen_at, is_kept_flag, number_below, number_kept, retained_kept}
use Rattle.sets.proofs.RebuildAsked.{ReopenAsked}
use Rattle.sets.proofs.RebuildClosure.{rebuild_passes}
use Rattle.files.specs.Contents.{sum}
use Rattle.files.proofs.Moved.{sum_filled, sum_taken}
use Rattle.book.specs.Book.{ListedSet, Book, starts_in, filled_in, kept_by, reopened}
use Rattle.book.specs.Calls.{newest}
use Rattle.book.specs.World.{FinishedSet}
use Rattle.book.proofs.Finishing.{filled_at}
use Rattle.book.proofs.Relation.{SetHolds, RebuildHolds}

-- ---- flags and words

-- words past the flags are not looked at
chosen_front : (flags words : List ℕ) → chosen flags (take (length flags) words) ≡ chosen flags words
unfolding chosen
chosen_front [] words = refl
chosen_front (f ∷ flags) [] = refl
chosen_front (f ∷ flags) (w ∷ words) = ap (λ (l : List ℕ). cond (eqb f 0) l (w ∷ l)) (chosen_front flags words)

-- the book keeps the same
kept_chosen : (flags words : List ℕ) → kept_by flags words ≡ chosen flags words
unfolding chosen kept_by
kept_chosen [] words = refl
kept_chosen (f ∷ flags) [] = refl
kept_chosen (f ∷ flags) (w ∷ words) = ap (λ (l : List ℕ). cond (eqb f 0) l (w ∷ l)) (kept_chosen flags words)

-- a flag that keeps is one of the flags
flag_inside : (flags : List ℕ) (g : ℕ) → not (eqb (get_or flags g 0) 0) ≡ true → g < length flags
flag_inside [] g e = absurd (true≢false (sym e))
flag_inside (f ∷ flags) zero e = omega arith
flag_inside (f ∷ flags) (suc g) e = omega (arith, flag_inside flags g e)

-- what is chosen adds up to no more than what it is chosen from
chosen_sum : (flags words : List ℕ) → sum (chosen flags words) ≤ sum (take (length flags) words)
unfolding chosen
chosen_sum [] words = omega arith
chosen_sum (f ∷ flags) [] = omega arith
chosen_sum (f ∷ flags) (w ∷ words) = go (eqb f 0) (chosen_sum flags words)
  where
    go : (b : Bool) → sum (chosen flags words) ≤ sum (take (length flags) words) → sum (cond b (chosen flags words) (w ∷ chosen flags words)) ≤ w + sum (take (length flags) words)
    go true h = omega arith
    go false h = omega arith

module _ (H : List ℕ → ℕ) where
  pub rebuild_open : (s : FinishedSet) (l : ListedSet) (k : Book) (arena : List ℕ) (top : ℕ) → SetHolds H k.expiry arena top s l → newest k.sets ≡ Some l → l.filled ≤ length k.tape
      → (records copied : ℕ) (flags : List ℕ) (tick : ℕ) (index filter starts lengths : List ℕ)
      → ReopenAsked s.cache s.areas.starts s.areas.lengths (length arena) records copied flags (length index) (length filter) (length starts) (length lengths)
      → rebuild_passes (rebuild_opened s.cache records flags tick) (length (cleared index (8 * buckets_in s.cache.config records)))
      (length (cleared filter (filter_words_in s.cache.config records)))
      (over (padded (chosen flags s.areas.starts)) starts) (over (padded (chosen flags s.areas.lengths)) lengths) (length arena) ≡ true
      → RebuildHolds H (rebuild_opened s.cache records flags tick)
      record {
        index = cleared index (8 * buckets_in s.cache.config records);
        filter = cleared filter (filter_words_in s.cache.config records);
        starts = over (padded (chosen flags s.areas.starts)) starts;
        lengths = over (padded (chosen flags s.areas.lengths)) lengths;
      }
      (length arena) (reopened k flags tick)
  rebuild_open s l k arena top ok newer low records copied flags tick index filter starts lengths asked passes =
      record {
        typed = ok.typed;
        sums = sums;
        expiry = ok.expiry;
        base = ok.filled ∙ sym top_is;
        filled = omega (arith, ok.filled, cut);
        tick = refl;
        passes = passes;
        kept = ap (λ (n : ℕ). take n (over (padded kept) starts)) (retained_kept flags few ∙ sym size) ∙ filled_back kept starts short ∙ same;
        sourced = sourced;
        index = cleared_indexed (buckets_in s.cache.config records) index _ (filter_words_in s.cache.config records) asked.index_holds;
      }
    where
      top_is : filled_in (newest k.sets) ≡ l.filled
      top_is = ap filled_in newer

      cut : length (take (filled_in (newest k.sets)) k.tape) ≡ l.filled
      cut = ap (λ (n : ℕ). length (take n k.tape)) top_is ∙ length-take-le l.filled k.tape low

      kept : List ℕ
      kept = chosen flags s.areas.starts

      few : length flags ≤ 256
      few = omega (arith, asked.same_count, asked.areas.few)

      held : length flags ≤ length s.areas.starts
      held = omega (arith, few, asked.areas.starts_hold)

      size : length kept ≡ kept_count flags
      size = chosen_length flags s.areas.starts held

      short : length kept ≤ 256
      short = omega (arith, size, asked.few)

      sums : sum_of (retained (kept_of flags)) (over (padded (chosen flags s.areas.lengths)) lengths) ≤ s.cache.filled
      sums =
          let held' : length flags ≤ length s.areas.lengths = omega (arith, few, asked.areas.lengths_hold) in
          let n : retained (kept_of flags) ≡ length (chosen flags s.areas.lengths) = retained_kept flags few ∙ sym (chosen_length flags s.areas.lengths held') in
          let all : sum_of (retained (kept_of flags)) (over (padded (chosen flags s.areas.lengths)) lengths) ≡ sum (chosen flags s.areas.lengths) =
          ap (λ (i : ℕ). sum_of i (over (padded (chosen flags s.areas.lengths)) lengths)) n
          ∙ sum_filled (chosen flags s.areas.lengths) lengths (omega (arith, chosen_length flags s.areas.lengths held', asked.few)) asked.lengths_hold in
          let whole : sum (take (length flags) s.areas.lengths) ≡ sum_of s.cache.segments s.areas.lengths =
          sum_taken (length flags) s.areas.lengths held' ∙ ap (λ (i : ℕ). sum_of i s.areas.lengths) asked.same_count in
          omega (arith, all, whole, chosen_sum flags s.areas.lengths, ok.segments.sums)

      listed : take (length flags) s.areas.starts ≡ starts_in (newest k.sets)
      listed = ap (λ (n : ℕ). take n s.areas.starts) asked.same_count ∙ ok.starts ∙ ap starts_in (sym newer)

      same : kept ≡ kept_by flags (starts_in (newest k.sets))
      same = sym (chosen_front flags s.areas.starts) ∙ ap (chosen flags) listed ∙ sym (kept_chosen flags (starts_in (newest k.sets)))

      sourced : (g : ℕ) → is_kept (kept_of flags) g ≡ true → get_or (over (padded kept) starts) (new_number (kept_of flags) g) 0 ≡ get_or (starts_in (newest k.sets)) g 0
      sourced g e =
          let flag : not (eqb (get_or flags g 0) 0) ≡ true = sym (is_kept_flag flags g few) ∙ e in
          filled_at kept starts (new_number (kept_of flags) g) short (omega (arith, number_below (kept_of flags) g e, retained_kept flags few, size))
          ∙ ap (λ (n : ℕ). get_or kept n 0) (number_kept flags g few)
          ∙ chosen_at flags s.areas.starts g held flag
          ∙ sym (get_or-take (length flags) s.areas.starts g 0 (flag_inside flags g flag))
          ∙ ap (λ (m : List ℕ). get_or m g 0) listed
