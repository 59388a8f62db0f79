-- An accepted finish keeps the relation of world and book. Assumes nothing.
use Rattle.std.specs.Prelude.{Some}
use mathlib.Core.Path.{◌≡◌, sym, ap, ◌∙◌, subst}
use mathlib.Core.Bool.{true, false}
use mathlib.Core.List.{List, [], ◌∷◌}
use Prim.Native.Nat.{ℕ, suc, ◌+◌, ◌-◌, ◌*◌, ◌^◌, ◌≤◌, ◌<◌}
use native.Mathlib.Omega.{arith}
use lib.ListN.{length, take, get_or}
use Rattle.hash_parts.specs.declared.setting.SegmentExpiry.{SegmentExpiry}
use Rattle.records.specs.Area.{over}
use Rattle.index.specs.SegmentStarts.{Ascends}
use Rattle.index.specs.Segments as cuts
use Rattle.index.proofs.Contents.{word_slots, stored_in}
use Rattle.index.proofs.Entries.{Indexed, words_long}
use Rattle.index.proofs.Filling.{filled_back}
use Rattle.index.proofs.Kept.{one_start, split_indexed}
use Rattle.index.proofs.Splits.{lengths_length}
use Rattle.index.proofs.Starts.{starts_ascend}
use Rattle.sets.specs.Build.{set_of, segment_starts, finish_made}
use Rattle.sets.specs.Lookup.{areas_hold_lookup, view_of}
use Rattle.sets.specs.Questions.{scratch_holds}
use Rattle.sets.specs.Rebuild.{segments_inside, sum_of}
use Rattle.sets.specs.declared.builder.SegmentCacheBuilder.{SegmentCacheBuilder}
use Rattle.sets.proofs.Asked.{FinishAsked}
use Rattle.sets.proofs.RebuildAsked.{segments_each}
use Rattle.files.specs.Contents.{sum}
use Rattle.files.proofs.Moved.{sum_filled}
use Rattle.files.proofs.SmallWords.{small_laid}
use Rattle.book.specs.Book.{Entry, Book, book_starts}
use Rattle.book.specs.World.{Areas}
use Rattle.book.proofs.Cutting.{index_starts, every_start}
use Rattle.book.proofs.Finishing.{split_reads, laid_out, filled_at}
use Rattle.book.proofs.Keys.{stored_of}
use Rattle.book.proofs.Relation.{BuilderHolds, SetHolds}
use Rattle.book.proofs.Standing.{Every, every_nil, every_cons, bytes_of, places, Stands}

every_tail : {P : ℕ → Type 0} {a : ℕ} {l : List ℕ} → Every P (a ∷ l) → Every P l
every_tail (every_cons x r) = r

every_both : {P Q R : ℕ → Type 0} → ((v : ℕ) → P v → Q v → R v) → {l : List ℕ} → Every P l → Every Q l → Every R l
every_both f every_nil every_nil = every_nil
every_both f (every_cons x r) (every_cons y s) = every_cons (f _ x y) (every_both f r s)

-- the lengths of ascending starts add up to what follows the first
lengths_sum : (filled first : ℕ) (rest : List ℕ) → Ascends (first ∷ rest) → ((i : ℕ) → i < length (first ∷ rest) → get_or (first ∷ rest) i 0 ≤ filled)
    → sum (cuts.lengths_of filled (first ∷ rest)) ≡ filled - first
unfolding cuts.lengths_of
lengths_sum filled first [] up most = omega arith
lengths_sum filled first (next ∷ rest) up most =
    let r = lengths_sum filled next rest (λ i h. up (suc i) (omega arith)) (λ i h. most (suc i) (omega arith)) in
    omega (arith, r, up 0 (omega arith), most 1 (omega arith))

module _ (H : List ℕ → ℕ) where
  pub builder_finish : (b : SegmentCacheBuilder) (a : Areas) (arena scratch : List ℕ) (target : ℕ) (k : Book) → BuilderHolds H b a (length arena) k
      → FinishAsked b target a.index (length a.starts) (length a.lengths) (length scratch) (length arena) → length (segment_starts b target a.index) ≤ 256
      → take (length k.tape) arena ≡ k.tape
      → areas_hold_lookup (set_of b (length (segment_starts b target a.index)))
      (length (finish_made b target a.index a.starts a.lengths scratch).index) (length a.filter)
      (length (finish_made b target a.index a.starts a.lengths scratch).starts)
      (length (finish_made b target a.index a.starts a.lengths scratch).lengths) (length arena) ≡ true
      → segments_inside (length (segment_starts b target a.index)) b.filled
      (finish_made b target a.index a.starts a.lengths scratch).starts (finish_made b target a.index a.starts a.lengths scratch).lengths ≡ true
      → SetHolds H k.expiry arena (length k.tape)
      record {
        cache = set_of b (length (segment_starts b target a.index));
        areas =
            record {
              index = (finish_made b target a.index a.starts a.lengths scratch).index;
              filter = a.filter;
              starts = (finish_made b target a.index a.starts a.lengths scratch).starts;
              lengths = (finish_made b target a.index a.starts a.lengths scratch).lengths;
            };
      }
      record { list = k.list; starts = book_starts (length k.tape) target k.list; filled = length k.tape }
  unfolding scratch_holds cuts.starts_of
  builder_finish b a arena scratch target k ok asked few memory passes inside =
      record {
        typed = ok.typed;
        segments = record { inside = inside; bytes = sym total; sums = omega (arith, total) };
        expiry = ok.expiry;
        low = omega (arith, ok.filled);
        filled = ok.filled;
        starts = filled_back ss a.starts few ∙ same;
        passes = passes;
        small = small_laid b.config.packed_bucket_index b.bucket_count splits scratch (words_long b.bucket_count splits laid) asked.scratch_held;
        index = laid_out b.config.packed_bucket_index b.bucket_count splits scratch asked.scratch_held laid;
      }
    where
      x : SegmentExpiry
      x = k.expiry

      tape : List ℕ
      tape = k.tape

      ws : List ℕ
      ws = take (8 * b.bucket_count) a.index

      ss : List ℕ
      ss = cuts.starts_of ws b.filled target

      most : (i : ℕ) → i < length ss → get_or ss i 0 ≤ b.filled
      most i h =
          let e = segments_each b.filled (over (cuts.padded ss) a.starts) (over (cuts.padded (cuts.lengths_of b.filled ss)) a.lengths) (length ss) inside i h in
          omega (arith, e, filled_at ss a.starts i few h)

      total : sum_of (length ss) (over (cuts.padded (cuts.lengths_of b.filled ss)) a.lengths) ≡ b.filled
      total =
          let n = lengths_length b.filled ss in
          ap (λ (i : ℕ). sum_of i (over (cuts.padded (cuts.lengths_of b.filled ss)) a.lengths)) (sym n)
          ∙ sum_filled (cuts.lengths_of b.filled ss) a.lengths (omega (arith, n, few)) asked.lengths_hold
          ∙ lengths_sum b.filled 0 (cuts.starts_after 256 ws b.filled target 0) (starts_ascend ws b.filled target) most
          ∙ (let None : b.filled - 0 ≡ b.filled = omega arith in None)

      short : length tape ≤ 2 ^ 30
      short = omega (arith, ok.filled, asked.areas.filled_held, asked.areas.arena_short)

      same : ss ≡ book_starts (length tape) target k.list
      same =
          rw (← ok.filled)
          (index_starts b.bucket_count a.index a.filter b.filter_words b.filled target k.list ok.index asked.some_target (rw ok.filled ok.below)
          (omega (arith, ok.filled, short)) few)

      Reads : ℕ → Entry → Type 0
      Reads m e =
          stored_in (view_of (set_of b (length ss))) arena (over (cuts.padded ss) a.starts) (over (cuts.padded (cuts.lengths_of b.filled ss)) a.lengths) m
          ≡ Some (stored_of e)

      located : (e : Entry) → Stands x tape (places k.list) 0 e → ⊥
      located e h = omega (arith, h.flat)

      apart : (e : Entry) {l : ℕ} → Stands x tape (places k.list) l e → Every (λ c. (e.at < c → e.at + length (bytes_of x e) ≤ c) × (c ≤ length tape)) ss
      apart e h =
          subst (λ (m : List ℕ). Every (λ c. (e.at < c → e.at + length (bytes_of x e) ≤ c) × (c ≤ length tape)) m) (sym same)
          (every_start (λ c. (e.at < c → e.at + length (bytes_of x e) ≤ c) × (c ≤ length tape)) target k.list (every_both (λ v p q. (p, omega (arith, q))) h.apart ok.below) (length tape)
          (λ (z : e.at < 0). omega arith, omega arith))

      moves : (l : ℕ) (e : Entry) → Stands x tape (places k.list) (l + 1) e → (cuts.segmented ss l + 1 < 2 ^ 40) × Reads (cuts.segmented ss l + 1) e
      moves l e h =
          let at : l ≡ e.at = omega (arith, h.flat) in
          rw (at, ok.expiry, ok.filled)
          (split_reads x tape arena a.starts a.lengths memory short asked.starts_hold asked.lengths_hold 0 _ (rw ok.filled at few) e h.written (omega arith)
          (rw ok.filled at (every_tail (apart e h))))

      splits : List ℕ
      splits = cuts.split_words a.index b.bucket_count ss b.filled target

      laid : Indexed stored_of H false Reads b.bucket_count (word_slots b.bucket_count splits) a.filter b.filter_words k.list
      laid = split_indexed (Stands x tape (places k.list)) Reads ss located moves b.bucket_count a.index b.filled target (one_start ws b.filled target) ok.index
