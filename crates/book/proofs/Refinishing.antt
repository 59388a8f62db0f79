-- An accepted rebuild finish makes of what the open rebuild stands for what the rebuilt set stands for: every entry is read in its segment, the copied ones
-- in the last. Assumes nothing.
use Rattle.std.specs.Prelude.{Some}
use mathlib.Core.Path.{◌≡◌, refl, sym, ap, ap₂, ◌∙◌}
use mathlib.Core.Bool.{Bool, true, false, cond}
use mathlib.Core.List.{List, [], ◌∷◌, ◌++◌}
use mathlib.Core.Logic.{◌≢◌}
use Prim.Native.Nat.{ℕ, zero, suc, ◌+◌, ◌-◌, ◌*◌, ◌/◌, ◌%◌, ◌^◌, ◌≤◌, ◌<◌}
use native.Mathlib.Omega.{arith}
use lib.Dec.{eqb, ltb}
use lib.ListN.{length, take, set, get_or, length-set}
use lib.Seq.{get_or-set_same, get_or-set_other, length-take-le, take-suc-set}
use borrow.Author.Tests.{eq-eqb, eqb-true, eqb-false, ne_eqb, lt-ltb, le-ltb}
use Rattle.records.specs.Area.{part}
use Rattle.records.specs.Record.{stored_at}
use Rattle.index.specs.View.{is_segment}
use Rattle.index.specs.declared.view.SegmentView.{SegmentView}
use Rattle.index.proofs.Contents.{stored_in}
use Rattle.index.proofs.Entries.{reheld}
use Rattle.index.proofs.Table.{true≢false}
use Rattle.sets.specs.Kept.{retained}
use Rattle.sets.specs.Lookup.{areas_hold_lookup, view_of}
use Rattle.sets.specs.Questions.{scratch_holds}
use Rattle.sets.specs.Rebuild.{adds_segment, rebuilt_set, with_last, rebuild_finish_made, segment_for, segments_inside, sum_of}
use Rattle.sets.specs.declared.rebuild.SharedSegmentCacheBuilder.{SharedSegmentCacheBuilder}
use Rattle.sets.proofs.RebuildAsked.{RefinishAsked}
use Rattle.sets.proofs.RebuildSteps.{sum_more}
use Rattle.files.proofs.SmallWords.{small_laid}
use Rattle.book.specs.Book.{Entry, Book, filled_in, rebuilt_starts}
use Rattle.book.specs.Calls.{newest}
use Rattle.book.specs.World.{Areas}
use Rattle.book.proofs.Finishing.{location_parts, laid_out}
use Rattle.book.proofs.Keys.{stored_of}
use Rattle.book.proofs.Reading.{stored_segment}
use Rattle.book.proofs.Relation.{Rests, rests_kept, rests_copied, RebuildHolds, SetHolds}
use Rattle.book.proofs.Standing.{bytes_of, written_end, some_bytes, part_reads}

-- ---- the starts

-- the book's starts: a last segment just where the rebuild adds one
rebuilt_is : (kept : List ℕ) (n base copied : ℕ) → length kept ≡ n → rebuilt_starts kept base (base + copied) ≡ cond (cond (eqb copied 0) (eqb n 0) true) (kept ++ (base ∷ [])) kept
rebuilt_is [] n base copied e = rw (eq-eqb n 0 (sym e)) (go (eqb copied 0))
  where
    go : (t : Bool) → base ∷ [] ≡ cond (cond t true true) (base ∷ []) []
    go true = refl
    go false = refl
rebuilt_is (s ∷ kept) n base copied e = rw (ne_eqb n 0 (λ (z : n ≡ 0). omega (arith, e))) (go (eqb copied 0) refl)
  where
    go : (t : Bool) → eqb copied 0 ≡ t
        → cond (ltb base (base + copied)) ((s ∷ kept) ++ (base ∷ [])) (s ∷ kept) ≡ cond (cond t false true) ((s ∷ kept) ++ (base ∷ [])) (s ∷ kept)
    go true f = rw (le-ltb base (base + copied) (omega (arith, eqb-true copied 0 f)))
    go false f =
        let some_copied : copied ≡ 0 → ⊥ = eqb-false copied 0 f in
        rw (lt-ltb base (base + copied) (omega (arith, some_copied)))

-- there is room for it
adds_few : (n copied : ℕ) (t : Bool) → n + segment_for copied ≤ 256 → cond (eqb copied 0) (eqb n 0) true ≡ t → n + cond t 1 0 ≤ 256
adds_few n copied t h q = go (eqb copied 0) t h q
  where
    go : (c u : Bool) → n + cond c 0 1 ≤ 256 → cond c (eqb n 0) true ≡ u → n + cond u 1 0 ≤ 256
    go true true h q = omega (arith, eqb-true n 0 q)
    go true false h q = omega (arith, h)
    go false true h q = h
    go false false h q = absurd (true≢false q)

adds_none : (n copied : ℕ) → cond (eqb copied 0) (eqb n 0) true ≡ false → copied ≡ 0
adds_none n copied q = go (eqb copied 0) refl q
  where
    go : (c : Bool) → eqb copied 0 ≡ c → cond c (eqb n 0) true ≡ false → copied ≡ 0
    go true e q = eqb-true copied 0 e
    go false e q = absurd (true≢false q)

-- ---- reading in the rebuilt set

-- n kept segments, and a last one of the copied bytes if there are any
module _ (view : SegmentView) (tape arena starts lengths S L : List ℕ) (base n : ℕ) (memory : take view.filled arena ≡ tape) (small : length tape ≤ 2 ^ 30)
    (wide : (view.segments ≤ length S) × (view.segments ≤ length L))
    (olds : (g : ℕ) → g < n → (g < view.segments) × (get_or S g 0 ≡ get_or starts g 0) × (get_or L g 0 ≡ get_or lengths g 0))
    (news : base < length tape → (n < view.segments) × (get_or S n 0 ≡ base) × (get_or L n 0 ≡ length tape - base)) where
  -- in one segment
  in_one : (g o : ℕ) (e : Entry) → o < 2 ^ 32 → g < view.segments → get_or S g 0 + get_or L g 0 ≤ length tape
      → stored_at view.expiry (part (get_or S g 0) (get_or L g 0) tape) o ≡ Some (stored_of e) → stored_in view arena S L (g * 2 ^ 32 + o + 1) ≡ Some (stored_of e)
  in_one g o e p q h f = rw plus (stored_segment view arena S L location (stored_of e) is_segment_law fits reads)
    where
      location : ℕ
      location = g * 2 ^ 32 + o

      plus : location + 1 ≡ suc location
      plus = omega arith

      parts : (location / 2 ^ 32 ≡ g) × (location % 2 ^ 32 ≡ o)
      parts = location_parts g o p

      is_segment_law : is_segment view S L (location / 2 ^ 32) ≡ true
      is_segment_law = rw (parts.0, lt-ltb g view.segments q, lt-ltb g (length S) (omega (arith, wide.0)), lt-ltb g (length L) (omega (arith, wide.1)))

      fits : get_or S (location / 2 ^ 32) 0 + get_or L (location / 2 ^ 32) 0 ≤ length (take view.filled arena)
      fits = rw (parts.0, memory) h

      reads : stored_at view.expiry (part (get_or S (location / 2 ^ 32) 0) (get_or L (location / 2 ^ 32) 0) (take view.filled arena)) (location % 2 ^ 32) ≡ Some (stored_of e)
      reads = rw (parts.0, parts.1, memory) f

  rests_read : (l : ℕ) (e : Entry) → Rests view.expiry tape base n starts lengths l e → stored_in view arena S L l ≡ Some (stored_of e)
  rests_read l e (rests_kept g o p q h f) =
      let z = olds g q in
      in_one g o e p z.0 (rw (z.1, z.2) h) (rw (z.1, z.2) f)
  rests_read l e (rests_copied p w) =
      let end : e.at + length (bytes_of view.expiry e) ≤ length tape = written_end view.expiry tape e w in
      let full : 0 < length (bytes_of view.expiry e) = some_bytes view.expiry e w.back in
      let z = news (omega arith) in
      in_one n (e.at - base) e (omega arith) z.0 (rw (z.1, z.2) (omega arith))
      (rw (z.1, z.2) (part_reads view.expiry tape e w base (length tape - base) record { from = p; to = omega arith; in_cap = omega arith }))

-- ---- the rebuilt set

-- the words before the last are as they were
sum_set : (l : List ℕ) (m n v : ℕ) → m ≤ n → sum_of m (set l n v) ≡ sum_of m l
unfolding sum_of
sum_set l zero n v h = refl
sum_set l (suc m) n v h =
    let other : m ≢ n = omega arith in
    ap₂ (λ (x y : ℕ). x + y) (sum_set l m n v (omega arith)) (get_or-set_other l n m v 0 other)

module _ (H : List ℕ → ℕ) where
  pub rebuild_finish : (r : SharedSegmentCacheBuilder) (a : Areas) (arena scratch : List ℕ) (k : Book) → RebuildHolds H r a (length arena) k → take (length k.tape) arena ≡ k.tape
      → RefinishAsked r (length a.index) a.starts a.lengths (length scratch) (length arena)
      → areas_hold_lookup (rebuilt_set r a.lengths) (length (rebuild_finish_made r a.index a.starts a.lengths scratch).index) (length a.filter)
      (length (with_last r a.starts r.source_filled)) (length (with_last r a.lengths r.copied_bytes)) (length arena) ≡ true
      → segments_inside (rebuilt_set r a.lengths).segments (rebuilt_set r a.lengths).filled (with_last r a.starts r.source_filled) (with_last r a.lengths r.copied_bytes) ≡ true
      → SetHolds H k.expiry arena (length k.tape)
      record {
        cache = rebuilt_set r a.lengths;
        areas =
            record {
              index = (rebuild_finish_made r a.index a.starts a.lengths scratch).index;
              filter = a.filter;
              starts = with_last r a.starts r.source_filled;
              lengths = with_last r a.lengths r.copied_bytes;
            };
      }
      record { list = k.list; starts = rebuilt_starts k.kept (filled_in (newest k.sets)) (length k.tape); filled = length k.tape }
  unfolding scratch_holds adds_segment
  rebuild_finish r a arena scratch k ok memory asked passes inside =
      record {
        typed = ok.typed;
        segments = record { inside = inside; bytes = sym (total (adds_segment r) refl); sums = omega (arith, total (adds_segment r) refl, ok.sums) };
        expiry = ok.expiry;
        low = omega (arith, ok.filled);
        filled = ok.filled;
        starts = starts_are (adds_segment r) refl ∙ sym listed;
        passes = passes;
        small = small_laid r.config.packed_bucket_index r.bucket_count a.index scratch asked.areas.index_holds asked.scratch_held;
        index =
            laid_out r.config.packed_bucket_index r.bucket_count a.index scratch asked.scratch_held
            (reheld (λ l e h. rests_read view k.tape arena a.starts a.lengths (S (adds_segment r)) (L (adds_segment r)) base n bytes small (wide (adds_segment r) refl)
            (olds (adds_segment r)) (news (adds_segment r) refl) l e (rw (← ok.expiry) at h)) ok.index);
      }
    where
      n : ℕ
      n = retained r.kept

      base : ℕ
      base = r.source_filled

      copied : ℕ
      copied = r.copied_bytes

      view : SegmentView
      view = view_of (rebuilt_set r a.lengths)

      S : Bool → List ℕ
      S t = cond t (set a.starts n base) a.starts

      L : Bool → List ℕ
      L t = cond t (set a.lengths n copied) a.lengths

      bytes : take (base + copied) arena ≡ k.tape
      bytes = ap (λ (i : ℕ). take i arena) ok.filled ∙ memory

      small : length k.tape ≤ 2 ^ 30
      small = omega (arith, ok.filled, asked.areas.filled_held, asked.areas.arena_short)

      N : Bool → ℕ
      N t = n + cond t 1 0

      few : (t : Bool) → adds_segment r ≡ t → N t ≤ 256
      few t q = adds_few n copied t asked.areas.numbers.few q

      wide : (t : Bool) → adds_segment r ≡ t → (N t ≤ length (S t)) × (N t ≤ length (L t))
      wide true q = (
        omega (arith, few true q, asked.areas.starts_hold, length-set a.starts n base),
        omega (arith, few true q, asked.areas.lengths_hold, length-set a.lengths n copied),
      )
      wide false q = (omega (arith, few false q, asked.areas.starts_hold), omega (arith, few false q, asked.areas.lengths_hold))

      total : (t : Bool) → adds_segment r ≡ t → sum_of (N t) (L t) ≡ sum_of n a.lengths + copied
      total true q =
          sum_more n (set a.lengths n copied)
          ∙ ap₂ (λ (x y : ℕ). x + y) (sum_set a.lengths n n copied (omega arith)) (get_or-set_same a.lengths n copied 0 (omega (arith, few true q, asked.areas.lengths_hold)))
      total false q =
          let None : copied ≡ 0 = adds_none n copied q in
          let plus : n + 0 ≡ n = omega arith in
          ap (λ (i : ℕ). sum_of i a.lengths) plus ∙ omega (arith, None)

      olds : (t : Bool) (g : ℕ) → g < n → (g < N t) × (get_or (S t) g 0 ≡ get_or a.starts g 0) × (get_or (L t) g 0 ≡ get_or a.lengths g 0)
      olds true g h =
          let other : g ≢ n = omega arith in
          (omega arith, get_or-set_other a.starts n g base 0 other, get_or-set_other a.lengths n g copied 0 other)
      olds false g h = (omega arith, refl, refl)

      news : (t : Bool) → adds_segment r ≡ t → base < length k.tape → (n < N t) × (get_or (S t) n 0 ≡ base) × (get_or (L t) n 0 ≡ length k.tape - base)
      news true q h =
          let rest : copied ≡ length k.tape - base = omega (arith, ok.filled) in (
            omega arith,
            get_or-set_same a.starts n base 0 (omega (arith, few true q, asked.areas.starts_hold)),
            get_or-set_same a.lengths n copied 0 (omega (arith, few true q, asked.areas.lengths_hold)) ∙ rest,
          )
      news false q h = absurd (omega (arith, ok.filled, adds_none n copied q))

      starts_are : (t : Bool) → adds_segment r ≡ t → take (N t) (S t) ≡ cond t (k.kept ++ (base ∷ [])) k.kept
      starts_are true q =
          let plus : n + 1 ≡ suc n = omega arith in
          rw plus (take-suc-set a.starts n base (omega (arith, few true q, asked.areas.starts_hold))) ∙ ap (λ (m : List ℕ). m ++ (base ∷ [])) ok.kept
      starts_are false q =
          let plus : n + 0 ≡ n = omega arith in
          rw plus ok.kept

      many : length k.kept ≡ n
      many = ap length (sym ok.kept) ∙ length-take-le n a.starts (omega (arith, asked.areas.numbers.few, asked.areas.starts_hold))

      listed : rebuilt_starts k.kept (filled_in (newest k.sets)) (length k.tape) ≡ cond (adds_segment r) (k.kept ++ (base ∷ [])) k.kept
      listed = ap₂ (rebuilt_starts k.kept) (sym ok.base) (sym ok.filled) ∙ rebuilt_is k.kept n base copied many
