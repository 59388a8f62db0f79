-- The lines of a whole input, and that reading it in blocks gives just these. Assumes nothing.
use mathlib.Core.Path.{◌≡◌, refl, sym, ap, subst, ◌∙◌}
use mathlib.Core.Bool.{Bool, true, false, cond}
use mathlib.Core.List.{List, [], ◌∷◌, ◌++◌, map, append_assoc, append-nil}
use Rattle.std.proofs.Common.{Option, Some, None}
use Prim.Native.Nat.{ℕ, suc, ◌+◌, ◌-◌, ◌≤◌, ◌<◌}
use native.Mathlib.Decide.{dec_lt}
use native.Mathlib.Omega.{arith}
use borrow.Author.Tests.{lt-ltb, le-ltb, ne_eqb}
use lib.Dec.{eqb, ltb}
use lib.ListN.{length, take, drop, length-append, length-drop, drop_of_length-le}
use lib.Seq.{drop_at, drop-drop, length-take-le, take-add, take_at, take-take}
use Rattle.records.specs.Area.{part}
use Rattle.passage_lines.specs.Bytes.{before, first_from}
use Rattle.passage_lines.specs.Input.{input, unread, Next, next, next_before, next_line, kept_unread}
use Rattle.passage_lines.specs.declared.input.Input.{Input}
use Rattle.passage_lines.specs.declared.input.NextLine.{NextLine}
use Rattle.passage_lines.specs.declared.input.NextLine.TheVariants.{Line, TooLong, Skipped, More}
use Rattle.passage_lines.proofs.Search.{before_front}

-- ---- the lines of a whole input

-- the lines of what is left of an input, after so many bytes of a line; a line feed (10) ends a line, and a last line without one counts
unfoldable pub lines_from : List ℕ → List ℕ → List (List ℕ)
lines_from seen [] = cond (eqb (length seen) 0) [] (seen ∷ [])
lines_from seen (c ∷ s) =
    let ended : List (List ℕ) = seen ∷ lines_from [] s in
    let longer : List (List ℕ) = lines_from (seen ++ (c ∷ [])) s in
    cond (eqb c 10) ended longer

-- "A line [..] over 8,192 bytes [..] prints `bad`": only that it is there counts
abbrev pub limited : List ℕ → Option (List ℕ)
limited line = cond (ltb 8192 (length line)) None (Some line)

-- the lines of an input
unfoldable pub lines_of : List ℕ → List (Option (List ℕ))
lines_of s = map limited (lines_from [] s)

-- ---- the lines of the whole input, as its blocks give them

-- what stands after the next line feed
unfoldable pub after_feed : List ℕ → List ℕ
after_feed [] = []
after_feed (c ∷ s) = cond (eqb c 10) s (after_feed s)

-- the lines that are left of an input; of a line that was too long the rest counts no more
abbrev pub lines_left : Bool → List ℕ → List (Option (List ℕ))
lines_left false s = lines_of s
lines_left true s = lines_of (after_feed s)

-- what stands next in a block, before the lines of the rest
abbrev pub stood : List ℕ → NextLine → List (Option (List ℕ)) → List (Option (List ℕ))
stood block (Line from to) rest = limited (part from (to - from) block) ∷ rest
stood block TooLong rest = None ∷ rest
stood block Skipped rest = rest
stood block More rest = rest

-- the lines that a block and the input after it have, by what stands next in the block
abbrev pub lines_by : List ℕ → List ℕ → Next → List (Option (List ℕ))
lines_by block later n = stood block n.line (lines_left n.rest.skipping (unread block n.rest ++ later))

-- the line that is left where the input ends after a state that asked for more
abbrev pub last_line : Bool → List ℕ → List (Option (List ℕ))
last_line true s = []
last_line false s = cond (eqb (length s) 0) [] (Some s ∷ [])

pub part_length : (at count : ℕ) (area : List ℕ) → at + count ≤ length area → length (part at count area) ≡ count
part_length at count area h = length-take-le count (drop at area) (omega (arith, length-drop at area))

-- ---- the lines of an input, by its next line feed

-- bytes with no line feed begin the line that the rest goes on with
lines_plain : (seen s later : List ℕ) → length s ≤ length (before 10 s) → lines_from seen (s ++ later) ≡ lines_from (seen ++ s) later
unfolding before lines_from
lines_plain seen [] later h = ap (λ (t : List ℕ). lines_from t later) (sym (append-nil seen))
lines_plain seen (c ∷ s) later h = go (eqb c 10) h (lines_plain (seen ++ (c ∷ [])) s later)
  where
    go : (t : Bool) → suc (length s) ≤ length (cond t [] (c ∷ before 10 s))
        → (length s ≤ length (before 10 s) → lines_from (seen ++ (c ∷ [])) (s ++ later) ≡ lines_from ((seen ++ (c ∷ [])) ++ s) later)
        → cond t (seen ∷ lines_from [] (s ++ later)) (lines_from (seen ++ (c ∷ [])) (s ++ later)) ≡ lines_from (seen ++ (c ∷ s)) later
    go true h f = absurd (omega arith)
    go false h f = f (omega arith) ∙ ap (λ (t : List ℕ). lines_from t later) (append_assoc seen (c ∷ []) s)

-- bytes with a line feed end a line at it
lines_feed : (seen s later : List ℕ) → length (before 10 s) < length s → lines_from seen (s ++ later) ≡ (seen ++ before 10 s) ∷ lines_from [] (drop (suc (length (before 10 s))) s ++ later)
unfolding before lines_from
lines_feed seen [] later h = absurd (omega arith)
lines_feed seen (c ∷ s) later h = go (eqb c 10) h (lines_feed (seen ++ (c ∷ [])) s later)
  where
    go : (t : Bool) → length (cond t [] (c ∷ before 10 s)) < suc (length s)
        → (length (before 10 s) < length s → lines_from (seen ++ (c ∷ [])) (s ++ later) ≡ ((seen ++ (c ∷ [])) ++ before 10 s) ∷ lines_from [] (drop (suc (length (before 10 s))) s ++ later))
        → cond t (seen ∷ lines_from [] (s ++ later)) (lines_from (seen ++ (c ∷ [])) (s ++ later))
        ≡ (seen ++ cond t [] (c ∷ before 10 s)) ∷ lines_from [] (drop (length (cond t [] (c ∷ before 10 s))) s ++ later)
    go true h f = ap (λ (t : List ℕ). t ∷ lines_from [] (s ++ later)) (sym (append-nil seen))
    go false h f = f (omega arith) ∙ ap (λ (t : List ℕ). t ∷ lines_from [] (drop (suc (length (before 10 s))) s ++ later)) (append_assoc seen (c ∷ []) (before 10 s))

after_plain : (s later : List ℕ) → length s ≤ length (before 10 s) → after_feed (s ++ later) ≡ after_feed later
unfolding before after_feed
after_plain [] later h = refl
after_plain (c ∷ s) later h = go (eqb c 10) h (after_plain s later)
  where
    go : (t : Bool) → suc (length s) ≤ length (cond t [] (c ∷ before 10 s)) → (length s ≤ length (before 10 s) → after_feed (s ++ later) ≡ after_feed later)
        → cond t (s ++ later) (after_feed (s ++ later)) ≡ after_feed later
    go true h f = absurd (omega arith)
    go false h f = f (omega arith)

after_feed_law : (s later : List ℕ) → length (before 10 s) < length s → after_feed (s ++ later) ≡ drop (suc (length (before 10 s))) s ++ later
unfolding before after_feed
after_feed_law [] later h = absurd (omega arith)
after_feed_law (c ∷ s) later h = go (eqb c 10) h (after_feed_law s later)
  where
    go : (t : Bool) → length (cond t [] (c ∷ before 10 s)) < suc (length s) → (length (before 10 s) < length s → after_feed (s ++ later) ≡ drop (suc (length (before 10 s))) s ++ later)
        → cond t (s ++ later) (after_feed (s ++ later)) ≡ drop (length (cond t [] (c ∷ before 10 s))) s ++ later
    go true h f = refl
    go false h f = f (omega arith)

-- a line that is over the limit already
lines_long : (seen later : List ℕ) → 8192 < length seen → map limited (lines_from seen later) ≡ None ∷ lines_of (after_feed later)
unfolding lines_from lines_of after_feed
lines_long seen [] h = rw (ne_eqb (length seen) 0 (omega arith), lt-ltb 8192 (length seen) h)
lines_long seen (c ∷ s) h = go (eqb c 10) (lines_long (seen ++ (c ∷ [])) s)
  where
    go : (t : Bool) → (8192 < length (seen ++ (c ∷ [])) → map limited (lines_from (seen ++ (c ∷ [])) s) ≡ None ∷ map limited (lines_from [] (after_feed s)))
        → map limited (cond t (seen ∷ lines_from [] s) (lines_from (seen ++ (c ∷ [])) s)) ≡ None ∷ map limited (lines_from [] (cond t s (after_feed s)))
    go true f = rw (lt-ltb 8192 (length seen) h)
    go false f = f (omega (arith, length-append seen (c ∷ [])))

-- ---- what stands next in a block, and the lines of the whole input

drop_take : (j n : ℕ) (s : List ℕ) → j ≤ n → n ≤ length s → drop j (take n s) ≡ take (n - j) (drop j s)
drop_take j n s h k =
    let e : n ≡ j + (n - j) = omega arith in
    ap (λ (m : ℕ). drop j (take m s)) e ∙ ap (drop j) (take-add j (n - j) s) ∙ drop_at (take j s) (take (n - j) (drop j s)) j (length-take-le j s (omega arith))

module _ (block later : List ℕ) (at end : ℕ) (h : at ≤ end) (k : end ≤ length block) where
  bytes : List ℕ
  bytes = part at (end - at) block

  feed : ℕ
  feed = at + length (before 10 bytes)

  bytes_length : length bytes ≡ end - at
  unfolding bytes
  bytes_length = part_length at (end - at) block (omega arith)

  feed_is : first_from 10 (take end block) at ≡ feed
  unfolding first_from feed bytes
  feed_is = ap (λ (s : List ℕ). at + length (before 10 s)) (drop_take at end block h k)

  -- where the next line feed stands
  pub feed_at : first_from 10 (take end block) at ≡ at + length (before 10 (part at (end - at) block))
  unfolding feed bytes
  feed_at = feed_is

  -- what is unread after some bytes more
  rest_is : (p j : ℕ) → p ≡ at + j → j ≤ end - at → part p (end - p) block ≡ drop j bytes
  unfolding bytes
  rest_is p j e l =
      let z : end - p ≡ end - at - j = omega arith in
      rw (drop_take j (end - at) (drop at block) l (omega (arith, length-drop at block)), drop-drop j at block, ← e, z)

  none_left : part end (end - end) block ≡ []
  none_left =
      let l : length bytes ≤ end - at = omega (arith, bytes_length) in
      rest_is end (end - at) (omega arith) (omega arith) ∙ drop_of_length-le bytes l

  skip_next : lines_left true (bytes ++ later) ≡ lines_by block later (next_before at end true feed)
  unfolding feed
  skip_next = go (dec_lt (length (before 10 bytes)) (length bytes))
    where
      go : Dec (length (before 10 bytes) < length bytes) → lines_left true (bytes ++ later) ≡ lines_by block later (next_before at end true (at + length (before 10 bytes)))
      go (yes l) =
          let r = rest_is (at + length (before 10 bytes) + 1) (suc (length (before 10 bytes))) (omega arith) (omega (arith, bytes_length)) in
          rw (lt-ltb (at + length (before 10 bytes)) end (omega (arith, bytes_length)), r) (ap lines_of (after_feed_law bytes later l))
      go (no n) =
          rw (le-ltb (at + length (before 10 bytes)) end (omega (arith, bytes_length)), none_left) (ap lines_of (after_plain bytes later (omega arith)))

  -- the bytes before the line feed
  line_is : length (before 10 bytes) ≤ end - at → part at (at + length (before 10 bytes) - at) block ≡ before 10 bytes
  unfolding bytes
  line_is l =
      let e : at + length (before 10 bytes) - at ≡ length (before 10 bytes) = omega arith in
      ap (λ (n : ℕ). part at n block) e ∙ sym (before_front 10 bytes ∙ front (length (before 10 bytes)) l)
    where
      front : (n : ℕ) → n ≤ end - at → take n bytes ≡ take n (drop at block)
      front n l = take-take n (end - at) (drop at block) l

  line_next : lines_left false (bytes ++ later) ≡ lines_by block later (next_before at end false feed)
  unfolding feed bytes lines_of
  line_next = go (dec_lt (length (before 10 bytes)) (length bytes))
    where
      plain : length bytes ≤ length (before 10 bytes) → Dec (8192 < end - at)
          → map limited (lines_from [] (bytes ++ later)) ≡ lines_by block later (cond (ltb 8192 (end - at)) (next TooLong (input end end true)) (next More (input at end false)))
      plain p (yes l) = rw (lt-ltb 8192 (end - at) l, none_left) (ap (map limited) (lines_plain [] bytes later p) ∙ lines_long bytes later (omega (arith, bytes_length)))
      plain p (no n) = rw (le-ltb 8192 (end - at) (omega arith))

      go : Dec (length (before 10 bytes) < length bytes) → map limited (lines_from [] (bytes ++ later)) ≡ lines_by block later (next_before at end false (at + length (before 10 bytes)))
      go (yes l) =
          let r = rest_is (at + length (before 10 bytes) + 1) (suc (length (before 10 bytes))) (omega arith) (omega (arith, bytes_length)) in
          rw (lt-ltb (at + length (before 10 bytes)) end (omega (arith, bytes_length)), r, line_is (omega (arith, bytes_length))) (ap (map limited) (lines_feed [] bytes later l))
      go (no n) = rw (le-ltb (at + length (before 10 bytes)) end (omega (arith, bytes_length))) (plain (omega arith) (dec_lt 8192 (end - at)))

  -- ---- the end of the input, after a state that asked for more

  abbrev Last : Input → Type 0
  Last j = lines_left j.skipping (unread block j) ≡ last_line j.skipping (unread block j)

  -- nothing is left of a line that was too long
  skip_last : Last (input end end true)
  unfolding lines_of lines_from after_feed
  skip_last = rw none_left

  -- bytes with no line feed are one line
  line_last : length bytes ≤ length (before 10 bytes) → end - at ≤ 8192 → Last (input at end false)
  unfolding bytes lines_of lines_from
  line_last p l =
      ap (λ (s : List ℕ). map limited (lines_from [] s)) (sym (append-nil bytes)) ∙ ap (map limited) (lines_plain [] bytes [] p) ∙ go (eqb (length bytes) 0)
    where
      go : (t : Bool) → map limited (cond t [] (bytes ∷ [])) ≡ cond t [] (Some bytes ∷ [])
      go true = refl
      go false = rw (le-ltb 8192 (length bytes) (omega (arith, bytes_length)))

  last_by : (t : Bool) (j : Input) → next_before at end t feed ≡ next More j → Last j
  unfolding feed
  last_by t j e = go t (dec_lt (length (before 10 bytes)) (length bytes)) e
    where
      plain : length bytes ≤ length (before 10 bytes) → Dec (8192 < end - at) → cond (ltb 8192 (end - at)) (next TooLong (input end end true)) (next More (input at end false)) ≡ next More j → Last j
      plain p (yes l) e = let q : next TooLong (input end end true) ≡ next More j = rw (lt-ltb 8192 (end - at) l) at e in let z : TooLong ≡ More = ap (λ (n : Next). n.line) q in cc
      plain p (no n) e =
          let q : next More (input at end false) ≡ next More j = rw (le-ltb 8192 (end - at) (omega arith)) at e in
          let r : input at end false ≡ j = ap (λ (n : Next). n.rest) q in
          subst Last r (line_last p (omega arith))

      go : (t : Bool) → Dec (length (before 10 bytes) < length bytes) → next_before at end t (at + length (before 10 bytes)) ≡ next More j → Last j
      go true (yes l) e =
          let q : next Skipped (input (at + length (before 10 bytes) + 1) end false) ≡ next More j = rw (lt-ltb (at + length (before 10 bytes)) end (omega (arith, bytes_length))) at e in
          let z : Skipped ≡ More = ap (λ (n : Next). n.line) q in cc
      go true (no n) e =
          let q : next More (input end end true) ≡ next More j = rw (le-ltb (at + length (before 10 bytes)) end (omega (arith, bytes_length))) at e in
          let r : input end end true ≡ j = ap (λ (n : Next). n.rest) q in
          subst Last r skip_last
      go false (yes l) e =
          let q : next (Line at (at + length (before 10 bytes))) (input (at + length (before 10 bytes) + 1) end false) ≡ next More j =
          rw (lt-ltb (at + length (before 10 bytes)) end (omega (arith, bytes_length))) at e in
          let z : Line at (at + length (before 10 bytes)) ≡ More = ap (λ (n : Next). n.line) q in cc
      go false (no n) e = plain (omega arith) (dec_lt 8192 (end - at)) (rw (le-ltb (at + length (before 10 bytes)) end (omega (arith, bytes_length))) at e)

-- what stands next in a block is what the input has next, whatever input comes later
pub lines_next : (block later : List ℕ) (i : Input) → i.at ≤ i.end → i.end ≤ length block
    → lines_left i.skipping (unread block i ++ later) ≡ lines_by block later (next_line block i)
unfolding next_line bytes
lines_next block later i h k =
    rw (le-ltb (length block) i.end k, le-ltb i.end i.at h, feed_is block later i.at i.end h k) (go i.skipping)
  where
    go : (t : Bool) → lines_left t (unread block i ++ later) ≡ lines_by block later (next_before i.at i.end t (feed block later i.at i.end h k))
    go true = skip_next block later i.at i.end h k
    go false = line_next block later i.at i.end h k

-- moving the unread bytes to the front keeps them
pub lines_kept : (block : List ℕ) (i : Input) → i.at ≤ i.end → i.end ≤ length block
    → let k = kept_unread block i in (unread k.block k.state ≡ unread block i) × (k.state.skipping ≡ i.skipping)
unfolding kept_unread
lines_kept block i h k =
    let n : ℕ = i.end - i.at in
    let z : n - 0 ≡ n = omega arith in
    rw (le-ltb (length block) i.end k, le-ltb i.end i.at h, z)
    (take_at (unread block i) (drop (length (unread block i)) block) n (part_length i.at n block (omega arith)), refl)

-- where the input ends after a state that asked for more, its unread bytes are the last line
pub lines_last : (block : List ℕ) (i j : Input) → i.at ≤ i.end → i.end ≤ length block → next_line block i ≡ next More j
    → lines_left j.skipping (unread block j) ≡ last_line j.skipping (unread block j)
unfolding next_line
lines_last block i j h k e =
    last_by block [] i.at i.end h k i.skipping j
    (rw (le-ltb (length block) i.end k, le-ltb i.end i.at h, feed_is block [] i.at i.end h k) at e)
