-- The next line of a block of the input, and the bytes of a line that has not ended. That lines read so are the input's lines: proofs/Lines.antt.
-- Assumes nothing.
use Rattle.std.specs.Prelude.{ℕ, ◌+◌, ◌-◌, ◌≤◌, Bool, true, false, cond, List, ltb, length, take}
use Rattle.records.specs.Area.{over, part}
use Rattle.passage_lines.specs.Bytes.{first_from}
use Rattle.passage_lines.specs.declared.input.Input.{Input}
use Rattle.passage_lines.specs.declared.input.NextLine.{NextLine}
use Rattle.passage_lines.specs.declared.input.NextLine.TheVariants.{Line, TooLong, Skipped, More}

abbrev pub input : ℕ → ℕ → Bool → Input
input at end skipping = record { at = at; end = end; skipping = skipping }

-- what of a block is unread
abbrev pub unread : List ℕ → Input → List ℕ
unread block i = part i.at (i.end - i.at) block

-- what stands next, and what is unread after it
pub record Next : Type 0 where
  pub line : NextLine
  pub rest : Input

abbrev pub next : NextLine → Input → Next
next line rest = record { line = line; rest = rest }

-- the next line, by where the next line feed stands
abbrev pub next_before : ℕ → ℕ → Bool → ℕ → Next
next_before at end true feed = cond (ltb feed end) (next Skipped (input (feed + 1) end false)) (next More (input end end true))
next_before at end false feed =
    cond (ltb feed end) (next (Line at feed) (input (feed + 1) end false))
    (cond (ltb 8192 (end - at)) (next TooLong (input end end true)) (next More (input at end false)))

-- the next line of a block; a state that points outside the block has nothing unread
unfoldable pub next_line : List ℕ → Input → Next
next_line block i =
    cond (ltb (length block) i.end) (next More (input 0 0 false))
    (cond (ltb i.end i.at) (next More (input 0 0 false))
    (next_before i.at i.end i.skipping (first_from 10 (take i.end block) i.at)))

-- a line lies inside a block of so many bytes
abbrev pub LineInside : ℕ → NextLine → Type 0
LineInside size (Line from to) = (from ≤ to) × (to ≤ size)
LineInside size TooLong = Unit {0}
LineInside size Skipped = Unit {0}
LineInside size More = Unit {0}

-- what moving the unread bytes to the front leaves
pub record Kept : Type 0 where
  pub state : Input
  pub block : List ℕ

abbrev pub kept : Input → List ℕ → Kept
kept i block = record { state = i; block = block }

unfoldable pub kept_unread : List ℕ → Input → Kept
kept_unread block i =
    cond (ltb (length block) i.end) (kept (input 0 0 false) block)
    (cond (ltb i.end i.at) (kept (input 0 0 false) block)
    (kept (input 0 (i.end - i.at) i.skipping) (over (unread block i) block)))
