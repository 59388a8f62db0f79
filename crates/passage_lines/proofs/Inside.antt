-- What stands next in a block lies inside it, and so does what is unread after it. Assumes nothing.
use Rattle.std.proofs.Common.{◌≡◌, ℕ, ◌+◌, ◌-◌, ◌≤◌, Bool, true, false, cond, ltb, refl, sym, subst, arith}
use borrow.Author.Tests.{ltb-true}
use Rattle.passage_lines.specs.Input.{input, LineInside, Next, next, next_before}
use Rattle.passage_lines.specs.declared.input.Input.{Input}
use Rattle.passage_lines.specs.declared.input.NextLine.{NextLine}
use Rattle.passage_lines.specs.declared.input.NextLine.TheVariants.{Line, TooLong, Skipped, More}

abbrev Inside : ℕ → Next → Type 0
Inside size n = LineInside size n.line × (n.rest.at ≤ n.rest.end) × (n.rest.end ≤ size)

before_inside : (size at end feed : ℕ) (skipping : Bool) → at ≤ end → at ≤ feed → end ≤ size → Inside size (next_before at end skipping feed)
before_inside size at end feed true h k l = go (ltb feed end) refl
  where
    go : (t : Bool) → ltb feed end ≡ t → Inside size (cond t (next Skipped (input (feed + 1) end false)) (next More (input end end true)))
    go true e = (tt, omega (arith, ltb-true feed end e), l)
    go false e = (tt, omega arith, l)
before_inside size at end feed false h k l = go (ltb feed end) refl (ltb 8192 (end - at))
  where
    go : (t : Bool) → ltb feed end ≡ t → (u : Bool)
        → Inside size (cond t (next (Line at feed) (input (feed + 1) end false)) (cond u (next TooLong (input end end true)) (next More (input at end false))))
    go true e u = let q = ltb-true feed end e in ((k, omega arith), omega arith, l)
    go false e true = (tt, omega arith, l)
    go false e false = (tt, h, l)

-- of what is unread inside the block, by where its next line feed stands
pub line_inside : (size at end feed : ℕ) (skipping : Bool) (line : NextLine) (rest : Input) → at ≤ end → at ≤ feed → end ≤ size
    → next line rest ≡ next_before at end skipping feed → LineInside size line × (rest.at ≤ rest.end) × (rest.end ≤ size)
line_inside size at end feed skipping line rest h k l e = subst (Inside size) (sym e) (before_inside size at end feed skipping h k l)
