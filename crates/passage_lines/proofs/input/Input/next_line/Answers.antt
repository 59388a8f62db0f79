-- `next_line` meets its contract: the line feed is looked for in what is unread. Assumes nothing.
use Rattle.std.proofs.Common.{◌≡◌, ◌+◌, ◌-◌, [], length, sym, ◌∙◌, arith}
use borrow.Author.Tests.{le-ltb}
use Rattle.records.specs.Area.{part}
use Rattle.passage_lines.specs.Input.{next_line}
use Rattle.passage_lines.proofs.Inside.{line_inside}
use Rattle.passage_lines.proofs.Lines.{feed_at, part_length}
use Rattle.passage_lines.proofs.Search.{before_found, before_none}
use Rattle.passage_lines.proofs.input.Input.next_line.Goals as goal

pub returns-in-Some-find_byte : goal.returns-in-Some-find_byte
unfolding next_line
returns-in-Some-find_byte c =
    let i = c.args.self.now in
    let block = c.args.block.now in
    let h = c.in-Some.ensures.lookup.0 in
    let n = before_found 10 (part i.at (i.end - i.at) block) _ (rw h.2 at (sym c.find_byte.ensures ∙ c.in-Some-find_byte.is)) in
    let w = line_inside (length block) i.at i.end _ i.skipping _ _ h.0 (omega arith) h.1 c.take_line.ensures in
    record {
      line_after = c.take_line.ensures ∙ rw (le-ltb _ _ h.1, le-ltb _ _ h.0, feed_at block [] i.at i.end h.0 h.1, n.0);
      line_inside = w.0;
      rest_inside = (w.1, w.2);
    }

pub returns-in-None : goal.returns-in-None
unfolding next_line
returns-in-None c =
    let i = c.args.self.now in
    let block = c.args.block.now in
    let h = c.in-Some.ensures.lookup.0 in
    let n = before_none 10 (part i.at (i.end - i.at) block) (rw h.2 at (sym c.find_byte.ensures ∙ c.in-None.is)) in
    let e : i.at + length (part i.at (i.end - i.at) block) ≡ i.end = omega (arith, part_length i.at (i.end - i.at) block (omega arith)) in
    let w = line_inside (length block) i.at i.end i.end i.skipping _ _ h.0 h.0 h.1 c.take_rest.ensures in
    record {
      line_after = c.take_rest.ensures ∙ rw (le-ltb _ _ h.1, le-ltb _ _ h.0, feed_at block [] i.at i.end h.0 h.1, n, e);
      line_inside = w.0;
      rest_inside = (w.1, w.2);
    }
