-- `write_value` meets its contract: the pieces are written one after the other. Assumes nothing.
use mathlib.Core.Path.{refl}
use Rattle.records.proofs.Area.{begin, complete}
use Rattle.std.specs.Prelude.{codes}
use Rattle.passage_lines.specs.Reply.{bytes_text}
use Rattle.passage_lines.specs.Reply.{line_feed, value_text}
use Rattle.passage_lines.proofs.Replies.{next_text}
use Rattle.passage_lines.proofs.reply.write_value.Goals as goal

pub returns : goal.returns
unfolding value_text
returns c = let t = c.put_text in
    let w = next_text (codes "get 0 ") (begin (value_text c.args.value.now) c.args.line.now c.requires) c.put_text-text_at.ensures in
    complete (next_text line_feed (next_text (bytes_text c.args.value.now) w c.put_hex-text_end.ensures) t.ensures) refl
