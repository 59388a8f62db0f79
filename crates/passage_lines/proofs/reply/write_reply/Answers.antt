-- `write_reply` meets its contract: the lines that are written as they are. Assumes nothing.
use native.Mathlib.Omega.{arith}
use Rattle.std.specs.Prelude.{codes}
use Rattle.passage_lines.specs.Reply.{reply_text}
use Rattle.texts.proofs.Spelling.{appended_parts}
use Rattle.passage_lines.proofs.reply.write_reply.Goals as goal

pub returns-in-Bad : goal.returns-in-Bad
unfolding reply_text
returns-in-Bad c = let p = appended_parts 0 (codes "bad\n") _ _ _ c.put_text.ensures (omega (arith, c.requires)) in
    rw c.in-Bad.is (p.0, omega (arith, p.0), p.1)

pub returns-in-Missing : goal.returns-in-Missing
unfolding reply_text
returns-in-Missing c = let p = appended_parts 0 (codes "get none\n") _ _ _ c.put_text-in-Missing.ensures (omega (arith, c.requires)) in
    rw c.in-Missing.is (p.0, omega (arith, p.0), p.1)
