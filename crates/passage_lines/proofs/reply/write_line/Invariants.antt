-- What each turn of the loop keeps.
use Rattle.std.proofs.Common.{◌++◌, drop, flat_map}
use Rattle.records.proofs.Area.{Writing}
use Rattle.passage_lines.specs.Reply.{line_feed, line_of, number_field}
use Rattle.passage_lines.proofs.reply.write_line.Given as goal

abbrev pub invariant-loop-number : goal.invariant-loop-number
invariant-loop-number l = Writing (line_of l.fn.word l.numbers) (flat_map number_field (drop l.number-index l.numbers) ++ line_feed) l.fn.line l.line l.at
