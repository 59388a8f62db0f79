-- `put_blank` meets its contract: spaces, and a line feed in place of the last byte. Assumes nothing.
use Rattle.std.proofs.Common.{rules, sym, arith}
use Rattle.std.proofs.lemmas.List.{length-take-le}
use Rattle.charts.proofs.Columns.{blank_is}
use Rattle.charts.proofs.line.put_blank.Goals as goal

pub slice_bounds-fill-end-2 : goal.slice_bounds-fill-end-2
slice_bounds-fill-end-2 c = sym (length-take-le 64 c.args.out.now (omega arith))

pub returns : goal.returns
returns c = blank_is c.args.out.now _ c.requires (c.fill.ensures.after (λ y e. search rules))
