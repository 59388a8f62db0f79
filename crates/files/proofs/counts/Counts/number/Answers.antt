-- `number` meets its contract: the position is the sum of the widths before the number. Assumes nothing.
use Rattle.std.proofs.Common.{◌≡◌, ◌∙◌, ◌-◌, ◌+◌, ap, sym, arith, length, take, drop, length-drop}
use Rattle.std.proofs.lemmas.List.{length-take-le}
use Rattle.hash_parts.specs.ZeroBytes.{number_of}
use Rattle.records.specs.Area.{part}
use Rattle.files.specs.Blocks.{content_of}
use Rattle.files.specs.Contents.{widths}
use Rattle.files.specs.Kinds.{count_place}
use Rattle.files.proofs.Copying.{part_lent}
use Rattle.files.proofs.Reading.{number_in, place_few, sum_within}
use Rattle.files.proofs.counts.Counts.number.Goals as goal

pub returns : goal.returns
returns c =
    let i = count_place c.args.count in
    let few = place_few c.args.count in
    let f = c.args.self.file.now in
    let at = c.place-at.result.0 in
    let width = c.place-at.result.1 in
    let s = c.content_of.result.now in
    let long : length s ≡ 44 = ap length c.content_of.ensures ∙ c.args.self.whole in
    let lent : take (at + width - at) (drop at s) ≡ part at width s = part_lent at (at + width) width s (omega arith) in
    let held = sum_within widths i in
    let all : length (part at width s) ≡ width = length-take-le width (drop at s) (omega (arith, length-drop at s, c.place-at.ensures.0, c.place-at.ensures.1)) in
    let named = number_in widths (content_of 0 f) i few in (
      c.number_of.ensures.0 ∙ ap number_of lent
          ∙ rw (c.content_of.ensures, c.place-at.ensures.0, c.place-at.ensures.1) (sym named),
      rw (lent, all, c.place-at.ensures.1) at c.number_of.ensures.1,
    )
