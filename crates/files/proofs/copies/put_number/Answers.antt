-- `put_number` meets its contract: the front of a number's bytes is copied whole. Assumes nothing.
use Rattle.std.proofs.Common.{◌∙◌, length, take, ap, rules}
use Rattle.records.proofs.Area.{copied_law}
use Rattle.files.proofs.Copying.{front_bytes}
use Rattle.files.proofs.copies.put_number.Goals as goal

pub returns : goal.returns
returns c =
    let width = length c.args.out.now in
    c.copy_bytes.ensures
    ∙ copied_law (take width c.to_le_bytes.result) c.args.out.now (search rules)
    ∙ ap (take width) c.to_le_bytes.ensures
    ∙ front_bytes width c.args.number c.requires
