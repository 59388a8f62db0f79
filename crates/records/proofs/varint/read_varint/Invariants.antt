-- What each turn of the loop keeps.
use mathlib.Core.Path.{◌≡◌}
use Prim.Native.Nat.{◌+◌, ◌*◌, ◌-◌, ◌^◌, ◌<◌}
use lib.ListN.{drop}
use Rattle.records.specs.Uleb128.{decode}
use Rattle.records.specs.Varint.{read_varint}
use Rattle.records.proofs.Prefix.{answer}
use Rattle.records.proofs.varint.read_varint.Given as goal

abbrev pub invariant-loop-at : goal.invariant-loop-at
invariant-loop-at l =
    record {
      answers : read_varint l.input l.cursor ≡ answer l.value l.scale (l.cursor + l.at) (9 - l.at) (decode (drop l.at l.bytes));
      below : l.value < l.scale;
      scale_left : l.scale * 128 ^ (9 - l.at) ≡ 2 ^ 63;
    }
