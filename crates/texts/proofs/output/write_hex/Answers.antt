-- `write_hex` meets its contract: what is written and what is left to write are the digits of the bytes. Assumes nothing.
use Rattle.std.proofs.Common.{◌≡◌, ◌∙◌, ◌∷◌, ◌+◌, ◌*◌, ℕ, ap₂, sym, refl, arith, get_or, drop}
use Rattle.records.proofs.Area.{begin, next_byte, complete}
use Rattle.texts.specs.Output.{hex_text}
use Rattle.texts.proofs.Spelling.{hex_length_law, hex_next, hex_none, over_all}
use Rattle.texts.proofs.output.write_hex.Goals as goal

pub loop-i-init : goal.loop-i-init
loop-i-init c = begin _ _ (omega (arith, hex_length_law c.args.bytes.now))

pub loop-i-preserved : goal.loop-i-preserved
loop-i-preserved c =
    let l = c.loop-i in
    let bytes = c.args.bytes.now in
    let h = c.hex_digit in
    let d = c.hex_digit-in-loop-i in
    let rest = hex_text (drop (l.i + 1) bytes) in
    let e : hex_text (drop l.i bytes) ≡ h.result ∷ d.result ∷ rest =
    hex_next bytes l.i (get_or bytes l.i 0) c.loop-i-test.true refl ∙ ap₂ (λ (x y : ℕ). x ∷ y ∷ rest) (sym h.ensures) (sym d.ensures) in
    let n : 2 * l.i + 1 + 1 ≡ 2 * (l.i + 1) = omega arith in
    rw n at (next_byte d.result rest (next_byte h.result (d.result ∷ rest) l.invariant e) refl)

pub returns : goal.returns
returns c =
    (complete c.loop-i.invariant (hex_none _ _ c.loop-i-test.false)).1 ∙ over_all _ c.args.out.now (c.requires ∙ sym (hex_length_law c.args.bytes.now))
