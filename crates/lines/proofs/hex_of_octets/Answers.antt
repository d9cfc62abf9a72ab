-- `lines::hex_of_octets` meets its contract. The loop's invariant: the hex of the first k octets stands at the front of the output, and the rest
-- is as it was.
-- Assumes nothing.
use Prim.Native.Nat.{ℕ, ◌+◌, ◌*◌}
use lib.ListN.{take, drop, set}
use mathlib.Core.List.{List, ◌++◌}
use mathlib.Core.Path.{refl, sym, ap, ap₂, ◌∙◌}
use native.Mathlib.Omega.{arith}
use Rattle.lines.specs.Text.{hex_text}
use Rattle.lines.proofs.Text.{length-hex_text, hex_turn, hex_put, put_short, put_fits}
use Rattle.lines.proofs.hex_of_octets.Goals as goal

pub returns-then-output-count : goal.returns-then-output-count
returns-then-output-count c = put_short _ _ _ (omega (arith, length-hex_text c.args.octets.now))

pub loop-k-init : goal.loop-k-init
unfolding hex_text
loop-k-init c = refl

pub loop-k-preserved : goal.loop-k-preserved
loop-k-preserved c =
    let given = c.args in
    let octets = given.octets.now in
    let before = given.output.now in
    let k : ℕ = c.loop-k.k in
    ap (λ (l : List ℕ). set (set l (2 * k) c.glyph.result) (2 * k + 1) c.glyph-in-loop-k.result) c.loop-k.invariant
    ∙ ap₂ (λ (a b : ℕ). set (set (hex_text (take k octets) ++ drop (2 * k) before) (2 * k) a) (2 * k + 1) b) c.glyph.ensures c.glyph-in-loop-k.ensures
    ∙ hex_turn octets before k (omega arith) (omega arith)

pub returns : goal.returns
returns c =
    let given = c.args in
    let octets = given.octets.now in
    put_fits _ _ (omega (arith, length-hex_text octets))
    (record {
      written_is = sym (length-hex_text octets);
      output_is = c.loop-k.invariant ∙ hex_put octets given.output.now c.loop-k.k (omega arith);
    })
