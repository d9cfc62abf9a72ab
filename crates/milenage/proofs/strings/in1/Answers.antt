-- `milenage::strings::in1` meets its contract: each octet is the one at its place among the eight.
-- Assumes nothing.
use Rattle.std.proofs.Common.{rules}
use Prim.Native.Nat.{ℕ, ◌%◌}
use mathlib.Core.Path.{◌≡◌, refl, ◌∙◌}
use mathlib.Core.List.{List, ◌++◌}
use borrow.Author.Tests.{eq-eqb, ne_eqb}
use lib.ListN.{get_or}
use Rattle.aes.proofs.Made.{made_listed}
use Rattle.milenage.specs.Calls.{are_numbers}
use Rattle.milenage.proofs.Octets.{in1_octets}
use Rattle.milenage.proofs.strings.in1.Goals.{then-sqn-ne6-via-then-sqn-ne6, then-sqn-ne6-via-else-sqn-ne6+then-amf-ne2}
use Rattle.milenage.proofs.strings.in1.Goals as goal

pub returns-then-sqn-ne6 : goal.returns-then-sqn-ne6
unfolding are_numbers
returns-then-sqn-ne6 c = (
  refl,
  elim c.then-sqn-ne6.branch [
    | then-sqn-ne6-via-then-sqn-ne6 w ↦ rw (ne_eqb _ 6 w.if-sqn-ne6.true)
    | then-sqn-ne6-via-else-sqn-ne6+then-amf-ne2 w ↦ rw (eq-eqb _ 6 w.if-sqn-ne6.false, ne_eqb _ 2 w.if-amf-ne2.true)
  ],
)

pub returns : goal.returns
unfolding are_numbers
returns c =
    let sqn : List ℕ = c.args.sqn.now in
    let amf : List ℕ = c.args.amf.now in (
      rw (eq-eqb _ 6 c.if-sqn-ne6.false, eq-eqb _ 2 c.if-amf-ne2.false),
      made_listed _ (λ p. (p.0.now ≡ sqn) × (p.1.now ≡ amf)) (λ (i : ℕ). get_or (sqn ++ amf) (i % 8) 0) 16
          (λ p q i y below kept called. ((search rules, search rules), search rules))
          _ _ (refl, refl) c.from_fn.ensures.items
          ∙ in1_octets sqn amf c.if-sqn-ne6.false c.if-amf-ne2.false,
    )
