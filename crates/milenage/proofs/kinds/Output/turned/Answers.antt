-- `milenage::kinds::Output::turned` meets its contract: each octet comes from `rotation / 8` places further on.
-- Assumes nothing.
use Rattle.std.proofs.Common.{rules}
use native.Mathlib.Omega.{arith}
use mathlib.Core.List.{List}
use Prim.Native.Nat.{ℕ, ◌+◌, ◌/◌, ◌%◌}
use mathlib.Core.Path.{◌≡◌, refl, ◌∙◌}
use lib.ListN.{get_or}
use Rattle.aes.proofs.Made.{made_listed}
use Rattle.milenage.proofs.Octets.{turned_octets}
use Rattle.milenage.proofs.kinds.Output.turned.Goals as goal

pub returns : goal.returns
returns c =
    let string : List ℕ = c.args.string.now in
    let rotation : ℕ = c.args.self.rotation in
    made_listed _ (λ p. (p.0.now ≡ string) × (p.1.now ≡ rotation / 8)) (λ (i : ℕ). get_or string ((i + rotation / 8) % 16) 0) 16
    (λ p q i y below kept called. ((search rules, search rules), search rules))
    _ _ (refl, refl) c.from_fn.ensures.items
    ∙ turned_octets rotation string (omega (arith, c.args.self.in_octets)) (omega (arith, c.args.self.in_octets)) c.fits-string
