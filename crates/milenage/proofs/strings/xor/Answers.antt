-- `milenage::strings::xor` meets its contract: each octet is the xor of the two at its place.
-- Assumes nothing.
use Rattle.std.proofs.Common.{rules}
use Prim.Native.Nat.{ℕ}
use mathlib.Core.Path.{◌≡◌, refl, sym, ap, ◌∙◌}
use lib.Bits.{bit_xor}
use lib.ListN.{get_or}
use Rattle.octets.specs.Bits.{listed}
use Rattle.octets.specs.Xor.{xored}
use Rattle.aes.proofs.Made.{made_listed}
use Rattle.milenage.proofs.strings.xor.Goals as goal

pub returns : goal.returns
unfolding xored
returns c =
    let given = c.args in
    let octet_at = λ (i : ℕ). bit_xor (get_or given.a.now i 0) (get_or given.b.now i 0) in
    made_listed _ (λ p. (p.0.now ≡ given.a.now) × (p.1.now ≡ given.b.now)) octet_at 16
    (λ p q i y below kept called. ((search rules, search rules), search rules))
    _ _ (refl, refl) c.from_fn.ensures.items
    ∙ ap (listed octet_at) (sym c.told-a)
