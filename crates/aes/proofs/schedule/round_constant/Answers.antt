-- `aes::schedule::round_constant` meets its contract: a power of x, all ten of them computed, and three zero octets.
-- Assumes nothing.
use Prim.Native.Nat.{ℕ, ◌-◌}
use native.Mathlib.Omega.{arith}
use mathlib.Core.Path.{◌≡◌, refl, ap, ◌∙◌}
use mathlib.Core.List.{List}
use lib.ListN.{get_or}
use Rattle.octets.specs.Bits.{listed}
use Rattle.octets.proofs.Listed.{get_or-listed}
use Rattle.aes.specs.declared.schedule.TheConstants.{POWERS}
use Rattle.aes.specs.Field.{product, remainder, ◌•◌}
use Rattle.aes.specs.Aes.{word, power_of_x, rcon}
use Rattle.aes.proofs.FourOctets.{of_octets}
use Rattle.aes.proofs.schedule.round_constant.Goals as goal

the_powers : POWERS ≡ listed power_of_x 10
unfolding product remainder ◌•◌ listed power_of_x
the_powers = refl

pub returns : goal.returns
unfolding rcon
returns c =
    let j : ℕ = c.args.j in
    let power : get_or POWERS (j - 1) 0 ≡ power_of_x (j - 1) = ap (λ (l : List ℕ). get_or l (j - 1) 0) the_powers ∙ get_or-listed power_of_x 10 (j - 1) 0 (omega arith) in
    c.from_be_bytes.ensures ∙ of_octets _ _ _ _ ∙ ap (λ (x : ℕ). word x 0 0 0) power
