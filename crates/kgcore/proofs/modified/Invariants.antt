-- `kgcore::modified` meets its contract: each turn of the loop changes the next octet.
-- Assumes nothing.
use mathlib.Core.Path.{◌≡◌}
use mathlib.Core.List.{◌++◌, map}
use Prim.Native.Nat.{ℕ}
use lib.Bits.{bit_xor}
use lib.ListN.{take, drop}
use Rattle.kgcore.proofs.modified.Given as goal

-- an octet of the modified key
abbrev pub changed_octet : ℕ → ℕ
changed_octet octet = bit_xor octet 0x55

abbrev pub invariant-loop-octet : goal.invariant-loop-octet
invariant-loop-octet l = l.octet-items ≡ map changed_octet (take l.octet-index l.key) ++ drop l.octet-index l.key
