-- `lines::number_in` meets its contract. The loop's invariant: what is left of the text, after the value so far, writes the number; and the value
-- so far has at most as many digits as were read.
-- Assumes nothing.
use Prim.Native.Nat.{◌^◌, ◌<◌}
use lib.ListN.{drop}
use mathlib.Core.Path.{◌≡◌}
use Rattle.lines.specs.Digits.{value_from, value_of}
use Rattle.lines.proofs.number_in.Given as goal

abbrev pub invariant-loop-octet : goal.invariant-loop-octet
invariant-loop-octet l =
    (value_from l.base l.value (drop l.octet-index l.text) ≡ value_of l.base l.text) × (l.value < l.base ^ l.octet-index)
