-- The law of a key of 16 octets.
-- Assumes nothing.
use Prim.Native.Nat.{ℕ}
use mathlib.Core.Bool.{true}
use mathlib.Core.List.{List}
use mathlib.Core.Logic.{◌↔◌}
use mathlib.Core.Path.{◌≡◌}
use borrow.Author.Tests.{eqb-true, eq-eqb}
use lib.ListN.{length}
use Rattle.octets.specs.Octets.{is_whole_key}

-- a key is whole exactly where it has 16 octets
pub whole_key : (key : List ℕ) → (is_whole_key key ≡ true) ↔ (length key ≡ 16)
whole_key key = (λ whole. eqb-true (length key) 16 whole, λ sixteen. eq-eqb (length key) 16 sixteen)
