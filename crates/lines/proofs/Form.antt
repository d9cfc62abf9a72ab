-- The laws of the tests of a form.
-- Assumes nothing.
use Prim.Native.Nat.{ℕ, zero, suc}
use mathlib.Core.Bool.{Bool, true, false, false≢true, and-eq-true_iff}
use mathlib.Core.List.{List, [], ◌∷◌}
use mathlib.Core.Path.{◌≡◌, refl, sym, ◌∙◌}
use lib.ListN.{get_or}
use Rattle.refusals.proofs.Tests.{by-test}
use Rattle.lines.specs.Form.{every}

-- where every test of a list holds, each does
pub every_at : (tests : List Bool) → every tests ≡ true → (k : ℕ) → get_or tests k true ≡ true
unfolding every
every_at [] all k = refl
every_at (test ∷ rest) all zero = ((and-eq-true_iff test _).0 all).0
every_at (test ∷ rest) all (suc k) = every_at rest ((and-eq-true_iff test _).0 all).1 k

-- where one of the tests fails, not every one holds
pub every_fails : (tests : List Bool) (k : ℕ) → get_or tests k true ≡ false → every tests ≡ false
every_fails tests k fails = by-test (every tests) _ (λ all. absurd (false≢true (sym fails ∙ every_at tests all k))) (λ not-all. not-all)
