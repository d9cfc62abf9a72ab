-- `lines::all_digits` meets its contract: the test of each octet is the one of the definition.
-- Assumes nothing.
use Prim.Native.Nat.{ℕ}
use mathlib.Core.List.{List, [], ◌∷◌}
use mathlib.Core.Path.{◌≡◌, refl, ap, ◌∙◌}
use mathlib.Core.Bool.{Bool, ◌&&◌}
use borrow.Author.Tests.{tests}
use lib.Dec.{ltb}
use Rattle.std.proofs.Common.{rules}
use Rattle.std.specs.List.{list_all}
use Rattle.std.proofs.lemmas.Iterator.{YieldsList-from_slice}
use Rattle.std.proofs.lemmas.Iterator.Search.{all_from_yields_List}
use Rattle.lines.specs.Digits.{digit_value, all_digits}
use Rattle.lines.proofs.all_digits.Goals as goal

listed : (base : ℕ) (text : List ℕ) → list_all (λ octet. ltb (digit_value octet) base) text ≡ all_digits base text
unfolding all_digits
listed base [] = refl
listed base (octet ∷ rest) = ap (λ (b : Bool). ltb (digit_value octet) base && b) (listed base rest)

pub returns : goal.returns
returns c =
    all_from_yields_List (λ (octet : ℕ). ltb (digit_value octet) c.args.base) _ _ _ c.all.ensures.ran (YieldsList-from_slice c.args.text.now (cc)) (λ x b q k. search (rules, tests))
    ∙ listed c.args.base c.args.text.now
