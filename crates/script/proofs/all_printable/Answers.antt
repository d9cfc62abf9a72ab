-- `script::all_printable` meets its contract: the test of each octet is the one of the definition.
-- Assumes nothing.
use Prim.Native.Nat.{ℕ}
use mathlib.Core.Bool.{Bool, ◌&&◌}
use mathlib.Core.List.{List, [], ◌∷◌}
use mathlib.Core.Path.{◌≡◌, refl, ap, ◌∙◌}
use borrow.Author.Tests.{tests}
use Rattle.std.proofs.Common.{rules}
use Rattle.std.specs.List.{list_all}
use Rattle.std.proofs.lemmas.Iterator.{YieldsList-from_slice}
use Rattle.std.proofs.lemmas.Iterator.Search.{all_from_yields_List}
use Rattle.lines.specs.Digits.{within}
use Rattle.script.specs.Script.{all_printable}
use Rattle.script.proofs.all_printable.Goals as goal

listed : (text : List ℕ) → list_all (within 32 126) text ≡ all_printable text
unfolding all_printable
listed [] = refl
listed (octet ∷ rest) = ap (λ (b : Bool). within 32 126 octet && b) (listed rest)

pub returns : goal.returns
unfolding within
returns c =
    all_from_yields_List (within 32 126) _ _ _ c.all.ensures.ran (YieldsList-from_slice c.args.text.now (cc)) (λ x b q k. search (rules, tests))
    ∙ listed c.args.text.now
