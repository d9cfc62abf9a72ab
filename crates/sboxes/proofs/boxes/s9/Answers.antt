-- `sboxes::boxes::s9` meets its contract: what its numbers give is the published entry, at each input.
-- Assumes nothing.
use mathlib.Core.List.{[], ◌∷◌}
use Rattle.sboxes.specs.Tables.{s9_table}
use Rattle.sboxes.proofs.Products.{spread, with_bits, of_row, of_rows, entry, s9_products}
use Rattle.sboxes.proofs.boxes.s9.Goals as goal

-- the numbers are the code's own; the prover reads them off, and the test is of them
pub returns : goal.returns
unfolding s9_table spread with_bits of_row of_rows entry
returns c =
    s9_products
    ((_ ∷ []) ∷
    (_ ∷ _ ∷ []) ∷
    (_ ∷ _ ∷ _ ∷ []) ∷
    (_ ∷ _ ∷ _ ∷ _ ∷ []) ∷
    (_ ∷ _ ∷ _ ∷ _ ∷ _ ∷ []) ∷
    (_ ∷ _ ∷ _ ∷ _ ∷ _ ∷ _ ∷ []) ∷
    (_ ∷ _ ∷ _ ∷ _ ∷ _ ∷ _ ∷ _ ∷ []) ∷
    (_ ∷ _ ∷ _ ∷ _ ∷ _ ∷ _ ∷ _ ∷ _ ∷ []) ∷
    (_ ∷ _ ∷ _ ∷ _ ∷ _ ∷ _ ∷ _ ∷ _ ∷ _ ∷ []) ∷
    [])
    _ tt c.args.x c.requires
