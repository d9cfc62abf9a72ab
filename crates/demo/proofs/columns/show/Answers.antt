-- `demo::columns::show` meets its contract: the columns are put, and the text after them.
-- Assumes nothing.
use Prim.Native.Nat.{ℕ}
use mathlib.Core.List.{List, ◌++◌}
use mathlib.Core.Path.{◌≡◌, refl, sym, ap, ap₂, subst, ◌∙◌}
use lib.Seq.{length-take-le}
use native.Mathlib.Omega.{arith}
use Rattle.lines.specs.Text.{decimal_text, AtFront}
use Rattle.demo.specs.Columns.{column, text_column}
use Rattle.demo.specs.Step.{reserved_on, expected_on}
use Rattle.demo.proofs.Texts.{line_put}
use Rattle.demo.proofs.columns.show.Goals as goal

pub slice_bounds-copy_from_slice-end-2 : goal.slice_bounds-copy_from_slice-end-2
slice_bounds-copy_from_slice-end-2 c = sym (length-take-le 66 c.args.output.now (omega arith))

pub copy_from_slice-requires : goal.copy_from_slice-requires
copy_from_slice-requires c = length-take-le 66 c.args.output.now (omega arith) ∙ sym c.as_flattened-shown.ensures.len

pub returns : goal.returns
returns c =
    let given = c.args in
    let row = given.row in
    let reserved_is : c.numbered-reserved.result ≡ column (decimal_text (reserved_on given.stage.now)) =
    c.numbered-reserved.ensures ∙ ap (λ (n : ℕ). column (decimal_text n)) (omega arith) in
    let next_is : c.numbered-next.result ≡ column (decimal_text (expected_on given.stage.now)) =
    c.numbered-next.ensures ∙ ap (λ (n : ℕ). column (decimal_text n)) (omega arith) in
    subst (λ (l : List ℕ). AtFront l given.output.now c.add_text.result c.add_text.new.output)
    (ap₂ (λ (b f : List ℕ). (row.phone ++ b) ++ (row.done ++ (row.number ++ (row.answer ++ (f ++ text_column given.text.now))))) reserved_is next_is)
    (line_put row.phone c.numbered-reserved.result row.done row.number row.answer c.numbered-next.result
    (c.copy_from_slice.ensures.after ∙ c.as_flattened-shown.ensures.value)
    (c.copy_from_slice.ensures.len ∙ length-take-le 66 given.output.now (omega arith)) refl c.add_text.ensures)
