-- The line that columns make. Assumes nothing.
use Rattle.std.specs.Prelude.{ℕ, List, ◌++◌}
use Rattle.lines.specs.Text.{decimal_text}
use Rattle.demo.specs.declared.columns.Row.{Row}
use Rattle.demo.specs.declared.play.Stage.{Stage}
use Rattle.demo.specs.Columns.{column, text_column, silent_columns}
use Rattle.demo.specs.Step.{reserved_on, expected_on}

-- the columns of a row, with those that go by the stage, and the text
abbrev pub line_of : Stage → Row → List ℕ → List ℕ
line_of stage row text =
    (row.phone ++ column (decimal_text (reserved_on stage)))
    ++ (row.done ++ (row.number ++ (row.answer ++ (column (decimal_text (expected_on stage)) ++ text_column text))))

-- the line where the cell is asked for nothing
abbrev pub silent_line : Stage → List ℕ → List ℕ → List ℕ
silent_line stage phone done = (phone ++ column (decimal_text (reserved_on stage))) ++ (done ++ silent_columns (expected_on stage))
