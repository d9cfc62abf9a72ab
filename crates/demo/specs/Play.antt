-- The rules of the demonstration, and what it writes for a script. Hearing and answering line by line is said once in the crate `lines`.
-- Assumes nothing.
use Rattle.std.specs.Prelude.{ℕ, List, ◌++◌}
use Rattle.lines.specs.Hearing.{Rules}
use Rattle.lines.specs.Lines.{lines_of, answers}
use Rattle.script.specs.Quoted.{quoted}
use Rattle.demo.specs.declared.play.Stage.{Stage}
use Rattle.demo.specs.Columns.{column}
use Rattle.demo.specs.Ends.{new_phone, new_cell, empty_shelf}
use Rattle.demo.specs.Acts.{obeyed}

-- the room that an output must have: six columns of eleven octets, a text of at most 46, and the line feed
abbrev pub room : ℕ
room = 113

-- the answer to a line, and the stage after it
unfoldable pub answer : Stage → List ℕ → List ℕ
answer stage line = (obeyed stage line).said

unfoldable pub after : Stage → List ℕ → Stage
after stage line = (obeyed stage line).stage

-- the rules: the stage goes from line to line
abbrev pub demo_rules : Rules Stage
demo_rules = record { answer = answer; after = after; room = room }

-- the stage at the start: both ends newly opened on the same link, and nothing on the shelf
unfoldable pub new_stage : Stage
new_stage = record { phone = new_phone; cell = new_cell; shelf = empty_shelf }

-- the heading: the names of the columns
unfoldable pub heading : List ℕ
heading =
    column (quoted "phone")
    ++ (column (quoted "reserved")
    ++ (column (quoted "box") ++ (column (quoted "number") ++ (column (quoted "answer") ++ (column (quoted "next") ++ quoted "text\n")))))

-- what is written for a script: the heading, and the answers to its lines
unfoldable pub demo_output : List ℕ → List ℕ
demo_output input = heading ++ answers demo_rules new_stage (lines_of input)
