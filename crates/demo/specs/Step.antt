-- What is done for a line, and how it is written. Assumes nothing.
use Rattle.std.specs.Prelude.{ℕ, ◌≡◌, List}
use Rattle.lines.specs.Text.{AtFront}
use Rattle.demo.specs.declared.play.Stage.{Stage}
use Rattle.demo.specs.Ends.{sender_in, receiver_in}

-- of a stage what every answer shows: the phone's reservation, and the number that the cell expects next
abbrev pub reserved_on : Stage → ℕ
reserved_on stage = (sender_in stage.phone).reserved

abbrev pub expected_on : Stage → ℕ
expected_on stage = (receiver_in stage.cell).numbering.next

-- what is done for a line: the stage afterwards, and the answer
pub record Step : Type 0 where
  pub stage : Stage
  pub said : List ℕ

-- a step done: the stage afterwards, and the answer at the front of an output
pub record StepCall (step : Step) (before : List ℕ) (then : Stage) (written : ℕ) (output : List ℕ) : Type 0 where
  pub stage_is : then ≡ step.stage
  pub said_is : AtFront step.said before written output
