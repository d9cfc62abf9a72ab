-- What is done for a line about stores and plugs, and what is answered to it. Assumes nothing.
use Rattle.std.specs.Prelude.{ℕ, ◌+◌, ◌-◌, ◌^◌, min, false, List, [], ◌++◌}
use Rattle.lines.specs.Text.{decimal_text}
use Rattle.script.specs.Quoted.{quoted}
use Rattle.demo.specs.declared.hosts.Phone.{Phone}
use Rattle.demo.specs.declared.hosts.Cell.{Cell}
use Rattle.demo.specs.declared.hosts.Keeper.TheVariants.{Script}
use Rattle.demo.specs.declared.play.Stage.{Stage}
use Rattle.demo.specs.Columns.{column, phone_columns, answer_text, cell_columns, silent_columns}
use Rattle.demo.specs.Ends.{sender_in, store_answer, stored_phone, tell_answer, told_phone, restart_answer, restarted_phone, cut_phone, store_cell_answer, stored_cell, restart_cell_answer, restarted_cell, cut_cell}
use Rattle.demo.specs.Step.{Step, reserved_on, expected_on}

-- a stage with another phone, or with another cell
abbrev pub with_phone : Stage → Phone → Stage
with_phone stage phone = record { phone = phone; cell = stage.cell; shelf = stage.shelf }

abbrev pub with_cell : Stage → Cell → Stage
with_cell stage cell = record { phone = stage.phone; cell = cell; shelf = stage.shelf }

-- ---- what is shown, on the stage afterwards

-- what the phone answered, and what was done
unfoldable pub phone_shown : Stage → ℕ → List ℕ → Step
phone_shown stage refusal done = record {
  stage = stage;
  said = phone_columns (answer_text refusal) (reserved_on stage) ++ (column done ++ silent_columns (expected_on stage));
}

-- what the cell answered, and what was done
unfoldable pub cell_shown : Stage → ℕ → List ℕ → Step
cell_shown stage refusal done = record {
  stage = stage;
  said = phone_columns (quoted "-") (reserved_on stage) ++ (column done ++ cell_columns false refusal 0 (expected_on stage) []);
}

-- that a plug was pulled: there is nobody to answer
unfoldable pub cut_shown : Stage → List ℕ → Step
cut_shown stage done = record {
  stage = stage;
  said = phone_columns (quoted "-") (reserved_on stage) ++ (column done ++ silent_columns (expected_on stage));
}

-- ---- the phone

-- a phone of which the bench keeps no reservation ahead by itself any more: from its first `store phone` or `tell phone` on the script sees to it
abbrev pub by_hand : Phone → Phone
by_hand phone = record { sender = phone.sender; form = phone.form; keeper = Script }

-- the reservation so far above the phone's next number; a reservation is a number of 32 bits
abbrev pub reservation : Phone → ℕ → ℕ
reservation phone count = min ((sender_in phone).next + count) (2 ^ 32 - 1)

-- the phone is stored with a reservation so far above its next number
unfoldable pub storing_phone : Stage → ℕ → Step
storing_phone stage count =
    let reserved = reservation stage.phone count in
    phone_shown (with_phone stage (by_hand (stored_phone stage.phone reserved))) (store_answer stage.phone reserved).refusal (quoted "stored " ++ decimal_text count)

-- the phone is told the reservation that was stored last
unfoldable pub telling_phone : Stage → Step
telling_phone stage = phone_shown (with_phone stage (by_hand (told_phone stage.phone))) (tell_answer stage.phone).refusal (quoted "told")

-- the phone's plug is pulled
unfoldable pub cutting_phone : Stage → Step
cutting_phone stage = cut_shown (with_phone stage (cut_phone stage.phone)) (quoted "cut phone")

-- the phone is made from its stored form
unfoldable pub restarting_phone : Stage → Step
restarting_phone stage = phone_shown (with_phone stage (restarted_phone stage.phone)) (restart_answer stage.phone).refusal (quoted "restarted")

-- ---- the cell

-- the cell is stored
unfoldable pub storing_cell : Stage → Step
storing_cell stage = cell_shown (with_cell stage (stored_cell stage.cell)) (store_cell_answer stage.cell).refusal (quoted "stored")

-- the cell's plug is pulled
unfoldable pub cutting_cell : Stage → Step
cutting_cell stage = cut_shown (with_cell stage (cut_cell stage.cell)) (quoted "cut cell")

-- the cell is made from its stored form
unfoldable pub restarting_cell : Stage → Step
restarting_cell stage = cell_shown (with_cell stage (restarted_cell stage.cell)) (restart_cell_answer stage.cell).refusal (quoted "restarted")
