-- What is done for a line, and what is answered to it. Assumes nothing.
use Rattle.std.specs.Prelude.{ℕ, ◌-◌, Bool, cond, ◌||◌, List, ◌++◌, eqb, drop, Result, Ok, Err}
use Rattle.refusals.specs.Call.{Outcome}
use Rattle.lines.specs.Text.{is_hex, hex_octets, decimal_text}
use Rattle.script.specs.declared.kinds.Asked.{Asked}
use Rattle.script.specs.declared.kinds.Asked.TheVariants.{Remark, Pass, Lose, Keep, Give, Noise, StorePhone, TellPhone, CutPhone, RestartPhone, StoreCell, CutCell, RestartCell}
use Rattle.script.specs.declared.kinds.Why.{Why}
use Rattle.script.specs.declared.kinds.Why.TheVariants.{Hex}
use Rattle.script.specs.Quoted.{quoted}
use Rattle.script.specs.Script.{asked}
use Rattle.numbering.specs.Numbering.{width}
use Rattle.sender.specs.Sender.{Sealing}
use Rattle.receiver.specs.declared.Receiver.{Receiver}
use Rattle.receiver.specs.Receiver.{open_call}
use Rattle.demo.specs.declared.play.Stage.{Stage}
use Rattle.demo.specs.Columns.{column, phone_text, phone_columns, why_text, cell_columns, silent_columns}
use Rattle.demo.specs.Ends.{frame_room, number_in, receiver_in, phone_answer, after_sealing, sealed_frame, phone_after, cell_answer, cell_after, opened_text, frame_kept, shelved}
use Rattle.demo.specs.Step.{Step, reserved_on, expected_on}
use Rattle.demo.specs.Plugs.{storing_phone, telling_phone, cutting_phone, restarting_phone, storing_cell, cutting_cell, restarting_cell}

-- the phone's columns where it was to seal
abbrev pub sealed_columns : Outcome Sealing → List ℕ
sealed_columns sealed = phone_columns (phone_text sealed.refusal (number_in sealed)) sealed.lent.sender.reserved

-- the cell's columns where it is handed octets: the number is shown where nothing is refused, or where it is given all the same
unfoldable pub handed_columns : Receiver → List ℕ → List ℕ
handed_columns cell octets =
    let answer = cell_answer cell octets in
    let given = eqb answer.refusal 0 || (open_call width cell octets frame_room).candidate_with answer.refusal in
    cell_columns given answer.refusal (number_in answer) answer.lent.receiver.numbering.next (opened_text answer)

-- whether the number is given with an answer
abbrev pub is_given : ℕ → Bool
is_given refusal = eqb refusal 0 || (eqb refusal 11 || eqb refusal 4)

-- octets are handed to the cell, where the phone's column and the box's show this
abbrev pub handed_with : Stage → List ℕ → List ℕ → List ℕ → Step
handed_with stage phone done octets = record {
  stage = record { phone = stage.phone; cell = cell_after stage.cell octets; shelf = stage.shelf };
  said = (phone ++ column (decimal_text (reserved_on stage))) ++ (done ++ handed_columns (receiver_in stage.cell) octets);
}

-- the phone seals a text, and the box hands the frame to the cell
unfoldable pub passing : Stage → List ℕ → Step
passing stage text =
    let sealed = phone_answer stage.phone text in
    let frame = sealed_frame sealed in
    record {
      stage = record { phone = after_sealing stage.phone sealed; cell = cell_after stage.cell frame; shelf = stage.shelf };
      said = sealed_columns sealed ++ (column (quoted "passed") ++ handed_columns (receiver_in stage.cell) frame);
    }

-- the phone seals so many frames, one at least, and the box loses them all; the phone's column shows the last of them
unfoldable pub losing : Stage → ℕ → Step
losing stage count =
    let phone = phone_after (count - 1) stage.phone in
    let sealed = phone_answer phone (quoted "lost") in
    record {
      stage = record { phone = after_sealing phone sealed; cell = stage.cell; shelf = stage.shelf };
      said = sealed_columns sealed ++ (column (quoted "lost " ++ decimal_text count) ++ silent_columns (expected_on stage));
    }

-- the phone seals a text, and the box keeps the frame at place k
unfoldable pub keeping : Stage → ℕ → List ℕ → Step
keeping stage k text =
    let sealed = phone_answer stage.phone text in
    record {
      stage = record { phone = after_sealing stage.phone sealed; cell = stage.cell; shelf = shelved stage.shelf k (sealed_frame sealed) };
      said = sealed_columns sealed ++ (column (quoted "kept " ++ decimal_text k) ++ silent_columns (expected_on stage));
    }

-- the box hands the frame kept at place k to the cell, and still keeps it
unfoldable pub giving : Stage → ℕ → Step
giving stage k =
    let frame = frame_kept stage.shelf k in
    record {
      stage = record { phone = stage.phone; cell = cell_after stage.cell frame; shelf = stage.shelf };
      said = phone_columns (quoted "-") (reserved_on stage) ++ (column (quoted "gave " ++ decimal_text k) ++ handed_columns (receiver_in stage.cell) frame);
    }

-- the box hands octets of its own to the cell
unfoldable pub handing : Stage → List ℕ → Step
handing stage octets = record {
  stage = record { phone = stage.phone; cell = cell_after stage.cell octets; shelf = stage.shelf };
  said = phone_columns (quoted "-") (reserved_on stage) ++ (column (quoted "handed") ++ handed_columns (receiver_in stage.cell) octets);
}

-- nothing is done for a bad line: a question mark, and the word that says why
unfoldable pub nothing : Stage → Why → Step
nothing stage why = record { stage = stage; said = phone_columns (quoted "?") (reserved_on stage) ++ (column (why_text why) ++ silent_columns (expected_on stage)) }

-- the octets that the box hands to the cell are given as pairs of hex digits
unfoldable pub noising : Stage → List ℕ → Step
noising stage text = cond (is_hex text) (handing stage (hex_octets text)) (nothing stage Hex)

-- a remark is answered by itself
unfoldable pub remarking : Stage → List ℕ → Step
remarking stage line = record { stage = stage; said = line ++ quoted "\n" }

-- what is done for a line that asks so: the text of `pass` stands from place 5 on, that of `keep` from 7, the digits of `noise` from 6
abbrev pub done_for : Stage → List ℕ → Result Asked Why → Step
done_for stage line (Ok Remark) = remarking stage line
done_for stage line (Ok Pass) = passing stage (drop 5 line)
done_for stage line (Ok (Lose count)) = losing stage count
done_for stage line (Ok (Keep k)) = keeping stage k (drop 7 line)
done_for stage line (Ok (Give k)) = giving stage k
done_for stage line (Ok Noise) = noising stage (drop 6 line)
done_for stage line (Ok (StorePhone count)) = storing_phone stage count
done_for stage line (Ok TellPhone) = telling_phone stage
done_for stage line (Ok CutPhone) = cutting_phone stage
done_for stage line (Ok RestartPhone) = restarting_phone stage
done_for stage line (Ok StoreCell) = storing_cell stage
done_for stage line (Ok CutCell) = cutting_cell stage
done_for stage line (Ok RestartCell) = restarting_cell stage
done_for stage line (Err why) = nothing stage why

unfoldable pub obeyed : Stage → List ℕ → Step
obeyed stage line = done_for stage line (asked line)
