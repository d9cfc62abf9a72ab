-- The rules of `stream`, and what it writes for an input. Hearing and answering line by line is said once in the crate `lines`.
-- Assumes nothing.
use Rattle.std.specs.Prelude.{ℕ, List}
use Rattle.lines.specs.Hearing.{Rules, line_rules}
use Rattle.lines.specs.Lines.{lines_of, answers}
use Rattle.stream.specs.Answer.{answer_text, largest_answer}

-- the rules: an answer goes by its line alone
abbrev pub stream_rules : Rules (Unit {0})
stream_rules = line_rules answer_text largest_answer

-- what `stream` writes for an input: the answers to its lines
unfoldable pub stream_output : List ℕ → List ℕ
stream_output input = answers stream_rules tt (lines_of input)
