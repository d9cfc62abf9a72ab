-- The rules of `challenge`, and what it writes for an input. Hearing and answering line by line is said once in the crate `lines`.
-- Assumes nothing.
use Rattle.std.specs.Prelude.{ℕ, List}
use Rattle.lines.specs.Hearing.{Rules, line_rules}
use Rattle.lines.specs.Lines.{lines_of, answers}
use Rattle.challenge.specs.Answer.{answer_text, largest_answer}

-- the rules: an answer goes by its line alone
abbrev pub challenge_rules : Rules (Unit {0})
challenge_rules = line_rules answer_text largest_answer

-- what `challenge` writes for an input: the answers to its lines
unfoldable pub challenge_output : List ℕ → List ℕ
challenge_output input = answers challenge_rules tt (lines_of input)
