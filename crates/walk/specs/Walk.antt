-- The rules of `walk`, and what it writes for an input. Hearing and answering line by line is said once in the crate `lines`.
-- Assumes nothing.
use Rattle.std.specs.Prelude.{ℕ, List, [], ◌∷◌, ◌++◌}
use Rattle.lines.specs.Hearing.{silence, Rules, Standing}
use Rattle.lines.specs.Lines.{lines_of, answers}
use Rattle.numbering.specs.declared.Numbering.{Numbering}
use Rattle.numbering.specs.Numbering.{start as Numbering·start}
use Rattle.walk.specs.Answer.{answer, after}

-- the room that an output must have: four fields of at most ten octets, each with the octet that ends it
abbrev pub room : ℕ
room = 44

-- the rules: the numbering goes from line to line
abbrev pub walk_rules : Rules Numbering
walk_rules = record { answer = answer; after = after; room = room }

-- at the start: the numbering of a receiver that has accepted nothing, and nothing heard
unfoldable pub start : Standing Numbering
start = record { state = Numbering·start; heard = silence }

-- the header line: `N number answer next`
unfoldable pub header : List ℕ
header = 78 ∷ 32 ∷ 110 ∷ 117 ∷ 109 ∷ 98 ∷ 101 ∷ 114 ∷ 32 ∷ 97 ∷ 110 ∷ 115 ∷ 119 ∷ 101 ∷ 114 ∷ 32 ∷ 110 ∷ 101 ∷ 120 ∷ 116 ∷ 10 ∷ []

-- what `walk` writes for an input: the header, and the answers to its lines
unfoldable pub walk_output : List ℕ → List ℕ
walk_output input = header ++ answers walk_rules Numbering·start (lines_of input)
