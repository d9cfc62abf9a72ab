-- Hearing lines octet by octet, for every program that answers lines. Between two octets a program stands at its state, which goes from line to
-- line, and at the line so far. Assumes nothing.
use Rattle.std.specs.Prelude.{ℕ, ◌+◌, ◌≡◌, ◌⊎◌, cond, List, [], ◌∷◌, eqb, leb, ltb, take, set, replicate}
use Rattle.refusals.specs.Call.{Call, Answered}
use Rattle.lines.specs.declared.Heard.{Heard}
use Rattle.lines.specs.declared.program.Hearer.{Hearer}
use Rattle.lines.specs.Text.{room_order, puts_text, ended}

-- nothing heard yet
unfoldable pub silence : Heard
silence = record { octets = replicate 160 0; count = 0 }

-- one octet more of the line; of a line of more than 160 octets only that it is too long is kept
unfoldable pub kept : Heard → ℕ → Heard
kept heard octet =
    cond (ltb heard.count 160)
    (record { octets = set heard.octets heard.count octet; count = heard.count + 1 })
    (record { octets = heard.octets; count = 161 })

-- the line that stands for every line that is too long
unfoldable pub too_long : List ℕ
too_long = replicate 161 0

-- the line heard
unfoldable pub heard_line : Heard → List ℕ
heard_line heard = cond (leb heard.count 160) (take heard.count heard.octets) too_long

-- the rules of a program that answers lines: what it answers to a line in a state, the state after the line, and the room that an output must have
pub record Rules (S : Type 0) : Type 0 where
  pub answer : S → List ℕ → List ℕ
  pub after : S → List ℕ → S
  pub room : ℕ

-- where a program stands between two octets
pub record Standing (S : Type 0) : Type 0 where
  pub state : S
  pub heard : Heard

-- a program and the line that it has heard so far stand at the program's state and at that line
abbrev pub stands : {S P : Type 0} → (P → S) → Hearer P → Standing S
stands state hearer = record { state = state hearer.program; heard = hearer.heard }

-- the rules where an answer goes by its line alone: it is a text, ended, and nothing goes from line to line
abbrev pub line_rules : (List ℕ → List ℕ) → ℕ → Rules (Unit {0})
line_rules text_of room = record { answer = λ _ line. ended (text_of line); after = λ _ _. tt; room = room }

-- there a program stands at the line so far, and at nothing else
abbrev pub standing : Heard → Standing (Unit {0})
standing heard = record { state = tt; heard = heard }

module _ {S : Type 0} (rules : Rules S) where
  -- a line feed (10) ends the line: the state goes on, and a new line begins; any other octet is kept
  unfoldable pub hearing : Standing S → ℕ → Standing S
  hearing at octet =
      cond (eqb octet 10)
      (record { state = rules.after at.state (heard_line at.heard); heard = silence })
      (record { state = at.state; heard = kept at.heard octet })

  -- the answer to the line heard
  unfoldable pub heard_answer : Standing S → List ℕ
  heard_answer at = rules.answer at.state (heard_line at.heard)

  -- what is answered to an octet: at a line feed the line heard is answered
  unfoldable pub said : Standing S → ℕ → List ℕ
  said at octet = cond (eqb octet 10) (heard_answer at) []

  -- what is answered at the end of the input: a last line needs no line end, and nothing is answered where nothing was heard
  unfoldable pub last_said : Standing S → List ℕ
  last_said at = cond (eqb at.heard.count 0) [] (heard_answer at)

  -- where a program stands after hearing octets, one after the other
  unfoldable pub heard_after : Standing S → List ℕ → Standing S
  heard_after at [] = at
  heard_after at (octet ∷ rest) = heard_after (hearing at octet) rest

-- the end of the input: where a line was heard that no line end has ended, a program then stands where a line feed would have led
abbrev pub Finished : {S : Type 0} → Rules S → Standing S → Standing S → Type 0
Finished rules at then = (then ≡ at) ⊎ (then ≡ hearing rules at 10)

-- a state to which hearing some octets leads from another, with silence before them
abbrev pub Reached : {S : Type 0} → Rules S → S → S → Type 0
Reached rules first last = (octets : List ℕ) × ((heard_after rules (record { state = first; heard = silence }) octets).state ≡ last)

-- what is said is put to the front of an output that must have the room of the rules, even where nothing is due
abbrev pub say_call : {S : Type 0} → Rules S → List ℕ → List ℕ → Call (List ℕ)
say_call rules text output = puts_text (room_order rules.room output) text output

-- hearing an octet: what is said, and where the program then stands. A refused octet is not heard
pub record HearCall {S : Type 0} (rules : Rules S) (at : Standing S) (octet : ℕ) (before : List ℕ) (refusal : ℕ) (then : Standing S) (written : ℕ) (after : List ℕ) : Type 0 where
  pub said_is : Answered (say_call rules (said rules at octet) before) refusal (written ∷ []) after
  pub then_is : then ≡ cond (eqb refusal 0) (hearing rules at octet) at

-- the end of the input: the last line is answered
pub record FinishCall {S : Type 0} (rules : Rules S) (at : Standing S) (before : List ℕ) (refusal written : ℕ) (after : List ℕ) : Type 0 where
  pub said_is : Answered (say_call rules (last_said rules at) before) refusal (written ∷ []) after
