-- Hearing octet by octet answers the lines of an input one after the other, with the state going from line to line. How the input comes in pieces
-- does not matter. Assumes nothing.
use Prim.Native.Nat.{ℕ, ◌+◌, ◌≤◌, ◌<◌}
use native.Mathlib.Decide.{dec_le, dec_lt}
use native.Mathlib.Nat.{not-le_of_lt}
use native.Mathlib.Numerals.{add-one}
use native.Mathlib.Omega.{arith}
use mathlib.Core.Path.{◌≡◌, refl, sym, ap, ap₂, ◌∙◌}
use mathlib.Core.Bool.{true, false}
use mathlib.Core.List.{List, [], ◌∷◌, ◌++◌, append_assoc, append-nil}
use borrow.Author.Tests.{ne_eqb, lt-ltb, le-ltb}
use lib.Dec.{eqb, lit≤}
use lib.ListN.{length, get_or, take, drop, set, length-append, length-set}
use lib.Seq.{take-suc-set, drop-length}
use Rattle.refusals.proofs.Tests.{by-test}
use Rattle.lines.specs.declared.Heard.{Heard}
use Rattle.lines.specs.Hearing.{silence, kept, too_long, heard_line, Rules, Standing, line_rules, hearing, heard_answer, said, last_said, heard_after}
use Rattle.lines.specs.Text.{ended}
use Rattle.lines.specs.Lines.{lines_from, lines_of, answers}
use Rattle.lines.proofs.Calls.{line_kept, line_too_long}
use Rattle.lines.proofs.Digits.{from_place}

-- ---- the line so far

-- what is heard holds a line: the line itself where it has at most 160 octets, and else that it is too long
record Holds (heard : Heard) (line : List ℕ) : Type 0 where
  size : length heard.octets ≡ 160
  count_short : length line ≤ 160 → heard.count ≡ length line
  octets_short : length line ≤ 160 → take heard.count heard.octets ≡ line
  count_long : 160 < length line → heard.count ≡ 161

nothing_held : Holds silence []
unfolding silence
nothing_held = record { size = refl; count_short = λ _. refl; octets_short = λ _. refl; count_long = λ long. absurd (not-le_of_lt long (lit≤ tt)) }

kept_place : (heard : Heard) (octet : ℕ) → heard.count < 160
    → kept heard octet ≡ record { octets = set heard.octets heard.count octet; count = heard.count + 1 }
unfolding kept
kept_place heard octet place = rw (lt-ltb heard.count 160 place)

kept_full : (heard : Heard) (octet : ℕ) → 160 ≤ heard.count → kept heard octet ≡ record { octets = heard.octets; count = 161 }
unfolding kept
kept_full heard octet full = rw (le-ltb heard.count 160 full)

-- one octet more
one_more : (heard : Heard) (line : List ℕ) (octet : ℕ) → Holds heard line → Holds (kept heard octet) (line ++ octet ∷ [])
one_more heard line octet holds =
    let longer : length (line ++ octet ∷ []) ≡ length line + 1 = length-append line (octet ∷ []) in
    elim (dec_lt (length line) 160) [
      | yes place ↦
          let at : heard.count ≡ length line = holds.count_short (omega arith) in
          rw (kept_place heard octet (omega arith))
          (record {
            size = length-set heard.octets heard.count octet ∙ holds.size;
            count_short = λ _. omega arith;
            octets_short =
                λ _. rw (add-one heard.count)
                (take-suc-set heard.octets heard.count octet (omega (arith, holds.size)) ∙ ap (λ (l : List ℕ). l ++ octet ∷ []) (holds.octets_short (omega arith)));
            count_long = λ long. absurd (omega arith);
          })
      | no full ↦
          rw (kept_full heard octet (elim (dec_le (length line) 160) [ yes short ↦ omega (arith, holds.count_short short) | no long ↦ omega (arith, holds.count_long (omega arith)) ]))
          (record {
            size = holds.size;
            count_short = λ short. absurd (omega arith);
            octets_short = λ short. absurd (omega arith);
            count_long = λ _. refl;
          })
    ]

-- nothing is held exactly where the line is empty
held_empty : (heard : Heard) (line : List ℕ) → Holds heard line → eqb heard.count 0 ≡ eqb (length line) 0
held_empty heard line holds =
    elim (dec_le (length line) 160) [
      | yes short ↦ ap (λ (n : ℕ). eqb n 0) (holds.count_short short)
      | no long ↦ ne_eqb heard.count 0 (λ none. omega (arith, holds.count_long (omega arith))) ∙ sym (ne_eqb (length line) 0 (λ none. omega arith))
    ]

-- ---- lines that are too long

-- the rules treat a line that is too long like any other that is too long
pub record LongAlike {S : Type 0} (rules : Rules S) : Type 0 where
  pub answer_alike : (state : S) (line : List ℕ) → 160 < length line → rules.answer state line ≡ rules.answer state too_long
  pub after_alike : (state : S) (line : List ℕ) → 160 < length line → rules.after state line ≡ rules.after state too_long

-- rules by the line alone do where the text does
pub line_alike : (text_of : List ℕ → List ℕ) (room : ℕ) → ((line : List ℕ) → 160 < length line → text_of line ≡ text_of too_long) → LongAlike (line_rules text_of room)
line_alike text_of room alike = record { answer_alike = λ _ line long. ap ended (alike line long); after_alike = λ _ _ _. refl }

-- so whatever they say of a line is what they say of the line heard
held_same : {A : Type 0} (of : List ℕ → A) → ((line : List ℕ) → 160 < length line → of line ≡ of too_long)
    → (heard : Heard) (line : List ℕ) → Holds heard line → of (heard_line heard) ≡ of line
held_same of alike heard line holds =
    elim (dec_le (length line) 160) [
      | yes short ↦ ap of (line_kept heard (omega (arith, holds.count_short short)) ∙ holds.octets_short short)
      | no long ↦ ap of (line_too_long heard (omega (arith, holds.count_long (omega arith)))) ∙ sym (alike line (omega arith))
    ]

-- ---- what is said to octets, one after the other

unfoldable pub said_by : {S : Type 0} → Rules S → Standing S → List ℕ → List ℕ
said_by rules at [] = []
said_by rules at (octet ∷ rest) = said rules at octet ++ said_by rules (hearing rules at octet) rest

module _ {S : Type 0} (rules : Rules S) where
  -- ---- what is said to one

  module _ (at : Standing S) (octet : ℕ) where
    said_feed : eqb octet 10 ≡ true → said rules at octet ≡ rules.answer at.state (heard_line at.heard)
    unfolding said heard_answer
    said_feed feed = rw feed

    hearing_feed : eqb octet 10 ≡ true → hearing rules at octet ≡ record { state = rules.after at.state (heard_line at.heard); heard = silence }
    unfolding hearing
    hearing_feed feed = rw feed

    said_other : eqb octet 10 ≡ false → said rules at octet ≡ []
    unfolding said
    said_other other = rw other

    hearing_other : eqb octet 10 ≡ false → hearing rules at octet ≡ record { state = at.state; heard = kept at.heard octet }
    unfolding hearing
    hearing_other other = rw other

  -- ---- what is said to an input

  -- all that is said to an input from where a program stands, to the input's end
  said_in_all : Standing S → List ℕ → List ℕ
  said_in_all at input = said_by rules at input ++ last_said rules (heard_after rules at input)

  said_first : (at : Standing S) (octet : ℕ) (rest : List ℕ) → said_in_all at (octet ∷ rest) ≡ said rules at octet ++ said_in_all (hearing rules at octet) rest
  unfolding said_in_all said_by heard_after
  said_first at octet rest =
      append_assoc (said rules at octet) (said_by rules (hearing rules at octet) rest) (last_said rules (heard_after rules (hearing rules at octet) rest))

  module _ (alike : LongAlike rules) where
    held_answer : (at : Standing S) (line : List ℕ) → Holds at.heard line → rules.answer at.state (heard_line at.heard) ≡ rules.answer at.state line
    held_answer at line holds = held_same (rules.answer at.state) (alike.answer_alike at.state) at.heard line holds

    held_after : (at : Standing S) (line : List ℕ) → Holds at.heard line → rules.after at.state (heard_line at.heard) ≡ rules.after at.state line
    held_after at line holds = held_same (rules.after at.state) (alike.after_alike at.state) at.heard line holds

    -- the end of the input
    last_answers : (at : Standing S) (line : List ℕ) → Holds at.heard line → last_said rules at ≡ answers rules at.state (lines_from line [])
    unfolding last_said heard_answer lines_from answers
    last_answers at line holds =
        rw (held_empty at.heard line holds)
        (by-test (eqb (length line) 0) _
        (λ empty. rw empty)
        (λ some. rw some (held_answer at line holds ∙ sym (append-nil (rules.answer at.state line)))))

    -- what is said where a line is held: the answers to the lines of the input, the first of which began with that line
    said_from : (at : Standing S) (input line : List ℕ) → Holds at.heard line → said_in_all at input ≡ answers rules at.state (lines_from line input)
    unfolding said_in_all said_by heard_after lines_from answers
    said_from at [] line holds = last_answers at line holds
    said_from at (octet ∷ rest) line holds =
        said_first at octet rest
        ∙ by-test (eqb octet 10) _
        (λ feed.
        rw feed
        (ap₂ (λ (a : List ℕ) (next : Standing S). a ++ said_in_all next rest)
        (said_feed at octet feed ∙ held_answer at line holds)
        (hearing_feed at octet feed ∙ (λ i. record { state = held_after at line holds i; heard = silence }))
        ∙ ap (λ (l : List ℕ). rules.answer at.state line ++ l)
        (said_from (record { state = rules.after at.state line; heard = silence }) rest [] nothing_held)))
        (λ other.
        rw other
        (ap₂ (λ (a : List ℕ) (next : Standing S). a ++ said_in_all next rest) (said_other at octet other) (hearing_other at octet other)
        ∙ said_from (record { state = at.state; heard = kept at.heard octet }) rest (line ++ octet ∷ []) (one_more at.heard line octet holds)))

    -- all that is said to an input, from silence to its end, is the answers to its lines
    pub said_is_answers : (state : S) (input : List ℕ)
        → said_by rules (record { state = state; heard = silence }) input ++ last_said rules (heard_after rules (record { state = state; heard = silence }) input)
        ≡ answers rules state (lines_of input)
    unfolding said_in_all lines_of
    said_is_answers state input = said_from (record { state = state; heard = silence }) input [] nothing_held

  -- ---- the input in pieces

  -- two pieces one after the other are heard, and answered, as the whole
  pub heard_pieces : (at : Standing S) (a b : List ℕ) → heard_after rules at (a ++ b) ≡ heard_after rules (heard_after rules at a) b
  unfolding heard_after
  heard_pieces at [] b = refl
  heard_pieces at (octet ∷ a) b = heard_pieces (hearing rules at octet) a b

  pub said_pieces : (at : Standing S) (a b : List ℕ) → said_by rules at (a ++ b) ≡ said_by rules at a ++ said_by rules (heard_after rules at a) b
  unfolding said_by heard_after
  said_pieces at [] b = refl
  said_pieces at (octet ∷ a) b =
      ap (λ (l : List ℕ). said rules at octet ++ l) (said_pieces (hearing rules at octet) a b)
      ∙ sym (append_assoc (said rules at octet) (said_by rules (hearing rules at octet) a) (said_by rules (heard_after rules (hearing rules at octet) a) b))

  -- a piece is heard octet by octet
  heard_next : (at : Standing S) (piece : List ℕ) (i : ℕ) → i < length piece
      → heard_after rules at (drop i piece) ≡ heard_after rules (hearing rules at (get_or piece i 0)) (drop (i + 1) piece)
  unfolding heard_after
  heard_next at piece i inside = ap (heard_after rules at) (from_place piece i inside)

  pub heard_on : (at : Standing S) (piece : List ℕ) (i : ℕ) {then : Standing S} → i < length piece → then ≡ hearing rules at (get_or piece i 0)
      → heard_after rules at (drop i piece) ≡ heard_after rules then (drop (i + 1) piece)
  heard_on at piece i inside is = heard_next at piece i inside ∙ ap (λ (s : Standing S). heard_after rules s (drop (i + 1) piece)) (sym is)

  pub heard_all : (at : Standing S) (piece : List ℕ) (i : ℕ) → i ≡ length piece → heard_after rules at (drop i piece) ≡ at
  unfolding heard_after
  heard_all at piece i end = ap (λ (n : ℕ). heard_after rules at (drop n piece)) end ∙ ap (heard_after rules at) (drop-length piece)
