-- The laws of the answers: which lines are bad, what the numbering's contract says of a good one, and that every answer has room in 44 octets.
-- Assumes nothing.
use Prim.Native.Nat.{ℕ, ◌≤◌, ◌<◌}
use native.Mathlib.Omega.{arith}
use mathlib.Core.Path.{◌≡◌, refl, sym, ap, ap₂, subst, ◌∙◌}
use mathlib.Core.Bool.{true, false}
use mathlib.Core.List.{List, [], ◌∷◌, ◌++◌, append_assoc}
use borrow.Author.Tests.{eq-eqb, ne_eqb, le-leb, lt-leb}
use lib.Dec.{eqb, lit≤}
use lib.ListN.{length, get_or, length-append}
use Rattle.std.specs.Prelude.{Option, Some, None, Result}
use Rattle.refusals.specs.declared.Refusal.{Refusal}
use Rattle.refusals.specs.declared.Refusal.TheVariants.{Key, Range, Size, Room, Length, Version, Spare, Other, Start, End, Repeat, State, Reserve}
use Rattle.refusals.specs.declared.Refused.{Refused}
use Rattle.refusals.specs.Call.{Answered, Outcome}
use Rattle.refusals.specs.Number.{number_of, refused_of, number_in}
use Rattle.refusals.proofs.Calls.{is_outcome}
use Rattle.lines.specs.Digits.{within, value_of, is_number}
use Rattle.lines.specs.Hearing.{too_long}
use Rattle.lines.specs.Text.{decimal_text, AtFront, Added}
use Rattle.lines.proofs.Placed.{at_front_added, at_front_more}
use Rattle.lines.proofs.Digits.{within_above}
use Rattle.lines.proofs.Hearing.{LongAlike}
use Rattle.lines.proofs.InDecimal.{length-decimal_text}
use Rattle.lines.proofs.Text.{length_either}
use Rattle.numbering.specs.declared.Numbering.{Numbering}
use Rattle.numbering.specs.Numbering.{width, number_call}
use Rattle.walk.specs.Answer.{is_sent, sent_of, outcome_of, as_outcome, is_given, sent_text, number_text, refusal_text, field, row, answer, after}
use Rattle.walk.specs.Walk.{room, walk_rules}

-- ---- what a line sends

module _ (line : List ℕ) where
  nothing_sent : is_sent line ≡ false → None ≡ sent_of line
  unfolding sent_of
  nothing_sent bad = rw bad

  -- a line of more than three octets is bad
  pub sent_long : 3 < length line → None ≡ sent_of line
  unfolding is_sent is_number
  sent_long long = nothing_sent (rw (within_above 1 3 (length line) (omega arith) long))

  -- one that is no number is bad, and so is a number above 511
  module _ (short : length line ≤ 3) where
    same_number : is_number 10 3 line ≡ is_number 10 10 line
    unfolding is_number within
    same_number = rw (le-leb (length line) 3 short, le-leb (length line) 10 (omega arith))

    pub sent_none : is_number 10 10 line ≡ false → None ≡ sent_of line
    unfolding is_sent
    sent_none none = nothing_sent (rw (same_number ∙ none))

    module _ (number : is_number 10 10 line ≡ true) where
      pub sent_above : 511 < value_of 10 line → None ≡ sent_of line
      unfolding is_sent
      sent_above above = nothing_sent (rw (same_number ∙ number, lt-leb (value_of 10 line) 511 above))

      -- any other line sends its number
      pub sent_good : value_of 10 line ≤ 511 → Some (value_of 10 line) ≡ sent_of line
      unfolding sent_of is_sent
      sent_good within = rw (same_number ∙ number, le-leb (value_of 10 line) 511 within)

-- ---- what the numbering answers

module _ (state : Numbering) where
  -- a bad line is refused with 2, and changes nothing
  pub outcome_bad : {sent : Option ℕ} → sent ≡ None → record { refusal = 2; numbers = 0 ∷ []; lent = state } ≡ outcome_of state sent
  unfolding outcome_of
  outcome_bad bad = rw bad

  -- a good one is answered as the numbering's contract says
  pub outcome_good : {sent : Option ℕ} {number : ℕ} (answer : Result ℕ Refused) {after : Numbering} → sent ≡ Some number
      → Answered (number_call width state number) (refused_of answer) (number_in answer ∷ []) after → as_outcome answer after ≡ outcome_of state sent
  unfolding outcome_of
  outcome_good {number = number} answer good answered = rw good (is_outcome (number_call width state number) answered)

-- ---- the text of an answer

module _ (refusal number : ℕ) where
  pub number_given : is_given refusal ≡ true → number_text refusal number ≡ decimal_text number
  unfolding number_text
  number_given given = rw given

  -- the candidate is given with 0 and with 11, and with nothing else
  pub given_ok : refusal ≡ 0 → is_given refusal ≡ true
  unfolding is_given
  given_ok none = rw (eq-eqb refusal 0 none)

  pub given_repeat : (refusal ≡ 0 → ⊥) → refusal ≡ 11 → is_given refusal ≡ true
  unfolding is_given
  given_repeat some repeat = rw (ne_eqb refusal 0 some, eq-eqb refusal 11 repeat)

  pub number_withheld : (refusal ≡ 0 → ⊥) → (refusal ≡ 11 → ⊥) → number_text refusal number ≡ 45 ∷ []
  unfolding number_text is_given
  number_withheld some other = rw (ne_eqb refusal 0 some, ne_eqb refusal 11 other)

-- no other refusal has the number of a repeat
pub other_number : (refusal : Refusal) → (refusal ≡ Repeat → ⊥) → number_of refusal ≡ 11 → ⊥
other_number Key other is = omega (arith, is)
other_number Range other is = omega (arith, is)
other_number Size other is = omega (arith, is)
other_number Room other is = omega (arith, is)
other_number Length other is = omega (arith, is)
other_number Version other is = omega (arith, is)
other_number Spare other is = omega (arith, is)
other_number Other other is = omega (arith, is)
other_number Start other is = omega (arith, is)
other_number End other is = omega (arith, is)
other_number Repeat other is = other refl
other_number State other is = omega (arith, is)
other_number Reserve other is = omega (arith, is)

-- field after field
pub row_put : (sent : Option ℕ) (refusal number next : ℕ) {first second third before one two three four : List ℕ} {a b c d : ℕ}
    → first ≡ sent_text sent → second ≡ number_text refusal number → third ≡ refusal_text refusal
    → Added (field first 32) before 0 a one → Added (field second 32) one a b two
    → Added (field third 32) two b c three → Added (field (decimal_text next) 10) three c d four
    → AtFront (row sent refusal number next) before d four
unfolding row
row_put sent refusal number next {first} {second} {third} {before} {four = four} {d = d} first_is second_is third_is one two three four_put =
    rw (← first_is, ← second_is, ← third_is)
    (subst (λ (text : List ℕ). AtFront text before d four)
    (append_assoc (field first 32 ++ field second 32) (field third 32) (field (decimal_text next) 10)
    ∙ append_assoc (field first 32) (field second 32) (field third 32 ++ field (decimal_text next) 10))
    (at_front_more (at_front_more (at_front_more (at_front_added one) two) three) four_put))

-- the row of what a line sends and of what the numbering answers is the answer to the line
module _ (state : Numbering) (line : List ℕ) {sent : Option ℕ} {refusal number : ℕ} {then : Numbering}
    (sent_is : sent ≡ sent_of line) (given_is : record { refusal = refusal; numbers = number ∷ []; lent = then } ≡ outcome_of state sent) where
  given_line : record { refusal = refusal; numbers = number ∷ []; lent = then } ≡ outcome_of state (sent_of line)
  given_line = given_is ∙ ap (outcome_of state) sent_is

  pub line_after : then ≡ after state line
  unfolding after
  line_after = ap (λ (o : Outcome Numbering). o.lent) given_line

  pub line_answered : {before output : List ℕ} {written : ℕ} → AtFront (row sent refusal number then.next) before written output
      → AtFront (answer state line) before written output
  unfolding answer
  line_answered {before} {output} {written} put =
      subst (λ (text : List ℕ). AtFront text before written output)
      (ap₂ (λ (s : Option ℕ) (o : Outcome Numbering). row s o.refusal (get_or o.numbers 0 0) o.lent.next) sent_is given_line) put

-- ---- the room of an answer

-- a field has at most ten octets, and the one that ends it
pub length-field : (text : List ℕ) (ends : ℕ) → length text ≤ 10 → length (field text ends) ≤ 11
unfolding field
length-field text ends few = simp length-append (omega arith)

pub length-sent : (sent : Option ℕ) → length (field (sent_text sent) 32) ≤ 11
unfolding sent_text
length-sent None = length-field (63 ∷ []) 32 (lit≤ tt)
length-sent (Some sent) = length-field (decimal_text sent) 32 (length-decimal_text sent)

pub length-number : (refusal number : ℕ) → length (field (number_text refusal number) 32) ≤ 11
unfolding number_text
length-number refusal number = length-field (number_text refusal number) 32 (length_either (is_given refusal) _ _ 10 (length-decimal_text number) (lit≤ tt))

pub length_refusal : (refusal : ℕ) → length (field (refusal_text refusal) 32) ≤ 11
unfolding refusal_text
length_refusal refusal = length-field (refusal_text refusal) 32 (length_either (eqb refusal 0) _ _ 10 (lit≤ tt) (length-decimal_text refusal))

-- ---- the rules of `walk`

-- a line that is too long is answered, and changes the numbering, like any other that is
long_same : (line : List ℕ) → 160 < length line → sent_of line ≡ sent_of too_long
unfolding too_long
long_same line long = sym (sent_long line (omega arith)) ∙ sent_long too_long (lit≤ tt)

pub walk_alike : LongAlike walk_rules
unfolding answer after
walk_alike = record {
  answer_alike = λ state line long. ap (λ (sent : Option ℕ). row sent (outcome_of state sent).refusal (get_or (outcome_of state sent).numbers 0 0) (outcome_of state sent).lent.next) (long_same line long);
  after_alike = λ state line long. ap (λ (sent : Option ℕ). (outcome_of state sent).lent) (long_same line long);
}

-- every answer has room in an output that is not refused
pub walk_fits : (state : Numbering) (line : List ℕ) → length (answer state line) ≤ room
unfolding answer row
walk_fits state line =
    let given = outcome_of state (sent_of line) in
    simp length-append
    (omega (
      arith,
      length-sent (sent_of line),
      length-number given.refusal (get_or given.numbers 0 0),
      length_refusal given.refusal,
      length-field (decimal_text given.lent.next) 10 (length-decimal_text given.lent.next),
    ))
