-- The example of document 01, computed from the definitions: 0, 3, 1, 1, 500, 479, 448 and 447, a line each; the empty input; and a bad line.
-- Assumes nothing.
use Prim.Native.Nat.{ℕ}
use mathlib.Core.Path.{◌≡◌, refl}
use mathlib.Core.List.{List, [], ◌∷◌, ◌++◌}
use Rattle.refusals.specs.Refusal.{first}
use Rattle.lines.specs.Digits.{within, digit_value, all_digits, value_from, value_of, is_number}
use Rattle.lines.specs.Lines.{lines_from, lines_of, answers}
use Rattle.lines.specs.Text.{glyph_of, decimal_digits, decimal_text}
use Rattle.refusals.specs.Call.{outcome}
use Rattle.numbering.specs.Numbering.{end, marks_of, mark, is_accepted, accepted, first_from, candidate, is_below0, is_past_end, can_arise, candidate_order, number_order}
use Rattle.walk.specs.Answer.{is_sent, sent_of, outcome_of, is_given, sent_text, number_text, refusal_text, field, row, answer, after}
use Rattle.walk.specs.Walk.{header, walk_output}

-- the input of the document
pub input : List ℕ
input = 48 ∷ 10 ∷ 51 ∷ 10 ∷ 49 ∷ 10 ∷ 49 ∷ 10 ∷ 53 ∷ 48 ∷ 48 ∷ 10 ∷ 52 ∷ 55 ∷ 57 ∷ 10 ∷ 52 ∷ 52 ∷ 56 ∷ 10 ∷ 52 ∷ 52 ∷ 55 ∷ 10 ∷ []

-- and what `walk` prints for it
pub output : List ℕ
output = 78 ∷ 32 ∷ 110 ∷ 117 ∷ 109 ∷ 98 ∷ 101 ∷ 114 ∷ 32 ∷ 97 ∷ 110 ∷ 115 ∷ 119 ∷ 101 ∷ 114 ∷ 32 ∷ 110 ∷ 101 ∷ 120 ∷ 116 ∷ 10 ∷ 48 ∷ 32 ∷ 48 ∷ 32 ∷ 111 ∷ 107 ∷ 32 ∷ 49 ∷ 10 ∷ 51 ∷ 32 ∷ 51 ∷ 32 ∷ 111 ∷ 107 ∷ 32 ∷ 52 ∷ 10 ∷ 49 ∷ 32 ∷ 49 ∷ 32 ∷ 111 ∷ 107 ∷ 32 ∷ 52 ∷ 10 ∷ 49 ∷ 32 ∷ 49 ∷ 32 ∷ 49 ∷ 49 ∷ 32 ∷ 52 ∷ 10 ∷ 53 ∷ 48 ∷ 48 ∷ 32 ∷ 45 ∷ 32 ∷ 57 ∷ 32 ∷ 52 ∷ 10 ∷ 52 ∷ 55 ∷ 57 ∷ 32 ∷ 52 ∷ 55 ∷ 57 ∷ 32 ∷ 111 ∷ 107 ∷ 32 ∷ 52 ∷ 56 ∷ 48 ∷ 10 ∷ 52 ∷ 52 ∷ 56 ∷ 32 ∷ 52 ∷ 52 ∷ 56 ∷ 32 ∷ 111 ∷ 107 ∷ 32 ∷ 52 ∷ 56 ∷ 48 ∷ 10 ∷ 52 ∷ 52 ∷ 55 ∷ 32 ∷ 57 ∷ 53 ∷ 57 ∷ 32 ∷ 111 ∷ 107 ∷ 32 ∷ 57 ∷ 54 ∷ 48 ∷ 10 ∷ []

pub document_example : walk_output input ≡ output
unfolding input output walk_output header lines_of lines_from answers answer after outcome_of sent_of is_sent is_number within all_digits value_of value_from digit_value outcome first number_order candidate_order can_arise is_accepted marks_of mark first_from candidate is_below0 is_past_end accepted end is_given row field sent_text number_text refusal_text decimal_text decimal_digits glyph_of
document_example = refl

-- the empty input has the header alone
pub empty_example : walk_output [] ≡ header
unfolding walk_output header lines_of lines_from answers
empty_example = refl

-- `512`, without a line end: `? - 2 0`
pub bad_example : walk_output (53 ∷ 49 ∷ 50 ∷ []) ≡ header ++ 63 ∷ 32 ∷ 45 ∷ 32 ∷ 50 ∷ 32 ∷ 48 ∷ 10 ∷ []
unfolding walk_output header lines_of lines_from answers answer after outcome_of sent_of is_sent is_number within all_digits value_of value_from digit_value is_given row field sent_text number_text refusal_text decimal_text decimal_digits glyph_of
bad_example = refl
