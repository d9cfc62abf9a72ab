-- `walk::walks::shown_candidate` meets its contract: `-` where it is not given.
-- Assumes nothing.
use mathlib.Core.Path.{refl, ap}
use Rattle.refusals.specs.Number.{number_of, candidate_of}
use Rattle.refusals.proofs.Number.{number_some}
use Rattle.walk.specs.Answer.{text_of}
use Rattle.walk.proofs.Answers.{number_given, given_ok, given_repeat, number_withheld, other_number}
use Rattle.walk.proofs.walks.shown_candidate.Goals as goal

pub returns-in-Ok : goal.returns-in-Ok
unfolding text_of
returns-in-Ok c = rw (c.in-Ok.is, number_given 0 c.in-Ok.number (given_ok 0 c.in-Ok.number refl))

pub returns-in-Repeat : goal.returns-in-Repeat
unfolding text_of
returns-in-Repeat c =
    let refused = c.in-Err.refused in
    rw (
      c.in-Err.is,
      number_given (number_of refused.refusal) (candidate_of refused)
          (given_repeat (number_of refused.refusal) (candidate_of refused) (number_some refused.refusal) (ap number_of c.in-Repeat.is)),
      c.unwrap_or.ensures,
    )

pub returns-in_default : goal.returns-in_default
unfolding text_of
returns-in_default c =
    let refused = c.in-Err.refused in
    rw (c.in-Err.is, number_withheld (number_of refused.refusal) (candidate_of refused) (number_some refused.refusal) (other_number refused.refusal c.in_default.not-Repeat))
