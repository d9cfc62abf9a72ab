-- `challenge::answers::put_text` meets its contract: `?`, or the answer to what the line gives.
-- Assumes nothing.
use mathlib.Core.List.{[], ◌∷◌}
use mathlib.Core.Path.{◌≡◌, refl, sym, ◌∙◌}
use mathlib.Core.Bool.{true}
use native.Mathlib.Omega.{arith}
use Rattle.lines.proofs.Placed.{at_front_stored}
use Rattle.challenge.specs.Form.{is_challenge}
use Rattle.challenge.proofs.Laws.{answer_bad, answer_good, short_line}
use Rattle.challenge.proofs.answers.put_text.Goals.{Else-not-is_challenge}
use Rattle.challenge.proofs.answers.put_text.Goals as goal

-- past the test the line is of the form
good : (c : Else-not-is_challenge) → is_challenge c.args.line.now ≡ true
good c = sym c.is_challenge.ensures ∙ c.if-not-is_challenge.false

pub returns-then-not-is_challenge : goal.returns-then-not-is_challenge
returns-then-not-is_challenge c =
    rw (answer_bad _ (sym c.is_challenge.ensures ∙ c.if-not-is_challenge.true))
    (at_front_stored (63 ∷ []) _ 1 refl (omega arith))

pub put_read-requires : goal.put_read-requires
put_read-requires c =
    short_line c.args.line.now (good (goal.at.put_read-requires c).Else-not-is_challenge)

pub returns : goal.returns
returns c = rw (answer_good _ (good (goal.at.returns c).Else-not-is_challenge)) c.put_read.ensures
