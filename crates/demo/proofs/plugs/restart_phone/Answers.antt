-- `demo::plugs::restart_phone` meets its contract: what the phone answers is shown.
-- Assumes nothing.
use Prim.Native.Nat.{ℕ}
use mathlib.Core.Path.{ap, ◌∙◌}
use Rattle.demo.specs.Columns.{column, phone_columns, answer_text}
use Rattle.demo.specs.Plugs.{with_phone, phone_shown, restarting_phone}
use Rattle.demo.proofs.Steps.{silent}
use Rattle.demo.proofs.plugs.restart_phone.Goals as goal

pub returns : goal.returns
unfolding restarting_phone phone_shown phone_columns
returns c =
    let stage = c.args.stage.now in
    silent (ap (with_phone stage) c.restart-answer.ensures.phone) (c.answered.ensures ∙ ap (λ (n : ℕ). column (answer_text n)) c.restart-answer.ensures.answered) c.column.ensures c.show_silent.ensures
