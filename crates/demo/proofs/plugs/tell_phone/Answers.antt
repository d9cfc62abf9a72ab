-- `demo::plugs::tell_phone` meets its contract: what the phone answers is shown.
-- Assumes nothing.
use Prim.Native.Nat.{ℕ}
use mathlib.Core.Path.{ap, ◌∙◌}
use Rattle.demo.specs.declared.hosts.Phone.{Phone}
use Rattle.demo.specs.Columns.{column, phone_columns, answer_text}
use Rattle.demo.specs.Plugs.{with_phone, phone_shown, by_hand, telling_phone}
use Rattle.demo.proofs.Steps.{silent}
use Rattle.demo.proofs.plugs.tell_phone.Goals as goal

pub returns : goal.returns
unfolding telling_phone phone_shown phone_columns
returns c =
    let stage = c.args.stage.now in
    silent (ap (λ (p : Phone). with_phone stage (by_hand p)) c.tell-answer.ensures.phone) (c.answered.ensures ∙ ap (λ (n : ℕ). column (answer_text n)) c.tell-answer.ensures.answered) c.column.ensures c.show_silent.ensures
