-- `demo::plugs::store_phone` meets its contract: what the phone answers is shown, and with which count it was stored.
-- Assumes nothing.
use Prim.Native.Nat.{ℕ, ◌+◌, min}
use mathlib.Core.Path.{◌≡◌, ap, ◌∙◌}
use Rattle.demo.specs.declared.hosts.Phone.{Phone}
use Rattle.demo.specs.Columns.{column, phone_columns, answer_text}
use Rattle.demo.specs.Ends.{store_answer, stored_phone}
use Rattle.demo.specs.Plugs.{with_phone, phone_shown, by_hand, reservation, storing_phone}
use Rattle.demo.proofs.Steps.{silent}
use Rattle.demo.proofs.plugs.store_phone.Goals as goal

pub returns : goal.returns
unfolding storing_phone phone_shown phone_columns
returns c =
    let stage = c.args.stage.now in
    let phone = stage.phone in
    let reserved_is : c.saturating_add-reserved.result ≡ reservation phone c.args.count =
    c.saturating_add-reserved.ensures ∙ ap (λ (n : ℕ). min (n + c.args.count) 4294967295) c.next.ensures in
    silent (ap (λ (p : Phone). with_phone stage (by_hand p)) (c.store-answer.ensures.phone ∙ ap (stored_phone phone) reserved_is))
    (c.answered.ensures ∙ ap (λ (n : ℕ). column (answer_text n)) (c.store-answer.ensures.answered ∙ ap (λ (n : ℕ). (store_answer phone n).refusal) reserved_is))
    c.counted.ensures c.show_silent.ensures
