-- `demo::acts::lose_times` meets its contract. The loop's invariant: the phone is the phone after as many frames as were lost.
-- Assumes nothing.
use Prim.Native.Nat.{ℕ}
use native.Mathlib.Omega.{arith}
use mathlib.Core.Path.{ap, ◌∙◌}
use Rattle.refusals.proofs.Calls.{is_outcome}
use Rattle.script.specs.Quoted.{quoted}
use Rattle.sender.specs.Sender.{seal_call}
use Rattle.demo.specs.declared.hosts.Phone.{Phone}
use Rattle.demo.specs.Ends.{frame_room, sender_in, kept_ahead, phone_answer, after_sealing, phone_after}
use Rattle.demo.proofs.Ends.{sealed_phone, phone_next, phone_none}
use Rattle.demo.proofs.acts.lose_times.Goals as goal

pub loop-init : goal.loop-init
loop-init c = phone_none c.args.phone.now

pub loop-preserved : goal.loop-preserved
unfolding frame_room
loop-preserved c =
    let phone = c.loop.phone in
    sealed_phone phone c.seal.ensures (is_outcome (seal_call (sender_in (kept_ahead phone)) (quoted "lost") frame_room) c.seal.ensures.answered)
    ∙ ap (λ (p : Phone). after_sealing p (phone_answer p (quoted "lost"))) c.loop.invariant
    ∙ phone_next c.loop.counter c.args.phone.now

pub returns : goal.returns
returns c = c.loop.invariant ∙ ap (λ (n : ℕ). phone_after n c.args.phone.now) (omega arith)
