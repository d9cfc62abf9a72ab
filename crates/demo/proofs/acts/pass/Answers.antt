-- `demo::acts::pass` meets its contract: the frame sealed is the one handed.
-- Assumes nothing.
use Prim.Native.Nat.{ℕ, ◌≤◌}
use lib.ListN.{length, take}
use lib.Seq.{length-take-le}
use mathlib.Core.Path.{ap, sym}
use native.Mathlib.Omega.{arith}
use Rattle.refusals.proofs.Calls.{is_outcome}
use Rattle.sender.specs.Sender.{seal_call}
use Rattle.demo.specs.Ends.{frame_room, sender_in, kept_ahead}
use Rattle.demo.proofs.Ends.{sealed_fits, sealed_phone}
use Rattle.demo.proofs.Steps.{passed}
use Rattle.demo.proofs.acts.pass.Goals.{After-size_in-size}
use Rattle.demo.proofs.acts.pass.Goals as goal

-- the frame is within the room that was lent
within : (c : After-size_in-size) → c.size_in-size.result ≤ length c.seal-sealed.new.frame
unfolding frame_room
within c = omega (arith, sealed_fits (sender_in (kept_ahead c.args.stage.now.phone)) c.args.text.now c.seal-sealed.ensures.answered, c.size_in-size.ensures, c.seal-sealed.auto.frame)

pub slice_bounds-frame-end : goal.slice_bounds-frame-end
slice_bounds-frame-end c = within (goal.at.slice_bounds-frame-end c).After-size_in-size

pub slice_bounds-hand-end : goal.slice_bounds-hand-end
slice_bounds-hand-end c = sym (length-take-le _ _ (within (goal.at.slice_bounds-hand-end c).After-size_in-size))

pub returns : goal.returns
unfolding frame_room
returns c =
    let given = c.args in
    let stage = given.stage.now in
    let is = is_outcome (seal_call (sender_in (kept_ahead stage.phone)) given.text.now frame_room) c.seal-sealed.ensures.answered in
    passed stage given.text.now is (sealed_phone stage.phone c.seal-sealed.ensures is) c.sealed.ensures c.column.ensures
    (ap (λ (n : ℕ). take n c.seal-sealed.new.frame) c.size_in-size.ensures) c.hand.ensures.stage_is c.hand.ensures.said_is
