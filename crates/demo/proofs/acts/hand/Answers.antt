-- `demo::acts::hand` meets its contract: what the cell answers is shown.
-- Assumes nothing.
use Prim.Native.Nat.{◌≤◌}
use lib.ListN.{length}
use lib.Seq.{length-take-le}
use mathlib.Core.Path.{refl, sym}
use native.Mathlib.Omega.{arith}
use Rattle.refusals.proofs.Calls.{is_outcome}
use Rattle.numbering.specs.Numbering.{width}
use Rattle.receiver.specs.Receiver.{open_call}
use Rattle.demo.specs.Columns.{number_text}
use Rattle.demo.specs.Ends.{frame_room, receiver_in}
use Rattle.demo.proofs.Ends.{opened_fits}
use Rattle.demo.proofs.Steps.{handed}
use Rattle.demo.proofs.acts.hand.Goals.{In-Ok}
use Rattle.demo.proofs.acts.hand.Goals as goal

-- the text is within the room that was lent
within : (c : In-Ok) → c.in-Ok.opened.size ≤ length c.open.new.text
unfolding frame_room
within c = omega (arith, opened_fits (receiver_in c.args.stage.now.cell) c.args.octets.now c.in-Ok.ensures.answered, c.open.auto.text)

pub slice_bounds-text-end : goal.slice_bounds-text-end
slice_bounds-text-end c = within (goal.at.slice_bounds-text-end c).In-Ok

pub slice_bounds-show-end : goal.slice_bounds-show-end
slice_bounds-show-end c = sym (length-take-le _ _ (within (goal.at.slice_bounds-show-end c).In-Ok))

pub returns-in-Ok : goal.returns-in-Ok
unfolding frame_room number_text
returns-in-Ok c =
    let stage = c.args.stage.now in
    let octets = c.args.octets.now in
    handed stage c.args.phone c.args.done octets (is_outcome (open_call width (receiver_in stage.cell) octets frame_room) c.in-Ok.ensures.answered) c.in-Ok.ensures.cell_is
    c.numbered.ensures c.answered.ensures refl c.show.ensures

pub returns-in-Err : goal.returns-in-Err
unfolding frame_room
returns-in-Err c =
    let stage = c.args.stage.now in
    let octets = c.args.octets.now in
    handed stage c.args.phone c.args.done octets (is_outcome (open_call width (receiver_in stage.cell) octets frame_room) c.in-Err.ensures.answered) c.in-Err.ensures.cell_is
    c.given.ensures c.answered-in-Err.ensures refl c.show-in-Err.ensures
