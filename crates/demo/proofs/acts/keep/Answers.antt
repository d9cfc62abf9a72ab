-- `demo::acts::keep` meets its contract: the frame is put to its place of the shelf.
-- Assumes nothing.
use lib.ListN.{set}
use mathlib.Core.Path.{ap, ◌∙◌}
use Rattle.refusals.proofs.Calls.{is_outcome}
use Rattle.sender.specs.Sender.{seal_call}
use Rattle.demo.specs.Ends.{frame_room, sender_in, kept_ahead, shelved}
use Rattle.demo.proofs.Ends.{sealed_phone, kept_sealed}
use Rattle.demo.proofs.Steps.{kept_so}
use Rattle.demo.proofs.acts.keep.Goals as goal

pub returns : goal.returns
unfolding frame_room shelved
returns c =
    let given = c.args in
    let stage = given.stage.now in
    let phone = sender_in (kept_ahead stage.phone) in
    let is = is_outcome (seal_call phone given.text.now frame_room) c.seal-sealed.ensures.answered in
    kept_so stage given.k given.text.now is (sealed_phone stage.phone c.seal-sealed.ensures is)
    (ap (set stage.shelf given.k) (c.kept.ensures ∙ kept_sealed phone given.text.now c.seal-sealed.result c.seal-sealed.ensures.answered))
    c.sealed.ensures c.counted.ensures c.show_silent.ensures
