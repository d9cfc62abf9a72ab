-- `demo::acts::lose` meets its contract: the last of the frames is sealed after the others.
-- Assumes nothing.
use Rattle.refusals.proofs.Calls.{is_outcome}
use Rattle.script.specs.Quoted.{quoted}
use Rattle.sender.specs.Sender.{seal_call}
use Rattle.demo.specs.Ends.{frame_room, sender_in, kept_ahead}
use Rattle.demo.proofs.Ends.{sealed_phone}
use Rattle.demo.proofs.Steps.{lost}
use Rattle.demo.proofs.acts.lose.Goals as goal

pub returns : goal.returns
unfolding frame_room
returns c =
    let earlier = c.lose_times.new.phone in
    let is = is_outcome (seal_call (sender_in (kept_ahead earlier)) (quoted "lost") frame_room) c.seal-sealed.ensures.answered in
    lost c.args.stage.now c.args.count c.lose_times.ensures is (sealed_phone earlier c.seal-sealed.ensures is) c.sealed.ensures c.counted.ensures c.show_silent.ensures
