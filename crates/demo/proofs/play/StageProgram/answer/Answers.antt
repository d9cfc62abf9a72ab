-- `demo::play::StageProgram::answer` meets its contract: the line is obeyed, over the first octets of the output.
-- Assumes nothing.
use Prim.Native.Nat.{◌<◌}
use lib.ListN.{length}
use mathlib.Core.Path.{subst}
use Rattle.std.specs.Array.{IsFirstChunk}
use Rattle.std.specs.Option.{MatchOption}
use Rattle.demo.specs.Play.{answer, after}
use Rattle.demo.proofs.Texts.{front_of}
use Rattle.demo.proofs.play.StageProgram.answer.Goals as goal

pub returns : goal.returns
unfolding answer after
returns c =
    let output = c.args.output.now in
    let first = subst (λ r. MatchOption r (length output < 113) (λ y. IsFirstChunk output y.now 113)) c.unwrap.ensures c.first_chunk_mut.ensures.cases in
    record {
      state = c.obey.ensures.step.stage_is;
      answer = front_of 113 first.same first.enough c.obey.ensures.whole c.obey.ensures.step.said_is;
    }
