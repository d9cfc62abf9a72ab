-- `sender::seal` meets its contract: where nothing is refused, the frame of the next number is written.
-- Assumes nothing.
use mathlib.Core.Path.{◌≡◌, refl, sym, ◌∙◌}
use mathlib.Core.Bool.{true}
use borrow.Author.Tests.{eqb-false}
use Rattle.numbering.specs.Numbering.{end}
use Rattle.sender.specs.Sender.{sender_can_arise, after_frame}
use Rattle.sender.proofs.Sealing.{sender_says, seal_0}
use Rattle.sender.proofs.seal.Goals as goal

pub write_frame-requires-clause-link_value : goal.write_frame-requires-clause-link_value
write_frame-requires-clause-link_value c = (sender_says c.args.sender.now (sym c.can_arise.ensures ∙ c.if-not-can_arise.false)).link_can

pub returns : goal.returns
unfolding end after_frame
returns c =
    let given = c.args in
    let good : sender_can_arise given.sender.now ≡ true = sym c.can_arise.ensures ∙ c.if-not-can_arise.false in
    record {
      refusal_is = sym (seal_0 given.sender.now given.payload.now given.output.now good (eqb-false _ _ (sym c.if-is_empty.ensures)) c.if-payload-gt-MOST_PAYLOAD.false c.if-number-eq-END.false c.if-sender-number.false c.if-output-size.false);
      numbers_are = refl;
      lent_is = λ i. record { sender = after_frame given.sender.now; output = c.write_frame.ensures i };
    }
