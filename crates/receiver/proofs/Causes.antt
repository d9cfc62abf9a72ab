-- Refusal 12 of a receiver, cause by cause.
-- Assumes nothing.
use Prim.Native.Nat.{ℕ}
use mathlib.Core.Path.{◌≡◌}
use mathlib.Core.Logic.{◌↔◌, inl, inr, ⊎_elim}
use mathlib.Core.Bool.{false, and-false}
use Rattle.refusals.proofs.Tests.{by-test}
use Rattle.numbering.proofs.Arising.{cannot_arise_iff}
use Rattle.link.specs.Link.{link_can_arise}
use Rattle.link.proofs.Links.{link_says_not, says_no_link}
use Rattle.receiver.specs.declared.Receiver.{Receiver}
use Rattle.receiver.specs.Receiver.{receiver_can_arise, ReceiverCannotArise, no_service, no_direction, no_numbering}

pub receiver_cannot_arise_iff : (w : ℕ) (receiver : Receiver) → (receiver_can_arise w receiver ≡ false) ↔ ReceiverCannotArise w receiver
unfolding receiver_can_arise
receiver_cannot_arise_iff w receiver = (
  (λ bad.
      by-test (link_can_arise receiver.link) (ReceiverCannotArise w receiver)
      (λ good. no_numbering ((cannot_arise_iff w receiver.numbering).0 (rw good at bad)))
      (λ none. ⊎_elim (λ service. no_service service) (λ direction. no_direction direction) (link_says_not receiver.link none))),
  causes,
)
  where
    causes : ReceiverCannotArise w receiver → receiver_can_arise w receiver ≡ false
    causes (no_service service) = rw (says_no_link receiver.link (inl service))
    causes (no_direction direction) = rw (says_no_link receiver.link (inr direction))
    causes (no_numbering numbering) = rw ((cannot_arise_iff w receiver.numbering).1 numbering, and-false)
