-- Refusal 12 of a sender, cause by cause.
-- Assumes nothing.
use Prim.Native.Nat.{◌+◌}
use native.Mathlib.Omega.{arith}
use mathlib.Core.Path.{◌≡◌, sym, ◌∙◌}
use mathlib.Core.Logic.{◌↔◌, inl, inr, ⊎_elim}
use mathlib.Core.Bool.{false, true≢false}
use borrow.Author.Tests.{leb-true, leb-false}
use lib.Dec.{leb}
use Rattle.refusals.proofs.Tests.{by-test}
use Rattle.numbering.specs.Numbering.{end}
use Rattle.link.specs.Link.{link_can_arise}
use Rattle.link.proofs.Links.{link_says_not, says_no_link}
use Rattle.sender.specs.declared.Sender.{Sender}
use Rattle.sender.specs.Sender.{ahead, sender_can_arise, SenderCannotArise, next_past_end, reserved_past_end, next_past_reserved, reserved_too_far, no_service, no_direction}
use Rattle.sender.proofs.Sealing.{SenderSays, sender_says, says_sender}

-- a sender that says otherwise cannot arise
says_not : (sender : Sender) → (SenderSays sender → ⊥) → sender_can_arise sender ≡ false
says_not sender never = by-test (sender_can_arise sender) (sender_can_arise sender ≡ false) (λ good. absurd (never (sender_says sender good))) (λ bad. bad)

pub sender_cannot_arise_iff : (sender : Sender) → (sender_can_arise sender ≡ false) ↔ SenderCannotArise sender
sender_cannot_arise_iff sender = (
  (λ bad.
      by-test (link_can_arise sender.link) (SenderCannotArise sender)
      (λ good.
      by-test (leb sender.reserved end) (SenderCannotArise sender)
      (λ low.
      by-test (leb sender.next sender.reserved) (SenderCannotArise sender)
      (λ within.
      by-test (leb sender.reserved (sender.next + ahead)) (SenderCannotArise sender)
      (λ near.
      let says : SenderSays sender = record { link_can = good; before_end = leb-true _ _ low; within = leb-true _ _ within; near = leb-true _ _ near } in
      absurd (true≢false (sym (says_sender sender says) ∙ bad)))
      (λ far. reserved_too_far (leb-false _ _ far)))
      (λ above. next_past_reserved (leb-false _ _ above)))
      (λ past. reserved_past_end (leb-false _ _ past)))
      (λ none. ⊎_elim (λ service. no_service service) (λ direction. no_direction direction) (link_says_not sender.link none))),
  causes,
)
  where
    causes : SenderCannotArise sender → sender_can_arise sender ≡ false
    causes (next_past_end past) = says_not sender (λ says. omega (arith, past, says.within, says.before_end))
    causes (reserved_past_end past) = says_not sender (λ says. omega (arith, past, says.before_end))
    causes (next_past_reserved past) = says_not sender (λ says. omega (arith, past, says.within))
    causes (reserved_too_far far) = says_not sender (λ says. omega (arith, far, says.near))
    causes (no_service service) = says_not sender (λ says. true≢false (sym says.link_can ∙ says_no_link sender.link (inl service)))
    causes (no_direction direction) = says_not sender (λ says. true≢false (sym says.link_can ∙ says_no_link sender.link (inr direction)))
