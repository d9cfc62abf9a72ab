-- Promise 1: every public call, with every input. Assumes nothing.
use Rattle.std.specs.Prelude.{ℕ, ◌≡◌, false, List}
use Rattle.refusals.specs.Call.{Answered, Answers, Always, All}
use Rattle.numbering.specs.Numbering.{width}
use Rattle.link.specs.declared.Link.{Link}
use Rattle.link.specs.Link.{link_can_arise, no_link, open_link_call}
use Rattle.sender.specs.declared.Sender.{Sender}
use Rattle.sender.specs.Sender.{new_sender, open_sender_call, sender_can_arise}
use Rattle.receiver.specs.declared.Receiver.{Receiver}
use Rattle.receiver.specs.Receiver.{new_receiver, open_receiver_call, receiver_can_arise}
use Rattle.stored.specs.Ends.{restore_sender_call, restore_receiver_call}
use Rattle.promises.specs.Calls.{public_calls}

-- promise 1: every public call, whatever it is given, answers; and what is handed back in place of a link or an end is none
pub record Promise1 : Type 0 where
  pub calls : All (Always (λ Lent call. Answers call)) public_calls
  -- a call that makes a link hands back, when refused, all zeros with direction 2, which is no link that ciphering takes: 12 refuses it
  pub no_link_lem : (key : List ℕ) (iov sapi direction : ℕ) {refusal : ℕ} {numbers : List ℕ} {link : Link} → Answered (open_link_call key iov sapi direction) refusal numbers link
      → (refusal ≡ 0 → ⊥) → (link ≡ no_link) × (link_can_arise link ≡ false)
  -- and so does a call that makes an end: a new one of no link, which sealing or opening refuses with 12
  pub no_sender : (key : List ℕ) (iov sapi direction : ℕ) {refusal : ℕ} {numbers : List ℕ} {sender : Sender} → Answered (open_sender_call key iov sapi direction) refusal numbers sender
      → (refusal ≡ 0 → ⊥) → (sender ≡ new_sender no_link) × (sender_can_arise sender ≡ false)
  pub no_receiver : (key : List ℕ) (iov sapi direction : ℕ) {refusal : ℕ} {numbers : List ℕ} {receiver : Receiver} → Answered (open_receiver_call key iov sapi direction) refusal numbers receiver
      → (refusal ≡ 0 → ⊥) → (receiver ≡ new_receiver no_link) × (receiver_can_arise width receiver ≡ false)
  -- and one that makes an end from a stored form
  pub no_restored_sender : (octets : List ℕ) {refusal : ℕ} {numbers : List ℕ} {sender : Sender} → Answered (restore_sender_call octets) refusal numbers sender
      → (refusal ≡ 0 → ⊥) → (sender ≡ new_sender no_link) × (sender_can_arise sender ≡ false)
  pub no_restored_receiver : (octets : List ℕ) {refusal : ℕ} {numbers : List ℕ} {receiver : Receiver} → Answered (restore_receiver_call width octets) refusal numbers receiver
      → (refusal ≡ 0 → ⊥) → (receiver ≡ new_receiver no_link) × (receiver_can_arise width receiver ≡ false)
