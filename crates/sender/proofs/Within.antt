-- The frame that sealing hands out lies within the output that was lent: what a caller needs to take the front of its buffer.
-- Assumes nothing.
use Prim.Native.Nat.{ℕ, ◌≤◌}
use mathlib.Core.Path.{ap}
use mathlib.Core.List.{List, [], ◌∷◌}
use lib.Dec.{eqb}
use lib.ListN.{length}
use Rattle.std.specs.Prelude.{Result, Ok, Err, IfOk}
use Rattle.refusals.specs.declared.Refusal.{Refusal}
use Rattle.refusals.specs.Number.{refusal_of}
use Rattle.refusals.specs.Call.{Answered}
use Rattle.refusals.proofs.Tests.{by-test}
use Rattle.refusals.proofs.Within.{Within, front_within, none_within}
use Rattle.link.specs.Link.{frame_at}
use Rattle.link.proofs.Frames.{length-frame_at}
use Rattle.sender.specs.declared.Sender.{Sender}
use Rattle.sender.specs.declared.Sealed.{Sealed}
use Rattle.sender.specs.Sender.{Sealing, seal_call}
use Rattle.sender.specs.Sealed.{number_in, size_in}

pub sealed_within : (sender : Sender) (payload before : List ℕ) {refusal number size : ℕ} {later : Sender} {after : List ℕ}
    → Answered (seal_call sender payload before) refusal (number ∷ size ∷ []) (record { sender = later; output = after }) → Within size after
sealed_within sender payload before {refusal} {number} {size} {after = after} answered =
    by-test (eqb refusal 0) (Within size after)
    (λ zero.
    let numbers = rw zero at answered.numbers_are in
    let lent = rw zero at answered.lent_is in
    front_within (frame_at sender.link sender.next payload) before (cc (length-frame_at sender.link sender.next payload)) (ap (λ (l : Sealing). l.output) lent))
    (λ some.
    let numbers = rw some at answered.numbers_are in
    none_within after (cc))

-- in the form in which a caller hands a sealed frame on
pub sealed_fits : (sender : Sender) (payload before : List ℕ) (answer : Result Sealed Refusal) {later : Sender} {after : List ℕ}
    → Answered (seal_call sender payload before) (refusal_of answer) (number_in answer ∷ size_in answer ∷ []) (record { sender = later; output = after })
    → IfOk answer (λ sealed. sealed.size ≤ length after)
sealed_fits sender payload before (Ok sealed) answered = (sealed_within sender payload before answered).0
sealed_fits sender payload before (Err refusal) answered = tt
