-- The payload that opening hands out lies within the output that was lent: what a caller needs to take the front of its buffer.
-- Assumes nothing.
use Prim.Native.Nat.{ℕ, ◌≤◌}
use mathlib.Core.Path.{ap}
use mathlib.Core.List.{List, [], ◌∷◌}
use lib.Dec.{eqb}
use lib.ListN.{length}
use Rattle.std.specs.Prelude.{Result, Ok, Err, IfOk}
use Rattle.refusals.specs.declared.Refused.{Refused}
use Rattle.refusals.specs.Number.{refused_of}
use Rattle.refusals.specs.Call.{Answered}
use Rattle.refusals.proofs.Tests.{by-test}
use Rattle.refusals.proofs.Within.{Within, front_within, none_within}
use Rattle.frames.specs.Frame.{payload_of}
use Rattle.link.specs.Link.{ciphered}
use Rattle.link.proofs.Frames.{length-ciphered}
use Rattle.receiver.specs.declared.Receiver.{Receiver}
use Rattle.receiver.specs.declared.Opened.{Opened}
use Rattle.receiver.specs.Receiver.{Opening, candidate_of, open_call}
use Rattle.receiver.specs.Opened.{number_in, size_in}

pub opened_within : (w : ℕ) (receiver : Receiver) (octets before : List ℕ) {refusal number size : ℕ} {later : Receiver} {after : List ℕ}
    → Answered (open_call w receiver octets before) refusal (number ∷ size ∷ []) (record { receiver = later; output = after }) → Within size after
opened_within w receiver octets before {refusal} {number} {size} {after = after} answered =
    by-test (eqb refusal 0) (Within size after)
    (λ zero.
    let numbers = rw zero at answered.numbers_are in
    let lent = rw zero at answered.lent_is in
    front_within (ciphered receiver.link (candidate_of w receiver octets) (payload_of octets)) before (cc (length-ciphered receiver.link (candidate_of w receiver octets) (payload_of octets))) (ap (λ (l : Opening). l.output) lent))
    (λ some.
    let numbers = rw some at answered.numbers_are in
    none_within after (cc))

-- in the form in which a caller hands an opened payload on
pub opened_fits : (w : ℕ) (receiver : Receiver) (octets before : List ℕ) (answer : Result Opened Refused) {later : Receiver} {after : List ℕ}
    → Answered (open_call w receiver octets before) (refused_of answer) (number_in answer ∷ size_in answer ∷ []) (record { receiver = later; output = after })
    → IfOk answer (λ opened. opened.size ≤ length after)
opened_fits w receiver octets before (Ok opened) answered = (opened_within w receiver octets before answered).0
opened_fits w receiver octets before (Err refused) answered = tt
