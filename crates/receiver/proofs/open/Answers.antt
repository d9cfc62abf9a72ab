-- `receiver::open` meets its contract: each refusal is given where its cause is the first that holds, and else the payload is deciphered.
-- Assumes nothing.
use Prim.Native.Nat.{ℕ, ◌≤◌}
use native.Mathlib.Omega.{arith}
use mathlib.Core.Path.{◌≡◌, refl, sym, ap, ap₂, ◌∙◌}
use mathlib.Core.Bool.{true}
use mathlib.Core.List.{List, [], ◌∷◌}
use borrow.Author.Tests.{eqb-false}
use lib.Dec.{eqb}
use lib.ListN.{length}
use Rattle.std.proofs.lemmas.Result.{err_from_is_err_and}
use Rattle.refusals.specs.Refusal.{first}
use Rattle.refusals.specs.Call.{front}
use Rattle.refusals.proofs.Calls.{refused}
use Rattle.refusals.proofs.Number.{number_some, is_ok}
use Rattle.frames.specs.Frame.{AreOctets, header_of, look_order}
use Rattle.frames.proofs.Tests.{looked_passed}
use Rattle.frames.proofs.ReadBack.{header_of_range, payload_some, payload_most}
use Rattle.numbering.specs.Numbering.{width}
use Rattle.link.specs.Link.{ciphered}
use Rattle.link.proofs.Links.{cipher_done}
use Rattle.receiver.specs.declared.Receiver.{Receiver}
use Rattle.receiver.specs.Receiver.{receiver_can_arise, is_of_link, after_accepting, open_call}
use Rattle.receiver.proofs.Opening.{gives_number, step_gives, look_gives_none, receiver_says, step_decides, step_refused, step_done, open_12, open_looked, open_8, open_candidate, open_4, open_0}
use Rattle.receiver.proofs.open.Goals.{After-header_of-header}
use Rattle.receiver.proofs.open.Goals as goal

-- what is known of a frame whose header is read
module _ (c : After-header_of-header) where
  abbrev receiver : Receiver
  receiver = c.args.receiver.now

  abbrev octets : List ℕ
  octets = c.args.frame.now

  each : AreOctets octets
  each i = omega (arith, c.type_inv.frame i)

  good : receiver_can_arise width receiver ≡ true
  good = sym c.can_arise.ensures ∙ c.if-not-can_arise.false

  nothing : first (look_order octets) ≡ 0
  nothing = sym c.in_ok-look_refusal.ensures.refusal_is

  ours : is_of_link receiver.link octets ≡ true
  ours = sym c.is_of_link.ensures ∙ c.if-not-is_of_link.false

  sent_most : (header_of octets).sent ≤ 511
  sent_most = (header_of_range octets each nothing).sent_most

pub returns-then-not-can_arise-clause-answer : goal.returns-then-not-can_arise-clause-answer
returns-then-not-can_arise-clause-answer c =
    let given = c.args in
    rw c.into.ensures
    (refused (open_call width given.receiver.now given.frame.now given.output.now) 12
    (open_12 width _ _ _ (sym c.can_arise.ensures ∙ c.if-not-can_arise.true))
    (eqb-false 12 0 refl))

pub returns-in_err-look_refusal-clause-answer : goal.returns-in_err-look_refusal-clause-answer
returns-in_err-look_refusal-clause-answer c =
    let given = c.args in
    let told = err_from_is_err_and c.from_residual.result c.from_residual.ensures.1 in
    let asked = c.in_err-look_refusal.ensures.refusal_is in
    let some : first (look_order given.frame.now) ≡ 0 → ⊥ = λ none. number_some c.in_err-look_refusal.field-0.0 (asked ∙ none) in
    rw (told.1, told.2, asked)
    (rw (look_gives_none given.frame.now) at
    (refused (open_call width given.receiver.now given.frame.now given.output.now) _
    (open_looked width _ _ _ (sym c.can_arise.ensures ∙ c.if-not-can_arise.false) some)
    some))

-- no refusal of the look gives a number
pub returns-in_err-look_refusal-clause-candidate : goal.returns-in_err-look_refusal-clause-candidate
returns-in_err-look_refusal-clause-candidate c =
    let told = err_from_is_err_and c.from_residual.result c.from_residual.ensures.1 in
    rw (told.1, told.2, c.in_err-look_refusal.ensures.refusal_is) (sym (look_gives_none c.args.frame.now))

pub returns-then-not-is_of_link-clause-answer : goal.returns-then-not-is_of_link-clause-answer
returns-then-not-is_of_link-clause-answer c =
    let given = c.args in
    rw c.into-then-not-is_of_link.ensures
    (refused (open_call width given.receiver.now given.frame.now given.output.now) 8
    (open_8 width _ _ _ (sym c.can_arise.ensures ∙ c.if-not-can_arise.false) (sym c.in_ok-look_refusal.ensures.refusal_is) (sym c.is_of_link.ensures ∙ c.if-not-is_of_link.true))
    (eqb-false 8 0 refl))

pub returns-in-Err-clause-answer : goal.returns-in-Err-clause-answer
returns-in-Err-clause-answer c =
    let given = c.args in
    let here = (goal.at.returns-in-Err-clause-answer c).After-header_of-header in
    let some = number_some c.in-Err.refused.refusal in
    let step = rw c.header_of-header.ensures at c.in-Err.ensures.answer in
    let decides = step_decides width _ _ (good here) (sent_most here) step in
    rw (step_refused width _ _ (good here) (sent_most here) step some)
    (refused (open_call width given.receiver.now given.frame.now given.output.now) _
    (open_candidate width _ _ _ (good here) (nothing here) (ours here) (λ none. some (decides ∙ none)) ∙ sym decides)
    some)

-- a step's refusals give the number as a frame's do
pub returns-in-Err-clause-candidate : goal.returns-in-Err-clause-candidate
returns-in-Err-clause-candidate c =
    let here = (goal.at.returns-in-Err-clause-candidate c).After-header_of-header in
    let step = rw c.header_of-header.ensures at c.in-Err.ensures.answer in
    let decides = step_decides width _ _ (good here) (sent_most here) step in
    c.in-Err.ensures.candidate
    ∙ ap (λ (r : ℕ). eqb r 11) decides
    ∙ step_gives width (receiver here).numbering (header_of (octets here)).sent
    ∙ sym (ap gives_number decides)

pub returns-then-output-size-clause-answer : goal.returns-then-output-size-clause-answer
returns-then-output-size-clause-answer c =
    let given = c.args in
    let here = (goal.at.returns-then-output-size-clause-answer c).After-header_of-header in
    let step = rw c.header_of-header.ensures at c.in-Ok.ensures.answer in
    let short = rw (c.look-payload.ensures ∙ looked_passed _ (nothing here)) at c.if-output-size.true in
    rw (step_done width _ _ (good here) (sent_most here) step refl).0
    (refused (open_call width given.receiver.now given.frame.now given.output.now) 4
    (open_4 width _ _ _ (good here) (nothing here) (ours here) (sym (step_decides width _ _ (good here) (sent_most here) step)) short)
    (eqb-false 4 0 refl))

pub unwrap-requires : goal.unwrap-requires
unwrap-requires c =
    let octets : List ℕ = c.args.frame.now in
    let here = (goal.at.unwrap-requires c).After-header_of-header in
    let size = ap length (c.look-payload.ensures ∙ looked_passed octets (nothing here)) in
    let some = payload_some octets (each here) (nothing here) in
    let most = payload_most octets (each here) (nothing here) in
    is_ok _
    (cipher_done _ _ _ _ c.cipher.ensures (receiver_says width _ (good here)).0 (omega (arith, size, some)) (omega (arith, size, most)) c.if-output-size.false).0

pub returns-clause-answer : goal.returns-clause-answer
unfolding after_accepting
returns-clause-answer c =
    let receiver : Receiver = c.args.receiver.now in
    let octets : List ℕ = c.args.frame.now in
    let before : List ℕ = c.args.output.now in
    let here = (goal.at.returns-clause-answer c).After-header_of-header in
    let step = rw c.header_of-header.ensures at c.in-Ok.ensures.answer in
    let numbered = step_decides width receiver octets (good here) (sent_most here) step in
    let done = step_done width receiver octets (good here) (sent_most here) step refl in
    let payload_is = c.look-payload.ensures ∙ looked_passed octets (nothing here) in
    let put =
    (rw c.unwrap.ensures at c.cipher.ensures).lent_is ∙ ap₂ (λ (n : ℕ) (l : List ℕ). front (ciphered receiver.link n l) before) done.0 payload_is in
    record {
      refusal_is = sym (open_0 width receiver octets before (good here) (nothing here) (ours here) (sym numbered) (rw payload_is at c.if-output-size.false));
      numbers_are = λ i. done.0 i ∷ length (payload_is i) ∷ [];
      lent_is = λ i. record { receiver = record { link = receiver.link; numbering = done.1 i }; output = put i };
    }
