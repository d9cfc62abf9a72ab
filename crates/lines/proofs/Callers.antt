-- What a caller learns from an answer of this crate.
-- Assumes nothing.
use Prim.Native.Nat.{ℕ, ◌≤◌}
use native.Mathlib.Omega.{arith}
use mathlib.Core.Path.{◌≡◌, sym, subst, ◌∙◌}
use mathlib.Core.Bool.{true, false}
use mathlib.Core.List.{List, [], ◌∷◌}
use borrow.Author.Tests.{eqb-true, eqb-false}
use lib.Dec.{eqb}
use lib.ListN.{length}
use Rattle.std.specs.Prelude.{Result, Ok, IsOk}
use Rattle.std.specs.Result.{result_unwrap_or}
use Rattle.refusals.specs.declared.Refusal.{Refusal}
use Rattle.refusals.specs.Refusal.{Row, first}
use Rattle.refusals.specs.Call.{Call, Answered}
use Rattle.refusals.specs.Number.{refusal_of}
use Rattle.refusals.proofs.Calls.{answered_done, refused_zeros, head_is}
use Rattle.refusals.proofs.Number.{is_ok}
use Rattle.refusals.proofs.Tests.{by-test}
use Rattle.refusals.proofs.Within.{front_within, none_within}
use Rattle.lines.specs.Digits.{is_number, value_of, digits_order, digits_call}
use Rattle.lines.specs.Text.{room_order, puts_text, AtFront, is_hex, hex_octets, octets_of_hex_call}
use Rattle.lines.proofs.Text.{room_enough, hex_bad, hex_good}

two_not_zero : ◌≡◌ {A = ℕ} 2 0 → ⊥
two_not_zero e = omega arith

-- an answer that is unwrapped is one without a refusal
pub unwrapped : {Lent : Type 0} {call : Call Lent} {answer : Result ℕ Refusal} {number : ℕ} {lent : Lent}
    → Answered call (refusal_of answer) (result_unwrap_or answer 0 ∷ []) lent → answer ≡ Ok number → Answered call 0 (number ∷ []) lent
unwrapped {call = call} {lent = lent} answered is = subst (λ (r : Result ℕ Refusal). Answered call (refusal_of r) (result_unwrap_or r 0 ∷ []) lent) is answered

-- ---- reading a number: `decimal` and `hexadecimal`

module _ (base most : ℕ) (text : List ℕ) {refusal value : ℕ} (answered : Answered (digits_call base most text) refusal (value ∷ []) tt) where
  -- a text that is a number is read, and no other
  pub number_taken : is_number base most text ≡ true → refusal ≡ 0
  unfolding first digits_order
  number_taken number = answered.refusal_is ∙ rw number

  number_withheld : is_number base most text ≡ false → refusal ≡ 2
  unfolding first digits_order
  number_withheld none = answered.refusal_is ∙ rw none

  pub number_none : (refusal ≡ 0 → ⊥) → is_number base most text ≡ false
  number_none refused = by-test (is_number base most text) _ (λ number. absurd (refused (number_taken number))) (λ none. none)

  pub number_read : refusal ≡ 0 → (is_number base most text ≡ true) × (value ≡ value_of base text)
  number_read done = (
    by-test (is_number base most text) _ (λ number. number) (λ none. absurd (two_not_zero (sym (number_withheld none) ∙ done))),
    head_is (answered_done (digits_call base most text) answered (sym answered.refusal_is ∙ done)).1,
  )

-- ---- putting a text: `octets_of_hex`, `hex_of_octets`, `decimal_of_number`, `put_text`

module _ (order : List Row) (text before : List ℕ) {refusal count : ℕ} {after : List ℕ} (answered : Answered (puts_text order text before) refusal (count ∷ []) after) where
  -- what is put stands at the front
  pub put_done : refusal ≡ 0 → AtFront text before count after
  put_done done =
      let same = answered_done (puts_text order text before) answered (sym answered.refusal_is ∙ done) in
      record { written_is = head_is same.1; output_is = same.2 }

  pub put_refused : (refusal ≡ 0 → ⊥) → count ≡ 0
  put_refused refused = head_is (refused_zeros (puts_text order text before) answered refused)

  -- and lies within the output
  pub put_within : count ≤ length after
  put_within =
      by-test (eqb refusal 0) (count ≤ length after)
      (λ done.
      let at_front = put_done (eqb-true refusal 0 done) in
      (front_within text before at_front.written_is at_front.output_is).0)
      (λ refused. (none_within after (put_refused (eqb-false refusal 0 refused))).0)

-- where there is the room that is asked, the text is put
pub room_done : (room : ℕ) (text before : List ℕ) {refusal count : ℕ} {after : List ℕ} → Answered (puts_text (room_order room before) text before) refusal (count ∷ []) after
    → room ≤ length before → (refusal ≡ 0) × AtFront text before count after
room_done room text before answered enough =
    let done = answered.refusal_is ∙ room_enough room before enough in
    (done, put_done (room_order room before) text before answered done)

-- so the answer is there to be unwrapped
pub room_ok : (room : ℕ) (text before : List ℕ) (answer : Result ℕ Refusal) {after : List ℕ}
    → Answered (puts_text (room_order room before) text before) (refusal_of answer) (result_unwrap_or answer 0 ∷ []) after → room ≤ length before → IsOk answer
room_ok room text before answer answered enough = is_ok answer (room_done room text before answered enough).0

-- pairs of hex digits are taken where there is room for their octets, and nothing else is
module _ (text before : List ℕ) {refusal count : ℕ} {after : List ℕ} (answered : Answered (octets_of_hex_call text before) refusal (count ∷ []) after) where
  pub hex_fits : is_hex text ≡ true → length (hex_octets text) ≤ length before → refusal ≡ 0
  hex_fits good room = answered.refusal_is ∙ hex_good text before good ∙ room_enough (length (hex_octets text)) before room

  pub hex_read : refusal ≡ 0 → is_hex text ≡ true
  hex_read done =
      by-test (is_hex text) _ (λ good. good)
      (λ bad. absurd (two_not_zero (sym (answered.refusal_is ∙ hex_bad text before bad) ∙ done)))
