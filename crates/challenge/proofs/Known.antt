-- What is answered where OPc is known, by what the calls of `milenage` answered.
-- Assumes nothing.
use Prim.Native.Nat.{ℕ}
use mathlib.Core.Path.{◌≡◌, sym, ap, ap₂, ◌∙◌}
use mathlib.Core.Bool.{Bool, true, false}
use mathlib.Core.List.{List, [], ◌++◌}
use lib.Dec.{eqb}
use lib.ListN.{length, replicate}
use Rattle.refusals.specs.Refusal.{first}
use Rattle.refusals.specs.Call.{Answered}
use Rattle.lines.specs.Text.{decimal_text}
use Rattle.milenage.specs.Calls.{opc_call}
use Rattle.milenage.proofs.Sizes.{three_sizes}
use Rattle.challenge.specs.declared.texts.Results.{Results}
use Rattle.challenge.specs.declared.texts.Codes.{Codes}
use Rattle.challenge.specs.Form.{fields_of, field_of, is_op, octets_of, Given, given_by}
use Rattle.challenge.specs.Texts.{results_text, codes_text}
use Rattle.challenge.specs.Answer.{opc_for, given_order, all_results, all_codes, values_text, given_text}
use Rattle.challenge.specs.Calls.{results_refusal, results_of, codes_refusal, codes_of, known}
use Rattle.challenge.proofs.Laws.{length-all_results, text_refused, text_done, values_without, values_with}
use Rattle.challenge.proofs.Refused.{strings_right, first_results, first_none, first_codes, res_is, ck_is, ik_is, ak_is, network_is, phone_is, first_opc, opc_is, order_made}

-- a refusal that is the first of the order is the answer
refusal_told : (given : Given) {refusal : ℕ} → refusal ≡ first (given_order given) → (refusal ≡ 0 → ⊥) → decimal_text refusal ≡ given_text given
refusal_told given is refused = ap decimal_text is ∙ sym (text_refused given (λ none. refused (is ∙ none)))

module _ (numbered : Bool) (key opc rand sqn amf : List ℕ) where
  pub results_refused : {refusal : ℕ} → refusal ≡ results_refusal key opc rand → (refusal ≡ 0 → ⊥) → decimal_text refusal ≡ given_text (known numbered key opc rand sqn amf)
  results_refused is refused =
      refusal_told (known numbered key opc rand sqn amf) (is ∙ first_results key opc rand numbered sqn amf (λ none. refused (is ∙ none))) refused

  module _ {results : Results} (done : 0 ≡ results_refusal key opc rand) (is : results ≡ results_of key opc rand) where
    pub opc_size : length opc ≡ 16
    opc_size = (three_sizes key opc rand (strings_right key opc rand (sym done))).1.0

    results_are : results_text opc results.res results.ck results.ik results.ak ≡ all_results key opc rand
    unfolding all_results
    results_are =
        let strings = strings_right key opc rand (sym done) in
        ap (λ (r : Results). results_text opc r.res r.ck r.ik r.ak) is
        ∙ (λ i. results_text opc (res_is key opc rand strings i) (ck_is key opc rand strings i) (ik_is key opc rand strings i) (ak_is key opc rand strings i))

    -- they end at 145
    pub results_end : length (results_text opc results.res results.ck results.ik results.ak) ≡ 145
    results_end = ap length results_are ∙ length-all_results key opc rand opc_size

    pub known_without : numbered ≡ false → results_text opc results.res results.ck results.ik results.ak ≡ given_text (known numbered key opc rand sqn amf)
    unfolding opc_for
    known_without without =
        results_are
        ∙ sym (text_done (known numbered key opc rand sqn amf) (first_none key opc rand numbered sqn amf (strings_right key opc rand (sym done)) without)
        ∙ values_without (known numbered key opc rand sqn amf) without)

    module _ (with : numbered ≡ true) where
      code_first : {refusal : ℕ} → refusal ≡ codes_refusal key opc rand sqn amf → refusal ≡ first (given_order (known numbered key opc rand sqn amf))
      code_first is = is ∙ first_codes key opc rand numbered sqn amf (strings_right key opc rand (sym done)) with

      pub codes_refused : {refusal : ℕ} → refusal ≡ codes_refusal key opc rand sqn amf → (refusal ≡ 0 → ⊥) → decimal_text refusal ≡ given_text (known numbered key opc rand sqn amf)
      codes_refused is refused = refusal_told (known numbered key opc rand sqn amf) (code_first is) refused

      pub known_with : {codes : Codes} → 0 ≡ codes_refusal key opc rand sqn amf → codes ≡ codes_of key opc rand sqn amf
          → results_text opc results.res results.ck results.ik results.ak ++ codes_text codes.network codes.phone
          ≡ given_text (known numbered key opc rand sqn amf)
      unfolding opc_for all_codes
      known_with taken codes-are =
          let strings = strings_right key opc rand (sym done) in
          ap₂ (λ (a b : List ℕ). a ++ b) results_are
          (ap (λ (r : Codes). codes_text r.network r.phone) codes-are
          ∙ ap₂ codes_text (network_is key opc rand strings sqn amf (sym taken)) (phone_is key opc rand strings sqn amf (sym taken)))
          ∙ sym (text_done (known numbered key opc rand sqn amf) (sym (code_first taken)) ∙ values_with (known numbered key opc rand sqn amf) with)

-- where OP is given
module _ (numbered : Bool) (key operator rand sqn amf : List ℕ) {refusal : ℕ} {after : List ℕ}
    (answered : Answered (opc_call key operator (replicate 16 0)) refusal [] after) where
  abbrev making : Given
  making = record { made = true; numbered = numbered; key = key; operator = operator; rand = rand; sqn = sqn; amf = amf }

  pub opc_refused : (refusal ≡ 0 → ⊥) → decimal_text refusal ≡ given_text making
  opc_refused refused = refusal_told making (first_opc key operator answered numbered rand sqn amf refused) refused

  -- what is answered with the OPc that was made
  pub with_made : refusal ≡ 0 → given_text (known numbered key after rand sqn amf) ≡ given_text making
  unfolding given_text values_text opc_for
  with_made done =
      ap (λ (opc : List ℕ). given_text (known numbered key opc rand sqn amf)) (opc_is key operator answered done)
      ∙ rw (order_made key operator answered done numbered rand sqn amf)

-- what a line gives, by its values
pub given_by_lem : (line : List ℕ) {made : Bool} {count : ℕ} {key operator rand sqn amf : List ℕ} → made ≡ is_op (field_of 1 line) → count ≡ length (fields_of line)
    → key ≡ octets_of (field_of 0 line) → operator ≡ octets_of (field_of 2 line) → rand ≡ octets_of (field_of 3 line) → sqn ≡ octets_of (field_of 4 line) → amf ≡ octets_of (field_of 5 line)
    → record { made = made; numbered = eqb count 6; key = key; operator = operator; rand = rand; sqn = sqn; amf = amf } ≡ given_by line
unfolding given_by
given_by_lem line e-made e-count e-key e-operator e-rand e-sqn e-amf =
    λ i. record { made = e-made i; numbered = eqb (e-count i) 6; key = e-key i; operator = e-operator i; rand = e-rand i; sqn = e-sqn i; amf = e-amf i }
