-- What the calls of `milenage` answer together: their refusals are those of the order, and where there is none each output is its value.
-- Assumes nothing.
use Prim.Native.Nat.{ℕ}
use native.Mathlib.Omega.{arith}
use mathlib.Core.Path.{◌≡◌, ◌∙◌}
use mathlib.Core.Bool.{Bool, true, false, ◌&&◌}
use mathlib.Core.List.{List, []}
use lib.ListN.{length, replicate}
use Rattle.refusals.specs.Refusal.{first}
use Rattle.refusals.specs.Call.{Answered, outcome}
use Rattle.refusals.proofs.Tests.{by-test}
use Rattle.refusals.proofs.Within.{front_whole}
use Rattle.milenage.specs.Milenage.{opc_of, f1_output, f1_star_output, f2_output, f3_output, f4_output, f5_output}
use Rattle.milenage.specs.Calls.{is_string, are_numbers, opc_order, code_order, result_order, opc_call}
use Rattle.milenage.proofs.Laws.{opc_done, length_opc, length_f1, length_f1_star, length_f2, length_f3, length_f4, length_f5}
use Rattle.milenage.proofs.Sizes.{two_sizes, is_string_lem}
use Rattle.challenge.specs.Answer.{given_order}
use Rattle.challenge.specs.Calls.{results_refusal, results_of, codes_refusal, codes_of, known}

-- ---- the refusals

module _ (key opc rand : List ℕ) where
  results_wrong : (is_string key && is_string opc && is_string rand) ≡ false → results_refusal key opc rand ≡ 1
  unfolding results_refusal outcome first result_order
  results_wrong wrong = rw wrong

  results_taken : (is_string key && is_string opc && is_string rand) ≡ true → results_refusal key opc rand ≡ 0
  unfolding results_refusal outcome first result_order
  results_taken right = rw right

  pub strings_right : results_refusal key opc rand ≡ 0 → (is_string key && is_string opc && is_string rand) ≡ true
  strings_right done = by-test (is_string key && is_string opc && is_string rand) _ (λ right. right) (λ wrong. absurd (omega (arith, results_wrong wrong)))

  module _ (numbered : Bool) (sqn amf : List ℕ) where
    -- a refusal of the results is the first of the order
    pub first_results : (results_refusal key opc rand ≡ 0 → ⊥) → results_refusal key opc rand ≡ first (given_order (known numbered key opc rand sqn amf))
    unfolding first given_order
    first_results refused =
        by-test (is_string key && is_string opc && is_string rand) _
        (λ right. absurd (refused (results_taken right)))
        (λ wrong. results_wrong wrong ∙ rw wrong)

    -- past it the order has none where SQN and AMF are not given, and else the refusal of the codes
    pub first_none : (is_string key && is_string opc && is_string rand) ≡ true → numbered ≡ false → first (given_order (known numbered key opc rand sqn amf)) ≡ 0
    unfolding first given_order
    first_none right without = rw (right, without)

    pub first_codes : (is_string key && is_string opc && is_string rand) ≡ true → numbered ≡ true
        → codes_refusal key opc rand sqn amf ≡ first (given_order (known numbered key opc rand sqn amf))
    unfolding codes_refusal outcome first code_order given_order
    first_codes right with = by-test (are_numbers sqn amf) _ (λ numbers. rw (right, with, numbers)) (λ other. rw (right, with, other))

-- ---- the outputs

module _ (key opc rand : List ℕ) (right : (is_string key && is_string opc && is_string rand) ≡ true) where
  pub res_is : (results_of key opc rand).res ≡ f2_output key opc rand
  unfolding results_of outcome first result_order
  res_is = rw right (front_whole (f2_output key opc rand) (replicate 8 0) (length_f2 key opc rand))

  pub ck_is : (results_of key opc rand).ck ≡ f3_output key opc rand
  unfolding results_of outcome first result_order
  ck_is = rw right (front_whole (f3_output key opc rand) (replicate 16 0) (length_f3 key opc rand))

  pub ik_is : (results_of key opc rand).ik ≡ f4_output key opc rand
  unfolding results_of outcome first result_order
  ik_is = rw right (front_whole (f4_output key opc rand) (replicate 16 0) (length_f4 key opc rand))

  pub ak_is : (results_of key opc rand).ak ≡ f5_output key opc rand
  unfolding results_of outcome first result_order
  ak_is = rw right (front_whole (f5_output key opc rand) (replicate 6 0) (length_f5 key opc rand))

  module _ (sqn amf : List ℕ) where
    codes_wrong : are_numbers sqn amf ≡ false → codes_refusal key opc rand sqn amf ≡ 5
    unfolding codes_refusal outcome first code_order
    codes_wrong other = rw (right, other)

    numbers_right : codes_refusal key opc rand sqn amf ≡ 0 → are_numbers sqn amf ≡ true
    numbers_right done = by-test (are_numbers sqn amf) _ (λ numbers. numbers) (λ other. absurd (omega (arith, codes_wrong other)))

    pub network_is : codes_refusal key opc rand sqn amf ≡ 0 → (codes_of key opc rand sqn amf).network ≡ f1_output key opc rand sqn amf
    unfolding codes_of outcome first code_order
    network_is done = rw (right, numbers_right done) (front_whole (f1_output key opc rand sqn amf) (replicate 8 0) (length_f1 key opc rand sqn amf))

    pub phone_is : codes_refusal key opc rand sqn amf ≡ 0 → (codes_of key opc rand sqn amf).phone ≡ f1_star_output key opc rand sqn amf
    unfolding codes_of outcome first code_order
    phone_is done = rw (right, numbers_right done) (front_whole (f1_star_output key opc rand sqn amf) (replicate 8 0) (length_f1_star key opc rand sqn amf))

-- ---- OPc made from OP

module _ (key operator : List ℕ) {refusal : ℕ} {after : List ℕ} (answered : Answered (opc_call key operator (replicate 16 0)) refusal [] after) where
  opc_refused : (is_string key && is_string operator) ≡ false → refusal ≡ 1
  unfolding first opc_order
  opc_refused wrong = answered.refusal_is ∙ rw wrong

  opc_taken : (is_string key && is_string operator) ≡ true → refusal ≡ 0
  unfolding first opc_order
  opc_taken right = answered.refusal_is ∙ rw right

  opc_strings : refusal ≡ 0 → (is_string key && is_string operator) ≡ true
  opc_strings done = by-test (is_string key && is_string operator) _ (λ right. right) (λ wrong. absurd (omega (arith, opc_refused wrong)))

  -- a refusal is the first of the order
  pub first_opc : (numbered : Bool) (rand sqn amf : List ℕ) → (refusal ≡ 0 → ⊥)
      → refusal ≡ first (given_order (record { made = true; numbered = numbered; key = key; operator = operator; rand = rand; sqn = sqn; amf = amf }))
  unfolding first given_order
  first_opc numbered rand sqn amf refused =
      by-test (is_string key && is_string operator) _ (λ right. absurd (refused (opc_taken right))) (λ wrong. opc_refused wrong ∙ rw wrong)

  module _ (done : refusal ≡ 0) where
    sixteen : length operator ≡ 16
    sixteen = (two_sizes key operator (opc_strings done)).1

    pub opc_is : after ≡ opc_of key operator
    opc_is =
        (opc_done key operator (replicate 16 0) answered (two_sizes key operator (opc_strings done)).0 sixteen (omega arith)).1
        ∙ front_whole (opc_of key operator) (replicate 16 0) (length_opc key operator sixteen)

    -- and the order of what is given with it is that of what was given
    pub order_made : (numbered : Bool) (rand sqn amf : List ℕ)
        → first (given_order (known numbered key (opc_of key operator) rand sqn amf))
        ≡ first (given_order (record { made = true; numbered = numbered; key = key; operator = operator; rand = rand; sqn = sqn; amf = amf }))
    unfolding first given_order
    order_made numbered rand sqn amf = rw (is_string_lem (opc_of key operator) (length_opc key operator sixteen), is_string_lem operator sixteen)
