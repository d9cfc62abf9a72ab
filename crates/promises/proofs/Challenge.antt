-- Keys from a challenge. Assumes nothing.
use Prim.Native.Nat.{ℕ}
use mathlib.Core.Path.{◌≡◌, refl, sym, ap, ◌∙◌}
use mathlib.Core.List.{List, [], ◌++◌}
use borrow.Author.Tests.{not-false}
use lib.ListN.{length, take, drop, take-append-drop}
use lib.Seq.{take_at, take-add}
use Rattle.refusals.specs.Refusal.{Row, first, row_at}
use Rattle.refusals.specs.Call.{Answered, puts, front}
use Rattle.refusals.proofs.Laws.{then_and_only_then}
use Rattle.pair.specs.F8.{f8_output}
use Rattle.pair.specs.F9.{padded, code_of, f9_code}
use Rattle.pair.proofs.Laws.{f8_done, f9_done}
use Rattle.milenage.specs.Milenage.{fixed2, out1, out, opc_of, f1_output, f1_star_output, f2_output, f3_output, f4_output, f5_output, f5_star_output}
use Rattle.milenage.specs.Calls.{opc_order}
use Rattle.milenage.proofs.Sizes.{two_sizes}
use Rattle.milenage.proofs.Laws.{opc_done, f1_done, f1_star_done, f2_done, f3_done, f4_done, f5_done, f5_star_done, length_opc, length_f1, length_f1_star, length_f2, length_f3, length_f4, length_f5, length_f5_star}
use Rattle.promises.specs.Challenge.{OneString, Taken, OnlyInputs, Feeds, Challenge}
use Rattle.promises.proofs.Boxes.{aes_box}

-- ---- what is cut from which string

one_string : OneString
unfolding f1_output f1_star_output f2_output f5_output
one_string = record {
  halves = λ key opc rand sqn amf. take-append-drop 8 (out1 key opc rand sqn amf);
  alike = λ key opc rand sqn amf. length_f1 key opc rand sqn amf ∙ sym (length_f1_star key opc rand sqn amf);
  ends = λ key opc rand.
      let string : List ℕ = out fixed2 key opc rand in
      ap (λ (l : List ℕ). l ++ drop 8 string) (sym (take-add 6 2 string)) ∙ take-append-drop 8 string;
}

-- ---- what the calls leave

taken : Taken
taken = record {
  opc = λ key op before key-long op-long room refusal numbers after answered.
      let done = opc_done key op before answered key-long op-long room in
      record { not_refused = done.0; result_long = length_opc key op op-long; output_is = done.1 };
  f1 = λ key opc rand sqn amf before key-long opc-long rand-long six two room refusal numbers after answered.
      let done = f1_done key opc rand sqn amf before answered key-long opc-long rand-long six two room in
      record { not_refused = done.0; result_long = length_f1 key opc rand sqn amf; output_is = done.1 };
  f1_star = λ key opc rand sqn amf before key-long opc-long rand-long six two room refusal numbers after answered.
      let done = f1_star_done key opc rand sqn amf before answered key-long opc-long rand-long six two room in
      record { not_refused = done.0; result_long = length_f1_star key opc rand sqn amf; output_is = done.1 };
  f2 = λ key opc rand before key-long opc-long rand-long room refusal numbers after answered.
      let done = f2_done key opc rand before answered key-long opc-long rand-long room in
      record { not_refused = done.0; result_long = length_f2 key opc rand; output_is = done.1 };
  f3 = λ key opc rand before key-long opc-long rand-long room refusal numbers after answered.
      let done = f3_done key opc rand before answered key-long opc-long rand-long room in
      record { not_refused = done.0; result_long = length_f3 key opc rand; output_is = done.1 };
  f4 = λ key opc rand before key-long opc-long rand-long room refusal numbers after answered.
      let done = f4_done key opc rand before answered key-long opc-long rand-long room in
      record { not_refused = done.0; result_long = length_f4 key opc rand; output_is = done.1 };
  f5 = λ key opc rand before key-long opc-long rand-long room refusal numbers after answered.
      let done = f5_done key opc rand before answered key-long opc-long rand-long room in
      record { not_refused = done.0; result_long = length_f5 key opc rand; output_is = done.1 };
  f5_star = λ key opc rand before key-long opc-long rand-long room refusal numbers after answered.
      let done = f5_star_done key opc rand before answered key-long opc-long rand-long room in
      record { not_refused = done.0; result_long = length_f5_star key opc rand; output_is = done.1 };
}

-- ---- nothing but the inputs

-- what a call that was not refused has put
result_put : (order : List Row) (result before after : List ℕ) (octets : ℕ) → Answered (puts order result before) 0 [] after → length result ≡ octets
    → take octets after ≡ result
unfolding front
result_put order result before after octets answered long = ap (take octets) answered.lent_is ∙ take_at result (drop (length result) before) octets long

same_put : (order order' : List Row) (result before before' after after' : List ℕ) (octets : ℕ) → length result ≡ octets
    → Answered (puts order result before) 0 [] after → Answered (puts order' result before') 0 [] after' → take octets after ≡ take octets after'
same_put order order' result before before' after after' octets long once again =
    result_put order result before after octets once long ∙ sym (result_put order' result before' after' octets again long)

-- an OP that was taken has 16 octets
op_taken : (key op before : List ℕ) → first (opc_order key op before) ≡ 0 → length op ≡ 16
unfolding opc_order row_at
op_taken key op before none =
    (two_sizes key op (not-false _ ((then_and_only_then (opc_order key op before) tt 0 (sym none)).none.0 refl 0))).1

only_inputs : OnlyInputs
only_inputs = record {
  opc = λ key op before before' after after' once again.
      same_put _ _ (opc_of key op) before before' after after' 16 (length_opc key op (op_taken key op before (sym once.refusal_is))) once again;
  f1 = λ key opc rand sqn amf before before' after after'.
      same_put _ _ (f1_output key opc rand sqn amf) before before' after after' 8 (length_f1 key opc rand sqn amf);
  f1_star = λ key opc rand sqn amf before before' after after'.
      same_put _ _ (f1_star_output key opc rand sqn amf) before before' after after' 8 (length_f1_star key opc rand sqn amf);
  f2 = λ key opc rand before before' after after'. same_put _ _ (f2_output key opc rand) before before' after after' 8 (length_f2 key opc rand);
  f3 = λ key opc rand before before' after after'. same_put _ _ (f3_output key opc rand) before before' after after' 16 (length_f3 key opc rand);
  f4 = λ key opc rand before before' after after'. same_put _ _ (f4_output key opc rand) before before' after after' 16 (length_f4 key opc rand);
  f5 = λ key opc rand before before' after after'. same_put _ _ (f5_output key opc rand) before before' after after' 6 (length_f5 key opc rand);
  f5_star = λ key opc rand before before' after after'. same_put _ _ (f5_star_output key opc rand) before before' after after' 6 (length_f5_star key opc rand);
}

-- ---- the keys of f8 and f9

feeds : Feeds
unfolding f9_code
feeds = record {
  ck_to_f8 = λ key opc rand before {after} put inputs message bits output bearer way some most enough room answered.
      let ck : take 16 after ≡ f3_output key opc rand = result_put _ (f3_output key opc rand) before after 16 put (length_f3 key opc rand) in
      let done = f8_done inputs (take 16 after) message bits output answered (ap length ck ∙ length_f3 key opc rand) bearer way some most enough room in
      (done.0, done.1 ∙ ap (λ (k : List ℕ). front (f8_output inputs k message bits) output) ck);
  ik_to_f9 = λ key opc rand before {after} put inputs message bits way some most enough answered.
      let ik : take 16 after ≡ f4_output key opc rand = result_put _ (f4_output key opc rand) before after 16 put (length_f4 key opc rand) in
      let done = f9_done inputs (take 16 after) message bits answered (ap length ik ∙ length_f4 key opc rand) way some most enough in
      (done.0, done.1 ∙ ap (λ (k : List ℕ). code_of k (padded inputs message bits)) ik);
}

pub challenge : Challenge
challenge = record { aes_box = aes_box; one_string = one_string; taken = taken; only_inputs = only_inputs; feeds = feeds }
