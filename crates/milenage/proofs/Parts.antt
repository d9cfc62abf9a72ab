-- The parts of the outputs that the results are, and the answers of the calls.
-- Assumes nothing.
use Prim.Native.Nat.{ℕ, ◌+◌}
use native.Mathlib.Omega.{arith}
use mathlib.Core.Path.{◌≡◌, ap, subst, ◌∙◌}
use mathlib.Core.List.{List}
use lib.ListN.{length, take, drop, length-drop}
use lib.Seq.{take_all}
use Rattle.std.specs.Prelude.{Result, Err}
use Rattle.std.specs.Result.{IsErrAnd}
use Rattle.std.proofs.lemmas.Result.{err_from_is_err_and}
use Rattle.refusals.specs.declared.Refusal.{Refusal}
use Rattle.refusals.specs.Refusal.{Row}
use Rattle.refusals.specs.Call.{Answered, puts}
use Rattle.octets.proofs.Xored.{length-xored}
use Rattle.aes.proofs.Calling.{length-aes}
use Rattle.milenage.specs.Milenage.{Fixed, out1, out}

-- an output has 16 octets, whatever it is made of
pub length-out1 : (key opc rand sqn amf : List ℕ) → length (out1 key opc rand sqn amf) ≡ 16
unfolding out1
length-out1 key opc rand sqn amf = length-xored _ opc ∙ length-aes key _

pub length-out : (fixed : Fixed) (key opc rand : List ℕ) → length (out fixed key opc rand) ≡ 16
unfolding out
length-out fixed key opc rand = length-xored _ opc ∙ length-aes key _

-- a part that ends with the string needs no end
pub to_the_end : (start size : ℕ) (string : List ℕ) → length string ≡ start + size → take size (drop start string) ≡ drop start string
to_the_end start size string long = take_all size (drop start string) (omega (arith, length-drop start string))

-- an answer by the same result
pub answered_same : {order : List Row} {result result' output numbers lent : List ℕ} {refusal : ℕ} → result ≡ result'
    → Answered (puts order result output) refusal numbers lent → Answered (puts order result' output) refusal numbers lent
answered_same {order} {output = output} {numbers = numbers} {lent = lent} {refusal = refusal} same answered =
    subst (λ (l : List ℕ). Answered (puts order l output) refusal numbers lent) same answered

-- what a `?` passes on, where it is known which refusal
pub passed_on : {T : Type 0} {answer : Result T Refusal} {given refusal : Refusal} → IsErrAnd answer (λ other. other ≡ given) → given ≡ refusal
    → answer ≡ Err refusal
passed_on {answer = answer} passed same = let p = err_from_is_err_and answer passed in p.1 ∙ ap Err (p.2 ∙ same)
