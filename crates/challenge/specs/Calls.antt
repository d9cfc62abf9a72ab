-- What the calls of the crate `milenage` answer, taken together: the refusal of the first, and the outputs that each leaves. Assumes nothing.
use Rattle.std.specs.Prelude.{ℕ, Bool, false, List, replicate}
use Rattle.refusals.specs.Call.{outcome}
use Rattle.milenage.specs.Calls.{f1_call, f1_star_call, f2_call, f3_call, f4_call, f5_call}
use Rattle.challenge.specs.declared.texts.Results.{Results}
use Rattle.challenge.specs.declared.texts.Codes.{Codes}
use Rattle.challenge.specs.declared.answers.Given.{Given as Values}
use Rattle.challenge.specs.Form.{Given}

-- RES, CK, IK and AK
unfoldable pub results_refusal : List ℕ → List ℕ → List ℕ → ℕ
results_refusal key opc rand = (outcome (f2_call key opc rand (replicate 8 0))).refusal

unfoldable pub results_of : List ℕ → List ℕ → List ℕ → Results
results_of key opc rand = record {
  res = (outcome (f2_call key opc rand (replicate 8 0))).lent;
  ck = (outcome (f3_call key opc rand (replicate 16 0))).lent;
  ik = (outcome (f4_call key opc rand (replicate 16 0))).lent;
  ak = (outcome (f5_call key opc rand (replicate 6 0))).lent;
}

-- MAC-A and MAC-S
unfoldable pub codes_refusal : List ℕ → List ℕ → List ℕ → List ℕ → List ℕ → ℕ
codes_refusal key opc rand sqn amf = (outcome (f1_call key opc rand sqn amf (replicate 8 0))).refusal

unfoldable pub codes_of : List ℕ → List ℕ → List ℕ → List ℕ → List ℕ → Codes
codes_of key opc rand sqn amf = record {
  network = (outcome (f1_call key opc rand sqn amf (replicate 8 0))).lent;
  phone = (outcome (f1_star_call key opc rand sqn amf (replicate 8 0))).lent;
}

-- what is given in the code
abbrev pub given_as : Values → Given
given_as given = record {
  made = given.made;
  numbered = given.numbered;
  key = given.key.now;
  operator = given.operator.now;
  rand = given.rand.now;
  sqn = given.sqn.now;
  amf = given.amf.now;
}

-- what is given where OPc is
abbrev pub known : Bool → List ℕ → List ℕ → List ℕ → List ℕ → List ℕ → Given
known numbered key opc rand sqn amf = record { made = false; numbered = numbered; key = key; operator = opc; rand = rand; sqn = sqn; amf = amf }
