-- What `challenge` answers to a line. Assumes nothing.
use Rattle.std.specs.Prelude.{ℕ, cond, not, ◌&&◌, List, [], ◌∷◌, ◌++◌, eqb}
use Rattle.refusals.specs.Refusal.{Row, first}
use Rattle.lines.specs.Text.{decimal_text}
use Rattle.milenage.specs.Milenage.{opc_of, f1_output, f1_star_output, f2_output, f3_output, f4_output, f5_output}
use Rattle.milenage.specs.Calls.{is_string, are_numbers}
use Rattle.challenge.specs.Form.{is_challenge, Given, given_by}
use Rattle.challenge.specs.Texts.{results_text, codes_text}

-- the refusals in their order: 1 where K, OP, OPc or RAND is not 16 octets, 5 where SQN is given and is not 6 octets, or AMF not 2
unfoldable pub given_order : Given → List Row
given_order given =
    record { number = 1; holds = not (is_string given.key && is_string given.operator && is_string given.rand) } ∷
    record { number = 5; holds = given.numbered && not (are_numbers given.sqn given.amf) } ∷ []

-- OPc, made from OP or as given
unfoldable pub opc_for : Given → List ℕ
opc_for given = cond given.made (opc_of given.key given.operator) given.operator

-- RES, CK, IK and AK of a challenge, after OPc
unfoldable pub all_results : List ℕ → List ℕ → List ℕ → List ℕ
all_results key opc rand = results_text opc (f2_output key opc rand) (f3_output key opc rand) (f4_output key opc rand) (f5_output key opc rand)

-- MAC-A and MAC-S
unfoldable pub all_codes : List ℕ → List ℕ → List ℕ → List ℕ → List ℕ → List ℕ
all_codes key opc rand sqn amf = codes_text (f1_output key opc rand sqn amf) (f1_star_output key opc rand sqn amf)

-- the values of what is given, MAC-A and MAC-S only where SQN and AMF are given
unfoldable pub values_text : Given → List ℕ
values_text given =
    all_results given.key (opc_for given) given.rand
    ++ cond given.numbered (all_codes given.key (opc_for given) given.rand given.sqn given.amf) []

-- the answer to what is given: the values, or the refusal's number
unfoldable pub given_text : Given → List ℕ
given_text given = cond (eqb (first (given_order given)) 0) (values_text given) (decimal_text (first (given_order given)))

-- the text that answers a line: `?` where the line is not of the form
unfoldable pub answer_text : List ℕ → List ℕ
answer_text line = cond (is_challenge line) (given_text (given_by line)) (63 ∷ [])

-- the largest answer: OPc, RES, CK, IK, AK, MAC-A and MAC-S, and the line feed. An output with less room is refused
abbrev pub largest_answer : ℕ
largest_answer = 192
