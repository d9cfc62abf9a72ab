-- The calls of MILENAGE and their refusals (document 02, item 7): 1 where a key, OP, OPc or RAND is not 16 octets, 5 where SQN is not 6 octets or AMF not 2,
-- 4 where the lent output has no room. Assumes nothing.
use Rattle.std.specs.Prelude.{ℕ, Bool, not, ◌&&◌, List, [], ◌∷◌, eqb, ltb, length}
use Rattle.refusals.specs.Refusal.{Row}
use Rattle.refusals.specs.Call.{Call, puts}
use Rattle.octets.specs.Octets.{is_whole_key}
use Rattle.milenage.specs.Milenage.{opc_of, f1_output, f1_star_output, f2_output, f3_output, f4_output, f5_output, f5_star_output}

-- K, OP, OPc or RAND: a string of 128 bits, as many octets as a whole key has
unfoldable pub is_string : List ℕ → Bool
is_string octets = is_whole_key octets

-- SQN has 48 bits, and AMF 16
unfoldable pub are_numbers : List ℕ → List ℕ → Bool
are_numbers sqn amf = eqb (length sqn) 6 && eqb (length amf) 2

-- ---- OPc

-- the refusals of OPc, in their order: 1 where the key or OP is not 16 octets, 4 for want of room
unfoldable pub opc_order : List ℕ → List ℕ → List ℕ → List Row
opc_order key op output =
    record { number = 1; holds = not (is_string key && is_string op) } ∷
    record { number = 4; holds = ltb (length output) 16 } ∷ []

-- milenage::opc
abbrev pub opc_call : List ℕ → List ℕ → List ℕ → Call (List ℕ)
opc_call key op output = puts (opc_order key op output) (opc_of key op) output

-- ---- f1 and f1*

-- their refusals, in their order: 1 where the key, OPc or RAND is not 16 octets, 5 for SQN or AMF, 4 for want of room
unfoldable pub code_order : List ℕ → List ℕ → List ℕ → List ℕ → List ℕ → List ℕ → List Row
code_order key opc rand sqn amf output =
    record { number = 1; holds = not (is_string key && is_string opc && is_string rand) } ∷
    record { number = 5; holds = not (are_numbers sqn amf) } ∷
    record { number = 4; holds = ltb (length output) 8 } ∷ []

-- milenage::f1
abbrev pub f1_call : List ℕ → List ℕ → List ℕ → List ℕ → List ℕ → List ℕ → Call (List ℕ)
f1_call key opc rand sqn amf output = puts (code_order key opc rand sqn amf output) (f1_output key opc rand sqn amf) output

-- milenage::f1_star
abbrev pub f1_star_call : List ℕ → List ℕ → List ℕ → List ℕ → List ℕ → List ℕ → Call (List ℕ)
f1_star_call key opc rand sqn amf output = puts (code_order key opc rand sqn amf output) (f1_star_output key opc rand sqn amf) output

-- ---- the others, by the octets of their result

-- their refusals, in their order: 1 where the key, OPc or RAND is not 16 octets, 4 where the output has less than `size` octets
unfoldable pub result_order : ℕ → List ℕ → List ℕ → List ℕ → List ℕ → List Row
result_order size key opc rand output =
    record { number = 1; holds = not (is_string key && is_string opc && is_string rand) } ∷
    record { number = 4; holds = ltb (length output) size } ∷ []

-- milenage::f2
abbrev pub f2_call : List ℕ → List ℕ → List ℕ → List ℕ → Call (List ℕ)
f2_call key opc rand output = puts (result_order 8 key opc rand output) (f2_output key opc rand) output

-- milenage::f3
abbrev pub f3_call : List ℕ → List ℕ → List ℕ → List ℕ → Call (List ℕ)
f3_call key opc rand output = puts (result_order 16 key opc rand output) (f3_output key opc rand) output

-- milenage::f4
abbrev pub f4_call : List ℕ → List ℕ → List ℕ → List ℕ → Call (List ℕ)
f4_call key opc rand output = puts (result_order 16 key opc rand output) (f4_output key opc rand) output

-- milenage::f5
abbrev pub f5_call : List ℕ → List ℕ → List ℕ → List ℕ → Call (List ℕ)
f5_call key opc rand output = puts (result_order 6 key opc rand output) (f5_output key opc rand) output

-- milenage::f5_star
abbrev pub f5_star_call : List ℕ → List ℕ → List ℕ → List ℕ → Call (List ℕ)
f5_star_call key opc rand output = puts (result_order 6 key opc rand output) (f5_star_output key opc rand) output
