-- MILENAGE of 3GPP TS 35.206: the functions f1, f1*, f2, f3, f4, f5 and f5* of a challenge, on AES-128. A string of 128 bits is 16 octets, the first bit
-- highest. The rule, with E for AES under K:
--   OPc = OP xor E(OP)    TEMP = E(RAND xor OPc)    IN1 = SQN AMF SQN AMF
--   OUT1 = E(TEMP xor rot(IN1 xor OPc, r1) xor c1) xor OPc
--   OUTi = E(rot(TEMP xor OPc, ri) xor ci) xor OPc, i from 2 to 5
-- Assumes nothing.
use Rattle.std.specs.Prelude.{ℕ, ◌+◌, ◌%◌, List, [], ◌∷◌, ◌++◌, take, drop, replicate}
use Rattle.octets.specs.Bits.{bit_of, stored}
use Rattle.octets.specs.Xor.{xored}
use Rattle.aes.specs.Aes.{aes}

-- ---- the constants of the standard's default set (4.1)

-- by how many bits the string before an output's encryption turns, and the number of 128 bits that it is then xored with
pub record Fixed : Type 0 where
  pub rotation : ℕ
  pub constant : ℕ

-- r1 and c1, to r5 and c5
unfoldable pub fixed1 : Fixed
fixed1 = record { rotation = 64; constant = 0 }

unfoldable pub fixed2 : Fixed
fixed2 = record { rotation = 0; constant = 1 }

unfoldable pub fixed3 : Fixed
fixed3 = record { rotation = 32; constant = 2 }

unfoldable pub fixed4 : Fixed
fixed4 = record { rotation = 64; constant = 4 }

unfoldable pub fixed5 : Fixed
fixed5 = record { rotation = 96; constant = 8 }

-- a number below 256 as one of 128 bits
unfoldable pub constant_octets : ℕ → List ℕ
constant_octets c = replicate 15 0 ++ c ∷ []

-- ---- the strings

-- rot: 128 bits turned to the left by r, so that bit r comes first and the first r bits go last
unfoldable pub turned : ℕ → List ℕ → List ℕ
turned r string = stored (λ i. bit_of string ((r + i) % 128)) 0 128

-- OPc from OP
unfoldable pub opc_of : List ℕ → List ℕ → List ℕ
opc_of key op = xored op (aes key op)

-- TEMP
unfoldable pub temp : List ℕ → List ℕ → List ℕ → List ℕ
temp key opc rand = aes key (xored rand opc)

-- IN1
unfoldable pub in1 : List ℕ → List ℕ → List ℕ
in1 sqn amf = sqn ++ amf ++ sqn ++ amf

-- OUT1
unfoldable pub out1 : List ℕ → List ℕ → List ℕ → List ℕ → List ℕ → List ℕ
out1 key opc rand sqn amf =
    xored
    (aes key (xored (xored (temp key opc rand) (turned fixed1.rotation (xored (in1 sqn amf) opc))) (constant_octets fixed1.constant)))
    opc

-- OUT2 to OUT5, each by its own constants
unfoldable pub out : Fixed → List ℕ → List ℕ → List ℕ → List ℕ
out fixed key opc rand = xored (aes key (xored (turned fixed.rotation (xored (temp key opc rand) opc)) (constant_octets fixed.constant))) opc

-- ---- the functions: what is cut from these strings

-- f1, MAC-A: the first half of OUT1
unfoldable pub f1_output : List ℕ → List ℕ → List ℕ → List ℕ → List ℕ → List ℕ
f1_output key opc rand sqn amf = take 8 (out1 key opc rand sqn amf)

-- f1*, MAC-S: its second half
unfoldable pub f1_star_output : List ℕ → List ℕ → List ℕ → List ℕ → List ℕ → List ℕ
f1_star_output key opc rand sqn amf = drop 8 (out1 key opc rand sqn amf)

-- f2, RES: the second half of OUT2
unfoldable pub f2_output : List ℕ → List ℕ → List ℕ → List ℕ
f2_output key opc rand = drop 8 (out fixed2 key opc rand)

-- f3, CK: OUT3
unfoldable pub f3_output : List ℕ → List ℕ → List ℕ → List ℕ
f3_output key opc rand = out fixed3 key opc rand

-- f4, IK: OUT4
unfoldable pub f4_output : List ℕ → List ℕ → List ℕ → List ℕ
f4_output key opc rand = out fixed4 key opc rand

-- f5, AK: the first 48 bits of OUT2
unfoldable pub f5_output : List ℕ → List ℕ → List ℕ → List ℕ
f5_output key opc rand = take 6 (out fixed2 key opc rand)

-- f5*, AK again, where the numbers of phone and network are set right: the first 48 bits of OUT5
unfoldable pub f5_star_output : List ℕ → List ℕ → List ℕ → List ℕ
f5_star_output key opc rand = take 6 (out fixed5 key opc rand)
