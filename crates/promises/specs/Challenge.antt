-- Keys from a challenge (document 02, item 7): the S-box of AES, what MILENAGE cuts from which string, what its calls leave in a lent output, that nothing
-- but the inputs plays a part, and that CK and IK are keys which f8 and f9 take. Assumes nothing.
use Rattle.std.specs.Prelude.{ℕ, ◌≤◌, ◌<◌, ◌≡◌, List, [], ◌∷◌, ◌++◌, length, take, drop}
use Rattle.refusals.specs.Call.{Call, Answered, front}
use Rattle.octets.specs.Bits.{size}
use Rattle.pair.specs.declared.F8Inputs.{F8Inputs}
use Rattle.pair.specs.declared.F9Inputs.{F9Inputs}
use Rattle.pair.specs.F8.{f8_output, f8_call}
use Rattle.pair.specs.F9.{padded, code_of, f9_call}
use Rattle.milenage.specs.Milenage.{fixed2, out1, out, opc_of, f1_output, f1_star_output, f2_output, f3_output, f4_output, f5_output, f5_star_output}
use Rattle.milenage.specs.Calls.{opc_call, f1_call, f1_star_call, f2_call, f3_call, f4_call, f5_call, f5_star_call}
use Rattle.promises.specs.Boxes.{AesBox}

-- f1 and f1* are the halves of one string, and f5 and f2 the two ends of another
pub record OneString : Type 0 where
  pub halves : (key opc rand sqn amf : List ℕ) → f1_output key opc rand sqn amf ++ f1_star_output key opc rand sqn amf ≡ out1 key opc rand sqn amf
  pub alike : (key opc rand sqn amf : List ℕ) → length (f1_output key opc rand sqn amf) ≡ length (f1_star_output key opc rand sqn amf)
  pub ends : (key opc rand : List ℕ) → f5_output key opc rand ++ take 2 (drop 6 (out fixed2 key opc rand)) ++ f2_output key opc rand ≡ out fixed2 key opc rand

-- a call that is not refused, and leaves its result of so many octets at the front of an output
pub record Puts (octets : ℕ) (result before : List ℕ) (refusal : ℕ) (after : List ℕ) : Type 0 where
  pub not_refused : refusal ≡ 0
  pub result_long : length result ≡ octets
  pub output_is : after ≡ front result before

-- what f2, f3, f4, f5 and f5* do, each with its result
abbrev Result : (List ℕ → List ℕ → List ℕ → List ℕ → Call (List ℕ)) → (List ℕ → List ℕ → List ℕ → List ℕ) → ℕ → Type 0
Result call result octets =
    (key opc rand before : List ℕ) → length key ≡ 16 → length opc ≡ 16 → length rand ≡ 16 → octets ≤ length before
    → (refusal : ℕ) (numbers after : List ℕ) → Answered (call key opc rand before) refusal numbers after → Puts octets (result key opc rand) before refusal after

-- what f1 and f1* do
abbrev Code : (List ℕ → List ℕ → List ℕ → List ℕ → List ℕ → List ℕ → Call (List ℕ)) → (List ℕ → List ℕ → List ℕ → List ℕ → List ℕ → List ℕ) → Type 0
Code call result =
    (key opc rand sqn amf before : List ℕ) → length key ≡ 16 → length opc ≡ 16 → length rand ≡ 16 → length sqn ≡ 6 → length amf ≡ 2 → 8 ≤ length before
    → (refusal : ℕ) (numbers after : List ℕ) → Answered (call key opc rand sqn amf before) refusal numbers after
    → Puts 8 (result key opc rand sqn amf) before refusal after

-- for all inputs of the right sizes, and room for the result, no call is refused, and each leaves its own result
pub record Taken : Type 0 where
  pub opc : (key op before : List ℕ) → length key ≡ 16 → length op ≡ 16 → 16 ≤ length before
      → (refusal : ℕ) (numbers after : List ℕ) → Answered (opc_call key op before) refusal numbers after → Puts 16 (opc_of key op) before refusal after
  pub f1 : Code f1_call f1_output
  pub f1_star : Code f1_star_call f1_star_output
  pub f2 : Result f2_call f2_output 8
  pub f3 : Result f3_call f3_output 16
  pub f4 : Result f4_call f4_output 16
  pub f5 : Result f5_call f5_output 6
  pub f5_star : Result f5_star_call f5_star_output 6

-- a call goes by its inputs alone: whatever two outputs it is lent, it puts the same octets to their fronts
abbrev GoesByInputs : ℕ → (List ℕ → Call (List ℕ)) → Type 0
GoesByInputs octets call =
    (before before' after after' : List ℕ) → Answered (call before) 0 [] after → Answered (call before') 0 [] after'
    → take octets after ≡ take octets after'

-- so it is with each of the eight calls, with as many octets as its result has
pub record OnlyInputs : Type 0 where
  pub opc : (key op : List ℕ) → GoesByInputs 16 (opc_call key op)
  pub f1 : (key opc rand sqn amf : List ℕ) → GoesByInputs 8 (f1_call key opc rand sqn amf)
  pub f1_star : (key opc rand sqn amf : List ℕ) → GoesByInputs 8 (f1_star_call key opc rand sqn amf)
  pub f2 : (key opc rand : List ℕ) → GoesByInputs 8 (f2_call key opc rand)
  pub f3 : (key opc rand : List ℕ) → GoesByInputs 16 (f3_call key opc rand)
  pub f4 : (key opc rand : List ℕ) → GoesByInputs 16 (f4_call key opc rand)
  pub f5 : (key opc rand : List ℕ) → GoesByInputs 6 (f5_call key opc rand)
  pub f5_star : (key opc rand : List ℕ) → GoesByInputs 6 (f5_star_call key opc rand)

-- CK is what f3 puts, IK what f4 puts. Where f3 was not refused, f8 under those 16 octets refuses no message in range, lent whole and with room, and
-- leaves f8's output under CK; f9 under IK likewise
pub record Feeds : Type 0 where
  pub ck_to_f8 : (key opc rand before : List ℕ) {after : List ℕ} → Answered (f3_call key opc rand before) 0 [] after
      → (inputs : F8Inputs) (message : List ℕ) (bits : ℕ) (output : List ℕ) → inputs.bearer ≤ 31 → inputs.direction ≤ 1
      → 0 < bits → bits ≤ 20000 → size bits ≤ length message → size bits ≤ length output
      → {refusal : ℕ} {numbers output_after : List ℕ} → Answered (f8_call inputs (take 16 after) message bits output) refusal numbers output_after
      → (refusal ≡ 0) × (output_after ≡ front (f8_output inputs (f3_output key opc rand) message bits) output)
  pub ik_to_f9 : (key opc rand before : List ℕ) {after : List ℕ} → Answered (f4_call key opc rand before) 0 [] after
      → (inputs : F9Inputs) (message : List ℕ) (bits : ℕ) → inputs.direction ≤ 1 → 0 < bits → bits ≤ 20000 → size bits ≤ length message
      → {refusal code : ℕ} → Answered (f9_call inputs (take 16 after) message bits) refusal (code ∷ []) tt
      → (refusal ≡ 0) × (code ≡ code_of (f4_output key opc rand) (padded inputs message bits))

-- item 7 as a whole
pub record Challenge : Type 0 where
  pub aes_box : AesBox
  pub one_string : OneString
  pub taken : Taken
  pub only_inputs : OnlyInputs
  pub feeds : Feeds
