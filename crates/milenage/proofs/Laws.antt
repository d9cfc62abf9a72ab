-- The laws of the calls for their callers: when they are not refused, and how long their results are.
-- Assumes nothing.
use Prim.Native.Nat.{ℕ, ◌≤◌}
use native.Mathlib.Omega.{arith}
use mathlib.Core.Path.{◌≡◌, ◌∙◌}
use mathlib.Core.List.{List}
use borrow.Author.Tests.{le-ltb}
use lib.ListN.{length, take, drop, length-drop}
use lib.Seq.{length-take-le}
use Rattle.refusals.specs.Refusal.{first}
use Rattle.refusals.specs.Call.{Answered, puts, front}
use Rattle.refusals.proofs.Calls.{answered_done}
use Rattle.octets.proofs.Xored.{length-xored}
use Rattle.milenage.specs.Milenage.{fixed2, fixed3, fixed4, fixed5, opc_of, out, out1, f1_output, f1_star_output, f2_output, f3_output, f4_output, f5_output, f5_star_output}
use Rattle.milenage.specs.Calls.{opc_order, code_order, result_order, opc_call, f1_call, f1_star_call, f2_call, f3_call, f4_call, f5_call, f5_star_call}
use Rattle.milenage.proofs.Parts.{length-out, length-out1}
use Rattle.milenage.proofs.Sizes.{is_string_lem, are_strings, are_numbers_lem}

-- ---- where no cause of a refusal holds a call puts its result, and the octets past it are kept

pub opc_done : (key op before : List ℕ) {refusal : ℕ} {numbers after : List ℕ} → Answered (opc_call key op before) refusal numbers after
    → length key ≡ 16 → length op ≡ 16 → 16 ≤ length before → (refusal ≡ 0) × (after ≡ front (opc_of key op) before)
unfolding first opc_order
opc_done key op before answered long-key long-op room =
    let done = answered_done (opc_call key op before) answered (rw (is_string_lem key long-key, is_string_lem op long-op, le-ltb (length before) 16 room)) in
    (done.0, done.2)

module _ (key opc rand sqn amf before : List ℕ) {refusal : ℕ} {numbers after : List ℕ} where
  code_done : (result : List ℕ) → Answered (puts (code_order key opc rand sqn amf before) result before) refusal numbers after
      → length key ≡ 16 → length opc ≡ 16 → length rand ≡ 16 → length sqn ≡ 6 → length amf ≡ 2 → 8 ≤ length before
      → (refusal ≡ 0) × (after ≡ front result before)
  unfolding first code_order
  code_done result answered long-key long-opc long-rand six two room =
      let done = answered_done (puts (code_order key opc rand sqn amf before) result before) answered
      (rw (are_strings key opc rand long-key long-opc long-rand, are_numbers_lem sqn amf six two, le-ltb (length before) 8 room)) in
      (done.0, done.2)

  pub f1_done : Answered (f1_call key opc rand sqn amf before) refusal numbers after
      → length key ≡ 16 → length opc ≡ 16 → length rand ≡ 16 → length sqn ≡ 6 → length amf ≡ 2 → 8 ≤ length before
      → (refusal ≡ 0) × (after ≡ front (f1_output key opc rand sqn amf) before)
  f1_done = code_done (f1_output key opc rand sqn amf)

  pub f1_star_done : Answered (f1_star_call key opc rand sqn amf before) refusal numbers after
      → length key ≡ 16 → length opc ≡ 16 → length rand ≡ 16 → length sqn ≡ 6 → length amf ≡ 2 → 8 ≤ length before
      → (refusal ≡ 0) × (after ≡ front (f1_star_output key opc rand sqn amf) before)
  f1_star_done = code_done (f1_star_output key opc rand sqn amf)

module _ (key opc rand before : List ℕ) {refusal : ℕ} {numbers after : List ℕ} where
  result_done : (size : ℕ) (result : List ℕ) → Answered (puts (result_order size key opc rand before) result before) refusal numbers after
      → length key ≡ 16 → length opc ≡ 16 → length rand ≡ 16 → size ≤ length before → (refusal ≡ 0) × (after ≡ front result before)
  unfolding first result_order
  result_done size result answered long-key long-opc long-rand room =
      let done = answered_done (puts (result_order size key opc rand before) result before) answered
      (rw (are_strings key opc rand long-key long-opc long-rand, le-ltb (length before) size room)) in
      (done.0, done.2)

  pub f2_done : Answered (f2_call key opc rand before) refusal numbers after
      → length key ≡ 16 → length opc ≡ 16 → length rand ≡ 16 → 8 ≤ length before → (refusal ≡ 0) × (after ≡ front (f2_output key opc rand) before)
  f2_done = result_done 8 (f2_output key opc rand)

  pub f3_done : Answered (f3_call key opc rand before) refusal numbers after
      → length key ≡ 16 → length opc ≡ 16 → length rand ≡ 16 → 16 ≤ length before → (refusal ≡ 0) × (after ≡ front (f3_output key opc rand) before)
  f3_done = result_done 16 (f3_output key opc rand)

  pub f4_done : Answered (f4_call key opc rand before) refusal numbers after
      → length key ≡ 16 → length opc ≡ 16 → length rand ≡ 16 → 16 ≤ length before → (refusal ≡ 0) × (after ≡ front (f4_output key opc rand) before)
  f4_done = result_done 16 (f4_output key opc rand)

  pub f5_done : Answered (f5_call key opc rand before) refusal numbers after
      → length key ≡ 16 → length opc ≡ 16 → length rand ≡ 16 → 6 ≤ length before → (refusal ≡ 0) × (after ≡ front (f5_output key opc rand) before)
  f5_done = result_done 6 (f5_output key opc rand)

  pub f5_star_done : Answered (f5_star_call key opc rand before) refusal numbers after
      → length key ≡ 16 → length opc ≡ 16 → length rand ≡ 16 → 6 ≤ length before → (refusal ≡ 0) × (after ≡ front (f5_star_output key opc rand) before)
  f5_star_done = result_done 6 (f5_star_output key opc rand)

-- ---- the octets of the results

-- the first octets of a string, and its second half
length-first : (size : ℕ) (string : List ℕ) → length string ≡ 16 → size ≤ 16 → length (take size string) ≡ size
length-first size string long within = length-take-le size string (omega arith)

length-half : (string : List ℕ) → length string ≡ 16 → length (drop 8 string) ≡ 8
length-half string long = length-drop 8 string ∙ omega arith

pub length_opc : (key op : List ℕ) → length op ≡ 16 → length (opc_of key op) ≡ 16
unfolding opc_of
length_opc key op long = length-xored op _ ∙ long

module _ (key opc rand : List ℕ) where
  pub length_f1 : (sqn amf : List ℕ) → length (f1_output key opc rand sqn amf) ≡ 8
  unfolding f1_output
  length_f1 sqn amf = length-first 8 (out1 key opc rand sqn amf) (length-out1 key opc rand sqn amf) (omega arith)

  pub length_f1_star : (sqn amf : List ℕ) → length (f1_star_output key opc rand sqn amf) ≡ 8
  unfolding f1_star_output
  length_f1_star sqn amf = length-half (out1 key opc rand sqn amf) (length-out1 key opc rand sqn amf)

  pub length_f2 : length (f2_output key opc rand) ≡ 8
  unfolding f2_output
  length_f2 = length-half (out fixed2 key opc rand) (length-out fixed2 key opc rand)

  pub length_f3 : length (f3_output key opc rand) ≡ 16
  unfolding f3_output
  length_f3 = length-out fixed3 key opc rand

  pub length_f4 : length (f4_output key opc rand) ≡ 16
  unfolding f4_output
  length_f4 = length-out fixed4 key opc rand

  pub length_f5 : length (f5_output key opc rand) ≡ 6
  unfolding f5_output
  length_f5 = length-first 6 (out fixed2 key opc rand) (length-out fixed2 key opc rand) (omega arith)

  pub length_f5_star : length (f5_star_output key opc rand) ≡ 6
  unfolding f5_star_output
  length_f5_star = length-first 6 (out fixed5 key opc rand) (length-out fixed5 key opc rand) (omega arith)
