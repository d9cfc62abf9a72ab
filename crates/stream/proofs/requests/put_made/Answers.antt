-- `stream::requests::put_made` meets its contract: what is done is shown as the hex of its octets, and a refusal by its number.
-- Assumes nothing.
use Prim.Native.Nat.{ℕ, ◌≤◌}
use mathlib.Core.List.{List, [], ◌∷◌}
use lib.ListN.{length}
use native.Mathlib.Omega.{arith}
use Rattle.std.specs.Prelude.{Result, IsOk}
use Rattle.std.specs.Result.{result_unwrap_or}
use Rattle.refusals.specs.declared.Refusal.{Refusal}
use Rattle.refusals.specs.Call.{Answered}
use Rattle.refusals.specs.Number.{refusal_of}
use Rattle.lines.specs.Text.{hex_text, hex_of_octets_call, decimal_text, decimal_of_number_call}
use Rattle.lines.proofs.Callers.{room_ok}
use Rattle.lines.proofs.InDecimal.{length-decimal_text}
use Rattle.lines.proofs.Text.{length-hex_text}
use Rattle.stream.specs.Answer.{largest_answer}
use Rattle.stream.proofs.requests.put_made.Goals as goal

-- what is put has room
module _ {before after : List ℕ} (answer : Result ℕ Refusal) (room : largest_answer ≤ length before) where
  hex_ok : (octets : List ℕ) → Answered (hex_of_octets_call octets before) (refusal_of answer) (result_unwrap_or answer 0 ∷ []) after → length octets ≤ 1520 → IsOk answer
  hex_ok octets put limit = room_ok (length (hex_text octets)) (hex_text octets) before answer put (omega (arith, length-hex_text octets))

  decimal_ok : (number : ℕ) → Answered (decimal_of_number_call number before) (refusal_of answer) (result_unwrap_or answer 0 ∷ []) after → IsOk answer
  decimal_ok number put = room_ok (length (decimal_text number)) (decimal_text number) before answer put (omega (arith, length-decimal_text number))

pub unwrap-requires : goal.unwrap-requires
unwrap-requires c = hex_ok _ c.requires.room _ c.hex_of_octets.ensures c.requires.limit

pub unwrap-requires-in-Err : goal.unwrap-requires-in-Err
unwrap-requires-in-Err c = decimal_ok _ c.requires.room _ c.decimal_of_number.ensures
