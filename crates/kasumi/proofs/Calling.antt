-- The laws of the round keys for their callers.
-- Assumes nothing.
use Prim.Native.Nat.{ℕ}
use mathlib.Core.Path.{◌≡◌, refl}
use mathlib.Core.List.{List, [], ◌∷◌}
use borrow.Author.Tests.{ne_eqb}
use lib.ListN.{length}
use Rattle.std.specs.Prelude.{Result, Err}
use Rattle.std.specs.Result.{result_unwrap_or}
use Rattle.refusals.specs.declared.Refusal.{Refusal}
use Rattle.refusals.specs.Refusal.{first}
use Rattle.refusals.specs.Number.{number_of, refusal_of}
use Rattle.refusals.specs.Call.{Answered}
use Rattle.refusals.proofs.Calls.{answered_done}
use Rattle.refusals.proofs.Number.{number_some}
use Rattle.octets.proofs.Octets.{whole_key}
use Rattle.kasumi.specs.Kasumi.{kasumi_order, kasumi_call}
use Rattle.kasumi.specs.Lent.{round_words, round_keys_call}

-- of a key of 16 octets the answer is the keys of its rounds
pub round_keys_done : (key : List ℕ) {refusal : ℕ} {numbers words : List ℕ} → Answered (round_keys_call key) refusal numbers words
    → length key ≡ 16 → (refusal ≡ 0) × (words ≡ round_words key 8)
unfolding kasumi_order first
round_keys_done key answered long =
    let done = answered_done (round_keys_call key) answered (rw ((whole_key key).1 long)) in
    (done.0, done.2)

-- of any other key KASUMI is refused as its round keys are
pub keys_refused : (key : List ℕ) (block : ℕ) {words : List ℕ} (refusal : Refusal) {answer : Result ℕ Refusal} → Answered (round_keys_call key) (number_of refusal) [] words
    → answer ≡ Err refusal → Answered (kasumi_call key block) (refusal_of answer) (result_unwrap_or answer 0 ∷ []) tt
keys_refused key block refusal answered is = rw is (record {
  refusal_is = answered.refusal_is;
  numbers_are = rw (ne_eqb (number_of refusal) 0 (number_some refusal)) refl;
  lent_is = refl;
})
