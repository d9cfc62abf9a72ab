-- The laws of this crate for its callers.
-- Assumes nothing.
use Prim.Native.Nat.{ℕ}
use mathlib.Core.Path.{◌≡◌}
use mathlib.Core.List.{List}
use lib.ListN.{length}
use Rattle.refusals.specs.Refusal.{first}
use Rattle.refusals.specs.Call.{Answered}
use Rattle.refusals.proofs.Calls.{answered_done}
use Rattle.octets.proofs.Listed.{length-listed}
use Rattle.octets.proofs.Octets.{whole_key}
use Rattle.aes.specs.Aes.{block_of, cipher, expanded, aes, expand_key_order, expand_key_call}

-- of a key of 16 octets the answer is its expanded key
pub expand_key_done : (key : List ℕ) {refusal : ℕ} {numbers words : List ℕ} → Answered (expand_key_call key) refusal numbers words
    → length key ≡ 16 → (refusal ≡ 0) × (words ≡ expanded key 44)
unfolding expand_key_order first
expand_key_done key answered long =
    let done = answered_done (expand_key_call key) answered (rw ((whole_key key).1 long)) in
    (done.0, done.2)

-- what is encrypted has 16 octets
pub length-aes : (key block : List ℕ) → length (aes key block) ≡ 16
unfolding aes cipher block_of
length-aes key block = length-listed _ 16
