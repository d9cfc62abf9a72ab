-- The round keys of a key of 16 octets are never refused.
-- Assumes nothing.
use mathlib.Core.Path.{◌≡◌, sym, ap, ap₂, ◌∙◌}
use mathlib.Core.List.{List, []}
use Prim.Native.Nat.{ℕ, ◌^◌, ◌<◌}
use lib.ListN.{length, replicate}
use Rattle.std.specs.Prelude.{Result, Ok, IsOk}
use Rattle.std.specs.Result.{result_unwrap_or}
use Rattle.refusals.specs.declared.Refusal.{Refusal}
use Rattle.refusals.specs.Number.{refusal_of}
use Rattle.refusals.specs.Call.{Answered}
use Rattle.refusals.proofs.Number.{is_ok}
use Rattle.octets.specs.Octets.{AreOctets}
use Rattle.sboxes.specs.FiTable.{fi_table}
use Rattle.kasumi.specs.Kasumi.{kasumi}
use Rattle.kasumi.specs.Lent.{round_words, round_keys_call, ciphered_by}
use Rattle.kasumi.proofs.Calling.{round_keys_done}
use Rattle.kasumi.proofs.Lent.{ciphered_kasumi}

-- so the answer can be unwrapped, and what it holds are the keys of the rounds
module _ (key : List ℕ) (answer : Result (List ℕ) Refusal) (answered : Answered (round_keys_call key) (refusal_of answer) [] (result_unwrap_or answer (replicate 64 0))) (sixteen : length key ≡ 16) where
  pub keys_there : IsOk answer
  keys_there = is_ok answer (round_keys_done key answered sixteen).0

  keys_are : {words : List ℕ} → answer ≡ Ok words → words ≡ round_words key 8
  keys_are held =
      sym (ap (λ (a : Result (List ℕ) Refusal). result_unwrap_or a (replicate 64 0)) held) ∙ (round_keys_done key answered sixteen).1

  -- and by the table and those keys the cipher is KASUMI under the key
  pub ciphers : {table words : List ℕ} → table ≡ fi_table → answer ≡ Ok words → AreOctets key → (x : ℕ) → x < 2 ^ 64 → ciphered_by table words x ≡ kasumi key x
  ciphers table_is held octets x fits =
      ap₂ (λ (t w : List ℕ). ciphered_by t w x) table_is (keys_are held) ∙ ciphered_kasumi key octets x fits
