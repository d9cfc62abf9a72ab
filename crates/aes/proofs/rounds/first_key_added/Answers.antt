-- `aes::rounds::first_key_added` meets its contract: the block's columns, each met by its word of the first round key.
-- Assumes nothing.
use Rattle.std.proofs.Common.{rules}
use Prim.Native.Nat.{ℕ, ◌+◌}
use native.Mathlib.Nat.{zero-add}
use mathlib.Core.Path.{◌≡◌, refl, sym, ap, ap₂, ◌∙◌}
use mathlib.Core.List.{List}
use lib.Bits.{bit_xor}
use lib.ListN.{get_or}
use Rattle.aes.specs.Aes.{State, state_of, key_word, add_round_key}
use Rattle.aes.specs.Columns.{column_of, columns_of}
use Rattle.aes.proofs.Made.{made_listed}
use Rattle.aes.proofs.States.{state_octets, block_column, add_column}
use Rattle.aes.proofs.rounds.first_key_added.Goals as goal

pub returns : goal.returns
unfolding columns_of
returns c =
    let words : List ℕ = c.args.words.now in
    let block : List ℕ = c.args.block.now in
    let s : State = state_of block in
    made_listed _ (λ p. (p.0.now ≡ block) × (p.1.now ≡ words)) (column_of (add_round_key words 0 s)) 4
    (λ p q i y below kept called.
    let met : y ≡ bit_xor (key_word block i) (get_or words i 0) = search rules in (
      (search rules, search rules),
      met
          ∙ ap₂ bit_xor (block_column block i below) (ap (λ (k : ℕ). get_or words k 0) (sym (zero-add i)))
          ∙ add_column words 0 s i (λ r row. state_octets block c.fits-block r i row below) (c.fits-words (0 + i)),
    ))
    _ _ (refl, refl) c.from_fn.ensures.items
