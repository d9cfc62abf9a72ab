-- `aes::rounds::last_round` meets its contract: four columns, each met by its word of the last round key.
-- Assumes nothing.
use Rattle.std.proofs.Common.{rules}
use Prim.Native.Nat.{ℕ, ◌+◌, ◌%◌}
use mathlib.Core.Path.{◌≡◌, refl, ap, ◌∙◌}
use mathlib.Core.List.{List}
use lib.Bits.{bit_xor}
use lib.ListN.{get_or}
use Rattle.aes.specs.Aes.{State, sub_bytes, shift_rows, add_round_key, last_round}
use Rattle.aes.specs.Columns.{column_of, columns_of, held, gathered}
use Rattle.aes.proofs.Made.{made_listed}
use Rattle.aes.proofs.States.{held_octets, shifted_octets, shifted_column, add_column}
use Rattle.aes.proofs.rounds.last_round.Goals as goal

pub returns : goal.returns
unfolding last_round columns_of
returns c =
    let words : List ℕ = c.args.words.now in
    let x : List ℕ = c.args.x in
    let s : State = shift_rows (sub_bytes (held x)) in
    made_listed _ (λ p. (p.0.now ≡ x) × (p.1.now ≡ words)) (column_of (add_round_key words 10 s)) 4
    (λ p q i y below kept called.
    let met : y
    ≡ bit_xor (column_of (gathered (get_or x i 0) (get_or x ((i + 1) % 4) 0) (get_or x ((i + 2) % 4) 0) (get_or x ((i + 3) % 4) 0)) 0)
    (get_or words (40 + i) 0) = search rules in (
      (search rules, search rules),
      met
          ∙ ap (λ (w : ℕ). bit_xor w (get_or words (40 + i) 0)) (shifted_column x i below)
          ∙ add_column words 10 s i (λ r row. shifted_octets (held x) (held_octets x) r i row below) (c.fits-words (40 + i)),
    ))
    _ _ (refl, refl) c.from_fn.ensures.items
