-- `aes::rounds::round` meets its contract: four columns, each met by its word of the round key.
-- Assumes nothing.
use Rattle.std.proofs.Common.{rules}
use Prim.Native.Nat.{ℕ, ◌+◌, ◌*◌, ◌%◌}
use mathlib.Core.Path.{◌≡◌, refl, ap, ◌∙◌}
use mathlib.Core.List.{List}
use lib.Bits.{bit_xor}
use lib.ListN.{get_or}
use Rattle.aes.specs.Aes.{State, sub_bytes, shift_rows, mix_columns, add_round_key, round}
use Rattle.aes.specs.Columns.{column_of, columns_of, held, gathered}
use Rattle.aes.proofs.Made.{made_listed}
use Rattle.aes.proofs.States.{held_octets, mixed_octets, shifted_mixed_column, add_column}
use Rattle.aes.proofs.rounds.round.Goals as goal

pub returns : goal.returns
unfolding round columns_of
returns c =
    let words : List ℕ = c.args.words.now in
    let n : ℕ = c.args.n in
    let x : List ℕ = c.args.x in
    let s : State = mix_columns (shift_rows (sub_bytes (held x))) in
    made_listed _ (λ p. (p.0.now ≡ x) × ((p.1.now ≡ words) × (p.2.now ≡ n))) (column_of (add_round_key words n s)) 4
    (λ p q i y below kept called.
    let met : y
    ≡ bit_xor (column_of (mix_columns (gathered (get_or x i 0) (get_or x ((i + 1) % 4) 0) (get_or x ((i + 2) % 4) 0) (get_or x ((i + 3) % 4) 0))) 0)
    (get_or words (4 * n + i) 0) = search rules in (
      (search rules, (search rules, search rules)),
      met
          ∙ ap (λ (w : ℕ). bit_xor w (get_or words (4 * n + i) 0)) (shifted_mixed_column x i below)
          ∙ add_column words n s i (λ r row. mixed_octets (held x) (held_octets x) r i row below) (c.fits-words (4 * n + i)),
    ))
    _ _ (refl, (refl, refl)) c.from_fn.ensures.items
