-- The bits of a number counted from the lowest, as gate equations and polynomials count them. Assumes nothing.
use Rattle.std.specs.Prelude.{ℕ, ◌+◌, ◌*◌, ◌/◌, ◌%◌, ◌^◌, List, [], ◌∷◌}

-- bit i of a number, bit 0 the lowest
abbrev pub low_bit : ℕ → ℕ → ℕ
low_bit x i = x / 2 ^ i % 2

-- the number of the given bits, the lowest first
abbrev pub weighed : List ℕ → ℕ
weighed [] = 0
weighed (y ∷ ys) = y + 2 * weighed ys
