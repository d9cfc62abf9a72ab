-- The gate equations of S7 and S9 in the form of 3GPP TS 35.202: x0 and y0 are the lowest bits, the exclusive or of
-- the terms is their sum modulo 2, and the and of bits is their product. Assumes nothing.
use Rattle.std.specs.Prelude.{ℕ, ◌+◌, ◌*◌, ◌%◌, List, [], ◌∷◌}
use Rattle.octets.specs.LowBits.{low_bit, weighed}

-- the gate equations of S7: the output bits y0 to y6 of the input bits x0 to x6
unfoldable pub gates7 : ℕ → ℕ → ℕ → ℕ → ℕ → ℕ → ℕ → List ℕ
gates7 x0 x1 x2 x3 x4 x5 x6 =
    (x1 * x3 + x4 + x0 * x1 * x4 + x5 + x2 * x5 + x3 * x4 * x5 + x6 + x0 * x6 + x1 * x6 + x3 * x6 + x2 * x4 * x6 + x1 * x5 * x6 + x4 * x5 * x6) % 2 ∷
    (x0 * x1 + x0 * x4 + x2 * x4 + x5 + x1 * x2 * x5 + x0 * x3 * x5 + x6 + x0 * x2 * x6 + x3 * x6 + x4 * x5 * x6 + 1) % 2 ∷
    (x0 + x0 * x3 + x2 * x3 + x1 * x2 * x4 + x0 * x3 * x4 + x1 * x5 + x0 * x2 * x5 + x0 * x6 + x0 * x1 * x6 + x2 * x6 + x4 * x6 + 1) % 2 ∷
    (x1 + x0 * x1 * x2 + x1 * x4 + x3 * x4 + x0 * x5 + x0 * x1 * x5 + x2 * x3 * x5 + x1 * x4 * x5 + x2 * x6 + x1 * x3 * x6) % 2 ∷
    (x0 * x2 + x3 + x1 * x3 + x1 * x4 + x0 * x1 * x4 + x2 * x3 * x4 + x0 * x5 + x1 * x3 * x5 + x0 * x4 * x5 + x1 * x6 + x3 * x6 + x0 * x3 * x6 + x5 * x6 + 1) % 2 ∷
    (x2 + x0 * x2 + x0 * x3 + x1 * x2 * x3 + x0 * x2 * x4 + x0 * x5 + x2 * x5 + x4 * x5 + x1 * x6 + x1 * x2 * x6 + x0 * x3 * x6 + x3 * x4 * x6 + x2 * x5 * x6 + 1) % 2 ∷
    (x1 * x2 + x0 * x1 * x3 + x0 * x4 + x1 * x5 + x3 * x5 + x6 + x0 * x1 * x6 + x2 * x3 * x6 + x1 * x4 * x6 + x0 * x5 * x6) % 2 ∷ []

-- the entry of S7 that the equations give
unfoldable pub s7_gates : ℕ → ℕ
s7_gates x = weighed (gates7 (low_bit x 0) (low_bit x 1) (low_bit x 2) (low_bit x 3) (low_bit x 4) (low_bit x 5) (low_bit x 6))

-- the gate equations of S9: the output bits y0 to y8 of the input bits x0 to x8
unfoldable pub gates9 : ℕ → ℕ → ℕ → ℕ → ℕ → ℕ → ℕ → ℕ → ℕ → List ℕ
gates9 x0 x1 x2 x3 x4 x5 x6 x7 x8 =
    (x0 * x2 + x3 + x2 * x5 + x5 * x6 + x0 * x7 + x1 * x7 + x2 * x7 + x4 * x8 + x5 * x8 + x7 * x8 + 1) % 2 ∷
    (x1 + x0 * x1 + x2 * x3 + x0 * x4 + x1 * x4 + x0 * x5 + x3 * x5 + x6 + x1 * x7 + x2 * x7 + x5 * x8 + 1) % 2 ∷
    (x1 + x0 * x3 + x3 * x4 + x0 * x5 + x2 * x6 + x3 * x6 + x5 * x6 + x4 * x7 + x5 * x7 + x6 * x7 + x8 + x0 * x8 + 1) % 2 ∷
    (x0 + x1 * x2 + x0 * x3 + x2 * x4 + x5 + x0 * x6 + x1 * x6 + x4 * x7 + x0 * x8 + x1 * x8 + x7 * x8) % 2 ∷
    (x0 * x1 + x1 * x3 + x4 + x0 * x5 + x3 * x6 + x0 * x7 + x6 * x7 + x1 * x8 + x2 * x8 + x3 * x8) % 2 ∷
    (x2 + x1 * x4 + x4 * x5 + x0 * x6 + x1 * x6 + x3 * x7 + x4 * x7 + x6 * x7 + x5 * x8 + x6 * x8 + x7 * x8 + 1) % 2 ∷
    (x0 + x2 * x3 + x1 * x5 + x2 * x5 + x4 * x5 + x3 * x6 + x4 * x6 + x5 * x6 + x7 + x1 * x8 + x3 * x8 + x5 * x8 + x7 * x8) % 2 ∷
    (x0 * x1 + x0 * x2 + x1 * x2 + x3 + x0 * x3 + x2 * x3 + x4 * x5 + x2 * x6 + x3 * x6 + x2 * x7 + x5 * x7 + x8 + 1) % 2 ∷
    (x0 * x1 + x2 + x1 * x2 + x3 * x4 + x1 * x5 + x2 * x5 + x1 * x6 + x4 * x6 + x7 + x2 * x8 + x3 * x8) % 2 ∷ []

-- the entry of S9 that the equations give
unfoldable pub s9_gates : ℕ → ℕ
s9_gates x = weighed (gates9 (low_bit x 0) (low_bit x 1) (low_bit x 2) (low_bit x 3) (low_bit x 4) (low_bit x 5) (low_bit x 6) (low_bit x 7) (low_bit x 8))
