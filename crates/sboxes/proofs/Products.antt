-- S9 by products: at each product of input bits stands one number, whose bit i is set where the equation of yi has that product, and an entry is the
-- exclusive or of the numbers whose product is 1. Numbers that pass one test over the whole table give each entry. Assumes nothing.
use Prim.Native.Nat.{ℕ, zero, suc, ◌*◌, ◌%◌, ◌<◌}
use mathlib.Core.Path.{◌≡◌}
use mathlib.Core.Bool.{Bool}
use mathlib.Core.List.{List, [], ◌∷◌}
use lib.Dec.{T, eqb, eqb→eq}
use lib.Bits.{bit_and, bit_xor}
use lib.ListN.{get_or}
use Rattle.refusals.proofs.Tests.{all, at_place}
use Rattle.octets.specs.LowBits.{low_bit}
use Rattle.sboxes.specs.Tables.{s9, s9_table}

-- bit k of x, at all places of a word; for bit 0 nothing is divided off
unfoldable pub spread : ℕ → ℕ → ℕ
spread x zero = x % 2 * 65535
spread x (suc k) = low_bit x (suc k) * 65535

-- a sum, and the numbers that stand with bit j and the bits after it
unfoldable pub with_bits : ℕ → ℕ → ℕ → List ℕ → ℕ
with_bits x j sum [] = sum
with_bits x j sum (number ∷ numbers) = with_bits x (suc j) (bit_xor sum (bit_and (spread x j) number)) numbers

-- what a row gives where its own bit is 1: the numbers that stand with the bits below it, and the one that stands alone
unfoldable pub of_row : ℕ → List ℕ → ℕ
of_row x [] = 0
of_row x (alone ∷ []) = alone
of_row x (alone ∷ number ∷ numbers) = bit_xor (with_bits x 1 (bit_and (spread x 0) number) numbers) alone

-- a sum, and the rows of bit k and the bits after it
unfoldable pub of_rows : ℕ → ℕ → ℕ → List (List ℕ) → ℕ
of_rows x k sum [] = sum
of_rows x k sum (row ∷ rows) = of_rows x (suc k) (bit_xor sum (bit_and (spread x k) (of_row x row))) rows

-- all rows, from that of bit 0 on, and the number of the constant 1
unfoldable pub entry : ℕ → List (List ℕ) → ℕ → ℕ
entry x [] always = always
entry x (row ∷ rows) always = bit_xor (of_rows x 1 (bit_and (spread x 0) (of_row x row)) rows) always

-- whether the rows give y for x
abbrev gives : List (List ℕ) → ℕ → ℕ → ℕ → Bool
gives rows always x y = eqb (entry x rows always) y

-- one test over the whole table, and the lemma at each entry
pub s9_products : (rows : List (List ℕ)) (always : ℕ) → T (all (gives rows always) 0 s9_table) → (x : ℕ) → x < 512 → entry x rows always ≡ s9 x
unfolding s9 s9_table
s9_products rows always held x l = eqb→eq (entry x rows always) (get_or s9_table x 0) (at_place (gives rows always) s9_table 0 held x l)
