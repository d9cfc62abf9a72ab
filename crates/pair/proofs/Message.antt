-- What f8 and f9 take, in numbers.
-- Assumes nothing.
use Prim.Native.Nat.{ℕ, ◌≤◌, ◌<◌}
use mathlib.Core.Path.{◌≡◌}
use mathlib.Core.Bool.{true, and-eq-true_iff}
use borrow.Author.Tests.{leb-true, ltb-true}
use lib.Dec.{leb, ltb}
use Rattle.pair.specs.Message.{is_bit_count}

pub some_bits : (bits : ℕ) → is_bit_count bits ≡ true → 0 < bits
unfolding is_bit_count
some_bits bits is = ltb-true 0 bits ((and-eq-true_iff (ltb 0 bits) (leb bits 20000)).0 is).0

pub most_bits : (bits : ℕ) → is_bit_count bits ≡ true → bits ≤ 20000
unfolding is_bit_count
most_bits bits is = leb-true bits 20000 ((and-eq-true_iff (ltb 0 bits) (leb bits 20000)).0 is).1
