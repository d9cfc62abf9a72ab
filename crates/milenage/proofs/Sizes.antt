-- What the calls take, in numbers.
-- Assumes nothing.
use Prim.Native.Nat.{ℕ}
use mathlib.Core.Path.{◌≡◌}
use mathlib.Core.Bool.{true, ◌&&◌, and-eq-true_iff}
use mathlib.Core.List.{List}
use borrow.Author.Tests.{eq-eqb}
use lib.ListN.{length}
use Rattle.octets.proofs.Octets.{whole_key}
use Rattle.milenage.specs.Calls.{is_string, are_numbers}

pub string_size : (octets : List ℕ) → is_string octets ≡ true → length octets ≡ 16
unfolding is_string
string_size octets = (whole_key octets).0

pub two_sizes : (key op : List ℕ) → (is_string key && is_string op) ≡ true → (length key ≡ 16) × (length op ≡ 16)
two_sizes key op are = let each = (and-eq-true_iff (is_string key) (is_string op)).0 are in (string_size key each.0, string_size op each.1)

pub three_sizes : (key opc rand : List ℕ) → (is_string key && is_string opc && is_string rand) ≡ true
    → (length key ≡ 16) × ((length opc ≡ 16) × (length rand ≡ 16))
three_sizes key opc rand are =
    let each = (and-eq-true_iff (is_string key && is_string opc) (is_string rand)).0 are in
    let two = two_sizes key opc each.0 in
    (two.0, (two.1, string_size rand each.1))

-- ---- for the callers

pub is_string_lem : (octets : List ℕ) → length octets ≡ 16 → is_string octets ≡ true
unfolding is_string
is_string_lem octets = (whole_key octets).1

pub are_strings : (key opc rand : List ℕ) → length key ≡ 16 → length opc ≡ 16 → length rand ≡ 16 → (is_string key && is_string opc && is_string rand) ≡ true
are_strings key opc rand long-key long-opc long-rand = rw (is_string_lem key long-key, is_string_lem opc long-opc, is_string_lem rand long-rand)

pub are_numbers_lem : (sqn amf : List ℕ) → length sqn ≡ 6 → length amf ≡ 2 → are_numbers sqn amf ≡ true
unfolding are_numbers
are_numbers_lem sqn amf six two = rw (eq-eqb (length sqn) 6 six, eq-eqb (length amf) 2 two)
