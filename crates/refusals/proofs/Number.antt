-- Each refusal has its own number, which is not 0; and what a caller learns from the number of an answer. Assumes nothing.
use native.Mathlib.Omega.{arith}
use Prim.Native.Nat.{ℕ}
use mathlib.Core.Path.{◌≡◌, refl, sym, ap, ◌∙◌}
use mathlib.Core.Bool.{cond}
use lib.Dec.{eqb}
use Rattle.std.specs.Prelude.{Result, Ok, Err, IsOk}
use Rattle.refusals.specs.declared.Refusal.{Refusal}
use Rattle.refusals.specs.declared.Refusal.TheVariants.{Key, Range, Size, Room, Length, Version, Spare, Other, Start, End, Repeat, State, Reserve}
use Rattle.refusals.specs.declared.Refused.{Refused}
use Rattle.refusals.specs.Number.{number_of, refusal_of, refused_of}

-- no refusal has the number 0
pub number_some : (refusal : Refusal) → number_of refusal ≡ 0 → ⊥
number_some Key none = omega (arith, none)
number_some Range none = omega (arith, none)
number_some Size none = omega (arith, none)
number_some Room none = omega (arith, none)
number_some Length none = omega (arith, none)
number_some Version none = omega (arith, none)
number_some Spare none = omega (arith, none)
number_some Other none = omega (arith, none)
number_some Start none = omega (arith, none)
number_some End none = omega (arith, none)
number_some Repeat none = omega (arith, none)
number_some State none = omega (arith, none)
number_some Reserve none = omega (arith, none)

-- an answer with the number 0 is there to be unwrapped
pub is_ok : {T : Type 0} (answer : Result T Refusal) → refusal_of answer ≡ 0 → IsOk answer
is_ok (Ok made) none = refl
is_ok (Err refusal) none = absurd (number_some refusal none)

-- and so is one that may give the candidate with its refusal
pub is_numbered : {T : Type 0} (answer : Result T Refused) → refused_of answer ≡ 0 → IsOk answer
is_numbered (Ok made) none = refl
is_numbered (Err refused) none = absurd (number_some refused.refusal none)

-- the refusal of a number of the table
abbrev with_number : ℕ → Refusal
with_number n =
    cond (eqb n 1) Key (
    cond (eqb n 2) Range (
    cond (eqb n 3) Size (
    cond (eqb n 4) Room (
    cond (eqb n 5) Length (
    cond (eqb n 6) Version (
    cond (eqb n 7) Spare (
    cond (eqb n 8) Other (
    cond (eqb n 9) Start (
    cond (eqb n 10) End (
    cond (eqb n 11) Repeat (
    cond (eqb n 12) State (
    Reserve))))))))))))

number_back : (refusal : Refusal) → with_number (number_of refusal) ≡ refusal
number_back Key = refl
number_back Range = refl
number_back Size = refl
number_back Room = refl
number_back Length = refl
number_back Version = refl
number_back Spare = refl
number_back Other = refl
number_back Start = refl
number_back End = refl
number_back Repeat = refl
number_back State = refl
number_back Reserve = refl

-- each refusal has a number of its own
pub number_own : (one other : Refusal) → number_of one ≡ number_of other → one ≡ other
number_own one other same = sym (number_back one) ∙ ap with_number same ∙ number_back other
