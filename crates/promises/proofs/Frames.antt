-- Lists of frames: what holds of each holds of any of them, and where numbers rise a number tells its frame. Assumes nothing.
use Prim.Native.Nat.{ℕ, ◌<◌}
use native.Mathlib.Omega.{arith}
use mathlib.Core.Path.{◌≡◌, refl}
use mathlib.Core.List.{List, [], ◌∷◌}
use Rattle.promises.specs.Ends.{SentFrame, IsOneOf, here, there}
use Rattle.promises.specs.Promise3.{AllAbove, Rising}

module _ (P : SentFrame → Type 0) where
  -- it holds of each of these frames
  abbrev pub Each : List SentFrame → Type 0
  Each [] = Unit {0}
  Each (frame ∷ rest) = P frame × Each rest

  pub each_one : {frame : SentFrame} {frames : List SentFrame} → Each frames → IsOneOf frame frames → P frame
  each_one each here = each.0
  each_one each (there later) = each_one each.1 later

-- frames whose numbers are from n + 1 on are above n
pub all_above : {P : SentFrame → Type 0} (n : ℕ) (frames : List SentFrame) → ((frame : SentFrame) → P frame → n < frame.number) → Each P frames → AllAbove n frames
all_above n [] says each = tt
all_above n (frame ∷ rest) says each = (says frame each.0, all_above n rest says each.1)

pub above_one : {n : ℕ} {frame : SentFrame} {frames : List SentFrame} → AllAbove n frames → IsOneOf frame frames → n < frame.number
above_one above here = above.0
above_one above (there later) = above_one above.1 later

pub told_by_number : {one other : SentFrame} {frames : List SentFrame} → Rising frames → IsOneOf one frames → IsOneOf other frames → one.number ≡ other.number → one ≡ other
told_by_number rising here here same = refl
told_by_number rising here (there later) same = absurd (omega (arith, above_one rising.0 later, same))
told_by_number rising (there later) here same = absurd (omega (arith, above_one rising.0 later, same))
told_by_number rising (there one) (there other) same = told_by_number rising.1 one other same
