-- The laws of the shelf: what is put at a place is what is found there, and the other places are as they were.
-- Assumes nothing.
use Prim.Native.Nat.{ℕ, ◌≤◌, ◌<◌, min}
use native.Mathlib.Omega.{arith}
use mathlib.Core.Path.{◌≡◌, refl, ap, ◌∙◌}
use mathlib.Core.List.{List, [], ◌∷◌}
use lib.ListN.{length, take}
use lib.Seq.{take_at, get_or-set_same, get_or-set_other}
use Rattle.std.specs.Prelude.{Option, None}
use Rattle.refusals.specs.Call.{front}
use Rattle.demo.specs.declared.play.Frame.{Frame}
use Rattle.demo.specs.Ends.{frame_room, octets_kept, frame_kept, kept, shelved}

-- a frame that is kept is found again
octets_of_kept : (frame : List ℕ) → length frame ≤ 46 → octets_kept (kept frame) ≡ frame
unfolding front
octets_of_kept [] short = refl
octets_of_kept (octet ∷ rest) short =
    let size : min (length (octet ∷ rest)) 46 ≡ length (octet ∷ rest) = omega arith in
    ap (λ (n : ℕ). take n (front (octet ∷ rest) frame_room)) size ∙ take_at (octet ∷ rest) _ (length (octet ∷ rest)) refl

module _ (shelf : List (Option Frame)) (k : ℕ) (frame : List ℕ) where
  -- at the place itself stands the frame
  pub kept_there : k < 10 → length frame ≤ 46 → length shelf ≡ 10 → frame_kept (shelved shelf k frame) k ≡ frame
  unfolding frame_kept shelved
  kept_there place short whole =
      ap octets_kept (get_or-set_same shelf k (kept frame) None (omega arith)) ∙ octets_of_kept frame short

  pub kept_elsewhere : (j : ℕ) → (j ≡ k → ⊥) → frame_kept (shelved shelf k frame) j ≡ frame_kept shelf j
  unfolding frame_kept shelved
  kept_elsewhere j other = ap octets_kept (get_or-set_other shelf k j (kept frame) None other)
