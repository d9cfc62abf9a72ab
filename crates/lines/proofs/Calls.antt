-- How a program meets the contracts of hearing: what it has to show where there is no room, at a line feed, at any other octet and at the input's end.
-- Assumes nothing.
use Prim.Native.Nat.{ℕ, ◌≤◌, ◌<◌}
use mathlib.Core.Path.{◌≡◌, refl}
use mathlib.Core.List.{List}
use borrow.Author.Tests.{eq-eqb, ne_eqb, le-leb, lt-leb}
use lib.ListN.{length, take}
use Rattle.lines.specs.declared.Heard.{Heard}
use Rattle.lines.specs.Text.{AtFront}
use Rattle.lines.specs.Hearing.{silence, kept, too_long, heard_line, Rules, Standing, hearing, heard_answer, said, last_said, HearCall, FinishCall}
use Rattle.lines.proofs.Placed.{at_front_nothing}
use Rattle.lines.proofs.Text.{put_short, put_fits}

-- the line heard, where it is kept whole, and where it is too long
pub line_kept : (heard : Heard) → heard.count ≤ 160 → heard_line heard ≡ take heard.count heard.octets
unfolding heard_line
line_kept heard short = rw (le-leb heard.count 160 short)

pub line_too_long : (heard : Heard) → 160 < heard.count → heard_line heard ≡ too_long
unfolding heard_line
line_too_long heard long = rw (lt-leb heard.count 160 long)

module _ {S : Type 0} (rules : Rules S) (at : Standing S) {before : List ℕ} where
  -- where there is no room nothing happens
  pub hear_no_room : (octet : ℕ) → length before < rules.room → HearCall rules at octet before 4 at 0 before
  hear_no_room octet short = record { said_is = put_short rules.room before _ short; then_is = refl }

  pub finish_no_room : length before < rules.room → FinishCall rules at before 4 0 before
  finish_no_room short = record { said_is = put_short rules.room before _ short }

  module _ (room : rules.room ≤ length before) where
    -- a line feed has the line heard answered, and a new one begins
    pub hear_feed : {octet : ℕ} {then : Standing S} {written : ℕ} {after : List ℕ} → octet ≡ 10
        → then ≡ record { state = rules.after at.state (heard_line at.heard); heard = silence }
        → AtFront (rules.answer at.state (heard_line at.heard)) before written after → HearCall rules at octet before 0 then written after
    unfolding hearing said heard_answer
    hear_feed feed is put = record { said_is = rw (eq-eqb _ _ feed) (put_fits rules.room before room put); then_is = rw (eq-eqb _ _ feed) is }

    -- any other octet is kept
    pub hear_other : {octet : ℕ} {then : Standing S} → (octet ≡ 10 → ⊥)
        → then ≡ record { state = at.state; heard = kept at.heard octet } → HearCall rules at octet before 0 then 0 before
    unfolding hearing said
    hear_other other is = record { said_is = rw (ne_eqb _ _ other) (put_fits rules.room before room (at_front_nothing before)); then_is = rw (ne_eqb _ _ other) is }

    -- at the end nothing is answered where nothing was heard, and else the last line
    pub finish_empty : at.heard.count ≡ 0 → FinishCall rules at before 0 0 before
    unfolding last_said
    finish_empty none = record { said_is = rw (eq-eqb _ _ none) (put_fits rules.room before room (at_front_nothing before)) }

    pub finish_line : {written : ℕ} {after : List ℕ} → (at.heard.count ≡ 0 → ⊥)
        → AtFront (rules.answer at.state (heard_line at.heard)) before written after → FinishCall rules at before 0 written after
    unfolding last_said heard_answer
    finish_line some put = record { said_is = rw (ne_eqb _ _ some) (put_fits rules.room before room put) }
