-- A run of the calls: `hear` for each octet of the input, then `finish`. It writes the answers to the lines of the input. Assumes nothing.
use Prim.Native.Nat.{ℕ, ◌≤◌}
use native.Mathlib.Nat.{le_refl}
use mathlib.Core.Path.{◌≡◌, refl, sym, ap, ap₂, subst, ◌∙◌}
use mathlib.Core.List.{List, [], ◌∷◌, ◌++◌, append_assoc}
use lib.ListN.{length, take, replicate, length-replicate}
use Rattle.refusals.specs.Call.{Answered, front}
use Rattle.refusals.proofs.Calls.{done}
use Rattle.lines.specs.Text.{room_order, puts_text}
use Rattle.lines.specs.declared.Heard.{Heard}
use Rattle.lines.specs.Hearing.{silence, Rules, Standing, line_rules, standing, hearing, said, last_said, heard_after, say_call, HearCall}
use Rattle.lines.specs.Lines.{lines_of, answers, Run, finished, heard_one}
use Rattle.lines.proofs.Callers.{room_done}
use Rattle.lines.proofs.Hearing.{said_by, LongAlike, said_is_answers}
use Rattle.lines.proofs.Placed.{written_text}
use Rattle.lines.proofs.Text.{room_enough}

-- where a text had the room that was asked, it is what stands at the front
pub with_room : (room : ℕ) (text before : List ℕ) {refusal written : ℕ} {after : List ℕ}
    → Answered (puts_text (room_order room before) text before) refusal (written ∷ []) after → room ≤ length before → take written after ≡ text
with_room room text before answered enough = written_text (room_done room text before answered enough).1

module _ {S : Type 0} (rules : Rules S) where
  -- ---- what is written

  -- where there is room, the octet is heard
  pub then_hearing : {at then : Standing S} {octet refusal written : ℕ} {before after : List ℕ} → rules.room ≤ length before
      → HearCall rules at octet before refusal then written after → then ≡ hearing rules at octet
  then_hearing room call = call.then_is ∙ rw (room_done rules.room _ _ call.said_is room).0

  -- a run writes what is said to its input
  run_said : {at : Standing S} {input output : List ℕ} → Run rules at input output → output ≡ said_by rules at input ++ last_said rules (heard_after rules at input)
  unfolding said_by heard_after
  run_said (finished room call) = with_room rules.room _ _ call.said_is room
  run_said (heard_one {at = at} {octet = octet} {rest = rest} room call more) =
      ap₂ (λ (a b : List ℕ). a ++ b) (with_room rules.room _ _ call.said_is room) (run_said more)
      ∙ ap (λ (s : Standing S). said rules at octet ++ (said_by rules s rest ++ last_said rules (heard_after rules s rest))) (then_hearing room call)
      ∙ sym (append_assoc (said rules at octet) (said_by rules (hearing rules at octet) rest) (last_said rules (heard_after rules (hearing rules at octet) rest)))

  -- a whole run, from a state and silence on, writes the answers to the lines of its input
  pub run_writes_answers : LongAlike rules → {at : Standing S} {input output : List ℕ} (state : S)
      → at ≡ record { state = state; heard = silence } → Run rules at input output → output ≡ answers rules state (lines_of input)
  run_writes_answers alike {input = input} state begun run =
      run_said run ∙ ap (λ (s : Standing S). said_by rules s input ++ last_said rules (heard_after rules s input)) begun ∙ said_is_answers rules alike state input

  -- ---- there is such a run, from everywhere and for every input

  room_for_all : List ℕ
  room_for_all = replicate rules.room 0

  has_room : rules.room ≤ length room_for_all
  unfolding room_for_all
  has_room = subst (λ (n : ℕ). rules.room ≤ n) (sym (length-replicate {A = ℕ} rules.room 0)) (le_refl rules.room)

  -- a call with that room
  some_call : (text : List ℕ) → Answered (say_call rules text room_for_all) 0 (length text ∷ []) (front text room_for_all)
  some_call text = done (say_call rules text room_for_all) (room_enough rules.room room_for_all has_room)

  pub some_run : (at : Standing S) (input : List ℕ) → (output : List ℕ) × Run rules at input output
  some_run at [] = (_, finished has_room (record { said_is = some_call (last_said rules at) }))
  some_run at (octet ∷ rest) =
      (_, heard_one has_room (record { said_is = some_call (said rules at octet); then_is = refl }) (some_run (hearing rules at octet) rest).1)

-- a whole run by rules where an answer goes by its line alone
pub run_by_lines : (text_of : List ℕ → List ℕ) (room : ℕ) → LongAlike (line_rules text_of room) → {heard : Heard} {input output : List ℕ}
    → heard ≡ silence → Run (line_rules text_of room) (standing heard) input output → output ≡ answers (line_rules text_of room) tt (lines_of input)
run_by_lines text_of room alike begun run = run_writes_answers (line_rules text_of room) alike tt (ap standing begun) run
