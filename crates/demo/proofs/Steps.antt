-- The laws of what is done for a line: a line shown, and each step.
-- Assumes nothing.
use Prim.Native.Nat.{ℕ, ◌-◌, ◌≤◌, ◌<◌}
use native.Mathlib.Omega.{arith}
use mathlib.Core.Path.{◌≡◌, refl, sym, ap, subst, ◌∙◌}
use mathlib.Core.Bool.{false}
use mathlib.Core.Logic.{inl, inr}
use mathlib.Core.List.{List, ◌∷◌, [], ◌++◌}
use lib.Dec.{lit≤}
use lib.ListN.{length, take, drop, drop_of_length-le}
use Rattle.std.specs.Prelude.{Option, None, Some, unwrap_or}
use Rattle.std.specs.Borrow.{Bor}
use Rattle.std.specs.Slice.{IsGetRangeResult}
use Rattle.std.proofs.lemmas.List.{take_rest}
use Rattle.refusals.specs.declared.Refusal.{Refusal}
use Rattle.refusals.specs.declared.Refusal.TheVariants.{Key, Range, Size, Room, Length, Version, Spare, Other, Start, End, Repeat, State, Reserve}
use Rattle.refusals.specs.Number.{number_of}
use Rattle.refusals.specs.Call.{Outcome, Answered}
use Rattle.refusals.proofs.Tests.{by-test}
use Rattle.lines.specs.Text.{is_hex, hex_order, hex_octets, octets_of_hex_call, decimal_text, AtFront, ended}
use Rattle.lines.specs.Hearing.{too_long}
use Rattle.lines.proofs.Callers.{put_done, hex_fits, hex_read}
use Rattle.lines.proofs.Placed.{written_text}
use Rattle.lines.proofs.Text.{length-hex_octets}
use Rattle.script.specs.declared.kinds.Why.{Why}
use Rattle.script.specs.declared.kinds.Why.TheVariants.{Long, Hex}
use Rattle.script.specs.Quoted.{quoted}
use Rattle.script.proofs.Lines.{is_long}
use Rattle.sender.specs.Sender.{Sealing}
use Rattle.receiver.specs.Receiver.{Opening}
use Rattle.demo.specs.declared.hosts.Phone.{Phone}
use Rattle.demo.specs.declared.hosts.Cell.{Cell}
use Rattle.demo.specs.declared.play.Frame.{Frame}
use Rattle.demo.specs.declared.play.Stage.{Stage}
use Rattle.demo.specs.Columns.{column, phone_text, phone_columns, number_text, answer_text, text_column, cell_columns, silent_columns}
use Rattle.demo.specs.Ends.{number_in, phone_answer, after_sealing, sealed_frame, phone_after, receiver_in, with_receiver, cell_answer, cell_after, opened_text, shelved}
use Rattle.demo.specs.Plugs.{with_phone, with_cell, cell_shown}
use Rattle.demo.specs.Rows.{silent_line}
use Rattle.demo.specs.Step.{Step, StepCall, reserved_on, expected_on}
use Rattle.demo.specs.Acts.{is_given, sealed_columns, handed_columns, handed_with, passing, losing, keeping, handing, noising, nothing, remarking, done_for, obeyed}

-- ---- what is done, once it is known what the phone and the cell answered

-- a line that was answered so
abbrev Says : List ℕ → ℕ → List ℕ → List ℕ → Type 0
Says before written after said = AtFront said before written after

module _ {before after : List ℕ} {written : ℕ} where
  -- what is done for a step is done for one that equals it
  pub stepped_as : {one other : Step} {then : Stage} → one ≡ other → StepCall one before then written after → StepCall other before then written after
  stepped_as {then = then} same call = subst (λ (s : Step). StepCall s before then written after) same call

  -- a line for which nothing is done
  pub remarked : (stage : Stage) (line : List ℕ) → Says before written after (ended line) → StepCall (remarking stage line) before stage written after
  unfolding remarking ended
  remarked stage line put = record { stage_is = refl; said_is = put }

  pub nothing_done : (stage : Stage) (why : Why) → Says before written after (nothing stage why).said → StepCall (nothing stage why) before stage written after
  unfolding nothing
  nothing_done stage why put = record { stage_is = refl; said_is = put }

  -- a line on which the cell is asked for nothing
  pub silent : {stage stage' : Stage} {phone phone' done done' : List ℕ} → stage ≡ stage' → phone ≡ phone' → done ≡ done'
      → Says before written after (silent_line stage phone done) → StepCall (record { stage = stage'; said = silent_line stage' phone' done' }) before stage written after
  silent stage_is phone_is done_is put = record { stage_is = stage_is; said_is = subst (Says before written after) (λ i. silent_line (stage_is i) (phone_is i) (done_is i)) put }

  -- and one on which the cell shows what it answered
  pub cell_step : {stage stage' : Stage} {refusal refusal' : ℕ} (done : List ℕ) → stage ≡ stage' → refusal ≡ refusal'
      → Says before written after (cell_shown stage refusal done).said → StepCall (cell_shown stage' refusal' done) before stage written after
  unfolding cell_shown
  cell_step done stage_is refusal_is put =
      record { stage_is = stage_is; said_is = subst (Says before written after) (λ i. (cell_shown (stage_is i) (refusal_is i) done).said) put }

  module _ (stage : Stage) where
    pub passed : (text : List ℕ) {sealed : Outcome Sealing} {phone : Phone} {then : Stage} {shown done octets : List ℕ} → sealed ≡ phone_answer stage.phone text
        → phone ≡ after_sealing stage.phone (phone_answer stage.phone text)
        → shown ≡ column (phone_text sealed.refusal (number_in sealed)) → done ≡ column (quoted "passed") → octets ≡ sealed_frame sealed
        → then ≡ record { phone = phone; cell = cell_after stage.cell octets; shelf = stage.shelf }
        → Says before written after ((shown ++ column (decimal_text sealed.lent.sender.reserved)) ++ (done ++ handed_columns (receiver_in stage.cell) octets))
        → StepCall (passing stage text) before then written after
    unfolding passing phone_columns
    passed text {sealed} is phone_is shown_is done_is frame_is then_is put =
        let frames = frame_is ∙ ap sealed_frame is in
        record {
          stage_is = then_is ∙ (λ i. record { phone = phone_is i; cell = cell_after stage.cell (frames i); shelf = stage.shelf });
          said_is =
              subst (Says before written after)
              ((λ i. (shown_is i ++ column (decimal_text sealed.lent.sender.reserved)) ++ (done_is i ++ handed_columns (receiver_in stage.cell) (frame_is i)))
              ∙ ap (λ (s : Outcome Sealing). sealed_columns s ++ (column (quoted "passed") ++ handed_columns (receiver_in stage.cell) (sealed_frame s))) is)
              put;
        }

    pub lost : (count : ℕ) {earlier phone : Phone} {sealed : Outcome Sealing} {shown done : List ℕ} → earlier ≡ phone_after (count - 1) stage.phone
        → sealed ≡ phone_answer earlier (quoted "lost") → phone ≡ after_sealing earlier (phone_answer earlier (quoted "lost"))
        → shown ≡ column (phone_text sealed.refusal (number_in sealed)) → done ≡ column (quoted "lost " ++ decimal_text count)
        → Says before written after ((shown ++ column (decimal_text sealed.lent.sender.reserved)) ++ (done ++ silent_columns (expected_on stage)))
        → StepCall (losing stage count) before (with_phone stage phone) written after
    unfolding losing phone_columns
    lost count {sealed = sealed} earlier_is sealed_is phone_is shown_is done_is put =
        let is = sealed_is ∙ ap (λ (p : Phone). phone_answer p (quoted "lost")) earlier_is in
        record {
          stage_is = λ i. with_phone stage ((phone_is ∙ ap (λ (p : Phone). after_sealing p (phone_answer p (quoted "lost"))) earlier_is) i);
          said_is =
              subst (Says before written after)
              ((λ i. (shown_is i ++ column (decimal_text sealed.lent.sender.reserved)) ++ (done_is i ++ silent_columns (expected_on stage)))
              ∙ ap (λ (s : Outcome Sealing). sealed_columns s ++ (column (quoted "lost " ++ decimal_text count) ++ silent_columns (expected_on stage))) is)
              put;
        }

    pub kept_so : (k : ℕ) (text : List ℕ) {sealed : Outcome Sealing} {phone : Phone} {shelf : List (Option Frame)} {shown done : List ℕ} → sealed ≡ phone_answer stage.phone text
        → phone ≡ after_sealing stage.phone (phone_answer stage.phone text) → shelf ≡ shelved stage.shelf k (sealed_frame sealed)
        → shown ≡ column (phone_text sealed.refusal (number_in sealed)) → done ≡ column (quoted "kept " ++ decimal_text k)
        → Says before written after ((shown ++ column (decimal_text sealed.lent.sender.reserved)) ++ (done ++ silent_columns (expected_on stage)))
        → StepCall (keeping stage k text) before (record { phone = phone; cell = stage.cell; shelf = shelf }) written after
    unfolding keeping phone_columns
    kept_so k text {sealed} is phone_is shelf_is shown_is done_is put = record {
      stage_is = λ i. record {
        phone = phone_is i;
        cell = stage.cell;
        shelf = (shelf_is ∙ ap (λ (s : Outcome Sealing). shelved stage.shelf k (sealed_frame s)) is) i;
      };
      said_is =
          subst (Says before written after)
          ((λ i. (shown_is i ++ column (decimal_text sealed.lent.sender.reserved)) ++ (done_is i ++ silent_columns (expected_on stage)))
          ∙ ap (λ (s : Outcome Sealing). sealed_columns s ++ (column (quoted "kept " ++ decimal_text k) ++ silent_columns (expected_on stage))) is)
          put;
    }

    pub handed : (phone done octets : List ℕ) {answer : Outcome Opening} {cell : Cell} {number shown text : List ℕ} → answer ≡ cell_answer (receiver_in stage.cell) octets
        → cell ≡ with_receiver stage.cell answer.lent.receiver
        → number ≡ column (number_text (is_given answer.refusal) (number_in answer)) → shown ≡ column (answer_text answer.refusal) → text ≡ opened_text answer
        → Says before written after
        ((phone ++ column (decimal_text (reserved_on stage)))
        ++ (done ++ (number ++ (shown ++ (column (decimal_text answer.lent.receiver.numbering.next) ++ text_column text)))))
        → StepCall (handed_with stage phone done octets) before (with_cell stage cell) written after
    unfolding handed_columns cell_columns
    handed phone done octets {answer} is cell_is number_is shown_is text_is put = record {
      stage_is = λ i. with_cell stage ((cell_is ∙ ap (λ (o : Outcome Opening). with_receiver stage.cell o.lent.receiver) is) i);
      said_is =
          subst (Says before written after)
          ((λ i. (phone ++ column (decimal_text (reserved_on stage)))
          ++ (done ++ (number_is i ++ (shown_is i ++ (column (decimal_text answer.lent.receiver.numbering.next) ++ text_column (text_is i))))))
          ∙ ap (λ (o : Outcome Opening). (phone ++ column (decimal_text (reserved_on stage)))
          ++ (done ++ (column (number_text (is_given o.refusal) (number_in o)) ++ (column (answer_text o.refusal) ++ (column (decimal_text o.lent.receiver.numbering.next) ++ text_column (opened_text o)))))) is)
          put;
    }

-- what stands from a place of the line on; nothing where the line ends before it
pub rest_from : (line : List ℕ) (from : ℕ) (got : Option (Bor (List ℕ))) (nothing : Bor (List ℕ)) {rest : Bor (List ℕ)} → IsGetRangeResult line from (length line) got
    → nothing.now ≡ [] → rest ≡ unwrap_or got nothing → rest.now ≡ drop from line
rest_from line from None nothing is empty rest_is =
    let short : length line ≤ from = elim is.0 [
      | inl past ↦ omega (arith, past)
      | inr past ↦ omega (arith, past)
    ] in
    ap (λ (b : Bor (List ℕ)). b.now) rest_is ∙ empty ∙ sym (drop_of_length-le line short)
rest_from line from (Some part) nothing is empty rest_is = ap (λ (b : Bor (List ℕ)). b.now) rest_is ∙ is.0.2 ∙ take_rest line from

-- the number is given with no other refusal
pub not_given : (refusal : Refusal) → (refusal ≡ Repeat → ⊥) → (refusal ≡ Room → ⊥) → is_given (number_of refusal) ≡ false
not_given Key repeat room = refl
not_given Range repeat room = refl
not_given Size repeat room = refl
not_given Room repeat room = absurd (room refl)
not_given Length repeat room = refl
not_given Version repeat room = refl
not_given Spare repeat room = refl
not_given Other repeat room = refl
not_given Start repeat room = refl
not_given End repeat room = refl
not_given Repeat repeat room = absurd (repeat refl)
not_given State repeat room = refl
not_given Reserve repeat room = refl

module _ (stage : Stage) where
  -- pairs of hex digits in a line are few enough for the room that they are lent
  module _ (text : List ℕ) (few : length text ≤ 48) (before : List ℕ) (room : length before ≡ 46) {after : List ℕ} {refusal count : ℕ}
      (answered : Answered (octets_of_hex_call text before) refusal (count ∷ []) after) where
    pub noise_none : (refusal ≡ 0 → ⊥) → nothing stage Hex ≡ noising stage text
    unfolding noising
    noise_none refused =
        by-test (is_hex text) (nothing stage Hex ≡ noising stage text)
        (λ good. absurd (refused (hex_fits text before answered good (omega (arith, length-hex_octets text)))))
        (λ bad. rw bad)

    pub noise_some : refusal ≡ 0 → handing stage (take count after) ≡ noising stage text
    unfolding noising
    noise_some done =
        ap (handing stage) (written_text (put_done (hex_order text before) (hex_octets text) before answered done)) ∙ rw (hex_read text before answered done)

-- for a line that is too long nothing is done
pub long_nothing : (stage : Stage) (line : List ℕ) → 48 < length line → nothing stage Long ≡ obeyed stage line
unfolding obeyed
long_nothing stage line long = ap (done_for stage line) (is_long line long)

pub long_done : (stage : Stage) → nothing stage Long ≡ obeyed stage too_long
unfolding too_long
long_done stage = long_nothing stage too_long (lit≤ tt)
