-- The laws of the ends: what sealing and opening hand out fits the room that they are lent, both ends at the start, and both without their plugs.
-- Assumes nothing.
use Prim.Native.Nat.{ℕ, ◌+◌, ◌≤◌, ◌<◌, min}
use native.Mathlib.Numerals.{add-one}
use native.Mathlib.Nat.{not-suc-le-zero}
use native.Mathlib.Omega.{arith}
use mathlib.Core.Path.{◌≡◌, refl, sym, ap, ap₂, subst, ◌∙◌}
use Rattle.std.specs.Prelude.{Result, Ok, Err, Option, Some, unwrap_or, option_map}
use Rattle.std.specs.Result.{result_unwrap_or, result_ok, result_and}
use mathlib.Core.Bool.{Bool, false, cond, ◌&&◌}
use mathlib.Core.List.{List, [], ◌∷◌}
use borrow.Author.Tests.{eqb-true, eqb-false, ltb-false, ne_eqb, le-leb, lt-leb}
use lib.Dec.{eqb, leb}
use lib.ListN.{length, take}
use Rattle.refusals.specs.declared.Refusal.{Refusal}
use Rattle.refusals.specs.declared.Refused.{Refused}
use Rattle.refusals.specs.Refusal.{first, row_at}
use Rattle.refusals.specs.Number.{number_of, refusal_of, refused_of}
use Rattle.refusals.specs.Call.{Call, Outcome, outcome, Answered, front}
use Rattle.refusals.proofs.Calls.{determined, is_outcome, answered_done, refused, refused_zeros}
use Rattle.refusals.proofs.Number.{number_some}
use Rattle.refusals.proofs.Tests.{by-test}
use Rattle.script.specs.Quoted.{quoted}
use Rattle.keystreams.specs.Key.{is_key}
use Rattle.numbering.specs.Numbering.{width, end, candidate_order}
use Rattle.frames.specs.Frame.{payload_of, look_order}
use Rattle.lines.proofs.Text.{take-front}
use Rattle.link.specs.Link.{is_service, is_direction, link_can_arise, link_order, no_link, frame_at}
use Rattle.link.proofs.Frames.{length-frame_at}
use Rattle.sender.specs.declared.Sender.{Sender}
use Rattle.sender.specs.declared.Sealed.{Sealed}
use Rattle.sender.specs.Sealed.{number_in, size_in}
use Rattle.sender.specs.Sender.{ahead, Sealing, new_sender, sender_can_arise, open_sender_call, reserve_order, reserve_call, seal_order, seal_call}
use Rattle.receiver.specs.declared.Receiver.{Receiver}
use Rattle.receiver.specs.declared.Opened.{Opened}
use Rattle.receiver.specs.Opened.{number_in as Opened·number_in, size_in as Opened·size_in}
use Rattle.receiver.specs.Receiver.{Opening, new_receiver, receiver_can_arise, open_receiver_call, open_order, open_call}
use Rattle.stored.specs.Ends.{store_sender_order, store_sender_call, store_receiver_order, store_receiver_call}
use Rattle.demo.specs.declared.hosts.Phone.{Phone}
use Rattle.demo.specs.declared.hosts.Cell.{Cell}
use Rattle.demo.specs.declared.hosts.Keeper.{Keeper}
use Rattle.demo.specs.declared.hosts.Keeper.TheVariants.{Bench, Script}
use Rattle.demo.specs.Ends.{example_key, example_link, frame_room, kept, goes_on, made, sender_in, is_by_bench, with_sender, store_answer, stored_phone, restart_answer, tell_answer, told_phone, kept_ahead, phone_answer, after_sealing, phone_after, SealCall, receiver_in, store_cell_answer, stored_cell, OpenCall}

-- of two numbers the second
second_is : {m n m' n' : ℕ} → m ∷ n ∷ [] ≡ m' ∷ n' ∷ [] → n ≡ n'
second_is same = cc

-- a frame that is sealed has room
module _ (phone : Sender) (text : List ℕ) {refusal number size : ℕ} {lent : Sealing} (answered : Answered (seal_call phone text frame_room) refusal (number ∷ size ∷ []) lent) where
  roomy : refusal ≡ 0 → length text + 6 ≤ 46
  unfolding seal_order frame_room row_at
  roomy done = ltb-false 46 (length text + 6) (((determined (seal_call phone text frame_room) tt).refuses answered).none.0 done 4)

  pub sealed_fits : size ≤ 46
  sealed_fits =
      by-test (eqb refusal 0) (size ≤ 46)
      (λ done.
      let none = eqb-true refusal 0 done in
      omega (arith, roomy none, second_is (answered_done (seal_call phone text frame_room) answered (sym answered.refusal_is ∙ none)).1))
      (λ refused. omega (arith, second_is (refused_zeros (seal_call phone text frame_room) answered (eqb-false refusal 0 refused))))

-- a frame that the box keeps is the frame that was sealed
kept_some : (frame : List ℕ) → 0 < length frame → Some (record { octets = front frame frame_room; size = length frame }) ≡ kept frame
kept_some [] some = absurd (not-suc-le-zero some)
kept_some (octet ∷ rest) some = refl

pub kept_sealed : (phone : Sender) (text : List ℕ) {then : Sender} {output : List ℕ} (sealed : Result Sealed Refusal)
    → Answered (seal_call phone text frame_room) (refusal_of sealed) (number_in sealed ∷ size_in sealed ∷ []) (record { sender = then; output = output })
    → option_map (λ (s : Sealed). record { octets = output; size = s.size }) (result_ok sealed) ≡ kept (take (size_in sealed) output)
kept_sealed phone text {output = output} (Ok sealed) answered =
    let is = answered_done (seal_call phone text frame_room) answered (sym answered.refusal_is) in
    let frame : List ℕ = frame_at phone.link phone.next text in
    let size_is : sealed.size ≡ length frame = second_is is.1 ∙ sym (length-frame_at phone.link phone.next text) in
    let output_is : output ≡ front frame frame_room = ap (λ (s : Sealing). s.output) is.2 in
    (λ i. Some (record { octets = output_is i; size = size_is i }))
    ∙ kept_some frame (omega (arith, length-frame_at phone.link phone.next text))
    ∙ ap kept (sym (take-front frame frame_room))
    ∙ sym (ap₂ (λ (n : ℕ) (l : List ℕ). kept (take n l)) size_is output_is)
kept_sealed phone text (Err refusal) answered = refl

-- and so has a payload that is opened
module _ (cell : Receiver) (octets : List ℕ) {refusal number size : ℕ} {lent : Opening} (answered : Answered (open_call width cell octets frame_room) refusal (number ∷ size ∷ []) lent) where
  spacious : refusal ≡ 0 → length (payload_of octets) ≤ 46
  unfolding open_order look_order candidate_order frame_room row_at
  spacious done = ltb-false 46 (length (payload_of octets)) (((determined (open_call width cell octets frame_room) tt).refuses answered).none.0 done 8)

  pub opened_fits : size ≤ 46
  opened_fits =
      by-test (eqb refusal 0) (size ≤ 46)
      (λ done.
      let none = eqb-true refusal 0 done in
      omega (arith, spacious none, second_is (answered_done (open_call width cell octets frame_room) answered (sym answered.refusal_is ∙ none)).1))
      (λ refused. omega (arith, second_is (refused_zeros (open_call width cell octets frame_room) answered (eqb-false refusal 0 refused))))

-- the phone afterwards, once it is known what it answered
pub sealed_phone : (phone : Phone) {text before : List ℕ} {sealed : Result Sealed Refusal} {then : Phone} {after : List ℕ} {answer : Outcome Sealing}
    → SealCall phone text before sealed then after
    → record { refusal = refusal_of sealed; numbers = number_in sealed ∷ size_in sealed ∷ []; lent = record { sender = sender_in then; output = after } } ≡ answer
    → then ≡ after_sealing phone answer
sealed_phone phone call is = call.phone_is ∙ ap (after_sealing phone) is

-- ---- what an end answers, and the end afterwards, with its plug or without it

module _ (phone : Phone) {plug : Option Sender} where
  pub store_meets : (reserved : ℕ) {refusal : ℕ} {form : List ℕ} → phone.sender ≡ plug
      → Answered (store_sender_call (unwrap_or plug (new_sender no_link)) reserved phone.form) refusal [] form
      → record {
        answered : refusal ≡ (store_answer phone reserved).refusal;
        phone : record { sender = phone.sender; form = form; keeper = phone.keeper } ≡ stored_phone phone reserved;
      }
  unfolding stored_phone
  store_meets reserved {refusal} {form} plugged answered =
      let all = subst (λ (s : Option Sender). Answered (store_sender_call (unwrap_or s (new_sender no_link)) reserved phone.form) refusal [] form) (sym plugged) answered in
      let is = is_outcome (store_sender_call (sender_in phone) reserved phone.form) all in
      record { answered = λ i. (is i).refusal; phone = λ i. record { sender = phone.sender; form = (is i).lent; keeper = phone.keeper } }

  pub tell_meets : {reserved refusal : ℕ} {told : Sender} {sender : Option Sender} → phone.sender ≡ plug → reserved ≡ (restart_answer phone).lent.reserved
      → Answered (reserve_call (unwrap_or plug (new_sender no_link)) reserved) refusal [] told → sender ≡ goes_on plug told
      → record {
        answered : refusal ≡ (tell_answer phone).refusal;
        phone : record { sender = sender; form = phone.form; keeper = phone.keeper } ≡ told_phone phone;
      }
  unfolding told_phone
  tell_meets {reserved} {refusal} {told} plugged reserved_is answered goes =
      let all = subst (λ (s : Option Sender). Answered (reserve_call (unwrap_or s (new_sender no_link)) reserved) refusal [] told) (sym plugged) answered in
      let is = is_outcome (reserve_call (sender_in phone) reserved) all ∙ ap (λ (n : ℕ). outcome (reserve_call (sender_in phone) n)) reserved_is in
      let sender_is = goes ∙ sym (ap (λ (s : Option Sender). goes_on s told) plugged) ∙ ap (λ (o : Outcome Sender). goes_on phone.sender o.lent) is in
      record { answered = λ i. (is i).refusal; phone = λ i. record { sender = sender_is i; form = phone.form; keeper = phone.keeper } }

  -- here `plug` is what the phone has after its reservation was kept ahead
  pub seal_meets : {ahead : Phone} {text before : List ℕ} {sealed : Result Sealed Refusal} {then : Sender} {sender : Option Sender} {after : List ℕ} → ahead ≡ kept_ahead phone
      → ahead.sender ≡ plug
      → Answered (seal_call (unwrap_or plug (new_sender no_link)) text before) (refusal_of sealed) (number_in sealed ∷ size_in sealed ∷ []) (record { sender = then; output = after })
      → sender ≡ goes_on plug then → unwrap_or (goes_on plug then) (new_sender no_link) ≡ then
      → SealCall phone text before sealed (record { sender = sender; form = ahead.form; keeper = ahead.keeper }) after
  seal_meets {ahead} {text} {before} {sealed} {then} {sender} {after} is plugged answered goes same =
      let then_is : then ≡ unwrap_or sender (new_sender no_link) = sym same ∙ sym (ap (λ (s : Option Sender). unwrap_or s (new_sender no_link)) goes) in
      record {
        answered =
            subst (λ (s : Sender). Answered (seal_call s text before) (refusal_of sealed) (number_in sealed ∷ size_in sealed ∷ []) (record { sender = unwrap_or sender (new_sender no_link); output = after }))
            (ap (λ (s : Option Sender). unwrap_or s (new_sender no_link)) (sym plugged) ∙ ap sender_in is)
            (subst (λ (s : Sender). Answered (seal_call (unwrap_or plug (new_sender no_link)) text before) (refusal_of sealed) (number_in sealed ∷ size_in sealed ∷ []) (record { sender = s; output = after })) then_is answered);
        phone_is =
            (λ i. record { sender = (goes ∙ ap₂ goes_on (sym plugged) then_is) i; form = ahead.form; keeper = ahead.keeper })
            ∙ ap (λ (p : Phone). with_sender p (unwrap_or sender (new_sender no_link))) is;
      }

module _ (cell : Cell) {plug : Option Receiver} (plugged : cell.receiver ≡ plug) where
  pub store_cell_meets : {refusal : ℕ} {form : List ℕ} → Answered (store_receiver_call width (unwrap_or plug (new_receiver no_link)) cell.form) refusal [] form
      → record { answered : refusal ≡ (store_cell_answer cell).refusal; cell : record { receiver = cell.receiver; form = form } ≡ stored_cell cell }
  unfolding stored_cell
  store_cell_meets {refusal} {form} answered =
      let all = subst (λ (r : Option Receiver). Answered (store_receiver_call width (unwrap_or r (new_receiver no_link)) cell.form) refusal [] form) (sym plugged) answered in
      let is = is_outcome (store_receiver_call width (receiver_in cell) cell.form) all in
      record { answered = λ i. (is i).refusal; cell = λ i. record { receiver = cell.receiver; form = (is i).lent } }

  pub open_meets : {octets before : List ℕ} {opened : Result Opened Refused} {then : Receiver} {receiver : Option Receiver} {after : List ℕ}
      → Answered (open_call width (unwrap_or plug (new_receiver no_link)) octets before) (refused_of opened) (Opened·number_in opened ∷ Opened·size_in opened ∷ []) (record { receiver = then; output = after })
      → receiver ≡ goes_on plug then → unwrap_or (goes_on plug then) (new_receiver no_link) ≡ then
      → OpenCall cell octets before opened (record { receiver = receiver; form = cell.form }) after
  open_meets {octets} {before} {opened} {then} {receiver} {after} answered goes same =
      let then_is : then ≡ unwrap_or receiver (new_receiver no_link) = sym same ∙ sym (ap (λ (r : Option Receiver). unwrap_or r (new_receiver no_link)) goes) in
      record {
        answered =
            subst (λ (r : Option Receiver). Answered (open_call width (unwrap_or r (new_receiver no_link)) octets before) (refused_of opened) (Opened·number_in opened ∷ Opened·size_in opened ∷ []) (record { receiver = unwrap_or receiver (new_receiver no_link); output = after }))
            (sym plugged)
            (subst (λ (r : Receiver). Answered (open_call width (unwrap_or plug (new_receiver no_link)) octets before) (refused_of opened) (Opened·number_in opened ∷ Opened·size_in opened ∷ []) (record { receiver = r; output = after })) then_is answered);
        cell_is = λ i. record { receiver = (goes ∙ ap₂ goes_on (sym plugged) then_is) i; form = cell.form };
      }

-- an end that is made from its stored form
module _ {End : Type 0} (call : Call End) (none : End) where
  pub made_meets : (restored : Result End Refusal) → Answered call (refusal_of restored) [] (result_unwrap_or restored none)
      → (refusal_of (result_and restored (Ok (tt {0}))) ≡ (outcome call).refusal) × (result_ok restored ≡ made (outcome call))
  made_meets (Ok end) answered =
      let is = is_outcome call answered in
      (ap (λ (o : Outcome End). o.refusal) is, ap made is)
  made_meets (Err refusal) answered =
      let is = is_outcome call answered in
      (ap (λ (o : Outcome End). o.refusal) is, rw (ne_eqb (number_of refusal) 0 (number_some refusal)) refl ∙ ap made is)

-- a reservation that is kept ahead, and a phone that needs none
module _ (phone : Phone) where
  -- the phone kept ahead, by who sees to its reservation and by whether it is behind
  kept_by : Keeper → Bool → Phone
  kept_by keeper behind = cond (is_by_bench keeper && behind) (told_phone (stored_phone phone (min ((sender_in phone).next + ahead) end))) phone

  pub kept_ahead_lem : phone.keeper ≡ Bench → (sender_in phone).reserved ≤ (sender_in phone).next
      → told_phone (stored_phone phone (min ((sender_in phone).next + ahead) end)) ≡ kept_ahead phone
  unfolding kept_ahead kept_by
  kept_ahead_lem bench behind = sym (ap₂ kept_by bench (le-leb (sender_in phone).reserved (sender_in phone).next behind))

  pub kept_by_script : phone.keeper ≡ Script → phone ≡ kept_ahead phone
  unfolding kept_ahead kept_by
  kept_by_script script = sym (ap (λ (k : Keeper). kept_by k (leb (sender_in phone).reserved (sender_in phone).next)) script)

  pub kept_as_is : phone.keeper ≡ Bench → (sender_in phone).next < (sender_in phone).reserved → phone ≡ kept_ahead phone
  unfolding kept_ahead kept_by
  kept_as_is bench above = sym (ap₂ kept_by bench (lt-leb (sender_in phone).reserved (sender_in phone).next above))

-- no frame is lost, and one frame more
pub phone_none : (phone : Phone) → phone ≡ phone_after 0 phone
unfolding phone_after
phone_none phone = refl

pub phone_next : (times : ℕ) (phone : Phone)
    → after_sealing (phone_after times phone) (phone_answer (phone_after times phone) (quoted "lost")) ≡ phone_after (times + 1) phone
unfolding phone_after
phone_next times phone = rw (add-one times)

-- ---- the ends at the start

no_refusal : first (link_order example_key 3 0) ≡ 0
unfolding first link_order is_key is_service is_direction example_key
no_refusal = refl

pub phone_start : (opened : Result Sender Refusal)
    → Answered (open_sender_call example_key 0x0123_4567 3 0) (refusal_of opened) [] (result_unwrap_or opened (new_sender no_link))
    → result_ok opened ≡ Some (new_sender example_link)
unfolding example_link
phone_start (Ok phone) answered = ap (λ (s : Sender). Some s) (answered_done (open_sender_call example_key 0x0123_4567 3 0) answered no_refusal).2
phone_start (Err refusal) answered = absurd (number_some refusal (answered.refusal_is ∙ no_refusal))

pub cell_start : (opened : Result Receiver Refusal)
    → Answered (open_receiver_call example_key 0x0123_4567 3 0) (refusal_of opened) [] (result_unwrap_or opened (new_receiver no_link))
    → result_ok opened ≡ Some (new_receiver example_link)
unfolding example_link
cell_start (Ok cell) answered = ap (λ (r : Receiver). Some r) (answered_done (open_receiver_call example_key 0x0123_4567 3 0) answered no_refusal).2
cell_start (Err refusal) answered = absurd (number_some refusal (answered.refusal_is ∙ no_refusal))

-- ---- the ends without their plugs: every call is refused with 12

no_sender : sender_can_arise (new_sender no_link) ≡ false
unfolding sender_can_arise link_can_arise is_service is_direction new_sender no_link
no_sender = refl

no_receiver : receiver_can_arise width (new_receiver no_link) ≡ false
unfolding receiver_can_arise link_can_arise is_service is_direction new_receiver no_link
no_receiver = refl

twelve : ◌≡◌ {A = ℕ} 12 0 → ⊥
twelve e = omega (arith, e)

pub no_sender_stored : (reserved : ℕ) (form : List ℕ) → Answered (store_sender_call (new_sender no_link) reserved form) 12 [] form
unfolding first store_sender_order reserve_order
no_sender_stored reserved form = refused (store_sender_call (new_sender no_link) reserved form) 12 (rw no_sender) twelve

pub no_sender_told : (reserved : ℕ) → Answered (reserve_call (new_sender no_link) reserved) 12 [] (new_sender no_link)
unfolding first reserve_order
no_sender_told reserved = refused (reserve_call (new_sender no_link) reserved) 12 (rw no_sender) twelve

pub no_sender_seals : (text output : List ℕ) → Answered (seal_call (new_sender no_link) text output) 12 (0 ∷ 0 ∷ []) (record { sender = new_sender no_link; output = output })
unfolding first seal_order
no_sender_seals text output = refused (seal_call (new_sender no_link) text output) 12 (rw no_sender) twelve

pub no_receiver_stored : (form : List ℕ) → Answered (store_receiver_call width (new_receiver no_link) form) 12 [] form
unfolding first store_receiver_order
no_receiver_stored form = refused (store_receiver_call width (new_receiver no_link) form) 12 (rw no_receiver) twelve

pub no_receiver_opens : (octets output : List ℕ) → Answered (open_call width (new_receiver no_link) octets output) 12 (0 ∷ 0 ∷ []) (record { receiver = new_receiver no_link; output = output })
unfolding first open_order
no_receiver_opens octets output = refused (open_call width (new_receiver no_link) octets output) 12 (rw no_receiver) twelve
