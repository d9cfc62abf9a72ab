-- What the three do: the phone seals, the cell opens, and the box keeps frames on a shelf; and what is stored of the phone and of the cell. What
-- sealing, opening, storing and restoring answer is said in the crates `sender`, `receiver` and `stored`. Assumes nothing.
use Rattle.std.specs.Prelude.{ℕ, zero, suc, ◌+◌, min, ◌≡◌, Bool, true, false, cond, ◌&&◌, List, [], ◌∷◌, eqb, leb, length, get_or, take, set, replicate, Option, None, Some, unwrap_or, Result}
use Rattle.refusals.specs.declared.Refusal.{Refusal}
use Rattle.refusals.specs.declared.Refused.{Refused}
use Rattle.refusals.specs.Number.{refusal_of, refused_of}
use Rattle.refusals.specs.Call.{Outcome, outcome, Answered, front}
use Rattle.script.specs.Quoted.{quoted}
use Rattle.numbering.specs.Numbering.{width, end}
use Rattle.link.specs.declared.Link.{Link}
use Rattle.link.specs.Link.{link_of, no_link}
use Rattle.sender.specs.declared.Sender.{Sender}
use Rattle.sender.specs.declared.Sealed.{Sealed}
use Rattle.sender.specs.Sender.{ahead, new_sender, reserve_call, Sealing, seal_call}
use Rattle.sender.specs.Sealed.{number_in as Sealed·number_in, size_in as Sealed·size_in}
use Rattle.receiver.specs.declared.Receiver.{Receiver}
use Rattle.receiver.specs.declared.Opened.{Opened}
use Rattle.receiver.specs.Opened.{number_in as Opened·number_in, size_in as Opened·size_in}
use Rattle.receiver.specs.Receiver.{new_receiver, Opening, open_call}
use Rattle.stored.specs.Ends.{store_sender_call, restore_sender_call, store_receiver_call, restore_receiver_call}
use Rattle.demo.specs.declared.hosts.Phone.{Phone}
use Rattle.demo.specs.declared.hosts.Cell.{Cell}
use Rattle.demo.specs.declared.hosts.Keeper.{Keeper}
use Rattle.demo.specs.declared.hosts.Keeper.TheVariants.{Bench, Script}
use Rattle.demo.specs.declared.play.Frame.{Frame}

-- the key of the demonstration is an example that everybody may know: it keeps nothing secret
unfoldable pub example_key : List ℕ
example_key = 0 ∷ 1 ∷ 2 ∷ 3 ∷ 4 ∷ 5 ∷ 6 ∷ 7 ∷ 8 ∷ 9 ∷ 10 ∷ 11 ∷ 12 ∷ 13 ∷ 14 ∷ 15 ∷ []

-- the link on which both ends are opened: the offset is not 0, so that a mistake with it would be seen
unfoldable pub example_link : Link
example_link = link_of example_key 0x0123_4567 3 0

-- what each frame and each payload is lent: room for a text of 40 octets in its frame
unfoldable pub frame_room : List ℕ
frame_room = replicate 46 0

-- of what sealing or opening answers: the number, and the octets handed out, which stand at the front of the output
abbrev pub number_in : {Lent : Type 0} → Outcome Lent → ℕ
number_in answer = get_or answer.numbers 0 0

abbrev pub octets_in : {Lent : Type 0} → Outcome Lent → List ℕ → List ℕ
octets_in answer output = take (get_or answer.numbers 1 0) output

-- ---- an end, and none where its plug is pulled

-- an end that goes on as another; without its plug it stays none
abbrev pub goes_on : {E : Type 0} → Option E → E → Option E
goes_on None other = None
goes_on (Some before) other = Some other

-- the end that was made; none where it was refused
abbrev pub made : {E : Type 0} → Outcome E → Option E
made answer = cond (eqb answer.refusal 0) (Some answer.lent) None

-- ---- the phone and its stored form

-- the sender that a phone is; without its plug it is one that cannot arise, with which every call answers 12
abbrev pub sender_in : Phone → Sender
sender_in phone = unwrap_or phone.sender (new_sender no_link)

-- whether the bench keeps the phone's reservation ahead by itself
abbrev pub is_by_bench : Keeper → Bool
is_by_bench Bench = true
is_by_bench Script = false

-- a phone that goes on as another end of its link
abbrev pub with_sender : Phone → Sender → Phone
with_sender phone sender = record { sender = goes_on phone.sender sender; form = phone.form; keeper = phone.keeper }

-- what storing the phone with a reservation answers, and the phone stored so: a form is stored whole, or the one before it stays
abbrev pub store_answer : Phone → ℕ → Outcome (List ℕ)
store_answer phone reserved = outcome (store_sender_call (sender_in phone) reserved phone.form)

unfoldable pub stored_phone : Phone → ℕ → Phone
stored_phone phone reserved = record { sender = phone.sender; form = (store_answer phone reserved).lent; keeper = phone.keeper }

-- what making the phone from its stored form answers, and the phone made so
abbrev pub restart_answer : Phone → Outcome Sender
restart_answer phone = outcome (restore_sender_call phone.form)

unfoldable pub restarted_phone : Phone → Phone
restarted_phone phone = record { sender = made (restart_answer phone); form = phone.form; keeper = phone.keeper }

-- what the phone answers when it is told the reservation of its stored form, at which a restart would stand; and the phone told so
abbrev pub tell_answer : Phone → Outcome Sender
tell_answer phone = outcome (reserve_call (sender_in phone) (restart_answer phone).lent.reserved)

unfoldable pub told_phone : Phone → Phone
told_phone phone = with_sender phone (tell_answer phone).lent

-- the phone without its plug: it is no sender any more
unfoldable pub cut_phone : Phone → Phone
cut_phone phone = record { sender = None; form = phone.form; keeper = phone.keeper }

-- the phone whose reservation the bench keeps ahead by itself: where the next number is not below it, the form with a reservation 64 above that
-- number, 2^27 at most, is stored, and then the phone told it
unfoldable pub kept_ahead : Phone → Phone
kept_ahead phone =
    cond (is_by_bench phone.keeper && leb (sender_in phone).reserved (sender_in phone).next)
    (told_phone (stored_phone phone (min ((sender_in phone).next + ahead) end)))
    phone

-- the phone at the start: newly opened, and stored with the reservation 0
unfoldable pub new_phone : Phone
new_phone = stored_phone (record { sender = Some (new_sender example_link); form = replicate 29 0; keeper = Bench }) 0

-- ---- the phone seals

-- what the phone answers to a text, its reservation kept ahead
abbrev pub phone_answer : Phone → List ℕ → Outcome Sealing
phone_answer phone text = outcome (seal_call (sender_in (kept_ahead phone)) text frame_room)

-- the phone after a text that it answered so
abbrev pub after_sealing : Phone → Outcome Sealing → Phone
after_sealing phone answer = with_sender (kept_ahead phone) answer.lent.sender

-- the frame of a text; a text that is refused has none
abbrev pub sealed_frame : Outcome Sealing → List ℕ
sealed_frame answer = octets_in answer answer.lent.output

-- the phone after sealing so many frames with the text `lost`
unfoldable pub phone_after : ℕ → Phone → Phone
phone_after zero phone = phone
phone_after (suc times) phone = after_sealing (phone_after times phone) (phone_answer (phone_after times phone) (quoted "lost"))

-- a text sealed: what the phone answers with what it is lent for the frame, and the phone afterwards
pub record SealCall (phone : Phone) (text before : List ℕ) (sealed : Result Sealed Refusal) (then : Phone) (after : List ℕ) : Type 0 where
  pub answered : Answered (seal_call (sender_in (kept_ahead phone)) text before) (refusal_of sealed) (Sealed·number_in sealed ∷ Sealed·size_in sealed ∷ []) (record { sender = sender_in then; output = after })
  pub phone_is : then ≡ with_sender (kept_ahead phone) (sender_in then)

-- ---- the cell and its stored form

-- the receiver that a cell is; without its plug it is one that cannot arise
abbrev pub receiver_in : Cell → Receiver
receiver_in cell = unwrap_or cell.receiver (new_receiver no_link)

-- a cell that goes on as another end of its link
abbrev pub with_receiver : Cell → Receiver → Cell
with_receiver cell receiver = record { receiver = goes_on cell.receiver receiver; form = cell.form }

-- what storing the cell answers, and the cell stored so: a form is stored whole, or the one before it stays
abbrev pub store_cell_answer : Cell → Outcome (List ℕ)
store_cell_answer cell = outcome (store_receiver_call width (receiver_in cell) cell.form)

unfoldable pub stored_cell : Cell → Cell
stored_cell cell = record { receiver = cell.receiver; form = (store_cell_answer cell).lent }

-- what making the cell from its stored form answers, and the cell made so
abbrev pub restart_cell_answer : Cell → Outcome Receiver
restart_cell_answer cell = outcome (restore_receiver_call width cell.form)

unfoldable pub restarted_cell : Cell → Cell
restarted_cell cell = record { receiver = made (restart_cell_answer cell); form = cell.form }

-- the cell without its plug: it is no receiver any more
unfoldable pub cut_cell : Cell → Cell
cut_cell cell = record { receiver = None; form = cell.form }

-- the cell at the start: newly opened, and stored so
unfoldable pub new_cell : Cell
new_cell = stored_cell (record { receiver = Some (new_receiver example_link); form = replicate 33 0 })

-- ---- the cell opens

-- what the cell answers to what it is handed
abbrev pub cell_answer : Receiver → List ℕ → Outcome Opening
cell_answer cell octets = outcome (open_call width cell octets frame_room)

-- the cell after what it is handed
abbrev pub cell_after : Cell → List ℕ → Cell
cell_after cell octets = with_receiver cell (cell_answer (receiver_in cell) octets).lent.receiver

-- the text that the cell hands out; nothing where it refuses
abbrev pub opened_text : Outcome Opening → List ℕ
opened_text answer = octets_in answer answer.lent.output

-- octets handed to the cell: what it answers with what it is lent for the text, and the cell afterwards
pub record OpenCall (cell : Cell) (octets before : List ℕ) (opened : Result Opened Refused) (then : Cell) (after : List ℕ) : Type 0 where
  pub answered : Answered (open_call width (receiver_in cell) octets before) (refused_of opened) (Opened·number_in opened ∷ Opened·size_in opened ∷ []) (record { receiver = receiver_in then; output = after })
  pub cell_is : then ≡ with_receiver cell (receiver_in then)

-- ---- the box

-- nothing on the shelf
unfoldable pub empty_shelf : List (Option Frame)
empty_shelf = replicate 10 None

-- the octets of a frame that is kept; at an empty place there are none
abbrev pub octets_kept : Option Frame → List ℕ
octets_kept None = []
octets_kept (Some frame) = take (min frame.size 46) frame.octets

-- the frame kept at place k
unfoldable pub frame_kept : List (Option Frame) → ℕ → List ℕ
frame_kept shelf k = octets_kept (get_or shelf k None)

-- how a frame is kept; no frame leaves the place empty
abbrev pub kept : List ℕ → Option Frame
kept [] = None
kept (octet ∷ rest) = Some (record { octets = front (octet ∷ rest) frame_room; size = length (octet ∷ rest) })

-- the shelf with a frame put at place k, in place of what was there
unfoldable pub shelved : List (Option Frame) → ℕ → List ℕ → List (Option Frame)
shelved shelf k frame = set shelf k (kept frame)
