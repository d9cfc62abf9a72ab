-- The laws of a text at the front of an output, and of a text from a place on.
-- Assumes nothing.
use Prim.Native.Nat.{ℕ, ◌+◌, ◌-◌, ◌≤◌, ◌<◌}
use native.Mathlib.Nat.{zero-add}
use native.Mathlib.Omega.{arith}
use mathlib.Core.Path.{◌≡◌, refl, sym, ap, ap₂, subst, ◌∙◌}
use mathlib.Core.List.{List, [], ◌∷◌, ◌++◌, append_assoc, append-nil}
use lib.ListN.{length, take, drop, set, length-append, length-drop, drop_of_length-le}
use lib.Seq.{sets, drop-drop, length-take-le, take-length, take-append_seam, drop-append-add, take_at, drop_at}
use Rattle.std.specs.Prelude.{Result, IsOk}
use Rattle.std.specs.Result.{result_unwrap_or}
use Rattle.refusals.specs.declared.Refusal.{Refusal}
use Rattle.refusals.specs.Call.{Answered, front}
use Rattle.refusals.specs.Number.{refusal_of}
use Rattle.octets.proofs.Listed.{front_store}
use Rattle.lines.specs.Text.{put_text_call, AtFront, Added}
use Rattle.lines.proofs.Callers.{room_done, room_ok}
use Rattle.lines.proofs.Text.{take-front, stored_front}

-- what is written at the front is the text
pub written_text : {text before : List ℕ} {written : ℕ} {after : List ℕ} → AtFront text before written after → take written after ≡ text
written_text {text} {before} put = ap₂ (λ (n : ℕ) (l : List ℕ). take n l) put.written_is put.output_is ∙ take-front text before

-- nothing is written
pub at_front_nothing : (before : List ℕ) → AtFront [] before 0 before
unfolding front
at_front_nothing before = record { written_is = refl; output_is = refl }

-- octets stored one after the other
pub at_front_stored : (text before : List ℕ) (written : ℕ) → written ≡ length text → length text ≤ length before → AtFront text before written (sets before 0 text)
at_front_stored text before written long room = record { written_is = long; output_is = stored_front text before room }

-- a text copied
pub at_front_copied : (text before : List ℕ) {after : List ℕ} → after ≡ take (length text) text ++ drop (length text) before → AtFront text before (length text) after
unfolding front
at_front_copied text before is =
    record { written_is = refl; output_is = is ∙ ap (λ (l : List ℕ). l ++ drop (length text) before) (take-length text) }

-- a text that is the answer, put by a call that had room
pub at_front_put : (text before : List ℕ) {refusal count : ℕ} {after answer : List ℕ}
    → Answered (put_text_call text before) refusal (count ∷ []) after → length text ≤ length before → text ≡ answer → AtFront answer before count after
at_front_put text before {count = count} {after} answered room is =
    subst (λ (l : List ℕ). AtFront l before count after) is (room_done (length text) text before answered room).1

-- one octet more
pub at_front_octet : {text before : List ℕ} {size : ℕ} {after : List ℕ} (octet : ℕ)
    → AtFront text before size after → length text < length before → AtFront (text ++ octet ∷ []) before (size + 1) (set after size octet)
unfolding front
at_front_octet {text} {before} {size} {after} octet put room = record {
  written_is = simp length-append (omega (arith, put.written_is));
  output_is =
      ap₂ (λ (l : List ℕ) (n : ℕ). set l n octet) put.output_is put.written_is
      ∙ front_store text before (length text) octet refl room
      ∙ ap (λ (n : ℕ). (text ++ octet ∷ []) ++ drop n before) (sym (length-append text (octet ∷ [])));
}

-- ---- a text from a place on

-- a text put at the front of what lies from the place on, which is lent as `&mut output[place..]`
pub added_put : (before : List ℕ) (place : ℕ) (text : List ℕ) {refusal count : ℕ} {last : List ℕ}
    → Answered (put_text_call text (take (length before - place) (drop place before))) refusal (count ∷ []) last → place + length text ≤ length before
    → Added text before place (place + count) (take place before ++ (last ++ drop (length before - place) (drop place before)))
unfolding front
added_put before place text answered room =
    let from : length (drop place before) ≡ length before - place = length-drop place before in
    let whole : take (length before - place) (drop place before) ≡ drop place before = ap (λ (n : ℕ). take n (drop place before)) (sym from) ∙ take-length (drop place before) in
    let put = (room_done (length text) text _ answered (rw whole (omega arith))).1 in
    record {
      end_is = ap (λ (n : ℕ). place + n) put.written_is;
      output_is =
          ap (λ (l : List ℕ). take place before ++ l)
          (ap₂ (λ (a b : List ℕ). a ++ b) (put.output_is ∙ ap (front text) whole) (drop_of_length-le (drop place before) {i = length before - place} (omega arith))
          ∙ append-nil (front text (drop place before))
          ∙ ap (λ (l : List ℕ). text ++ l) (drop-drop (length text) place before));
    }

-- such a call has the room, and its answer is there to be unwrapped
pub added_ok : (before : List ℕ) (place : ℕ) (text : List ℕ) (answer : Result ℕ Refusal) {last : List ℕ}
    → Answered (put_text_call text (take (length before - place) (drop place before))) (refusal_of answer) (result_unwrap_or answer 0 ∷ []) last
    → place + length text ≤ length before → IsOk answer
added_ok before place text answer answered room =
    room_ok (length text) text _ answer answered
    (omega (arith, length-take-le (length before - place) (drop place before) (omega (arith, length-drop place before))))

-- the output keeps its length
pub length_added : {text before : List ℕ} {place end : ℕ} {after : List ℕ} → Added text before place end after → place + length text ≤ length before → length after ≡ length before
length_added {text} {before} {place} added room =
    ap length added.output_is ∙ simp (length-append, length-drop) (omega (arith, length-take-le place before (omega arith)))

-- one octet more
pub added_octet : {text before : List ℕ} {place end : ℕ} {after : List ℕ} (octet : ℕ)
    → Added text before place end after → end < length before → Added (text ++ octet ∷ []) before place (end + 1) (set after end octet)
added_octet {text} {before} {place} {end} {after} octet added room =
    let long : length (take place before ++ text) ≡ place + length text =
    length-append (take place before) text ∙ ap (λ (n : ℕ). n + length text) (length-take-le place before (omega (arith, added.end_is))) in
    let more : place + length text + 1 ≡ place + length (text ++ octet ∷ []) = omega (arith, length-append text (octet ∷ [])) in
    record {
      end_is = omega (arith, added.end_is);
      output_is =
          ap₂ (λ (l : List ℕ) (n : ℕ). set l n octet) (added.output_is ∙ sym (append_assoc (take place before) text _)) added.end_is
          ∙ front_store (take place before ++ text) before (place + length text) octet long (omega (arith, added.end_is))
          ∙ ap₂ (λ (l : List ℕ) (n : ℕ). l ++ drop n before) (append_assoc (take place before) text (octet ∷ [])) more
          ∙ append_assoc (take place before) (text ++ octet ∷ []) (drop (place + length (text ++ octet ∷ [])) before);
    }

-- a text put from where another ends goes on with it
pub added_more : {a b before middle after : List ℕ} {place end last : ℕ} → place + length a ≤ length before → Added a before place end middle
    → Added b middle end last after → Added (a ++ b) before place last after
added_more {a} {b} {before} {middle} {after} {place} {end} room one other =
    let head : length (take place before) ≡ place = length-take-le place before (omega arith) in
    let sofar : List ℕ = take place before ++ a in
    let kept : List ℕ = drop (place + length a) before in
    let long : length sofar ≡ end = simp length-append (omega (arith, one.end_is)) in
    let both : place + length a + length b ≡ place + length (a ++ b) = simp length-append (omega arith) in
    let is : middle ≡ sofar ++ kept = one.output_is ∙ sym (append_assoc (take place before) a kept) in
    record {
      end_is = simp length-append (omega (arith, one.end_is, other.end_is));
      output_is =
          other.output_is
          ∙ ap₂ (λ (p q : List ℕ). p ++ (b ++ q))
          (ap (take end) is ∙ take_at sofar kept end long)
          (sym (drop-drop (length b) end middle) ∙ ap (λ (l : List ℕ). drop (length b) (drop end l)) is ∙ ap (drop (length b)) (drop_at sofar kept end long)
          ∙ drop-drop (length b) (place + length a) before ∙ ap (λ (n : ℕ). drop n before) both)
          ∙ append_assoc (take place before) a (b ++ drop (place + length (a ++ b)) before)
          ∙ ap (λ (l : List ℕ). take place before ++ l) (sym (append_assoc a b (drop (place + length (a ++ b)) before)));
    }

-- from place 0 on it is an answer
pub at_front_added : {text before : List ℕ} {end : ℕ} {after : List ℕ} → Added text before 0 end after → AtFront text before end after
unfolding front
at_front_added {text} {before} added = record {
  written_is = omega (arith, added.end_is);
  output_is = added.output_is ∙ ap (λ (n : ℕ). text ++ drop n before) (zero-add (length text));
}

-- and from where an answer ends it goes on with it
pub at_front_more : {text more before : List ℕ} {size end : ℕ} {middle after : List ℕ}
    → AtFront text before size middle → Added more middle size end after → AtFront (text ++ more) before end after
unfolding front
at_front_more {text} {more} {before} {size} {end} {middle} {after} put added =
    let past : List ℕ = drop (length text) before in
    record {
      written_is = simp length-append (omega (arith, put.written_is, added.end_is));
      output_is =
          added.output_is
          ∙ ap₂ (λ (l : List ℕ) (n : ℕ). take n l ++ (more ++ drop (n + length more) l)) put.output_is put.written_is
          ∙ ap₂ (λ (a b : List ℕ). a ++ (more ++ b)) (take-append_seam text past) (drop-append-add text past (length more))
          ∙ ap (λ (l : List ℕ). text ++ (more ++ l)) (drop-drop (length more) (length text) before ∙ ap (λ (n : ℕ). drop n before) (sym (length-append text more)))
          ∙ sym (append_assoc text more (drop (length (text ++ more)) before));
    }
