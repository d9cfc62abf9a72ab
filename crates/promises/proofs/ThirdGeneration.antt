-- The third generation pair. Assumes nothing.
use Prim.Native.Nat.{ℕ, ◌+◌, ◌-◌, ◌≤◌}
use native.Mathlib.Omega.{arith}
use mathlib.Core.Path.{◌≡◌, refl, sym, ap, ap₂, ◌∙◌}
use mathlib.Core.Bool.{Bool, true, false, cond}
use mathlib.Core.List.{List, [], ◌∷◌, ◌++◌}
use borrow.Author.Tests.{eqb-true, eq-eqb, ne_eqb, le-ltb, ltb-false}
use lib.Dec.{eqb}
use lib.ListN.{length, get_or, drop, length-append}
use Rattle.refusals.specs.Refusal.{Row, first, row_at}
use Rattle.refusals.specs.Call.{Answered, outcome, front, puts, tells}
use Rattle.refusals.proofs.Calls.{answered_done, head_is}
use Rattle.refusals.proofs.Laws.{then_and_only_then}
use Rattle.refusals.proofs.Tests.{by-test}
use Rattle.octets.specs.Bits.{bit_of, size}
use Rattle.octets.proofs.Stored.{bit_of_lt, length-stored, front_stored}
use Rattle.pair.specs.declared.F8Inputs.{F8Inputs}
use Rattle.pair.specs.declared.F9Inputs.{F9Inputs}
use Rattle.pair.specs.F8.{f8_bit, f8_output, f8_order, f8_call}
use Rattle.pair.specs.F9.{padded, zeros_after, f9_code, f9_order, f9_call, check_call}
use Rattle.pair.proofs.Padded.{one_bit, zero_bit, length-padded}
use Rattle.pair.proofs.Telling.{bits_told, message_told, count_told, fresh_told, direction_told}
use Rattle.pair.proofs.Laws.{f8_bit_lt, f8_back, f8_same, f9_same, f8_done, f9_done}
use Rattle.promises.specs.BitForBit.{HoldsBits}
use Rattle.promises.specs.ThirdGeneration.{BeginAlike, Confidentiality, Integrity, ThirdGeneration}
use Rattle.promises.proofs.Holding.{holds_bits}

-- ---- f8

-- a call that is not refused finds no cause: the message is long enough, and the output
module _ (inputs : F8Inputs) (key message : List ℕ) (bits : ℕ) (before : List ℕ) (none : first (f8_order inputs key message bits before) ≡ 0) where
  cause : (k : ℕ) → (row_at (f8_order inputs key message bits before) k).holds ≡ false
  unfolding f8_order
  cause = (then_and_only_then (f8_order inputs key message bits before) tt 0 (sym none)).none.0 refl

  room_was : size bits ≤ length before
  unfolding row_at f8_order
  room_was = ltb-false (length before) (size bits) (cause 4)

  -- nor does one with another message and another output, where these are long enough
  not_refused : (message' again : List ℕ) → size bits ≤ length message' → size bits ≤ length again → first (f8_order inputs key message' bits again) ≡ 0
  unfolding first row_at f8_order
  not_refused message' again enough room = rw (cause 0, cause 1, cause 2, le-ltb (length message') (size bits) enough, le-ltb (length again) (size bits) room)

f8_undone : (inputs : F8Inputs) (key message : List ℕ) (bits octets : ℕ) (before again : List ℕ) {output : List ℕ} → Answered (f8_call inputs key message bits before) 0 [] output
    → size bits ≡ octets → octets ≤ length again
    → {refusal : ℕ} {output' : List ℕ} → Answered (f8_call inputs key output bits again) refusal [] output'
    → (refusal ≡ 0) × HoldsBits (bit_of message) 0 bits octets again output'
unfolding f8_output
f8_undone inputs key message bits octets before again {output} once all room {refusal} {output'} twice =
    let none : first (f8_order inputs key message bits before) ≡ 0 = sym once.refusal_is in
    let rest : List ℕ = drop (size bits) before in
    let is : output ≡ f8_output inputs key message bits ++ rest = once.lent_is ∙ front_stored (f8_bit inputs key message) 0 bits before in
    let long : length output ≡ size bits + length rest =
    ap length is ∙ length-append (f8_output inputs key message bits) rest ∙ ap (λ (n : ℕ). n + length rest) (length-stored (f8_bit inputs key message) 0 bits) in
    let again-done = answered_done (f8_call inputs key output bits again) twice
    (not_refused inputs key message bits before none output again (omega (arith, long)) (omega (arith, all, room))) in (
      again-done.0,
      holds_bits (bit_of message) (bit_of_lt message) 0 bits again output'
          (again-done.2
          ∙ ap (λ (result : List ℕ). front result again) (ap (λ (l : List ℕ). f8_output inputs key l bits) is ∙ f8_back inputs key message bits rest))
          octets
          all,
    )

f8_order_same : (inputs : F8Inputs) (key message message' : List ℕ) (bits : ℕ) (output : List ℕ) → BeginAlike bits message message'
    → f8_order inputs key message bits output ≡ f8_order inputs key message' bits output
unfolding f8_order
f8_order_same inputs key message message' bits output alike =
    rw (le-ltb (length message) (size bits) alike.enough, le-ltb (length message') (size bits) alike.enough')

pub confidentiality : Confidentiality
unfolding size f8_output f8_bit
confidentiality = record {
  bit_for_bit = λ inputs key message bits octets before {output} answered enough fewest.
      holds_bits (f8_bit inputs key message) (f8_bit_lt inputs key message) 0 bits before output answered.lent_is octets (omega arith);
  taken = λ inputs key message bits output sixteen bearer way some most enough room answered.
      (f8_done inputs key message bits output answered sixteen bearer way some most enough room).0;
  back = λ inputs key message bits octets before again answered enough fewest room twice. f8_undone inputs key message bits octets before again answered (omega arith) room twice;
  reads_no_more = λ inputs key message message' bits output alike.
      ap outcome
      (ap₂ (λ (order : List Row) (result : List ℕ). puts order result output)
      (f8_order_same inputs key message message' bits output alike)
      (f8_same message message' bits alike.same inputs key));
}

-- ---- f9

f9_order_same : (inputs : F9Inputs) (key message message' : List ℕ) (bits : ℕ) → BeginAlike bits message message'
    → f9_order inputs key message bits ≡ f9_order inputs key message' bits
unfolding f9_order
f9_order_same inputs key message message' bits alike =
    rw (le-ltb (length message) (size bits) alike.enough, le-ltb (length message') (size bits) alike.enough')

-- a check, and what f9 hands out
module _ (inputs : F9Inputs) (key message : List ℕ) (bits code : ℕ) {refusal : ℕ} {right : Bool} (answered : Answered (check_call inputs key message bits code) refusal [] right) where
  yes_when : Answered (f9_call inputs key message bits) 0 (code ∷ []) tt → right ≡ true
  yes_when given =
      (answered_done (check_call inputs key message bits code) answered (sym given.refusal_is)).2
      ∙ eq-eqb (f9_code inputs key message bits) code (sym (head_is given.numbers_are))

  only_when : right ≡ true → Answered (f9_call inputs key message bits) 0 (code ∷ []) tt
  only_when is-yes =
      by-test (eqb refusal 0) (Answered (f9_call inputs key message bits) 0 (code ∷ []) tt)
      (λ none.
      let is : f9_code inputs key message bits ≡ code = eqb-true (f9_code inputs key message bits) code (sym (answered.lent_is ∙ rw none) ∙ is-yes) in
      record { refusal_is = sym (eqb-true refusal 0 none) ∙ answered.refusal_is; numbers_are = ap (λ (own : ℕ). own ∷ []) (sym is); lent_is = refl })
      (λ some.
      let not_right : right ≡ false = answered.lent_is ∙ rw some in
      let wrong : ◌≡◌ {A = ℕ} 0 1 = ap (λ (t : Bool). cond t 1 0) (sym not_right ∙ is-yes) in
      absurd (omega arith))

pub integrity : Integrity
unfolding zeros_after f9_code
integrity = record {
  blocks = λ inputs message bits. (omega (arith, length-padded inputs message bits), omega arith);
  last_one = λ inputs message bits.
      let string : List ℕ = padded inputs message bits in (
        ap (λ (k : ℕ). get_or string k 0) {y = 64 + (bits + 1)} (omega arith) ∙ one_bit inputs message bits,
        λ i past. ap (λ (k : ℕ). get_or string k 0) {y = 64 + (bits + (2 + (i - bits - 66)))} (omega (arith, past)) ∙ zero_bit inputs message bits (i - bits - 66),
      );
  gives_back = λ inputs inputs' message message' bits bits' fits fits' same.
      let count-is = count_told inputs inputs' message message' bits bits' same fits.count fits'.count in
      let fresh-is = fresh_told inputs inputs' message message' bits bits' same fits.fresh fits'.fresh in
      let direction_is = direction_told inputs inputs' message message' bits bits' same fits.direction fits'.direction in
      record {
        inputs_are = λ i. record { count = count-is i; fresh = fresh-is i; direction = direction_is i };
        length_is = bits_told inputs inputs' message message' bits bits' same;
        bits_are = message_told inputs inputs' message message' bits bits' same;
      };
  reads_each = λ inputs message message' bits i below differ same. differ (message_told inputs inputs message message' bits bits same i below);
  reads_no_more = λ inputs key message message' bits alike.
      ap outcome
      (ap₂ (λ (order : List Row) (code : ℕ). tells order (code ∷ []))
      (f9_order_same inputs key message message' bits alike)
      (f9_same message message' bits alike.same inputs key));
  taken = λ inputs key message bits sixteen way some most enough answered. f9_done inputs key message bits answered sixteen way some most enough;
  check = λ inputs key message bits code answered. (only_when inputs key message bits code answered, yes_when inputs key message bits code answered);
}

pub third_generation : ThirdGeneration
unfolding first f8_order f9_order
third_generation = record {
  f8 = confidentiality;
  f9 = integrity;
  not_short_f8 = λ inputs key message bits before eight answered. answered.refusal_is ∙ simp (ne_eqb (length key) 16 (omega (arith, eight)));
  not_short_f9 = λ inputs key message bits eight answered. answered.refusal_is ∙ simp (ne_eqb (length key) 16 (omega (arith, eight)));
  not_short_check = λ inputs key message bits code eight answered. answered.refusal_is ∙ simp (ne_eqb (length key) 16 (omega (arith, eight)));
}
