-- `lines::octets_of_hex` meets its contract. The loop's invariant: the octets of the first k pairs stand at the front of the output, and the rest
-- is as it was.
-- Assumes nothing.
use Prim.Native.Nat.{ℕ, ◌+◌, ◌*◌, ◌%◌, ◌<◌}
use native.Mathlib.Omega.{arith}
use borrow.Author.Tests.{eq-eqb, ne_eqb}
use lib.ListN.{length, get_or, take, drop, set}
use mathlib.Core.Bool.{true, false}
use mathlib.Core.List.{List, [], ◌∷◌, ◌++◌}
use mathlib.Core.Path.{◌≡◌, refl, sym, ap, ap₂, ◌∙◌}
use Rattle.refusals.specs.Call.{Answered}
use Rattle.refusals.proofs.Calls.{refused}
use Rattle.lines.specs.Digits.{digit_value, all_digits}
use Rattle.lines.specs.Text.{is_hex, hex_octets, octets_of_hex_call}
use Rattle.lines.proofs.Digits.{digit_below}
use Rattle.lines.proofs.Text.{length-hex_octets, octets_turn, octets_put, room_short, room_enough, hex_bad, hex_good, put}
use Rattle.lines.proofs.octets_of_hex.Goals.{Else-not-all_digits, In-loop-k}
use Rattle.lines.proofs.octets_of_hex.Goals as goal

-- past the first two tests the text is pairs of hex digits
are_digits : (c : Else-not-all_digits) → all_digits 16 c.args.text.now ≡ true
are_digits c = sym c.all_digits.ensures ∙ c.if-not-all_digits.false

are_hex : (c : Else-not-all_digits) → is_hex c.args.text.now ≡ true
unfolding is_hex
are_hex c = rw (eq-eqb (length c.args.text.now % 2) 0 (omega arith), are_digits c)

-- so in a turn each octet of the text is a hex digit
hex_digit : (c : In-loop-k) (place : ℕ) → place < length c.args.text.now
    → digit_value (get_or c.args.text.now place 0) < 16
hex_digit c place inside = digit_below 16 _ place inside (are_digits (goal.at.In-loop-k c).Else-not-all_digits)

-- a text that is not pairs of hex digits
bad : (text before : List ℕ) → is_hex text ≡ false → Answered (octets_of_hex_call text before) 2 (0 ∷ []) before
bad text before is = refused (octets_of_hex_call text before) 2 (hex_bad text before is) (λ zero. omega arith)

pub returns-then-text-ne0 : goal.returns-then-text-ne0
unfolding is_hex
returns-then-text-ne0 c =
    let given = c.args in
    let text = given.text.now in
    bad text given.output.now (rw (ne_eqb (length text % 2) 0 c.if-text-ne0.true))

pub returns-then-not-all_digits : goal.returns-then-not-all_digits
unfolding is_hex
returns-then-not-all_digits c =
    let given = c.args in
    let text = given.text.now in
    bad text given.output.now
    (rw (eq-eqb (length text % 2) 0 (omega arith), sym c.all_digits.ensures ∙ c.if-not-all_digits.true))

pub returns-then-output-count : goal.returns-then-output-count
returns-then-output-count c =
    let given = c.args in
    let text = given.text.now in
    let short : length given.output.now < length (hex_octets text) = omega (arith, length-hex_octets text) in
    refused (octets_of_hex_call text given.output.now) 4
    (hex_good text given.output.now (are_hex (goal.at.returns-then-output-count c).Else-not-all_digits) ∙ room_short (length (hex_octets text)) given.output.now short) (λ zero. omega arith)

pub loop-k-init : goal.loop-k-init
unfolding hex_octets
loop-k-init c = refl

pub overflow_mul-output : goal.overflow_mul-output
overflow_mul-output c = omega (arith, hex_digit (goal.at.overflow_mul-output c).In-loop-k (2 * c.loop-k.k) (omega arith))

pub overflow_add-output : goal.overflow_add-output
overflow_add-output c =
    let k : ℕ = c.loop-k.k in
    omega (arith, hex_digit (goal.at.overflow_add-output c).In-loop-k (2 * k) (omega arith), hex_digit (goal.at.overflow_add-output c).In-loop-k (2 * k + 1) (omega arith))

pub loop-k-preserved : goal.loop-k-preserved
loop-k-preserved c =
    let given = c.args in
    let text = given.text.now in
    let before = given.output.now in
    let k : ℕ = c.loop-k.k in
    ap (λ (l : List ℕ). set l k (c.digit.result * 16 + c.digit-in-loop-k.result)) c.loop-k.invariant
    ∙ ap₂ (λ (high low : ℕ). set (hex_octets (take (2 * k) text) ++ drop k before) k (high * 16 + low)) c.digit.ensures c.digit-in-loop-k.ensures
    ∙ octets_turn text before k (omega arith) (omega arith)

pub returns : goal.returns
returns c =
    let given = c.args in
    let text = given.text.now in
    let before = given.output.now in
    put (hex_good text before (are_hex (goal.at.returns c).Else-not-all_digits) ∙ room_enough (length (hex_octets text)) before (omega (arith, length-hex_octets text)))
    (record {
      written_is = sym (length-hex_octets text);
      output_is = c.loop-k.invariant ∙ octets_put text before c.loop-k.k (omega arith);
    })
