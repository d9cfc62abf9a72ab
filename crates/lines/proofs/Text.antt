-- The laws of texts that are put at the front of an output: `room_order`, `hex_text`, `hex_octets`.
-- Assumes nothing.
use Prim.Native.Nat.{ℕ, zero, suc, ◌+◌, ◌*◌, ◌/◌, ◌%◌, ◌≤◌, ◌<◌}
use native.Mathlib.Nat.{zero-add, not-suc-le-zero, le_of_suc-le-suc}
use native.Mathlib.Numerals.{add-one}
use native.Mathlib.Omega.{arith}
use mathlib.Core.Path.{◌≡◌, refl, sym, ap, ap₂, ◌∙◌}
use mathlib.Core.List.{List, [], ◌∷◌, ◌++◌, append_assoc}
use mathlib.Core.Bool.{Bool, true, false, cond, and-eq-true_iff}
use borrow.Author.Tests.{lt-ltb, le-ltb, eq-eqb}
use lib.Dec.{eqb}
use lib.ListN.{length, get_or, take, drop, set, length-append}
use lib.Seq.{sets, sets-eq, length-take-le, take-suc, take-length, take-append_seam}
use Rattle.refusals.specs.Refusal.{Row, first}
use Rattle.refusals.specs.Call.{Answered, front}
use Rattle.refusals.proofs.Calls.{refused}
use Rattle.octets.proofs.Listed.{front_store}
use Rattle.lines.specs.Digits.{digit_value, all_digits}
use Rattle.lines.specs.Text.{room_order, puts_text, AtFront, ended, glyph_of, hex_text, hex_octets, is_hex, hex_order}

-- ---- the front of an output

-- the text is what stands at the front
pub take-front : (text before : List ℕ) → take (length text) (front text before) ≡ text
unfolding front
take-front text before = take-append_seam text (drop (length text) before)

-- with its line feed a text has one octet more
pub length-ended : (text : List ℕ) → length (ended text) ≡ length text + 1
unfolding ended
length-ended text = length-append text (10 ∷ [])

-- octets stored one after the other from place 0 on
pub stored_front : (text before : List ℕ) → length text ≤ length before → sets before 0 text ≡ front text before
unfolding front
stored_front text before room =
    sets-eq text before 0 (omega arith) ∙ ap (λ (n : ℕ). text ++ drop n before) (zero-add (length text))

-- ---- what is put, and what is refused

-- where no cause of a refusal holds, and the text stands at the front
pub put : {order : List Row} {text before : List ℕ} {count : ℕ} {after : List ℕ} → first order ≡ 0 → AtFront text before count after
    → Answered (puts_text order text before) 0 (count ∷ []) after
put none at_front = record { refusal_is = sym none; numbers_are = ap (λ (n : ℕ). n ∷ []) at_front.written_is; lent_is = at_front.output_is }

-- the room decides
module _ (room : ℕ) (before : List ℕ) where
  pub room_short : length before < room → first (room_order room before) ≡ 4
  unfolding first room_order
  room_short short = rw (lt-ltb (length before) room short)

  pub room_enough : room ≤ length before → first (room_order room before) ≡ 0
  unfolding first room_order
  room_enough enough = rw (le-ltb (length before) room enough)

  pub put_short : (text : List ℕ) → length before < room → Answered (puts_text (room_order room before) text before) 4 (0 ∷ []) before
  put_short text short = refused (puts_text (room_order room before) text before) 4 (room_short short) (λ zero. omega arith)

  pub put_fits : {text : List ℕ} {count : ℕ} {after : List ℕ} → room ≤ length before → AtFront text before count after
      → Answered (puts_text (room_order room before) text before) 0 (count ∷ []) after
  put_fits enough at_front = put (room_enough enough) at_front

-- ---- octets as hex

pub length-hex_text : (octets : List ℕ) → length (hex_text octets) ≡ 2 * length octets
unfolding hex_text
length-hex_text [] = refl
length-hex_text (octet ∷ rest) = ap (λ (n : ℕ). suc (suc n)) (length-hex_text rest) ∙ omega arith

hex_text_append : (a b : List ℕ) → hex_text (a ++ b) ≡ hex_text a ++ hex_text b
unfolding hex_text
hex_text_append [] b = refl
hex_text_append (octet ∷ rest) b = ap (λ (l : List ℕ). glyph_of (octet / 16) ∷ glyph_of (octet % 16) ∷ l) (hex_text_append rest b)

-- one octet more is two digits more
pub hex_text_step : (octets : List ℕ) (k : ℕ) → k < length octets
    → hex_text (take (k + 1) octets) ≡ (hex_text (take k octets) ++ glyph_of (get_or octets k 0 / 16) ∷ []) ++ glyph_of (get_or octets k 0 % 16) ∷ []
unfolding hex_text
hex_text_step octets k inside =
    rw (add-one k)
    (ap hex_text (take-suc octets k 0 inside)
    ∙ hex_text_append (take k octets) (get_or octets k 0 ∷ [])
    ∙ sym (append_assoc (hex_text (take k octets)) (glyph_of (get_or octets k 0 / 16) ∷ []) (glyph_of (get_or octets k 0 % 16) ∷ [])))

-- the hex of the first k octets, at the front of an output
pub length_some_hex : (octets : List ℕ) (k : ℕ) → k ≤ length octets → length (hex_text (take k octets)) ≡ 2 * k
length_some_hex octets k within = length-hex_text (take k octets) ∙ ap (λ (n : ℕ). 2 * n) (length-take-le k octets within)

-- a turn of the loop puts two digits more
pub hex_turn : (octets before : List ℕ) (k : ℕ) → k < length octets → 2 * length octets ≤ length before
    → set (set (hex_text (take k octets) ++ drop (2 * k) before) (2 * k) (glyph_of (get_or octets k 0 / 16))) (2 * k + 1) (glyph_of (get_or octets k 0 % 16))
    ≡ hex_text (take (k + 1) octets) ++ drop (2 * (k + 1)) before
hex_turn octets before k inside room =
    let some : List ℕ = hex_text (take k octets) in
    let high : ℕ = glyph_of (get_or octets k 0 / 16) in
    let low : ℕ = glyph_of (get_or octets k 0 % 16) in
    let long : length some ≡ 2 * k = length_some_hex octets k (omega arith) in
    let next : 2 * k + 1 + 1 ≡ 2 * (k + 1) = omega arith in
    ap (λ (l : List ℕ). set l (2 * k + 1) low) (front_store some before (2 * k) high long (omega arith))
    ∙ front_store (some ++ high ∷ []) before (2 * k + 1) low (simp (length-append, long)) (omega arith)
    ∙ ap₂ (λ (l : List ℕ) (n : ℕ). l ++ drop n before) (sym (hex_text_step octets k inside)) next

-- after the last turn the whole hex is put
pub hex_put : (octets before : List ℕ) (k : ℕ) → k ≡ length octets → hex_text (take k octets) ++ drop (2 * k) before ≡ front (hex_text octets) before
unfolding front
hex_put octets before k end =
    ap (λ (n : ℕ). hex_text (take n octets) ++ drop (2 * n) before) end
    ∙ ap₂ (λ (l : List ℕ) (n : ℕ). hex_text l ++ drop n before) (take-length octets) (sym (length-hex_text octets))

-- ---- the octets that hex writes

double : (k : ℕ) → 2 * suc k ≡ suc (suc (2 * k))
double k = omega arith

pub length-hex_octets : (text : List ℕ) → length (hex_octets text) ≡ length text / 2
unfolding hex_octets
length-hex_octets [] = refl
length-hex_octets (high ∷ []) = refl
length-hex_octets (high ∷ low ∷ rest) = ap suc (length-hex_octets rest) ∙ omega arith

-- two digits more are one octet more
hex_octets_pair : (k : ℕ) (text : List ℕ) → suc (2 * k) < length text
    → hex_octets (take (2 * suc k) text) ≡ hex_octets (take (2 * k) text) ++ (digit_value (get_or text (2 * k) 0) * 16 + digit_value (get_or text (suc (2 * k)) 0)) ∷ []
unfolding hex_octets
hex_octets_pair k [] inside = absurd (not-suc-le-zero inside)
hex_octets_pair k (high ∷ []) inside = absurd (not-suc-le-zero (le_of_suc-le-suc inside))
hex_octets_pair zero (high ∷ low ∷ rest) inside = refl
hex_octets_pair (suc k) (high ∷ low ∷ rest) inside =
    rw (double (suc k), double k) (ap (λ (l : List ℕ). (digit_value high * 16 + digit_value low) ∷ l) (rw (double k) at (hex_octets_pair k rest (omega arith))))

pub hex_octets_step : (text : List ℕ) (k : ℕ) → 2 * k + 1 < length text
    → hex_octets (take (2 * (k + 1)) text) ≡ hex_octets (take (2 * k) text) ++ (digit_value (get_or text (2 * k) 0) * 16 + digit_value (get_or text (2 * k + 1) 0)) ∷ []
hex_octets_step text k inside = rw (add-one k, add-one (2 * k)) (hex_octets_pair k text (omega arith))

-- the octets of the first k pairs, at the front of an output
pub length_some_octets : (text : List ℕ) (k : ℕ) → 2 * k ≤ length text → length (hex_octets (take (2 * k) text)) ≡ k
length_some_octets text k within =
    length-hex_octets (take (2 * k) text) ∙ ap (λ (n : ℕ). n / 2) (length-take-le (2 * k) text within) ∙ omega arith

-- a turn of the loop puts one octet more
pub octets_turn : (text before : List ℕ) (k : ℕ) → 2 * k + 1 < length text → k < length before
    → set (hex_octets (take (2 * k) text) ++ drop k before) k (digit_value (get_or text (2 * k) 0) * 16 + digit_value (get_or text (2 * k + 1) 0))
    ≡ hex_octets (take (2 * (k + 1)) text) ++ drop (k + 1) before
octets_turn text before k inside room =
    front_store (hex_octets (take (2 * k) text)) before k _ (length_some_octets text k (omega arith)) room
    ∙ ap (λ (l : List ℕ). l ++ drop (k + 1) before) (sym (hex_octets_step text k inside))

-- after the last turn all octets are put
pub octets_put : (text before : List ℕ) (k : ℕ) → 2 * k ≡ length text → hex_octets (take (2 * k) text) ++ drop k before ≡ front (hex_octets text) before
unfolding front
octets_put text before k end =
    let count : length text / 2 ≡ k = omega arith in
    ap₂ (λ (l : List ℕ) (n : ℕ). hex_octets l ++ drop n before)
    (ap (λ (n : ℕ). take n text) end ∙ take-length text)
    (sym (length-hex_octets text ∙ count))

-- the test of pairs of hex digits
pub hex_of_digits : (text : List ℕ) → length text % 2 ≡ 0 → all_digits 16 text ≡ true → is_hex text ≡ true
unfolding is_hex
hex_of_digits text even all = rw (eq-eqb (length text % 2) 0 even, all)

pub hex_digits : (text : List ℕ) → is_hex text ≡ true → all_digits 16 text ≡ true
unfolding is_hex
hex_digits text e = ((and-eq-true_iff (eqb (length text % 2) 0) _).0 e).1

-- the refusals of putting the octets of a text: it is not pairs of hex digits, or the room decides
module _ (text before : List ℕ) where
  pub hex_bad : is_hex text ≡ false → first (hex_order text before) ≡ 2
  unfolding first hex_order
  hex_bad bad = rw bad

  pub hex_good : is_hex text ≡ true → first (hex_order text before) ≡ first (room_order (length (hex_octets text)) before)
  unfolding first hex_order
  hex_good good = rw good

-- of two texts, whichever a test picks, neither is longer than n
pub length_either : (test : Bool) (a b : List ℕ) (n : ℕ) → length a ≤ n → length b ≤ n → length (cond test a b) ≤ n
length_either true a b n p q = p
length_either false a b n p q = q
