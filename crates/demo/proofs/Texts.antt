-- The laws of columns: a word and a number as one column, six columns as a line, and texts as they are shown.
-- Assumes nothing.
use Prim.Native.Nat.{ℕ, suc, ◌+◌, ◌-◌, ◌/◌, ◌≤◌, ◌<◌}
use native.Mathlib.Decide.{dec_lt}
use native.Mathlib.Numerals.{add-one}
use native.Mathlib.Omega.{arith}
use mathlib.Core.Path.{◌≡◌, refl, sym, ap, ap₂, subst, ◌∙◌}
use mathlib.Core.List.{List, [], ◌∷◌, ◌++◌, append_assoc, append-nil}
use borrow.Author.Tests.{eq-eqb, ne_eqb}
use lib.Dec.{lit≤}
use lib.ListN.{length, get_or, take, drop, set, replicate, length-append, length-drop, take-append-drop}
use lib.Seq.{length-take-le, take-suc, take-length}
use Rattle.std.proofs.lemmas.List.{drop-append-le}
use Rattle.refusals.specs.Call.{Answered, front}
use Rattle.octets.proofs.Listed.{front_store}
use Rattle.lines.specs.Text.{put_text_call, decimal_text, AtFront, Added}
use Rattle.lines.proofs.InDecimal.{decimal_one, length_more}
use Rattle.lines.proofs.Placed.{added_put, at_front_more}
use Rattle.demo.specs.Columns.{column, shown, shown_text, text_column}

-- what is written at the front lies within the output
pub front_within : {text before : List ℕ} {written : ℕ} {after : List ℕ} → AtFront text before written after → written ≤ length after
unfolding front
front_within {text} {before} put = omega (arith, put.written_is, ap length put.output_is, length-append text (drop (length text) before))

-- what is put at the front of the first octets of an output is at the front of the output
pub front_of : (room : ℕ) {text before output : List ℕ} {written : ℕ} {after : List ℕ} → before ≡ take room output → room ≤ length output → length after ≡ length before
    → AtFront text before written after → AtFront text output written (after ++ drop room output)
unfolding front
front_of room {text} {before} {output} {after = after} is enough whole put =
    let rest : List ℕ = drop room output in
    let long : length before ≡ room = ap length is ∙ length-take-le room output enough in
    let within : length text ≤ length before = omega (arith, long, whole, ap length put.output_is, length-append text (drop (length text) before)) in
    record {
      written_is = put.written_is;
      output_is =
          ap (λ (l : List ℕ). l ++ rest) put.output_is
          ∙ append_assoc text (drop (length text) before) rest
          ∙ ap (λ (l : List ℕ). text ++ l)
          (sym (drop-append-le (length text) before rest within)
          ∙ ap (λ (l : List ℕ). drop (length text) (l ++ rest)) is
          ∙ ap (drop (length text)) (take-append-drop room output));
    }

length-column : (text : List ℕ) → length text ≤ 11 → length (column text) ≡ 11
unfolding column
length-column text short = simp (length-append, length-drop) (omega arith)

-- ---- numbers

-- a number below 1,000 has at most three digits
below_ten : (number : ℕ) → number < 10 → length (decimal_text number) ≤ 1
below_ten number small = rw (decimal_one number small) (lit≤ tt)

below_hundred : (number : ℕ) → number < 100 → length (decimal_text number) ≤ 2
below_hundred number small =
    elim (dec_lt number 10) [
      | yes one ↦ omega (arith, below_ten number one)
      | no more ↦ omega (arith, length_more number (omega arith) (omega arith), below_ten (number / 10) (omega arith))
    ]

below_thousand : (number : ℕ) → number < 1000 → length (decimal_text number) ≤ 3
below_thousand number small =
    elim (dec_lt number 10) [
      | yes one ↦ omega (arith, below_ten number one)
      | no more ↦ omega (arith, length_more number (omega arith) (omega arith), below_hundred (number / 10) (omega arith))
    ]

-- a word, and a number where it ends
pub counted_put : (word column_of : List ℕ) (number : ℕ) {refusal count : ℕ} {last : List ℕ} → length word ≤ 8 → number < 1000 → column_of ≡ column word
    → Answered (put_text_call (decimal_text number) (take (11 - length word) (drop (length word) column_of))) refusal (count ∷ []) last
    → take (length word) column_of ++ (last ++ drop (11 - length word) (drop (length word) column_of)) ≡ column (word ++ decimal_text number)
unfolding column front
counted_put word column_of number {refusal} {count} {last} short small is answered =
    let put : AtFront word (replicate 11 32) (length word) column_of = record { written_is = refl; output_is = is } in
    let long : 11 ≡ length column_of = sym (ap length is ∙ length-column word (omega arith)) in
    let all : Answered (put_text_call (decimal_text number) (take (length column_of - length word) (drop (length word) column_of))) refusal (count ∷ []) last =
    subst (λ (n : ℕ). Answered (put_text_call (decimal_text number) (take (n - length word) (drop (length word) column_of))) refusal (count ∷ []) last) long answered in
    ap (λ (n : ℕ). take (length word) column_of ++ (last ++ drop (n - length word) (drop (length word) column_of))) long
    ∙ (at_front_more put (added_put column_of (length word) (decimal_text number) all (omega (arith, below_thousand number small)))).output_is

-- ---- a line

-- six columns and what is put after them
pub line_put : (a b c d e f : List ℕ) {flat rest before middle after : List ℕ} {end : ℕ} → flat ≡ a ++ (b ++ (c ++ (d ++ (e ++ (f ++ []))))) → length flat ≡ 66
    → middle ≡ flat ++ drop 66 before → Added rest middle 66 end after → AtFront ((a ++ b) ++ (c ++ (d ++ (e ++ (f ++ rest))))) before end after
unfolding front
line_put a b c d e f {flat} {rest} {before} {after = after} {end} is whole kept put =
    subst (λ (l : List ℕ). AtFront l before end after) (ap (λ (l : List ℕ). l ++ rest) is ∙ simp (append_assoc, append-nil))
    (at_front_more {text = flat} (record { written_is = sym whole; output_is = kept ∙ ap (λ (n : ℕ). flat ++ drop n before) (sym whole) }) put)

-- ---- texts as they are shown

shown_append : (a b : List ℕ) → shown_text (a ++ b) ≡ shown_text a ++ shown_text b
unfolding shown_text
shown_append [] b = refl
shown_append (octet ∷ a) b = ap (λ (l : List ℕ). shown octet ∷ l) (shown_append a b)

pub length-shown : (text : List ℕ) → length (shown_text text) ≡ length text
unfolding shown_text
length-shown [] = refl
length-shown (octet ∷ rest) = ap (λ (n : ℕ). suc n) (length-shown rest)

shown_step : (text : List ℕ) (i : ℕ) → i < length text → shown_text (take (i + 1) text) ≡ shown_text (take i text) ++ shown (get_or text i 0) ∷ []
unfolding shown_text
shown_step text i inside = rw (add-one i, take-suc text i 0 inside) (shown_append (take i text) (get_or text i 0 ∷ []))

module _ (text before : List ℕ) (place : ℕ) where
  -- the output after i octets of the text
  pub shown_so_far : ℕ → List ℕ
  shown_so_far i = (take place before ++ shown_text (take i text)) ++ drop (place + i) before

  pub shown_none : before ≡ shown_so_far 0
  unfolding shown_so_far shown_text
  shown_none =
      let here : place + 0 ≡ place = omega arith in
      sym (ap₂ (λ (p : List ℕ) (n : ℕ). p ++ drop n before) (append-nil (take place before)) here ∙ take-append-drop place before)

  module _ (i : ℕ) (room : place + length text ≤ length before) where
    long : i ≤ length text → length (take place before ++ shown_text (take i text)) ≡ place + i
    long inside = simp (length-append, length-shown) (omega (arith, length-take-le place before (omega arith), length-take-le i text inside))

    pub shown_turn : i < length text → set (shown_so_far i) (place + i) (shown (get_or text i 0)) ≡ shown_so_far (i + 1)
    unfolding shown_so_far
    shown_turn inside =
        let next : place + i + 1 ≡ place + (i + 1) = omega arith in
        front_store (take place before ++ shown_text (take i text)) before (place + i) (shown (get_or text i 0)) (long (omega arith)) (omega arith)
        ∙ ap₂ (λ (l : List ℕ) (n : ℕ). l ++ drop n before)
        (append_assoc (take place before) (shown_text (take i text)) (shown (get_or text i 0) ∷ [])
        ∙ ap (λ (l : List ℕ). take place before ++ l) (sym (shown_step text i inside)))
        next

    pub shown_put : i ≡ length text → Added (shown_text text) before place (place + i) (shown_so_far i)
    unfolding shown_so_far
    shown_put all =
        let end : place + i ≡ place + length (shown_text text) = omega (arith, length-shown text) in
        record {
          end_is = end;
          output_is =
              append_assoc (take place before) (shown_text (take i text)) (drop (place + i) before)
              ∙ ap₂ (λ (l : List ℕ) (n : ℕ). take place before ++ (shown_text l ++ drop n before))
              (ap (λ (n : ℕ). take n text) all ∙ take-length text) end;
        }

module _ (text : List ℕ) where
  pub text_none : length text ≡ 0 → 45 ∷ 10 ∷ [] ≡ text_column text
  unfolding text_column
  text_none none = rw (eq-eqb (length text) 0 none)

  pub text_some : (length text ≡ 0 → ⊥) → shown_text text ++ 10 ∷ [] ≡ text_column text
  unfolding text_column
  text_some some = rw (ne_eqb (length text) 0 some)
