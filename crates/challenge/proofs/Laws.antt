-- The laws of the answers: what is given decides them, and every answer has room in 192 octets.
-- Assumes nothing.
use Prim.Native.Nat.{ℕ, ◌≤◌, ◌<◌}
use native.Mathlib.Decide.{dec_le}
use native.Mathlib.Omega.{arith}
use mathlib.Core.Path.{◌≡◌, sym, ap, subst, ◌∙◌}
use mathlib.Core.Bool.{true, false, ◌&&◌}
use mathlib.Core.List.{List, [], ◌∷◌, ◌++◌, append_assoc, append-nil}
use borrow.Author.Tests.{eq-eqb, ne_eqb, eqb-true, eqb-false, lt-leb}
use lib.Dec.{T, eqb, lit≤}
use lib.ListN.{length, take, drop, length-append, take-append-drop}
use lib.Seq.{length-take-le}
use Rattle.std.proofs.lemmas.List.{drop-append-le}
use Rattle.refusals.specs.Call.{front}
use Rattle.refusals.specs.Refusal.{first}
use Rattle.refusals.proofs.Tests.{by-test}
use Rattle.lines.specs.Text.{AtFront, ended, decimal_text}
use Rattle.lines.specs.Hearing.{too_long}
use Rattle.lines.proofs.Hearing.{LongAlike, line_alike}
use Rattle.lines.proofs.InDecimal.{length-decimal_text}
use Rattle.lines.proofs.Text.{length-ended}
use Rattle.milenage.specs.Calls.{is_string}
use Rattle.milenage.proofs.Laws.{length_opc, length_f1, length_f1_star, length_f2, length_f3, length_f4, length_f5}
use Rattle.milenage.proofs.Sizes.{three_sizes}
use Rattle.challenge.specs.Form.{Given, given_by, form_tests, is_challenge}
use Rattle.challenge.specs.Answer.{opc_for, given_order, all_results, all_codes, values_text, given_text, answer_text, largest_answer}
use Rattle.challenge.specs.Challenge.{challenge_rules}
use Rattle.challenge.proofs.Named.{length_results, length_codes}
use Rattle.challenge.proofs.Values.{form_fails}

-- the values that every challenge has, with an OPc of 16 octets
pub length-all_results : (key opc rand : List ℕ) → length opc ≡ 16 → length (all_results key opc rand) ≡ 145
unfolding all_results
length-all_results key opc rand opc_size =
    length_results opc _ _ _ _ opc_size (length_f2 key opc rand) (length_f3 key opc rand) (length_f4 key opc rand) (length_f5 key opc rand)

-- ---- where an answer is put

-- what is put at the front of the first octets of an output is put at the front of the output
pub at_front_first : {text before : List ℕ} {size : ℕ} {after : List ℕ} (n : ℕ) → n ≤ length before → length text ≤ n
    → AtFront text (take n before) size after → AtFront text before size (after ++ drop n before)
unfolding front
at_front_first {text} {before} n room short put = record {
  written_is = put.written_is;
  output_is =
      ap (λ (l : List ℕ). l ++ drop n before) put.output_is
      ∙ append_assoc text (drop (length text) (take n before)) (drop n before)
      ∙ ap (λ (l : List ℕ). text ++ l)
      (sym (drop-append-le (length text) (take n before) (drop n before) (omega (arith, length-take-le n before room)))
      ∙ ap (drop (length text)) (take-append-drop n before));
}

-- ---- the answer to what is given

module _ (given : Given) where
  pub text_refused : (first (given_order given) ≡ 0 → ⊥) → given_text given ≡ decimal_text (first (given_order given))
  unfolding given_text
  text_refused refused = rw (ne_eqb (first (given_order given)) 0 refused)

  pub text_done : first (given_order given) ≡ 0 → given_text given ≡ values_text given
  unfolding given_text
  text_done none = rw (eq-eqb (first (given_order given)) 0 none)

  pub values_without : given.numbered ≡ false → values_text given ≡ all_results given.key (opc_for given) given.rand
  unfolding values_text opc_for
  values_without without = rw without (append-nil (all_results given.key (opc_for given) given.rand))

  pub values_with : given.numbered ≡ true
      → values_text given ≡ all_results given.key (opc_for given) given.rand ++ all_codes given.key (opc_for given) given.rand given.sqn given.amf
  unfolding values_text opc_for
  values_with with = rw with

  -- ---- how long it is

  strings_right : first (given_order given) ≡ 0 → (is_string given.key && is_string given.operator && is_string given.rand) ≡ true
  unfolding first given_order
  strings_right none = by-test (is_string given.key && is_string given.operator && is_string given.rand) _ (λ right. right) (λ wrong. absurd (one_not_zero (rw wrong at none)))
    where
      one_not_zero : ◌≡◌ {A = ℕ} 1 0 → ⊥
      one_not_zero e = omega arith

  opc_size : first (given_order given) ≡ 0 → length (opc_for given) ≡ 16
  unfolding opc_for
  opc_size none =
      let operator-size : length given.operator ≡ 16 = (three_sizes given.key given.operator given.rand (strings_right none)).1.0 in
      by-test given.made _ (λ made. rw made (length_opc given.key given.operator operator-size)) (λ other. rw other operator-size)

  length_both : length (all_codes given.key (opc_for given) given.rand given.sqn given.amf) ≡ 46
  unfolding all_codes
  length_both =
      length_codes _ _ (length_f1 given.key (opc_for given) given.rand given.sqn given.amf)
      (length_f1_star given.key (opc_for given) given.rand given.sqn given.amf)

  length-values : first (given_order given) ≡ 0 → length (values_text given) ≤ 191
  length-values none =
      by-test given.numbered _
      (λ with. rw (values_with with, length-append) (omega (arith, length-all_results given.key (opc_for given) given.rand (opc_size none), length_both)))
      (λ without. rw (values_without without) (omega (arith, length-all_results given.key (opc_for given) given.rand (opc_size none))))

  length-given_text : length (given_text given) ≤ 191
  length-given_text =
      by-test (eqb (first (given_order given)) 0) _
      (λ none. rw (text_done (eqb-true (first (given_order given)) 0 none)) (length-values (eqb-true (first (given_order given)) 0 none)))
      (λ some. rw (text_refused (eqb-false (first (given_order given)) 0 some)) (omega (arith, length-decimal_text (first (given_order given)))))

-- ---- the answer to a line

module _ (line : List ℕ) where
  pub answer_bad : is_challenge line ≡ false → answer_text line ≡ 63 ∷ []
  unfolding answer_text
  answer_bad bad = rw bad

  pub answer_good : is_challenge line ≡ true → answer_text line ≡ given_text (given_by line)
  unfolding answer_text
  answer_good good = rw good

  -- a line of more than 160 octets is bad
  pub too_long_lem : 160 < length line → is_challenge line ≡ false
  unfolding form_tests
  too_long_lem long = form_fails line 0 (lt-leb (length line) 160 long)

  pub short_line : is_challenge line ≡ true → length line ≤ 160
  short_line good = elim (dec_le (length line) 160) [ yes short ↦ short | no long ↦ absurd (subst T (sym good ∙ too_long_lem (omega arith)) tt) ]

  -- every text of an answer has at most 191 octets
  pub length-answer_text : length (answer_text line) ≤ 191
  length-answer_text =
      by-test (is_challenge line) _ (λ good. rw (answer_good good) (length-given_text (given_by line))) (λ bad. rw (answer_bad bad) (lit≤ tt))

-- ---- the rules of `challenge`

-- a line that is too long is answered like any other that is
pub challenge_alike : LongAlike challenge_rules
unfolding too_long
challenge_alike = line_alike answer_text largest_answer (λ line long. answer_bad line (too_long_lem line long) ∙ sym (answer_bad too_long (too_long_lem too_long (lit≤ tt))))

-- every answer has room in an output that is not refused
pub challenge_fits : (line : List ℕ) → length (ended (answer_text line)) ≤ largest_answer
challenge_fits line = omega (arith, length-ended (answer_text line), length-answer_text line)
