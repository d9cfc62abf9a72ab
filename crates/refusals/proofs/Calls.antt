-- Promises 1 and 2 of every public call: nothing is to be shown of one but that its order is an order.
-- Assumes nothing.
use Prim.Native.Nat.{ℕ, ◌≤◌, zero-le}
use mathlib.Core.Path.{◌≡◌, refl, sym, ap, subst, ◌∙◌}
use mathlib.Core.Bool.{Bool, true, false, cond}
use mathlib.Core.List.{List, [], ◌∷◌}
use borrow.Author.Tests.{ne_eqb}
use lib.Dec.{T, eqb, leb, leb→le}
use Rattle.refusals.specs.Refusal.{Row, first, last_refusal}
use Rattle.refusals.specs.Call.{Call, PublicCall, call, function, given, Always, All, makes, outcome, Answered, Answers, Determined, zeros, handed_out}
use Rattle.refusals.proofs.Laws.{then_and_only_then}
use Rattle.refusals.proofs.Orders.{distinct, in_table, is_order}
use Rattle.refusals.proofs.Tests.{and_left, and_right, by-test}

first_in_table : (rows : List Row) → T (in_table rows) → first rows ≤ last_refusal
unfolding first
first_in_table [] within = zero-le
first_in_table (row ∷ rest) within =
    by-test row.holds (first (row ∷ rest) ≤ last_refusal)
    (λ held. rw held (leb→le row.number last_refusal (and_left (leb row.number last_refusal) (in_table rest) within)))
    (λ passed. rw passed (first_in_table rest (and_right (leb row.number last_refusal) (in_table rest) within)))

module _ {Lent : Type 0} (call : Call Lent) where
  -- the answer to a call of which no cause holds, and to one of which a cause holds first
  pub done : first call.order ≡ 0 → Answered call 0 call.numbers call.after
  done none = record { refusal_is = sym none; numbers_are = refl; lent_is = refl }

  pub refused : (refusal : ℕ) → first call.order ≡ refusal → (refusal ≡ 0 → ⊥)
      → Answered call refusal (zeros (call.candidate_with refusal) call.numbers) call.before
  refused refusal named some =
      record { refusal_is = sym named; numbers_are = rw (ne_eqb refusal 0 some); lent_is = rw (ne_eqb refusal 0 some) }

  module _ {refusal : ℕ} {numbers : List ℕ} {lent : Lent} (answered : Answered call refusal numbers lent) where
    -- two answers are the same
    pub one_outcome : {refusal' : ℕ} {numbers' : List ℕ} {lent' : Lent} → Answered call refusal' numbers' lent'
        → (refusal ≡ refusal') × (numbers ≡ numbers') × (lent ≡ lent')
    one_outcome {refusal'} again =
        let same : refusal ≡ refusal' = answered.refusal_is ∙ sym again.refusal_is in (
          same,
          answered.numbers_are ∙ ap (handed_out call) same ∙ sym again.numbers_are,
          answered.lent_is ∙ ap (λ (r : ℕ). cond (eqb r 0) call.after call.before) same ∙ sym again.lent_is,
        )

    -- namely the outcome
    pub is_outcome : record { refusal = refusal; numbers = numbers; lent = lent } ≡ outcome call
    unfolding outcome
    is_outcome =
        let same = one_outcome (record { refusal_is = refl; numbers_are = refl; lent_is = refl }) in
        λ i. record { refusal = same.0 i; numbers = same.1 i; lent = same.2 i }

    -- where no cause holds, nothing is refused, and everything is as the call leaves it
    pub answered_done : first call.order ≡ 0 → (refusal ≡ 0) × (numbers ≡ call.numbers) × (lent ≡ call.after)
    answered_done none = one_outcome (done none)

    -- a refused call gives back what it was lent
    pub refused_keeps : (refusal ≡ 0 → ⊥) → lent ≡ call.before
    refused_keeps some = answered.lent_is ∙ rw (ne_eqb refusal 0 some)

    -- and every number is 0, but the candidate
    pub refused_zeros : (refusal ≡ 0 → ⊥) → numbers ≡ zeros (call.candidate_with refusal) call.numbers
    refused_zeros some = answered.numbers_are ∙ rw (ne_eqb refusal 0 some)

  -- both promises of a call whose order is one
  module _ (order : T (is_order call.order)) where
    pub answers : Answers call
    answers = record {
      gives = record {
        refusal = first call.order;
        numbers = handed_out call (first call.order);
        lent = cond (eqb (first call.order) 0) call.after call.before;
        answered = record { refusal_is = refl; numbers_are = refl; lent_is = refl };
      };
      from_the_table = λ answered.
          subst (λ (r : ℕ). r ≤ last_refusal) (sym answered.refusal_is) (first_in_table call.order (and_right (distinct call.order) (in_table call.order) order));
      keeps = λ answered some. refused_keeps answered some;
      puts_to_0 = λ answered some. refused_zeros answered some;
    }

    pub determined : Determined call
    determined = record {
      one_outcome = λ answered again. one_outcome answered again;
      refuses = λ {refusal} answered.
          then_and_only_then call.order (and_left (distinct call.order) (in_table call.order) order) refusal answered.refusal_is;
    }

-- of two lists of numbers that are the same, the first numbers are
pub head_is : {m n : ℕ} {ms ns : List ℕ} → m ∷ ms ≡ n ∷ ns → m ≡ n
head_is same = cc

-- a state made of another state is made by the same rule
chosen : {A B : Type 0} (f : A → B) (test : Bool) (a b : A) → f (cond test a b) ≡ cond test (f a) (f b)
chosen f true a b = refl
chosen f false a b = refl

pub made_of : {A B : Type 0} (f : A → B) (order : List Row) (before after : A) {refusal : ℕ} {numbers : List ℕ} {lent : A}
    → Answered (makes order before after) refusal numbers lent → Answered (makes order (f before) (f after)) refusal numbers (f lent)
made_of f order before after {refusal} answered = record {
  refusal_is = answered.refusal_is;
  numbers_are = answered.numbers_are;
  lent_is = ap f answered.lent_is ∙ chosen f (eqb refusal 0) after before;
}

-- what follows of one call follows of each in a list
always : {P Q : (Lent : Type 0) → Call Lent → Type 0} → ((Lent : Type 0) (one : Call Lent) → P Lent one → Q Lent one) → (entry : PublicCall) → Always P entry → Always Q entry
always follows (call {Lent} one) holds = follows Lent one holds
always follows (function back) holds = tt
always follows (given each) holds = λ a. always follows (each a) (holds a)

pub of_all : {P Q : (Lent : Type 0) → Call Lent → Type 0} → ((Lent : Type 0) (one : Call Lent) → P Lent one → Q Lent one)
    → (entries : List PublicCall) → All (Always P) entries → All (Always Q) entries
of_all follows [] holds = tt
of_all follows (entry ∷ rest) holds = (always follows entry holds.0, of_all follows rest holds.1)
