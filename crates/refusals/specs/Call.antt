-- What a public call is, for promises 1 and 2, which speak of every one: one outcome for all that it may be given. A contract cites the call,
-- `Answered call refusal numbers lent`, and so it says everything that comes back. Assumes nothing.
use Rattle.std.specs.Prelude.{ℕ, ◌≤◌, ◌≡◌, Bool, false, cond, List, [], ◌∷◌, ◌++◌, map, eqb, length, drop}
use Rattle.refusals.specs.Refusal.{Row, first, ThenAndOnlyThen, last_refusal}

-- a lent output with a result at its front; the octets past the result are kept
unfoldable pub front : List ℕ → List ℕ → List ℕ
front result output = result ++ drop (length result) output

-- one call with all that it is given. Where no cause of `order` holds, it hands out `numbers` and leaves what it is lent as `after`. Where it is
-- refused, every number is 0, but that the first is a candidate, given all the same with some refusals, `candidate_with`; and what it is lent stays as
-- `before`: the state and the octets of an output as they were given, and for a call that makes a state one that 12 refuses, or of keys zeros, which are
-- taken, so that a caller looks at the refusal
pub record Call (Lent : Type 0) : Type 0 where
  pub order : List Row
  pub numbers : List ℕ
  pub candidate_with : ℕ → Bool
  pub before : Lent
  pub after : Lent

-- no candidate is given, whatever the refusal
abbrev pub no_candidate : ℕ → Bool
no_candidate refusal = false

-- a call that hands out numbers and is lent nothing
abbrev pub tells : List Row → List ℕ → Call (Unit {0})
tells order numbers = record { order = order; numbers = numbers; candidate_with = no_candidate; before = tt; after = tt }

-- a call that puts its result to the front of one lent output
abbrev pub puts : List Row → List ℕ → List ℕ → Call (List ℕ)
puts order result output = record { order = order; numbers = []; candidate_with = no_candidate; before = output; after = front result output }

-- two lent outputs
pub record Outputs : Type 0 where
  pub one : List ℕ
  pub two : List ℕ

-- a call that puts a result to the front of each of two lent outputs
abbrev pub puts_two : List Row → Outputs → Outputs → Call Outputs
puts_two order results outputs = record {
  order = order;
  numbers = [];
  candidate_with = no_candidate;
  before = outputs;
  after = record { one = front results.one outputs.one; two = front results.two outputs.two };
}

-- a call that makes a state, and hands back, when refused, a state that 12 refuses, or of keys zeros, which are taken, so that a caller looks at the
-- refusal
abbrev pub makes : {State : Type 0} → List Row → State → State → Call State
makes order refused made = record { order = order; numbers = []; candidate_with = no_candidate; before = refused; after = made }

-- a call that changes a state, which stays as it was when refused
abbrev pub changes : {State : Type 0} → List Row → State → State → Call State
changes order state changed = record { order = order; numbers = []; candidate_with = no_candidate; before = state; after = changed }

-- numbers put to 0, but for the first where it is a candidate that is given
abbrev pub zeros : Bool → List ℕ → List ℕ
zeros candidate [] = []
zeros candidate (number ∷ rest) = cond candidate number 0 ∷ map (λ (other : ℕ). 0) rest

-- the numbers that come back with a refusal, or without one
abbrev pub handed_out : {Lent : Type 0} → Call Lent → ℕ → List ℕ
handed_out call refusal = cond (eqb refusal 0) call.numbers (zeros (call.candidate_with refusal) call.numbers)

-- the one outcome of a call, as a value
pub record Outcome (Lent : Type 0) : Type 0 where
  pub refusal : ℕ
  pub numbers : List ℕ
  pub lent : Lent

-- what a call comes to: the first cause that holds, or 0, and what is handed out and lent back with it
unfoldable pub outcome : {Lent : Type 0} → Call Lent → Outcome Lent
outcome call =
    let refusal = first call.order in
    record { refusal = refusal; numbers = handed_out call refusal; lent = cond (eqb refusal 0) call.after call.before }

-- a call answered so: the refusal is the first cause that holds, or 0; the numbers; and what it was lent, as it then is
pub record Answered {Lent : Type 0} (call : Call Lent) (refusal : ℕ) (numbers : List ℕ) (lent : Lent) : Type 0 where
  pub refusal_is : refusal ≡ first call.order
  pub numbers_are : numbers ≡ handed_out call refusal
  pub lent_is : lent ≡ cond (eqb refusal 0) call.after call.before

-- promise 1 of a call: there is an answer; its refusal is 0 or a number of the table; and where it is refused, what it was lent comes back as it went
-- in, and every number is 0 but the candidate
pub record Answers {Lent : Type 0} (call : Call Lent) : Type 0 where
  pub gives : record { refusal : ℕ; numbers : List ℕ; lent : Lent; answered : Answered call refusal numbers lent }
  pub from_the_table : {refusal : ℕ} {numbers : List ℕ} {lent : Lent} → Answered call refusal numbers lent → refusal ≤ last_refusal
  pub keeps : {refusal : ℕ} {numbers : List ℕ} {lent : Lent} → Answered call refusal numbers lent → (refusal ≡ 0 → ⊥) → lent ≡ call.before
  pub puts_to_0 : {refusal : ℕ} {numbers : List ℕ} {lent : Lent} → Answered call refusal numbers lent → (refusal ≡ 0 → ⊥)
      → numbers ≡ zeros (call.candidate_with refusal) call.numbers

-- promise 2 of a call: two answers are the same, and each refusal is given then and only then, when its cause is the first that holds
pub record Determined {Lent : Type 0} (call : Call Lent) : Type 0 where
  pub one_outcome : {refusal refusal' : ℕ} {numbers numbers' : List ℕ} {lent lent' : Lent} → Answered call refusal numbers lent → Answered call refusal' numbers' lent'
      → (refusal ≡ refusal') × (numbers ≡ numbers') × (lent ≡ lent')
  pub refuses : {refusal : ℕ} {numbers : List ℕ} {lent : Lent} → Answered call refusal numbers lent → ThenAndOnlyThen call.order refusal

-- a public call for everything that it may be given; a function is one that is never refused and is lent nothing
pub data PublicCall : Type 1 where
  call : {Lent : Type 0} → Call Lent → PublicCall
  function : {Back : Type 0} → Back → PublicCall
  given : {A : Type 0} → (A → PublicCall) → PublicCall

-- calls of one to six inputs
abbrev pub call1 : {Lent A : Type 0} → (A → Call Lent) → PublicCall
call1 of = given (λ a. call (of a))

abbrev pub call2 : {Lent A B : Type 0} → (A → B → Call Lent) → PublicCall
call2 of = given (λ a. call1 (of a))

abbrev pub call3 : {Lent A B C : Type 0} → (A → B → C → Call Lent) → PublicCall
call3 of = given (λ a. call2 (of a))

abbrev pub call4 : {Lent A B C D : Type 0} → (A → B → C → D → Call Lent) → PublicCall
call4 of = given (λ a. call3 (of a))

abbrev pub call5 : {Lent A B C D E : Type 0} → (A → B → C → D → E → Call Lent) → PublicCall
call5 of = given (λ a. call4 (of a))

abbrev pub call6 : {Lent A B C D E F : Type 0} → (A → B → C → D → E → F → Call Lent) → PublicCall
call6 of = given (λ a. call5 (of a))

-- what holds of a public call whatever it is given; of a function there is no more to say than that its contract is an equation
abbrev pub Always : ((Lent : Type 0) → Call Lent → Type 0) → PublicCall → Type 0
Always P (call {Lent} one) = P Lent one
Always P (function back) = Unit {0}
Always P (given {A} each) = (a : A) → Always P (each a)

-- what holds of every one of these
abbrev pub All : {A : Type 1} → (A → Type 0) → List A → Type 0
All P [] = Unit {0}
All P (one ∷ rest) = P one × All P rest
