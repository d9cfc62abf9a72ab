-- Every call that takes a key through the preparation knows it by two things alone: whether it is one, and the 16 octets that it yields. So with two keys
-- that yield the same its entry is the same, which is computed of each; and where entries are the same, the same outcomes are allowed, which is shown once.
-- Of every other call that takes a key the first row is the key's, which is computed of each too. Assumes nothing.
use Prim.Native.Nat.{ℕ}
use mathlib.Core.Path.{◌≡◌, refl, sym, subst, ◌∙◌}
use mathlib.Core.Bool.{true}
use mathlib.Core.List.{List, [], ◌∷◌, ◌++◌}
use borrow.Author.Tests.{ne_eqb}
use lib.ListN.{length}
use Rattle.refusals.specs.Refusal.{first}
use Rattle.refusals.specs.Call.{Call, Answered, All}
use Rattle.refusals.proofs.Calls.{done}
use Rattle.kasumi.specs.Kasumi.{kasumi_order}
use Rattle.aes.specs.Aes.{expand_key_order, aes_order}
use Rattle.kgcore.specs.Kgcore.{kgcore_order}
use Rattle.keystreams.specs.Key.{is_key, prepared, key_order, prepare_key_call}
use Rattle.keystreams.specs.A5.{block1, block2, a5_order}
use Rattle.keystreams.specs.Gea4.{gea4_output, gea4_order}
use Rattle.keystreams.proofs.Keys.{short_is_key, whole_is_key, length_doubled, length-prepared, prepared_again, prepared_doubled, prepare_done}
use Rattle.pair.specs.F8.{f8_order}
use Rattle.pair.specs.F9.{f9_order}
use Rattle.milenage.specs.Calls.{is_string, opc_order, code_order, result_order}
use Rattle.link.specs.Link.{link_order, link_of}
use Rattle.receiver.specs.Receiver.{open_receiver_call}
use Rattle.promises.specs.ShortKeys.{KeyCall, with_key, given, key_calls, AllowsAlike, whole_key_calls, RefusedWith, ShortKeys}
use Rattle.promises.proofs.Calls.{◌⊗◌}

-- with either key the entry is the same
abbrev IsSame : List ℕ → List ℕ → KeyCall → Type 0
IsSame one other (with_key of) = of one ≡ of other
IsSame one other (given {A} each) = (a : A) → IsSame one other (each a)

-- then the same outcomes are allowed
alike : (one other : List ℕ) (call : KeyCall) → IsSame one other call → AllowsAlike one other call
alike one other (with_key {Lent} of) same = λ refusal numbers lent. (
  subst (λ (entry : Call Lent). Answered entry refusal numbers lent) same,
  subst (λ (entry : Call Lent). Answered entry refusal numbers lent) (sym same),
)
alike one other (given each) same = λ a. alike one other (each a) (same a)

all_alike : (one other : List ℕ) (calls : List KeyCall) → All (IsSame one other) calls → All (AllowsAlike one other) calls
all_alike one other [] same = tt
all_alike one other (call ∷ rest) same = (alike one other call same.0, all_alike one other rest same.1)

module _ (one other : List ℕ) (both : is_key one ≡ is_key other) (same : prepared one ≡ prepared other) where
  pub receiver_same : (iov sapi direction : ℕ) → open_receiver_call one iov sapi direction ≡ open_receiver_call other iov sapi direction
  unfolding link_order link_of
  receiver_same iov sapi direction = rw (both, same)

  each_is_same : All (IsSame one other) key_calls
  unfolding key_order a5_order block1 block2 gea4_order gea4_output link_order link_of
  each_is_same =
      (rw (both, same))
      ⊗ (λ count outputs. rw (both, same))
      ⊗ (λ count outputs. rw (both, same))
      ⊗ (λ input direction m output. rw (both, same))
      ⊗ (λ iov sapi direction. rw (both, same))
      ⊗ (λ iov sapi direction. rw (both, same))
      ⊗ receiver_same
      ⊗ tt

  pub one_key : All (AllowsAlike one other) key_calls
  one_key = all_alike one other key_calls each_is_same

-- preparing what a key yields hands out the same
prepared_once_more : (key : List ℕ) → is_key key ≡ true → Answered (prepare_key_call (prepared key)) 0 [] (prepared key)
unfolding first key_order
prepared_once_more key is =
    subst (λ (l : List ℕ). Answered (prepare_key_call (prepared key)) 0 [] l) (prepared_again key is)
    (done (prepare_key_call (prepared key)) (rw (whole_is_key (prepared key) (length-prepared key is))))

-- ---- the calls that want 16 octets

-- the order names this number, whatever the call is given beside the key
abbrev Names : ℕ → List ℕ → KeyCall → Type 0
Names number key (with_key of) = first (of key).order ≡ number
Names number key (given {A} each) = (a : A) → Names number key (each a)

-- then the call is refused with it
refused : (number : ℕ) (key : List ℕ) (call : KeyCall) → Names number key call → RefusedWith number key call
refused number key (with_key of) named = λ refusal numbers lent answered. answered.refusal_is ∙ named
refused number key (given each) named = λ a. refused number key (each a) (named a)

all_refused : (number : ℕ) (key : List ℕ) (calls : List KeyCall) → All (Names number key) calls → All (RefusedWith number key) calls
all_refused number key [] named = tt
all_refused number key (call ∷ rest) named = (refused number key call named.0, all_refused number key rest named.1)

-- the first row of each order is the key's
each_wants : (key : List ℕ) → (length key ≡ 16 → ⊥) → All (Names 1 key) whole_key_calls
unfolding first kasumi_order expand_key_order aes_order kgcore_order f8_order f9_order opc_order code_order result_order is_string
each_wants key other =
    let short = ne_eqb (length key) 16 other in
    (rw short)
    ⊗ (λ block. rw short)
    ⊗ (rw short)
    ⊗ (λ block output. rw short)
    ⊗ (λ inputs cl output. rw short)
    ⊗ (λ inputs message bits output. rw short)
    ⊗ (λ inputs message bits. rw short)
    ⊗ (λ inputs message bits code. rw short)
    ⊗ (λ op output. rw short)
    ⊗ (λ opc rand sqn amf output. rw short)
    ⊗ (λ opc rand sqn amf output. rw short)
    ⊗ (λ opc rand output. rw short)
    ⊗ (λ opc rand output. rw short)
    ⊗ (λ opc rand output. rw short)
    ⊗ (λ opc rand output. rw short)
    ⊗ (λ opc rand output. rw short)
    ⊗ tt

pub short_keys : ShortKeys
short_keys = record {
  doubled = λ key eight. one_key key (key ++ key) (short_is_key key eight ∙ sym (whole_is_key (key ++ key) (length_doubled key eight))) (prepared_doubled key eight);
  one_key = λ one other one_is other-is same. one_key one other (one_is ∙ sym other-is) same;
  again = λ key {octets} answered.
      let yielded = prepare_done key answered refl in
      subst (λ (l : List ℕ). Answered (prepare_key_call l) 0 [] l) (sym yielded.1) (prepared_once_more key yielded.0);
  whole = λ key other. all_refused 1 key whole_key_calls (each_wants key other);
}
