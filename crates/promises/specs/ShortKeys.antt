-- The keys of older phones (document 02, item 1): a key of 8 octets gives exactly the answers of its doubled form, over every call that takes a key
-- through the preparation; and every other call that takes a key wants 16 octets. Assumes nothing.
use Rattle.std.specs.Prelude.{ℕ, ◌≡◌, ◌↔◌, true, List, [], ◌∷◌, ◌++◌, length}
use Rattle.refusals.specs.Call.{Call, Answered, All}
use Rattle.kasumi.specs.Kasumi.{kasumi_call}
use Rattle.kasumi.specs.Lent.{round_keys_call}
use Rattle.aes.specs.Aes.{expand_key_call, aes_call}
use Rattle.kgcore.specs.Kgcore.{kgcore_call}
use Rattle.keystreams.specs.Key.{is_key, prepared, prepare_key_call}
use Rattle.keystreams.specs.A5.{gsm_kind, ecsd_kind, a5_call}
use Rattle.keystreams.specs.Gea4.{gea4_call}
use Rattle.pair.specs.F8.{f8_call}
use Rattle.pair.specs.F9.{f9_call, check_call}
use Rattle.milenage.specs.Calls.{opc_call, f1_call, f1_star_call, f2_call, f3_call, f4_call, f5_call, f5_star_call}
use Rattle.link.specs.Link.{open_link_call}
use Rattle.sender.specs.Sender.{open_sender_call}
use Rattle.receiver.specs.Receiver.{open_receiver_call}

-- a call that takes a key, whatever it is given beside it
pub data KeyCall : Type 1 where
  with_key : {Lent : Type 0} → (List ℕ → Call Lent) → KeyCall
  given : {A : Type 0} → (A → KeyCall) → KeyCall

-- a call with one input, the key
abbrev pub key1 : {Lent : Type 0} → (List ℕ → Call Lent) → KeyCall
key1 of = with_key of

-- a call with two inputs, the key first
abbrev pub key2 : {Lent A : Type 0} → (List ℕ → A → Call Lent) → KeyCall
key2 of = given (λ a. key1 (λ key. of key a))

-- a call with three inputs, the key first
abbrev pub key3 : {Lent A B : Type 0} → (List ℕ → A → B → Call Lent) → KeyCall
key3 of = given (λ a. key2 (λ key. of key a))

-- a call with four inputs, the key first
abbrev pub key4 : {Lent A B C : Type 0} → (List ℕ → A → B → C → Call Lent) → KeyCall
key4 of = given (λ a. key3 (λ key. of key a))

-- a call with five inputs, the key first
abbrev pub key5 : {Lent A B C D : Type 0} → (List ℕ → A → B → C → D → Call Lent) → KeyCall
key5 of = given (λ a. key4 (λ key. of key a))

-- a call with six inputs, the key first
abbrev pub key6 : {Lent A B C D E : Type 0} → (List ℕ → A → B → C → D → E → Call Lent) → KeyCall
key6 of = given (λ a. key5 (λ key. of key a))

-- a call with four inputs, the key second
abbrev pub second4 : {Lent A B C : Type 0} → (A → List ℕ → B → C → Call Lent) → KeyCall
second4 of = given (λ a. key3 (of a))

-- a call with five inputs, the key second
abbrev pub second5 : {Lent A B C D : Type 0} → (A → List ℕ → B → C → D → Call Lent) → KeyCall
second5 of = given (λ a. key4 (of a))

-- every public call that takes a key through the preparation, each by the entry that its own contract cites
abbrev pub key_calls : List KeyCall
key_calls =
    -- keystreams::prepare_key
    key1 prepare_key_call ∷
    -- keystreams::gsm
    key3 (a5_call gsm_kind) ∷
    -- keystreams::ecsd
    key3 (a5_call ecsd_kind) ∷
    -- keystreams::gea4
    key5 gea4_call ∷
    -- link::open_link
    key4 open_link_call ∷
    -- sender::open_sender
    key4 open_sender_call ∷
    -- receiver::open_receiver
    key4 open_receiver_call ∷ []

-- every other public call that takes a key, and wants it whole: KASUMI, AES, KGCORE, f8 and f9, and MILENAGE
abbrev pub whole_key_calls : List KeyCall
whole_key_calls =
    -- kasumi::round_keys
    key1 round_keys_call ∷
    -- kasumi::kasumi
    key2 kasumi_call ∷
    -- aes::expand_key
    key1 expand_key_call ∷
    -- aes::aes
    key3 aes_call ∷
    -- kgcore::kgcore
    second4 kgcore_call ∷
    -- pair::f8
    second5 f8_call ∷
    -- pair::f9
    second4 f9_call ∷
    -- pair::check_code
    second5 check_call ∷
    -- milenage::opc
    key3 opc_call ∷
    -- milenage::f1
    key6 f1_call ∷
    -- milenage::f1_star
    key6 f1_star_call ∷
    -- milenage::f2
    key4 f2_call ∷
    -- milenage::f3
    key4 f3_call ∷
    -- milenage::f4
    key4 f4_call ∷
    -- milenage::f5
    key4 f5_call ∷
    -- milenage::f5_star
    key4 f5_star_call ∷ []

-- with one key and with the other a call allows exactly the same outcomes, whatever it is given beside it
abbrev pub AllowsAlike : List ℕ → List ℕ → KeyCall → Type 0
AllowsAlike one other (with_key {Lent} of) =
    (refusal : ℕ) (numbers : List ℕ) (lent : Lent) → Answered (of one) refusal numbers lent ↔ Answered (of other) refusal numbers lent
AllowsAlike one other (given {A} each) = (a : A) → AllowsAlike one other (each a)

-- with this key a call is refused with this number, whatever it is given beside it
abbrev pub RefusedWith : ℕ → List ℕ → KeyCall → Type 0
RefusedWith number key (with_key {Lent} of) = (refusal : ℕ) (numbers : List ℕ) (lent : Lent) → Answered (of key) refusal numbers lent → refusal ≡ number
RefusedWith number key (given {A} each) = (a : A) → RefusedWith number key (each a)

-- item 1 as a whole: which calls take a key of 8 octets, and as what; and which do not
pub record ShortKeys : Type 0 where
  -- with a key of 8 octets every one of these calls allows exactly the outcomes that it allows with the key doubled
  pub doubled : (key : List ℕ) → length key ≡ 8 → All (AllowsAlike key (key ++ key)) key_calls
  -- and so it is with any two keys that yield the same 16 octets: to these calls they are one key
  pub one_key : (one other : List ℕ) → is_key one ≡ true → is_key other ≡ true → prepared one ≡ prepared other → All (AllowsAlike one other) key_calls
  -- preparing a prepared key changes nothing
  pub again : (key : List ℕ) {octets : List ℕ} → Answered (prepare_key_call key) 0 [] octets → Answered (prepare_key_call octets) 0 [] octets
  -- the other calls prepare nothing: with a key that has not 16 octets, so with one of 8, every one of them is refused with 1
  pub whole : (key : List ℕ) → (length key ≡ 16 → ⊥) → All (RefusedWith 1 key) whole_key_calls
