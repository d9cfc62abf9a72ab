-- The order of every public call is one, and so promises 1 and 2 hold of all of them. Assumes nothing.
use lib.Dec.{T}
use Rattle.refusals.specs.Call.{Call, Answers, Determined, Always, All}
use Rattle.refusals.proofs.Orders.{is_order}
use Rattle.refusals.proofs.Calls.{answers, determined, of_all}
use Rattle.octets.specs.Cut.{cut_order}
use Rattle.octets.specs.Xor.{xor_order}
use Rattle.kasumi.specs.Kasumi.{kasumi_order}
use Rattle.aes.specs.Aes.{expand_key_order, aes_order}
use Rattle.kgcore.specs.Kgcore.{kgcore_order}
use Rattle.keystreams.specs.Key.{key_order}
use Rattle.keystreams.specs.A5.{a5_order}
use Rattle.keystreams.specs.Gea4.{gea4_order}
use Rattle.pair.specs.F8.{f8_order}
use Rattle.pair.specs.F9.{f9_order}
use Rattle.milenage.specs.Calls.{opc_order, code_order, result_order}
use Rattle.numbering.specs.Numbering.{candidate_order, number_order}
use Rattle.frames.specs.Frame.{look_order, header_order}
use Rattle.link.specs.Link.{link_order, cipher_order}
use Rattle.sender.specs.Sender.{reserve_order, seal_order}
use Rattle.receiver.specs.Receiver.{open_order}
use Rattle.stored.specs.Form.{form_order}
use Rattle.stored.specs.Ends.{store_sender_order, restore_sender_order, store_receiver_order, restore_receiver_order}
use Rattle.lines.specs.Digits.{digits_order}
use Rattle.lines.specs.Text.{room_order, hex_order}
use Rattle.promises.specs.Calls.{public_calls}

infixr 5 ◌⊗◌
pub ◌⊗◌ : {A B : Type 0} → A → B → A × B
one ⊗ rest = (one, rest)

-- whatever a call of one to six inputs is given
in1 : {A : Type 0} → A → Unit {0}
in1 a = tt

in2 : {A B : Type 0} → A → B → Unit {0}
in2 a b = tt

in3 : {A B C : Type 0} → A → B → C → Unit {0}
in3 a b c = tt

in4 : {A B C D : Type 0} → A → B → C → D → Unit {0}
in4 a b c d = tt

in5 : {A B C D E : Type 0} → A → B → C → D → E → Unit {0}
in5 a b c d e = tt

in6 : {A B C D E F : Type 0} → A → B → C → D → E → F → Unit {0}
in6 a b c d e f = tt

-- the numbers of each call's order are from the table, and no two are the same: computed, whatever the call is given
abbrev IsOrder : (Lent : Type 0) → Call Lent → Type 0
IsOrder Lent call = T (is_order call.order)

orders : All (Always IsOrder) public_calls
unfolding cut_order xor_order kasumi_order expand_key_order aes_order kgcore_order key_order a5_order gea4_order f8_order f9_order opc_order code_order result_order candidate_order number_order look_order header_order link_order cipher_order reserve_order seal_order open_order form_order store_sender_order restore_sender_order store_receiver_order restore_receiver_order digits_order room_order hex_order
orders =
    tt ⊗ tt ⊗ tt ⊗ tt ⊗ in4 ⊗ in3 ⊗ tt ⊗ in1 ⊗ tt ⊗ in2 ⊗ in1 ⊗ tt ⊗ in3 ⊗ in4 ⊗ in1 ⊗ in3 ⊗ in3 ⊗ in5 ⊗ in5 ⊗ in4 ⊗ in5 ⊗ in3 ⊗ in6 ⊗ in6 ⊗ in4 ⊗ in4 ⊗ in4 ⊗ in4 ⊗ in4 ⊗ tt ⊗ tt ⊗ in2 ⊗ tt ⊗ in1 ⊗ tt ⊗ in3 ⊗ tt ⊗ in4 ⊗ in4 ⊗ in4 ⊗ tt ⊗ in2 ⊗ in3 ⊗ in4 ⊗ tt ⊗ in3 ⊗ in3 ⊗ in2 ⊗ in1 ⊗ in1 ⊗ in1 ⊗ in1 ⊗ in2 ⊗ in2 ⊗ in2 ⊗ in2 ⊗ tt ⊗ tt ⊗ tt ⊗ tt ⊗ tt

pub all_answer : All (Always (λ Lent call. Answers call)) public_calls
all_answer = of_all (λ Lent call order. answers call order) public_calls orders

pub all_determined : All (Always (λ Lent call. Determined call)) public_calls
all_determined = of_all (λ Lent call order. determined call order) public_calls orders
