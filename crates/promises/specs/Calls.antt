-- Every public call of every crate, each by the entry that its own contract cites, in one list. The width of the link's window is `width`.
-- Assumes nothing.
use Rattle.std.specs.Prelude.{List, [], ◌∷◌}
use Rattle.refusals.specs.Number.{number_of}
use Rattle.refusals.specs.Call.{PublicCall, function, call1, call2, call3, call4, call5, call6}
use Rattle.octets.specs.Bits.{size, first_bits, octet_or_zero}
use Rattle.octets.specs.Cut.{cut_call}
use Rattle.octets.specs.Xor.{xor_call}
use Rattle.sboxes.specs.FiTable.{fi_table}
use Rattle.kasumi.specs.Kasumi.{kasumi_call}
use Rattle.kasumi.specs.Lent.{round_keys_call, ciphered_by}
use Rattle.aes.specs.Aes.{cipher, expand_key_call, aes_call}
use Rattle.kgcore.specs.Kgcore.{kgcore_call}
use Rattle.keystreams.specs.Key.{prepare_key_call}
use Rattle.keystreams.specs.A5.{gsm_kind, ecsd_kind, a5_call}
use Rattle.keystreams.specs.Gea4.{gea4_call}
use Rattle.pair.specs.F8.{f8_call}
use Rattle.pair.specs.F9.{f9_call, check_call}
use Rattle.milenage.specs.Calls.{opc_call, f1_call, f1_star_call, f2_call, f3_call, f4_call, f5_call, f5_star_call}
use Rattle.numbering.specs.Numbering.{width, start, can_arise, number_call}
use Rattle.frames.specs.Frame.{looked, look_refusal_call, header_of, put_header_call}
use Rattle.link.specs.Link.{link_can_arise, open_link_call, cipher_call}
use Rattle.sender.specs.Sender.{sender_can_arise, open_sender_call, reserve_call, seal_call}
use Rattle.receiver.specs.Receiver.{receiver_can_arise, open_receiver_call, open_call}
use Rattle.stored.specs.Ends.{store_sender_call, restore_sender_call, store_receiver_call, restore_receiver_call}
use Rattle.lines.specs.Digits.{decimal_call, hexadecimal_call}
use Rattle.lines.specs.Text.{octets_of_hex_call, hex_of_octets_call, decimal_of_number_call, put_text_call}
use Rattle.lines.specs.Hearing.{silence, too_long, kept}
use Rattle.script.specs.Script.{asked}

-- the public calls, each after its name: a function that cannot be refused, or a call with so many inputs
abbrev pub public_calls : List PublicCall
public_calls =
    -- refusals::number
    function number_of ∷
    -- octets::size
    function size ∷
    -- octets::first_bits
    function first_bits ∷
    -- octets::octet_or_zero
    function octet_or_zero ∷
    -- octets::cut
    call4 cut_call ∷
    -- octets::xor
    call3 xor_call ∷
    -- sboxes::fi_table
    function fi_table ∷
    -- kasumi::round_keys
    call1 round_keys_call ∷
    -- kasumi::cipher_block
    function ciphered_by ∷
    -- kasumi::kasumi
    call2 kasumi_call ∷
    -- aes::expand_key
    call1 expand_key_call ∷
    -- aes::encrypt_block
    function cipher ∷
    -- aes::aes
    call3 aes_call ∷
    -- kgcore::kgcore
    call4 kgcore_call ∷
    -- keystreams::prepare_key
    call1 prepare_key_call ∷
    -- keystreams::gsm
    call3 (a5_call gsm_kind) ∷
    -- keystreams::ecsd
    call3 (a5_call ecsd_kind) ∷
    -- keystreams::gea4
    call5 gea4_call ∷
    -- pair::f8
    call5 f8_call ∷
    -- pair::f9
    call4 f9_call ∷
    -- pair::check_code
    call5 check_call ∷
    -- milenage::opc
    call3 opc_call ∷
    -- milenage::f1
    call6 f1_call ∷
    -- milenage::f1_star
    call6 f1_star_call ∷
    -- milenage::f2
    call4 f2_call ∷
    -- milenage::f3
    call4 f3_call ∷
    -- milenage::f4
    call4 f4_call ∷
    -- milenage::f5
    call4 f5_call ∷
    -- milenage::f5_star
    call4 f5_star_call ∷
    -- numbering::start
    function start ∷
    -- numbering::can_arise
    function (can_arise width) ∷
    -- numbering::number
    call2 (number_call width) ∷
    -- frames::look
    function looked ∷
    -- frames::look_refusal
    call1 look_refusal_call ∷
    -- frames::header_of
    function header_of ∷
    -- frames::put_header
    call3 put_header_call ∷
    -- link::can_arise
    function link_can_arise ∷
    -- link::open_link
    call4 open_link_call ∷
    -- link::cipher
    call4 cipher_call ∷
    -- sender::open_sender
    call4 open_sender_call ∷
    -- sender::can_arise
    function sender_can_arise ∷
    -- sender::reserve
    call2 reserve_call ∷
    -- sender::seal
    call3 seal_call ∷
    -- receiver::open_receiver
    call4 open_receiver_call ∷
    -- receiver::can_arise
    function (receiver_can_arise width) ∷
    -- receiver::open
    call3 (open_call width) ∷
    -- stored::store_sender
    call3 store_sender_call ∷
    -- stored::store_receiver
    call2 (store_receiver_call width) ∷
    -- stored::restore_sender
    call1 restore_sender_call ∷
    -- stored::restore_receiver
    call1 (restore_receiver_call width) ∷
    -- lines::decimal
    call1 decimal_call ∷
    -- lines::hexadecimal
    call1 hexadecimal_call ∷
    -- lines::octets_of_hex
    call2 octets_of_hex_call ∷
    -- lines::hex_of_octets
    call2 hex_of_octets_call ∷
    -- lines::decimal_of_number
    call2 decimal_of_number_call ∷
    -- lines::put_text
    call2 put_text_call ∷
    -- lines::silence
    function silence ∷
    -- lines::too_long
    function too_long ∷
    -- lines::kept
    function kept ∷
    -- script::asked
    function asked ∷ []
