-- The laws of the stored forms, of both ends. Assumes nothing.
use mathlib.Core.List.{[], ◌∷◌}
use lib.Dec.{lit≤}
use Rattle.numbering.specs.Numbering.{width, marks_of}
use Rattle.stored.specs.Ends.{sender_form, receiver_form}
use Rattle.stored.proofs.Places.{length-form}
use Rattle.stored.proofs.Senders.{restore_sender_done, restored_sender_form, sender_restores}
use Rattle.stored.proofs.Receivers.{restore_receiver_done, restored_receiver_form, receiver_restores}
use Rattle.promises.specs.StoredForms.{StoredForms}

pub stored_forms : StoredForms
unfolding sender_form receiver_form
stored_forms = record {
  sender_long = λ link reserved typed. length-form 1 link (reserved ∷ []) typed.sixteen;
  receiver_long = λ receiver typed. length-form 1 receiver.link (receiver.numbering.next ∷ marks_of receiver.numbering ∷ []) typed.sixteen;
  sender_back = λ link reserved typed good before_end. sender_restores link reserved typed.sixteen typed.iov_fits good before_end;
  receiver_back = λ receiver typed good. receiver_restores width (lit≤ tt) receiver good typed.sixteen typed.iov_fits;
  sender_written = λ {octets} each answered.
      let made = restore_sender_done octets answered in
      (restored_sender_form each made, made.stands, made.good);
  receiver_written = λ {octets} each answered.
      let made = restore_receiver_done width octets answered in
      (restored_receiver_form each made, made.good);
}
