-- Where "no INPUT used twice" ends. Assumes nothing.
use Prim.Native.Nat.{ℕ}
use native.Mathlib.Omega.{arith}
use mathlib.Core.Path.{◌≡◌, refl, sym, ap, ap₂, ◌∙◌}
use mathlib.Core.Logic.{inl, inr, ⊎_elim}
use mathlib.Core.List.{List}
use lib.ListN.{length}
use Rattle.octets.specs.Xor.{xored}
use Rattle.octets.proofs.Xored.{xored_shared}
use Rattle.keystreams.specs.Gea4.{gea4_output}
use Rattle.frames.specs.Frame.{payload_of}
use Rattle.link.specs.Input.{sx, input_of}
use Rattle.link.specs.Link.{is_service, link_of}
use Rattle.link.proofs.Inputs.{two_meets_three}
use Rattle.sender.specs.Sender.{new_sender}
use Rattle.sender.proofs.Laws.{opened_sender, seal_done}
use Rattle.promises.specs.NoInputTwice.{BenchSenders, SealedFrame, input_used}
use Rattle.promises.specs.WhereItEnds.{WhereItEnds}
use Rattle.promises.proofs.NoInputTwice.{used}

-- two frames that share an INPUT tell the xor of their payloads
telling : (prepared-key : List ℕ) (iov other-iov direction : ℕ) (senders : BenchSenders prepared-key iov direction) (others : BenchSenders prepared-key other-iov direction)
    (one : SealedFrame senders.frames) (other : SealedFrame others.frames) → input_used iov one ≡ input_used other-iov other → length one.frame.payload ≡ length other.frame.payload
    → xored (payload_of one.frame.octets) (payload_of other.frame.octets) ≡ xored one.frame.payload other.frame.payload
telling prepared-key iov other-iov direction senders others one other same long =
    let stream : List ℕ = gea4_output prepared-key (input_used other-iov other) direction (length other.frame.payload) in
    ap₂ xored
    (used prepared-key iov direction senders one ∙ ap₂ (λ (input m : ℕ). xored one.frame.payload (gea4_output prepared-key input direction m)) same long)
    (used prepared-key other-iov direction others other)
    ∙ xored_shared one.frame.payload other.frame.payload stream (omega (arith, long))

pub where_it_ends : WhereItEnds
unfolding is_service input_of sx new_sender link_of
where_it_ends = record {
  at_the_end = record { one_assigned = refl; other_assigned = refl; same = refl };
  under_every_offset = λ iov.
      ⊎_elim
      (λ same. inl (record { one_assigned = refl; other_assigned = refl; same = same }))
      (λ same. inr (record { one_assigned = refl; other_assigned = refl; same = same }))
      (two_meets_three iov);
  two_offsets = record { one_assigned = refl; other_assigned = refl; same = refl };
  opened_twice = λ one_key other_key iov sapi direction same one other.
      opened_sender one_key iov sapi direction one
      ∙ ap (λ (key : List ℕ). new_sender (record { key = key; iov = iov; sapi = sapi; direction = direction })) same
      ∙ sym (opened_sender other_key iov sapi direction other);
  state_twice = λ sender one-payload other_payload one-before other-before one other.
      let first = seal_done sender one-payload one-before one in
      let second = seal_done sender other_payload other-before other in
      (first.number_is ∙ sym second.number_is, first.later_is ∙ sym second.later_is);
  tells = telling;
}
