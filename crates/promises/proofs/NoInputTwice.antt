-- No INPUT used twice: the law of the formula, and the sender's half of promise 3, by which the numbers of a sender only rise and stay below 2^27.
-- Assumes nothing.
use Prim.Native.Nat.{ℕ, suc, ◌^◌, ◌≤◌, ◌<◌}
use native.Mathlib.Omega.{arith}
use mathlib.Core.Path.{◌≡◌, refl, sym, ap, subst, ◌∙◌}
use mathlib.Core.Logic.{⊎_elim}
use mathlib.Core.Bool.{true, true≢false}
use mathlib.Core.List.{List, [], ◌∷◌}
use lib.Dec.{lit≤}
use lib.ListN.{length}
use Rattle.refusals.proofs.Tests.{by-test}
use Rattle.keystreams.specs.Key.{is_key, prepared}
use Rattle.numbering.specs.Numbering.{end}
use Rattle.frames.specs.Frame.{payload_of}
use Rattle.link.specs.declared.Link.{Link}
use Rattle.link.specs.Link.{is_service, is_direction, link_can_arise, link_of, ciphered, frame_at}
use Rattle.link.proofs.Links.{service_most, link_says, opened_link}
use Rattle.link.proofs.Inputs.{input_tells}
use Rattle.link.proofs.Frames.{payload_of_frame_at}
use Rattle.sender.specs.declared.Sender.{Sender}
use Rattle.sender.specs.Sender.{new_sender}
use Rattle.sender.proofs.Laws.{opened_sender}
use Rattle.promises.specs.Ends.{Sending, SentFrame, Sends, IsOneOf, here, there, bench_sending}
use Rattle.promises.specs.Promise3.{Rising, SendersHalf}
use Rattle.promises.specs.Hosts.{Host, careful_sending}
use Rattle.promises.specs.NoInputTwice.{DifferentInputs, SealedSince, not_opened, opened, Senders, OpenedUnder, BenchSenders, HostUnder, HostSenders, SealedFrame, place, SameCall, input_used, CipheredUnderInput, AllHaveSealed, NoInputTwice}
use Rattle.promises.proofs.Frames.{each_one, above_one}
use Rattle.promises.proofs.BenchLaws.{bench_half}
use Rattle.promises.proofs.HostLaws.{host_half}
use Rattle.promises.proofs.SealingAgain.{opening_allowed, sender_opens, sent_from, sends_from, length-sent}

-- ---- of the formula

different_inputs : DifferentInputs
different_inputs iov s t m n s-is t-is m-below n-below differ same =
    let both = input_tells iov (service_most s s-is) (service_most t t-is) (omega (arith, m-below)) (omega (arith, n-below)) same in
    ⊎_elim (λ services. services both.0) (λ numbers. numbers both.1) differ

-- ---- of what is sealed

-- where numbers rise, frames with one number stand at one place
pub told_by_place : {one other : SentFrame} {frames : List SentFrame} → Rising frames → (first : IsOneOf one frames) (second : IsOneOf other frames) → one.number ≡ other.number
    → place first ≡ place second
told_by_place rising here here same = refl
told_by_place rising here (there later) same = absurd (omega (arith, above_one rising.0 later, same))
told_by_place rising (there later) here same = absurd (omega (arith, above_one rising.0 later, same))
told_by_place rising (there first) (there second) same = ap suc (told_by_place rising.1 first second same)

module _ (prepared-key : List ℕ) (iov direction : ℕ) where
  -- the link of a service
  abbrev link_at : ℕ → Link
  link_at sapi = record { key = prepared-key; iov = iov; sapi = sapi; direction = direction }

  -- what is known of a service of which a frame was sealed
  record Known (sapi : ℕ) (frames : List SentFrame) : Type 0 where
    can_arise_lem : link_can_arise (link_at sapi) ≡ true
    is_service_lem : is_service sapi ≡ true
    half : SendersHalf frame_at (link_at sapi) frames

  -- of a sending end that keeps the sender's half of promise 3, and whose senders were opened on the link of their service
  module _ (sending : Sending) (Opened : ℕ → sending.State → Type 0)
      (half : (sapi : ℕ) (state last : sending.State) (frames : List SentFrame) → Opened sapi state → Sends sending state frames last → SendersHalf frame_at (link_at sapi) frames)
      (can : (sapi : ℕ) (state : sending.State) → Opened sapi state → link_can_arise (link_at sapi) ≡ true) where
    known : {sapi : ℕ} {frame : SentFrame} {frames : List SentFrame} → SealedSince sending (Opened sapi) frames → IsOneOf frame frames → Known sapi frames
    known {sapi} not_opened one = each_one (λ frame. Known sapi []) tt one
    known {sapi} {frames = frames} (opened {state} {last} is sends) one = record {
      can_arise_lem = can sapi state is;
      is_service_lem = (link_says (link_at sapi) (can sapi state is)).0;
      half = half sapi state last frames is sends;
    }

    module _ (senders : Senders sending Opened) where
      known_of : (one : SealedFrame senders.frames) → Known one.sapi (senders.frames one.sapi)
      known_of one = known (senders.sealed one.sapi) one.one

      below_end : (one : SealedFrame senders.frames) → one.frame.number < end
      below_end one = ((known_of one).half.each_is one.frame one.one).before_end

      -- two sealed frames that share an INPUT are of the same seal call
      same_call : (one other : SealedFrame senders.frames) → input_used iov one ≡ input_used iov other → SameCall one other
      unfolding end
      same_call one other same =
          let both = input_tells iov (service_most one.sapi (known_of one).is_service_lem) (service_most other.sapi (known_of other).is_service_lem) (omega (arith, below_end one)) (omega (arith, below_end other)) same in (
            both.0,
            subst (λ (sapi : ℕ). (second : IsOneOf other.frame (senders.frames sapi)) → place one.one ≡ place second) both.0
                (λ second. told_by_place (known_of one).half.rising one.one second both.1) other.one,
          )

      -- what stands after a frame's header is its payload xor the GEA4 octets of its INPUT
      used_by : CipheredUnderInput prepared-key iov direction senders.frames
      unfolding ciphered
      used_by one =
          ap payload_of ((known_of one).half.each_is one.frame one.one).octets_are
          ∙ payload_of_frame_at (link_at one.sapi) one.frame.number (known_of one).can_arise_lem one.frame.payload

  -- a sender that was opened stands on the link of its service
  module _ {sapi : ℕ} {sender : Sender} (is : OpenedUnder prepared-key iov direction sapi sender) where
    same_link : link_of is.key iov sapi direction ≡ link_at sapi
    unfolding link_of
    same_link = λ i. record { key = is.yields i; iov = iov; sapi = sapi; direction = direction }

    stands_on : sender.link ≡ link_at sapi
    unfolding new_sender
    stands_on = ap (λ (s : Sender). s.link) (opened_sender is.key iov sapi direction is.sender_opened) ∙ same_link

    link_good : link_can_arise (link_at sapi) ≡ true
    link_good = ap link_can_arise (sym same_link) ∙ opened_link is.key iov sapi direction (sym is.sender_opened.refusal_is)

  -- the senders of the bench
  bench_known : (sapi : ℕ) (sender last : Sender) (frames : List SentFrame) → OpenedUnder prepared-key iov direction sapi sender → Sends bench_sending sender frames last
      → SendersHalf frame_at (link_at sapi) frames
  bench_known sapi sender last frames is sends = subst (λ (link : Link). SendersHalf frame_at link frames) (stands_on is) (bench_half sends)

  bench_same : (senders : BenchSenders prepared-key iov direction) (one other : SealedFrame senders.frames) → input_used iov one ≡ input_used iov other → SameCall one other
  bench_same = same_call bench_sending (OpenedUnder prepared-key iov direction) bench_known (λ sapi sender is. link_good is)

  pub used : (senders : BenchSenders prepared-key iov direction) → CipheredUnderInput prepared-key iov direction senders.frames
  used = used_by bench_sending (OpenedUnder prepared-key iov direction) bench_known (λ sapi sender is. link_good is)

  -- and careful hosts
  host_known : (sapi : ℕ) (host last : Host) (frames : List SentFrame) → HostUnder prepared-key iov direction sapi host → Sends careful_sending host frames last
      → SendersHalf frame_at (link_at sapi) frames
  host_known sapi host last frames is sends = subst (λ (link : Link). SendersHalf frame_at link frames) (stands_on is.under) (host_half is.new sends)

  hosts_same : (senders : HostSenders prepared-key iov direction) (one other : SealedFrame senders.frames) → input_used iov one ≡ input_used iov other → SameCall one other
  hosts_same = same_call careful_sending (HostUnder prepared-key iov direction) host_known (λ sapi host is. link_good is.under)

  hosts_used : (senders : HostSenders prepared-key iov direction) → CipheredUnderInput prepared-key iov direction senders.frames
  hosts_used = used_by careful_sending (HostUnder prepared-key iov direction) host_known (λ sapi host is. link_good is.under)

-- ---- senders that have sealed as much as one likes, each the payload of one octet

module _ (key : List ℕ) (iov direction count : ℕ) (valid : is_key key ≡ true) (way : is_direction direction ≡ true) (most : count ≤ 2 ^ 27) where
  -- what the sender of a service sealed: so many frames, where the service is assigned
  record OfService (sapi : ℕ) : Type 0 where
    frames : List SentFrame
    sealed : SealedSince bench_sending (OpenedUnder (prepared key) iov direction sapi) frames
    has : is_service sapi ≡ true → length frames ≡ count

  of_service : (sapi : ℕ) → OfService sapi
  unfolding end
  of_service sapi =
      by-test (is_service sapi) (OfService sapi)
      (λ service.
      let allowed = opening_allowed key sapi direction valid service way in
      let link : Link = link_of key iov sapi direction in
      record {
        frames = sent_from link (7 ∷ []) 0 count;
        sealed =
            opened (record { key = key; yields = refl; sender_opened = sender_opens key iov sapi direction allowed })
            (sends_from link (7 ∷ []) (opened_link key iov sapi direction allowed) (lit≤ tt) (lit≤ tt) 0 count (omega (arith, most)));
        has = λ exists. length-sent link (7 ∷ []) 0 count;
      })
      (λ none. record { frames = []; sealed = not_opened; has = λ exists. absurd (true≢false (sym exists ∙ none)) })

  all_have_sealed : AllHaveSealed bench_sending (OpenedUnder (prepared key) iov direction) count
  all_have_sealed = record {
    senders = record { frames = λ sapi. (of_service sapi).frames; sealed = λ sapi. (of_service sapi).sealed };
    each_has = λ sapi. (of_service sapi).has;
  }

pub no_input_twice : NoInputTwice
no_input_twice = record {
  formula = different_inputs;
  sealed = λ prepared-key iov direction senders one other two-calls same. two-calls (bench_same prepared-key iov direction senders one other same);
  used = used;
  hosts_sealed = λ prepared-key iov direction senders one other two-calls same. two-calls (hosts_same prepared-key iov direction senders one other same);
  hosts_used = hosts_used;
  some = all_have_sealed;
}
