-- What sealing answers, cause by cause, and a frame that is written in two parts.
-- Assumes nothing.
use Prim.Native.Nat.{ℕ, ◌+◌, ◌-◌, ◌≤◌, ◌<◌}
use native.Mathlib.Omega.{arith}
use mathlib.Core.Path.{◌≡◌, sym, ap, ◌∙◌}
use mathlib.Core.Bool.{true, false, and-eq-true_iff}
use mathlib.Core.List.{List, [], ◌++◌, append-nil, append_assoc}
use borrow.Author.Tests.{eq-eqb, ne_eqb, lt-ltb, le-ltb, le-leb, lt-leb, leb-true}
use borrow.Rule.Slice.PartMut.{mid_of, put_mid, mid_len}
use lib.ListN.{length, drop, length-append, length-drop, drop_of_length-le}
use lib.Seq.{take_at, drop_at, drop-drop}
use Rattle.refusals.specs.Refusal.{first}
use Rattle.refusals.specs.Call.{front}
use Rattle.numbering.specs.Numbering.{end}
use Rattle.frames.specs.Frame.{header_octets, frame}
use Rattle.frames.proofs.ReadBack.{length-header}
use Rattle.link.specs.declared.Link.{Link}
use Rattle.link.specs.Link.{link_can_arise, is_payload, ciphered, header_at, frame_at}
use Rattle.link.proofs.Frames.{length-ciphered, length-frame_at}
use Rattle.sender.specs.declared.Sender.{Sender}
use Rattle.sender.specs.Sender.{sender_can_arise, seal_order}

-- a sender that can arise, as facts
pub record SenderSays (sender : Sender) : Type 0 where
  pub link_can : link_can_arise sender.link ≡ true
  pub before_end : sender.reserved ≤ end
  pub within : sender.next ≤ sender.reserved
  pub near : sender.reserved ≤ sender.next + 64

pub sender_says : (sender : Sender) → sender_can_arise sender ≡ true → SenderSays sender
unfolding sender_can_arise
sender_says sender good =
    let link-rest = (and-eq-true_iff _ _).0 good in
    let end_rest = (and-eq-true_iff _ _).0 link-rest.1 in
    let both = (and-eq-true_iff _ _).0 end_rest.1 in
    record { link_can = link-rest.0; before_end = leb-true _ _ end_rest.0; within = leb-true _ _ both.0; near = leb-true _ _ both.1 }

-- and the facts make one that can
pub says_sender : (sender : Sender) → SenderSays sender → sender_can_arise sender ≡ true
unfolding sender_can_arise
says_sender sender says = simp (says.link_can, le-leb _ _ says.before_end, le-leb _ _ says.within, le-leb _ _ says.near)

-- where a head stands at the front of a buffer, and a part is put after it, both stand there
pub put_next : (head body before : List ℕ) {now part : List ℕ} (at n : ℕ) → now ≡ head ++ drop at before → part ≡ body → length head ≡ at
    → put_mid at n now part ≡ (head ++ body) ++ drop (at + n) before
put_next head body before at n is put long =
    rw (is, put, take_at head (drop at before) at long, drop_at head (drop at before) at long, drop-drop n at before)
    (sym (append_assoc head body (drop (at + n) before)))

-- the same where the part was as long as the body before that was put to its front
two_parts : (head body before now part : List ℕ) (at size : ℕ) → length head ≡ at → now ≡ head ++ drop at before
    → size ≡ at + length body → size ≤ length before → part ≡ body ++ drop (length body) (mid_of at (size - at) now)
    → put_mid at (size - at) now part ≡ (head ++ body) ++ drop size before
two_parts head body before now part at size long is total room put =
    let kept : length now ≡ length before = ap length is ∙ length-append head (drop at before) ∙ omega (arith, length-drop at before) in
    let filled : drop (length body) (mid_of at (size - at) now) ≡ [] =
    drop_of_length-le (mid_of at (size - at) now) {i = length body} (omega (arith, mid_len at size now (omega arith))) in
    put_next head body before at (size - at) is (put ∙ ap (λ (l : List ℕ). body ++ l) filled ∙ append-nil body) long
    ∙ ap (λ (k : ℕ). (head ++ body) ++ drop k before) {x = at + (size - at)} {y = size} (omega arith)

-- a frame: its header first, then its payload, ciphered
pub frame_written : (link : Link) (n : ℕ) (payload before headed part : List ℕ)
    → headed ≡ front (header_octets (header_at link n) (length payload)) before → length payload + 6 ≤ length before
    → part ≡ front (ciphered link n payload) (mid_of 6 (length payload + 6 - 6) headed)
    → put_mid 6 (length payload + 6 - 6) headed part ≡ front (frame_at link n payload) before
unfolding front frame_at frame
frame_written link n payload before headed part is room put =
    let head : ℕ → List ℕ = header_octets (header_at link n) in
    let body : List ℕ = ciphered link n payload in
    let size : ℕ = length payload + 6 in
    let long : length body ≡ length payload = length-ciphered link n payload in
    let six : length (head (length payload)) ≡ 6 = length-header (header_at link n) (length payload) in
    two_parts (head (length payload)) body before headed part 6 size six (is ∙ ap (λ (k : ℕ). head (length payload) ++ drop k before) six) (omega arith) room put
    ∙ ap (λ (k : ℕ). (head k ++ body) ++ drop size before) (sym long)
    ∙ ap (λ (k : ℕ). frame_at link n payload ++ drop k before) (sym (length-frame_at link n payload))

module _ (sender : Sender) (payload before : List ℕ) where
  pub seal_12 : sender_can_arise sender ≡ false → first (seal_order sender payload before) ≡ 12
  unfolding first seal_order
  seal_12 bad = simp bad

  module _ (good : sender_can_arise sender ≡ true) where
    pub seal_3_empty : length payload ≡ 0 → first (seal_order sender payload before) ≡ 3
    unfolding first seal_order is_payload
    seal_3_empty empty = simp (good, eq-eqb _ _ empty)

    module _ (some : length payload ≡ 0 → ⊥) where
      pub seal_3_long : 1520 < length payload → first (seal_order sender payload before) ≡ 3
      unfolding first seal_order is_payload
      seal_3_long long = simp (good, ne_eqb _ _ some, lt-ltb _ _ long)

      module _ (most : length payload ≤ 1520) where
        pub seal_10 : sender.next ≡ end → first (seal_order sender payload before) ≡ 10
        unfolding first seal_order is_payload
        seal_10 last = simp (good, ne_eqb _ _ some, le-ltb _ _ most, eq-eqb _ _ last)

        module _ (more : sender.next ≡ end → ⊥) where
          pub seal_13 : sender.reserved ≤ sender.next → first (seal_order sender payload before) ≡ 13
          unfolding first seal_order is_payload
          seal_13 used = simp (good, ne_eqb _ _ some, le-ltb _ _ most, ne_eqb _ _ more, le-leb _ _ used)

          module _ (below : sender.next < sender.reserved) where
            pub seal_4 : length before < length payload + 6 → first (seal_order sender payload before) ≡ 4
            unfolding first seal_order is_payload
            seal_4 short = simp (good, ne_eqb _ _ some, le-ltb _ _ most, ne_eqb _ _ more, lt-leb _ _ below, lt-ltb _ _ short)

            pub seal_0 : length payload + 6 ≤ length before → first (seal_order sender payload before) ≡ 0
            unfolding first seal_order is_payload
            seal_0 room = simp (good, ne_eqb _ _ some, le-ltb _ _ most, ne_eqb _ _ more, lt-leb _ _ below, le-ltb _ _ room)
