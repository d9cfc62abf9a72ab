-- What opening a link asks, and what callers of the ciphering use.
-- Assumes nothing.
use Rattle.std.proofs.Common.{◌≡◌, ℕ, ◌<◌, ◌≤◌, true, false, ◌||◌, eqb, ltb, leb, ◌⊎◌, List, length, sym, refl, ap₂, inl, inr, arith, lit≤, le-ltb, ne_eqb, leb-true}
use mathlib.Core.Bool.{and-eq-true_iff, and-false}
use borrow.Author.Tests.{not-false}
use Rattle.refusals.specs.Refusal.{first, row_at}
use Rattle.refusals.specs.Call.{Answered, front}
use Rattle.refusals.proofs.Among.{among_passes}
use Rattle.refusals.proofs.Calls.{answered_done}
use Rattle.refusals.proofs.Laws.{then_and_only_then}
use Rattle.refusals.proofs.Tests.{by-test}
use Rattle.keystreams.specs.Key.{is_key}
use Rattle.keystreams.proofs.Keys.{length-prepared}
use Rattle.link.specs.declared.Link.{Link}
use Rattle.link.specs.Services.{assigned}
use Rattle.link.specs.Link.{is_service, is_direction, link_can_arise, link_order, no_link, link_of, ciphered, is_payload, cipher_order, cipher_call}

-- a service number and a direction that exist fit the frame's four bits and one
pub service_most : (sapi : ℕ) → is_service sapi ≡ true → sapi ≤ 15
unfolding is_service
service_most sapi exists = lit≤ (among_passes (λ (m : ℕ). leb m 15) sapi 0 assigned tt exists)

pub direction_most : (direction : ℕ) → is_direction direction ≡ true → direction ≤ 1
unfolding is_direction
direction_most direction exists = leb-true direction 1 exists

pub link_says : (link : Link) → link_can_arise link ≡ true → (is_service link.sapi ≡ true) × (is_direction link.direction ≡ true)
unfolding link_can_arise
link_says link good = (and-eq-true_iff _ _).0 good

-- and where it cannot, one of the two does not exist
pub link_says_not : (link : Link) → link_can_arise link ≡ false → (is_service link.sapi ≡ false) ⊎ (is_direction link.direction ≡ false)
unfolding link_can_arise
link_says_not link bad =
    by-test (is_service link.sapi) ((is_service link.sapi ≡ false) ⊎ (is_direction link.direction ≡ false))
    (λ service. inr (rw service at bad))
    (λ none. inl none)

pub says_no_link : (link : Link) → (is_service link.sapi ≡ false) ⊎ (is_direction link.direction ≡ false) → link_can_arise link ≡ false
unfolding link_can_arise
says_no_link link (inl service) = rw service
says_no_link link (inr direction) = rw (direction, and-false)

-- no link is none
pub no_link_lem : link_can_arise no_link ≡ false
unfolding link_can_arise no_link is_service is_direction
no_link_lem = refl

-- where opening is not refused, the key is one, and the link can arise
module _ (key : List ℕ) (iov sapi direction : ℕ) (nothing : first (link_order key sapi direction) ≡ 0) where
  passed : (k : ℕ) → (row_at (link_order key sapi direction) k).holds ≡ false
  unfolding link_order
  passed = (then_and_only_then (link_order key sapi direction) tt 0 (sym nothing)).none.0 refl

  pub opened_key : is_key key ≡ true
  unfolding link_order row_at
  opened_key = not-false _ (passed 0)

  pub opened_link : link_can_arise (link_of key iov sapi direction) ≡ true
  unfolding link_order row_at link_of link_can_arise
  opened_link = not-false _ (passed 1)

  pub opened_length : length (link_of key iov sapi direction).key ≡ 16
  unfolding link_of
  opened_length = length-prepared key opened_key

-- where no cause of a refusal holds the payload is put, ciphered, and the octets past it are kept
pub cipher_done : (link : Link) (n : ℕ) (payload before : List ℕ) {refusal : ℕ} {numbers after : List ℕ} → Answered (cipher_call link n payload before) refusal numbers after
    → link_can_arise link ≡ true → 0 < length payload → length payload ≤ 1520 → length payload ≤ length before
    → (refusal ≡ 0) × (after ≡ front (ciphered link n payload) before)
unfolding first cipher_order is_payload
cipher_done link n payload before answered good some most room =
    let sizes : (eqb (length payload) 0 || ltb 1520 (length payload)) ≡ false = ap₂ ◌||◌ (ne_eqb (length payload) 0 (omega arith)) (le-ltb 1520 (length payload) most) in
    let done = answered_done (cipher_call link n payload before) answered (rw (good, sizes, le-ltb (length before) (length payload) room)) in
    (done.0, done.2)
