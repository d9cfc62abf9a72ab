-- `link::Link::put_ciphered` meets its contract: GEA4, which then refuses nothing, fills the stream, and the payload is put xor the stream.
-- Assumes nothing.
use Rattle.std.proofs.Common.{◌≡◌, ℕ, ◌≤◌, List, length, ap, ◌∙◌, arith, rules}
use Rattle.std.specs.Prelude.{replicate}
use Rattle.refusals.specs.Number.{refusal_of}
use Rattle.refusals.specs.Call.{front}
use Rattle.refusals.proofs.Number.{is_ok}
use Rattle.octets.specs.Xor.{xored}
use Rattle.octets.proofs.Xored.{xored_front, xor_done}
use Rattle.keystreams.specs.Gea4.{gea4_output}
use Rattle.keystreams.proofs.Keys.{whole_is_key}
use Rattle.keystreams.proofs.Laws.{length_gea4, gea4_done}
use Rattle.link.specs.Link.{ciphered}
use Rattle.link.proofs.Links.{link_says, service_most, direction_most}
use Rattle.link.proofs.Link.put_ciphered.Goals.{After-gea4}
use Rattle.link.proofs.Link.put_ciphered.Goals as goal

-- GEA4 refuses nothing, and puts its octets to the front of the stream
filled : (c : After-gea4) → let link = c.args.self.now in let m : ℕ = length c.args.payload.now in
    (refusal_of c.gea4.result ≡ 0) × (c.gea4.new.output ≡ front (gea4_output link.key c.input-input.result link.direction m) (replicate 1520 0))
filled c =
    let link = c.args.self.now in
    gea4_done link.key c.input-input.result link.direction (length c.args.payload.now) (replicate 1520 0) c.gea4.ensures
    (whole_is_key link.key (search rules)) (direction_most link.direction (link_says link c.requires.0).1) c.requires.1.0 (omega arith) c.requires.1.1.0

pub input-input-requires : goal.input-input-requires
input-input-requires c = service_most _ (link_says _ c.requires.0).0

pub unwrap-requires : goal.unwrap-requires
unwrap-requires c = is_ok _ (filled (goal.at.unwrap-requires c).After-gea4).0

pub unwrap-requires-2 : goal.unwrap-requires-2
unwrap-requires-2 c = is_ok _ (xor_done c.args.payload.now c.gea4.new.output c.args.output.now c.xor.ensures c.requires.1.1.1).0

pub returns : goal.returns
unfolding ciphered front
returns c =
    let link = c.args.self.now in
    let payload = c.args.payload.now in
    let before = c.args.output.now in
    let stream : ℕ → List ℕ = λ x. gea4_output link.key x link.direction (length payload) in
    let long : length payload ≤ length (stream c.input-input.result) = omega (arith, length_gea4 link.key c.input-input.result link.direction (length payload)) in
    (xor_done payload _ before c.xor.ensures c.requires.1.1.1).1
    ∙ ap (λ (l : List ℕ). front (xored payload l) before) (filled (goal.at.returns c).After-gea4).1
    ∙ ap (λ (l : List ℕ). front l before) (xored_front payload (stream c.input-input.result) _ long)
    ∙ ap (λ (x : ℕ). front (xored payload (stream x)) before) c.input-input.ensures
