-- The laws of the texts of an answer: how long they are, and how they are put together.
-- Assumes nothing.
use Prim.Native.Nat.{ℕ, ◌+◌, ◌*◌}
use native.Mathlib.Omega.{arith}
use mathlib.Core.Path.{◌≡◌, ap, ap₂, ◌∙◌}
use mathlib.Core.List.{List, ◌++◌}
use lib.ListN.{length, length-append}
use Rattle.lines.specs.Text.{hex_text, AtFront, Added}
use Rattle.lines.proofs.Placed.{at_front_added, at_front_more}
use Rattle.lines.proofs.Text.{length-hex_text}
use Rattle.challenge.specs.Texts.{named, name_opc, name_res, name_ck, name_ik, name_ak, name_mac_a, name_mac_s, results_text, codes_text}

pub length-named : (name octets : List ℕ) → length (named name octets) ≡ length name + 2 * length octets
unfolding named
length-named name octets = length-append name (hex_text octets) ∙ ap (λ (n : ℕ). length name + n) (length-hex_text octets)

pub length_two : (name octets next more : List ℕ)
    → length (named name octets ++ named next more) ≡ length name + 2 * length octets + (length next + 2 * length more)
length_two name octets next more = length-append (named name octets) (named next more) ∙ ap₂ (λ (m n : ℕ). m + n) (length-named name octets) (length-named next more)

-- 145 octets for what every challenge has
pub length_results : (opc res ck ik ak : List ℕ) → length opc ≡ 16 → length res ≡ 8 → length ck ≡ 16 → length ik ≡ 16 → length ak ≡ 6
    → length (results_text opc res ck ik ak) ≡ 145
unfolding results_text name_opc name_res name_ck name_ik name_ak
length_results opc res ck ik ak opc_size res-size ck-size ik-size ak-size = simp (length-append, length-named) (omega arith)

-- and 46 for MAC-A and MAC-S
pub length_codes : (network phone : List ℕ) → length network ≡ 8 → length phone ≡ 8 → length (codes_text network phone) ≡ 46
unfolding codes_text name_mac_a name_mac_s
length_codes network phone network-size phone-size = length_two name_mac_a network name_mac_s phone ∙ omega arith

-- one after the other, as they are put
pub results_put : (opc res ck ik ak : List ℕ) {before one two after : List ℕ} {res-end ik-end end : ℕ}
    → Added (named name_opc opc ++ named name_res res) before 0 res-end one → Added (named name_ck ck ++ named name_ik ik) one res-end ik-end two
    → Added (named name_ak ak) two ik-end end after → AtFront (results_text opc res ck ik ak) before end after
unfolding results_text
results_put opc res ck ik ak first second third =
    at_front_more {text = named name_opc opc ++ named name_res res ++ (named name_ck ck ++ named name_ik ik)}
    (at_front_more {text = named name_opc opc ++ named name_res res} (at_front_added first) second) third
