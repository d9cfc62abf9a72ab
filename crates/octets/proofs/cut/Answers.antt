-- `octets::cut` meets its contract: each turn of the loop puts the next octet, of the eight bits there as many as are left.
-- Assumes nothing.
use Rattle.std.proofs.Common.{rules}
use mathlib.Core.Path.{◌≡◌, refl, sym, ap, ap₂, ◌∙◌}
use mathlib.Core.List.{List, ◌++◌}
use Prim.Native.Nat.{ℕ, ◌+◌, ◌-◌, ◌*◌}
use native.Mathlib.Omega.{arith}
use borrow.Author.Tests.{lt-ltb, le-ltb}
use lib.ListN.{length, drop, set}
use Rattle.refusals.specs.Refusal.{first}
use Rattle.octets.specs.Bits.{bit_at, bit_of, part, number, octet, listed, size, stored}
use Rattle.octets.specs.Cut.{cut_order}
use Rattle.octets.proofs.Number.{number_ext}
use Rattle.octets.proofs.Listed.{listed_store}
use Rattle.octets.proofs.Stored.{bit_of_lt, octet_first, front_stored}
use Rattle.octets.proofs.cut.Invariants.{asked}
use Rattle.octets.proofs.cut.Goals as goal

-- what a turn computes: of the eight bits from octet k on, as many as are left
turn : (source : List ℕ) (start count k x r : ℕ)
    → x ≡ number (λ j. bit_of source (start + 8 * k + j)) 8 → r ≡ octet (part (bit_at 8 x) 0 (count - 8 * k)) 0 → r ≡ asked source start count k
turn source start count k x r eight firsts =
    firsts
    ∙ ap (λ (n : ℕ). octet (part (bit_at 8 x) 0 n) 0) (omega arith)
    ∙ octet_first (bit_of source) start count k x (bit_of_lt source) (eight ∙ number_ext _ _ 8 (λ j _. ap (bit_of source) (omega arith)))

pub returns-then-output-size : goal.returns-then-output-size
unfolding first cut_order
returns-then-output-size c =
    let given = c.args in
    record { refusal_is = rw (lt-ltb (length given.output.now) (size given.count) (omega arith)); numbers_are = refl; lent_is = refl }

pub loop-k-init : goal.loop-k-init
unfolding listed
loop-k-init c = refl

pub overflow_mul-k : goal.overflow_mul-k
unfolding size
overflow_mul-k c = search rules

pub overflow_add-start : goal.overflow_add-start
unfolding size
overflow_add-start c = search rules

pub eight_bits-requires : goal.eight_bits-requires
unfolding size
eight_bits-requires c = search rules

pub overflow_mul-k-in-loop-k : goal.overflow_mul-k-in-loop-k
unfolding size
overflow_mul-k-in-loop-k c = search rules

pub overflow_sub-count : goal.overflow_sub-count
unfolding size
overflow_sub-count c = search rules

pub loop-k-preserved : goal.loop-k-preserved
loop-k-preserved c =
    let given = c.args in
    let source : List ℕ = given.source.now in
    let k : ℕ = c.loop-k.k in
    ap₂ (λ (l : List ℕ) (x : ℕ). set l k x) c.loop-k.invariant (turn source given.start given.count k _ _ c.eight_bits.ensures c.first_bits.ensures)
    ∙ listed_store (asked source given.start given.count) given.output.now k (omega arith)

pub returns : goal.returns
unfolding first cut_order stored
returns c =
    let given = c.args in
    record {
      refusal_is = rw (le-ltb (length given.output.now) (size given.count) (omega arith));
      numbers_are = refl;
      lent_is =
          c.loop-k.invariant
          ∙ ap (λ (k : ℕ). listed (asked given.source.now given.start given.count) k ++ drop k given.output.now) (omega arith)
          ∙ sym (front_stored (bit_of given.source.now) given.start given.count given.output.now);
    }
