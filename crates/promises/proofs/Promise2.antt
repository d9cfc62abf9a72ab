-- Promise 2. Assumes nothing.
use lib.Dec.{lit≤, lit<}
use Rattle.numbering.specs.Numbering.{width}
use Rattle.promises.specs.Promise2.{Promise2}
use Rattle.promises.proofs.Calls.{all_determined}
use Rattle.promises.proofs.BitForBit.{bit_for_bit}
use Rattle.promises.proofs.ByTheRule.{by_the_rule}

pub promise_2 : Promise2
promise_2 = record {
  keystreams = bit_for_bit;
  link = by_the_rule width (lit< tt) (lit≤ tt);
  calls = all_determined;
}
