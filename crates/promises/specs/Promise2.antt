-- Promise 2: the keystreams bit for bit, sealing and opening by the paper's rules, and every public call determined, each refusal given then and only
-- then. Assumes nothing.
use Rattle.refusals.specs.Call.{Determined, Always, All}
use Rattle.numbering.specs.Numbering.{width}
use Rattle.promises.specs.Calls.{public_calls}
use Rattle.promises.specs.BitForBit.{BitForBit}
use Rattle.promises.specs.ByTheRule.{ByTheRule}

-- promise 2: the keystreams, the link at its width, and every public call
pub record Promise2 : Type 0 where
  pub keystreams : BitForBit
  pub link : ByTheRule width
  pub calls : All (Always (λ Lent call. Determined call)) public_calls
