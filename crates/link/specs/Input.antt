-- The GPRS INPUT value of a frame (document 01, "The link"; TS 44.064 writes n as LFN + OC). Assumes nothing.
use Rattle.std.specs.Prelude.{ℕ, ◌+◌, ◌*◌, ◌%◌, ◌^◌, bit_xor}

-- SX = 2^27 * SAPI + 2^31
unfoldable pub sx : ℕ → ℕ
sx sapi = 2 ^ 27 * sapi + 2 ^ 31

-- INPUT = ((IOV xor SX) + n) mod 2^32
unfoldable pub input_of : ℕ → ℕ → ℕ → ℕ
input_of iov sapi n = (bit_xor iov (sx sapi) + n) % 2 ^ 32
