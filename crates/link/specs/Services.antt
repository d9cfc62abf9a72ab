-- The service numbers that exist: SAPI of TS 44.064 (document 02, item 5). Assumes nothing.
use Rattle.std.specs.Prelude.{ℕ, List, [], ◌∷◌}

-- the numbers that the standard assigns, with its names and what they are for; it reserves all others
abbrev pub assigned : List ℕ
assigned =
    1 ∷  -- LLGMM: GPRS mobility management (GMM)
    2 ∷  -- TOM2: tunnelling of messages (TOM 2)
    3 ∷  -- LL3: user data
    5 ∷  -- LL5: user data
    7 ∷  -- LLSMS: short message service (SMS)
    8 ∷  -- TOM8: tunnelling of messages (TOM 8)
    9 ∷  -- LL9: user data
    11 ∷  -- LL11: user data
    []
