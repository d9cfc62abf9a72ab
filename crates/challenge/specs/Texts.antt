-- The texts of an answer: names and values, with one space between. Assumes nothing.
use Rattle.std.specs.Prelude.{ℕ, List, [], ◌∷◌, ◌++◌}
use Rattle.lines.specs.Text.{hex_text}

-- a name, and its value as capital hex
unfoldable pub named : List ℕ → List ℕ → List ℕ
named name octets = name ++ hex_text octets

-- the names, each with the spaces (32) at its sides: `OPc`, with which an answer begins,
unfoldable pub name_opc : List ℕ
name_opc = 79 ∷ 80 ∷ 99 ∷ 32 ∷ []

-- `RES`,
unfoldable pub name_res : List ℕ
name_res = 32 ∷ 82 ∷ 69 ∷ 83 ∷ 32 ∷ []

-- `CK`,
unfoldable pub name_ck : List ℕ
name_ck = 32 ∷ 67 ∷ 75 ∷ 32 ∷ []

-- `IK`,
unfoldable pub name_ik : List ℕ
name_ik = 32 ∷ 73 ∷ 75 ∷ 32 ∷ []

-- `AK`,
unfoldable pub name_ak : List ℕ
name_ak = 32 ∷ 65 ∷ 75 ∷ 32 ∷ []

-- `MAC-A`,
unfoldable pub name_mac_a : List ℕ
name_mac_a = 32 ∷ 77 ∷ 65 ∷ 67 ∷ 45 ∷ 65 ∷ 32 ∷ []

-- and `MAC-S`
unfoldable pub name_mac_s : List ℕ
name_mac_s = 32 ∷ 77 ∷ 65 ∷ 67 ∷ 45 ∷ 83 ∷ 32 ∷ []

-- the values that every challenge has
unfoldable pub results_text : List ℕ → List ℕ → List ℕ → List ℕ → List ℕ → List ℕ
results_text opc res ck ik ak = named name_opc opc ++ named name_res res ++ (named name_ck ck ++ named name_ik ik) ++ named name_ak ak

-- the values of SQN and AMF
unfoldable pub codes_text : List ℕ → List ℕ → List ℕ
codes_text macA macS = named name_mac_a macA ++ named name_mac_s macS
