-- The S-box as numbers: one computed test over all 256 entries and the lemma at each, that the inverse is one, and that the S-box is a permutation.
-- Assumes nothing.
use Prim.Native.Nat.{ℕ, ◌<◌}
use native.Mathlib.Omega.{arith}
use mathlib.Core.Path.{◌≡◌, refl, sym, subst, ◌∙◌}
use mathlib.Core.Bool.{Bool, false, ◌&&◌, ◌||◌}
use mathlib.Core.List.{List, [], ◌∷◌}
use borrow.Author.Tests.{ne_eqb}
use lib.Dec.{T, eqb, ltb, eqb→eq, ltb→lt}
use lib.ListN.{get_or}
use lib.Seq.{ext_get_or}
use Rattle.refusals.proofs.Tests.{and_left, and_right, at_place}
use Rattle.octets.specs.Bits.{listed}
use Rattle.octets.proofs.Listed.{length-listed, get_or-listed}
use Rattle.octets.specs.Permutation.{Permutes}
use Rattle.octets.proofs.Permutation.{permutes}
use Rattle.aes.specs.Field.{product, remainder, ◌•◌}
use Rattle.aes.specs.SBox.{squares, inverse, affine, sbox}

-- the entries for input 0, 1, 2, ..; that each is what the definition gives is proved below, `sbox-entry`
unfoldable pub entries : List ℕ
entries =
    99 ∷ 124 ∷ 119 ∷ 123 ∷ 242 ∷ 107 ∷ 111 ∷ 197 ∷ 48 ∷ 1 ∷ 103 ∷ 43 ∷ 254 ∷ 215 ∷ 171 ∷ 118 ∷
    202 ∷ 130 ∷ 201 ∷ 125 ∷ 250 ∷ 89 ∷ 71 ∷ 240 ∷ 173 ∷ 212 ∷ 162 ∷ 175 ∷ 156 ∷ 164 ∷ 114 ∷ 192 ∷
    183 ∷ 253 ∷ 147 ∷ 38 ∷ 54 ∷ 63 ∷ 247 ∷ 204 ∷ 52 ∷ 165 ∷ 229 ∷ 241 ∷ 113 ∷ 216 ∷ 49 ∷ 21 ∷
    4 ∷ 199 ∷ 35 ∷ 195 ∷ 24 ∷ 150 ∷ 5 ∷ 154 ∷ 7 ∷ 18 ∷ 128 ∷ 226 ∷ 235 ∷ 39 ∷ 178 ∷ 117 ∷
    9 ∷ 131 ∷ 44 ∷ 26 ∷ 27 ∷ 110 ∷ 90 ∷ 160 ∷ 82 ∷ 59 ∷ 214 ∷ 179 ∷ 41 ∷ 227 ∷ 47 ∷ 132 ∷
    83 ∷ 209 ∷ 0 ∷ 237 ∷ 32 ∷ 252 ∷ 177 ∷ 91 ∷ 106 ∷ 203 ∷ 190 ∷ 57 ∷ 74 ∷ 76 ∷ 88 ∷ 207 ∷
    208 ∷ 239 ∷ 170 ∷ 251 ∷ 67 ∷ 77 ∷ 51 ∷ 133 ∷ 69 ∷ 249 ∷ 2 ∷ 127 ∷ 80 ∷ 60 ∷ 159 ∷ 168 ∷
    81 ∷ 163 ∷ 64 ∷ 143 ∷ 146 ∷ 157 ∷ 56 ∷ 245 ∷ 188 ∷ 182 ∷ 218 ∷ 33 ∷ 16 ∷ 255 ∷ 243 ∷ 210 ∷
    205 ∷ 12 ∷ 19 ∷ 236 ∷ 95 ∷ 151 ∷ 68 ∷ 23 ∷ 196 ∷ 167 ∷ 126 ∷ 61 ∷ 100 ∷ 93 ∷ 25 ∷ 115 ∷
    96 ∷ 129 ∷ 79 ∷ 220 ∷ 34 ∷ 42 ∷ 144 ∷ 136 ∷ 70 ∷ 238 ∷ 184 ∷ 20 ∷ 222 ∷ 94 ∷ 11 ∷ 219 ∷
    224 ∷ 50 ∷ 58 ∷ 10 ∷ 73 ∷ 6 ∷ 36 ∷ 92 ∷ 194 ∷ 211 ∷ 172 ∷ 98 ∷ 145 ∷ 149 ∷ 228 ∷ 121 ∷
    231 ∷ 200 ∷ 55 ∷ 109 ∷ 141 ∷ 213 ∷ 78 ∷ 169 ∷ 108 ∷ 86 ∷ 244 ∷ 234 ∷ 101 ∷ 122 ∷ 174 ∷ 8 ∷
    186 ∷ 120 ∷ 37 ∷ 46 ∷ 28 ∷ 166 ∷ 180 ∷ 198 ∷ 232 ∷ 221 ∷ 116 ∷ 31 ∷ 75 ∷ 189 ∷ 139 ∷ 138 ∷
    112 ∷ 62 ∷ 181 ∷ 102 ∷ 72 ∷ 3 ∷ 246 ∷ 14 ∷ 97 ∷ 53 ∷ 87 ∷ 185 ∷ 134 ∷ 193 ∷ 29 ∷ 158 ∷
    225 ∷ 248 ∷ 152 ∷ 17 ∷ 105 ∷ 217 ∷ 142 ∷ 148 ∷ 155 ∷ 30 ∷ 135 ∷ 233 ∷ 206 ∷ 85 ∷ 40 ∷ 223 ∷
    140 ∷ 161 ∷ 137 ∷ 13 ∷ 191 ∷ 230 ∷ 66 ∷ 104 ∷ 65 ∷ 153 ∷ 45 ∷ 15 ∷ 176 ∷ 84 ∷ 187 ∷ 22 ∷ []

-- what is tested of x and its entry: the affine map takes the inverse to the entry, and the inverse is one, but for 0
abbrev right : ℕ → ℕ → Bool
right x entry = let other = inverse x in eqb (affine other) entry && (eqb x 0 || eqb (x • other) 1)

tested : (x : ℕ) → x < 256 → T (right x (get_or entries x 0))
unfolding product remainder ◌•◌ squares inverse listed affine entries
tested x below = at_place right entries 0 tt x below

pub sbox_entry : (x : ℕ) → x < 256 → sbox x ≡ get_or entries x 0
unfolding sbox
sbox_entry x below =
    eqb→eq (sbox x) (get_or entries x 0) (and_left (eqb (sbox x) (get_or entries x 0)) (eqb x 0 || eqb (x • inverse x) 1) (tested x below))

-- each octet but 0 has a product of 1 with its inverse
pub inverse_is : (x : ℕ) → 0 < x → x < 256 → (x • inverse x) ≡ 1
inverse_is x some below =
    let product-is-1 : T (eqb x 0 || eqb (x • inverse x) 1) = and_right (eqb (affine (inverse x)) (get_or entries x 0)) (eqb x 0 || eqb (x • inverse x) 1) (tested x below) in
    let other : eqb x 0 ≡ false = ne_eqb x 0 (λ zero. omega (arith, zero)) in
    eqb→eq (x • inverse x) 1 (rw other at product-is-1)

-- ---- the permutation

-- the place of each number among the entries
unfoldable places : List ℕ
places =
    82 ∷ 9 ∷ 106 ∷ 213 ∷ 48 ∷ 54 ∷ 165 ∷ 56 ∷ 191 ∷ 64 ∷ 163 ∷ 158 ∷ 129 ∷ 243 ∷ 215 ∷ 251 ∷
    124 ∷ 227 ∷ 57 ∷ 130 ∷ 155 ∷ 47 ∷ 255 ∷ 135 ∷ 52 ∷ 142 ∷ 67 ∷ 68 ∷ 196 ∷ 222 ∷ 233 ∷ 203 ∷
    84 ∷ 123 ∷ 148 ∷ 50 ∷ 166 ∷ 194 ∷ 35 ∷ 61 ∷ 238 ∷ 76 ∷ 149 ∷ 11 ∷ 66 ∷ 250 ∷ 195 ∷ 78 ∷
    8 ∷ 46 ∷ 161 ∷ 102 ∷ 40 ∷ 217 ∷ 36 ∷ 178 ∷ 118 ∷ 91 ∷ 162 ∷ 73 ∷ 109 ∷ 139 ∷ 209 ∷ 37 ∷
    114 ∷ 248 ∷ 246 ∷ 100 ∷ 134 ∷ 104 ∷ 152 ∷ 22 ∷ 212 ∷ 164 ∷ 92 ∷ 204 ∷ 93 ∷ 101 ∷ 182 ∷ 146 ∷
    108 ∷ 112 ∷ 72 ∷ 80 ∷ 253 ∷ 237 ∷ 185 ∷ 218 ∷ 94 ∷ 21 ∷ 70 ∷ 87 ∷ 167 ∷ 141 ∷ 157 ∷ 132 ∷
    144 ∷ 216 ∷ 171 ∷ 0 ∷ 140 ∷ 188 ∷ 211 ∷ 10 ∷ 247 ∷ 228 ∷ 88 ∷ 5 ∷ 184 ∷ 179 ∷ 69 ∷ 6 ∷
    208 ∷ 44 ∷ 30 ∷ 143 ∷ 202 ∷ 63 ∷ 15 ∷ 2 ∷ 193 ∷ 175 ∷ 189 ∷ 3 ∷ 1 ∷ 19 ∷ 138 ∷ 107 ∷
    58 ∷ 145 ∷ 17 ∷ 65 ∷ 79 ∷ 103 ∷ 220 ∷ 234 ∷ 151 ∷ 242 ∷ 207 ∷ 206 ∷ 240 ∷ 180 ∷ 230 ∷ 115 ∷
    150 ∷ 172 ∷ 116 ∷ 34 ∷ 231 ∷ 173 ∷ 53 ∷ 133 ∷ 226 ∷ 249 ∷ 55 ∷ 232 ∷ 28 ∷ 117 ∷ 223 ∷ 110 ∷
    71 ∷ 241 ∷ 26 ∷ 113 ∷ 29 ∷ 41 ∷ 197 ∷ 137 ∷ 111 ∷ 183 ∷ 98 ∷ 14 ∷ 170 ∷ 24 ∷ 190 ∷ 27 ∷
    252 ∷ 86 ∷ 62 ∷ 75 ∷ 198 ∷ 210 ∷ 121 ∷ 32 ∷ 154 ∷ 219 ∷ 192 ∷ 254 ∷ 120 ∷ 205 ∷ 90 ∷ 244 ∷
    31 ∷ 221 ∷ 168 ∷ 51 ∷ 136 ∷ 7 ∷ 199 ∷ 49 ∷ 177 ∷ 18 ∷ 16 ∷ 89 ∷ 39 ∷ 128 ∷ 236 ∷ 95 ∷
    96 ∷ 81 ∷ 127 ∷ 169 ∷ 25 ∷ 181 ∷ 74 ∷ 13 ∷ 45 ∷ 229 ∷ 122 ∷ 159 ∷ 147 ∷ 201 ∷ 156 ∷ 239 ∷
    160 ∷ 224 ∷ 59 ∷ 77 ∷ 174 ∷ 42 ∷ 245 ∷ 176 ∷ 200 ∷ 235 ∷ 187 ∷ 60 ∷ 131 ∷ 83 ∷ 153 ∷ 97 ∷
    23 ∷ 43 ∷ 4 ∷ 126 ∷ 186 ∷ 119 ∷ 214 ∷ 38 ∷ 225 ∷ 105 ∷ 20 ∷ 99 ∷ 85 ∷ 33 ∷ 12 ∷ 125 ∷ []

entries_permute : Permutes 256 entries
unfolding entries places
entries_permute = permutes 256 entries places refl refl tt tt

entries_are : listed sbox 256 ≡ entries
entries_are =
    ext_get_or 0 _ _ (length-listed sbox 256 ∙ sym entries_permute.entries)
    (λ i below.
    let within : i < 256 = rw length-listed at below in
    get_or-listed sbox 256 i 0 within ∙ sbox_entry i within)

-- the S-box as a table of its 256 entries permutes the octets
pub sbox_permutes : Permutes 256 (listed sbox 256)
sbox_permutes = subst (Permutes 256) (sym entries_are) entries_permute

-- ---- for the table of the rounds

-- what the rounds need of an entry: its products with 01, 02 and 03 are octets, the first of them itself
abbrev one_fits : ℕ → Bool
one_fits entry = ltb entry 256 && eqb (1 • entry) entry

abbrev more_fit : ℕ → Bool
more_fit entry = ltb (2 • entry) 256 && ltb (3 • entry) 256

module _ (x : ℕ) (below : x < 256) where
  fitting : T (one_fits (sbox x) && more_fit (sbox x))
  unfolding product remainder ◌•◌ entries
  fitting = rw (sbox_entry x below) (at_place (λ (k entry : ℕ). one_fits entry && more_fit entry) entries 0 tt x below)

  one : T (one_fits (sbox x))
  one = and_left (one_fits (sbox x)) (more_fit (sbox x)) fitting

  more : T (more_fit (sbox x))
  more = and_right (one_fits (sbox x)) (more_fit (sbox x)) fitting

  pub sbox_lt : sbox x < 256
  sbox_lt = ltb→lt (sbox x) 256 (and_left (ltb (sbox x) 256) (eqb (1 • sbox x) (sbox x)) one)

  pub once : (1 • sbox x) ≡ sbox x
  once = eqb→eq (1 • sbox x) (sbox x) (and_right (ltb (sbox x) 256) (eqb (1 • sbox x) (sbox x)) one)

  pub twice_lt : (2 • sbox x) < 256
  twice_lt = ltb→lt (2 • sbox x) 256 (and_left (ltb (2 • sbox x) 256) (ltb (3 • sbox x) 256) more)

  pub thrice_lt : (3 • sbox x) < 256
  thrice_lt = ltb→lt (3 • sbox x) 256 (and_right (ltb (2 • sbox x) 256) (ltb (3 • sbox x) 256) more)
