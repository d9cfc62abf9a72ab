-- The S-boxes: at each entry table and gate equations agree, and each table permutes its range.
-- Assumes nothing.
use Prim.Native.Nat.{ℕ, ◌<◌, ◌≤◌}
use native.Mathlib.Decide.{dec_lt}
use native.Mathlib.Omega.{arith}
use mathlib.Core.Path.{◌≡◌, refl}
use mathlib.Core.List.{List, [], ◌∷◌}
use lib.Dec.{eqb, eqb→eq, lit<}
use lib.ListN.{length, get_or, get_or-eq_default}
use Rattle.refusals.proofs.Tests.{at_place}
use Rattle.octets.specs.Permutation.{Permutes}
use Rattle.octets.proofs.Permutation.{permutes}
use Rattle.sboxes.specs.Tables.{s7, s7_table, s9, s9_table}
use Rattle.sboxes.specs.Gates.{gates7, s7_gates, gates9, s9_gates}

-- the place of each number in S7
unfoldable pub s7_inverse : List ℕ
s7_inverse =
    70 ∷ 57 ∷ 12 ∷ 127 ∷ 101 ∷ 83 ∷ 9 ∷ 59 ∷ 89 ∷ 33 ∷ 61 ∷ 67 ∷ 23 ∷ 54 ∷ 85 ∷ 122 ∷
    58 ∷ 82 ∷ 13 ∷ 121 ∷ 48 ∷ 20 ∷ 4 ∷ 52 ∷ 115 ∷ 28 ∷ 98 ∷ 27 ∷ 94 ∷ 109 ∷ 76 ∷ 97 ∷
    92 ∷ 15 ∷ 5 ∷ 90 ∷ 118 ∷ 104 ∷ 8 ∷ 18 ∷ 42 ∷ 123 ∷ 120 ∷ 47 ∷ 111 ∷ 99 ∷ 26 ∷ 24 ∷
    39 ∷ 107 ∷ 1 ∷ 81 ∷ 36 ∷ 32 ∷ 0 ∷ 16 ∷ 3 ∷ 77 ∷ 38 ∷ 126 ∷ 37 ∷ 51 ∷ 2 ∷ 10 ∷
    112 ∷ 22 ∷ 95 ∷ 21 ∷ 108 ∷ 75 ∷ 45 ∷ 46 ∷ 50 ∷ 25 ∷ 105 ∷ 100 ∷ 66 ∷ 56 ∷ 119 ∷ 35 ∷
    106 ∷ 31 ∷ 60 ∷ 117 ∷ 87 ∷ 102 ∷ 74 ∷ 79 ∷ 124 ∷ 68 ∷ 86 ∷ 88 ∷ 103 ∷ 11 ∷ 6 ∷ 84 ∷
    7 ∷ 93 ∷ 63 ∷ 73 ∷ 55 ∷ 40 ∷ 96 ∷ 91 ∷ 44 ∷ 62 ∷ 69 ∷ 113 ∷ 114 ∷ 53 ∷ 116 ∷ 29 ∷
    80 ∷ 17 ∷ 19 ∷ 110 ∷ 65 ∷ 64 ∷ 72 ∷ 125 ∷ 43 ∷ 34 ∷ 49 ∷ 14 ∷ 30 ∷ 71 ∷ 78 ∷ 41 ∷ []

pub s7_permutes : Permutes 128 s7_table
unfolding s7_table s7_inverse
s7_permutes = permutes 128 s7_table s7_inverse refl refl tt tt

-- an entry is below 128; past the table it is 0
pub s7_lt : (x : ℕ) → s7 x < 128
unfolding s7
s7_lt x = elim (dec_lt x 128) [ yes l ↦ s7_permutes.within x l | no h ↦ rw (get_or-eq_default s7_table 0 (past x h)) (lit< tt) ]
  where
    past : (x : ℕ) → (x < 128 → ⊥) → length s7_table ≤ x
    past x h = rw s7_permutes.entries (omega arith)

-- one test over the whole table, and the lemma at each entry
pub s7_gates_lem : (x : ℕ) → x < 128 → s7 x ≡ s7_gates x
unfolding s7 s7_table s7_gates gates7
s7_gates_lem x l = eqb→eq (get_or s7_table x 0) (s7_gates x) (at_place (λ (k y : ℕ). eqb y (s7_gates k)) s7_table 0 tt x l)

-- the place of each number in S9
unfoldable pub s9_inverse : List ℕ
s9_inverse =
    38 ∷ 320 ∷ 437 ∷ 49 ∷ 338 ∷ 487 ∷ 197 ∷ 434 ∷ 504 ∷ 6 ∷ 276 ∷ 120 ∷ 315 ∷ 100 ∷ 245 ∷ 506 ∷
    184 ∷ 37 ∷ 351 ∷ 260 ∷ 139 ∷ 346 ∷ 424 ∷ 420 ∷ 167 ∷ 354 ∷ 289 ∷ 127 ∷ 73 ∷ 284 ∷ 465 ∷ 364 ∷
    287 ∷ 462 ∷ 393 ∷ 256 ∷ 124 ∷ 35 ∷ 8 ∷ 140 ∷ 300 ∷ 131 ∷ 485 ∷ 496 ∷ 40 ∷ 281 ∷ 162 ∷ 352 ∷
    10 ∷ 220 ∷ 272 ∷ 22 ∷ 187 ∷ 147 ∷ 52 ∷ 311 ∷ 188 ∷ 456 ∷ 43 ∷ 510 ∷ 498 ∷ 205 ∷ 238 ∷ 459 ∷
    472 ∷ 204 ∷ 497 ∷ 211 ∷ 132 ∷ 105 ∷ 427 ∷ 307 ∷ 288 ∷ 154 ∷ 89 ∷ 326 ∷ 63 ∷ 343 ∷ 274 ∷ 221 ∷
    446 ∷ 46 ∷ 27 ∷ 198 ∷ 367 ∷ 353 ∷ 285 ∷ 122 ∷ 325 ∷ 84 ∷ 14 ∷ 247 ∷ 414 ∷ 125 ∷ 468 ∷ 48 ∷
    371 ∷ 464 ∷ 330 ∷ 372 ∷ 358 ∷ 215 ∷ 475 ∷ 257 ∷ 365 ∷ 450 ∷ 363 ∷ 235 ∷ 390 ∷ 321 ∷ 312 ∷ 335 ∷
    148 ∷ 118 ∷ 478 ∷ 141 ∷ 273 ∷ 438 ∷ 489 ∷ 301 ∷ 189 ∷ 67 ∷ 483 ∷ 406 ∷ 143 ∷ 258 ∷ 152 ∷ 431 ∷
    227 ∷ 470 ∷ 422 ∷ 135 ∷ 240 ∷ 399 ∷ 98 ∷ 111 ∷ 494 ∷ 323 ∷ 396 ∷ 282 ∷ 254 ∷ 403 ∷ 103 ∷ 44 ∷
    387 ∷ 488 ∷ 263 ∷ 18 ∷ 375 ∷ 298 ∷ 291 ∷ 151 ∷ 108 ∷ 202 ∷ 373 ∷ 230 ∷ 133 ∷ 170 ∷ 97 ∷ 29 ∷
    469 ∷ 2 ∷ 380 ∷ 95 ∷ 88 ∷ 64 ∷ 222 ∷ 0 ∷ 158 ∷ 153 ∷ 149 ∷ 279 ∷ 58 ∷ 208 ∷ 302 ∷ 32 ∷
    75 ∷ 31 ∷ 313 ∷ 473 ∷ 490 ∷ 324 ∷ 394 ∷ 16 ∷ 455 ∷ 304 ∷ 85 ∷ 445 ∷ 461 ∷ 476 ∷ 319 ∷ 104 ∷
    484 ∷ 106 ∷ 436 ∷ 218 ∷ 91 ∷ 65 ∷ 270 ∷ 190 ∷ 457 ∷ 383 ∷ 502 ∷ 242 ∷ 460 ∷ 277 ∷ 36 ∷ 477 ∷
    178 ∷ 185 ∷ 397 ∷ 251 ∷ 71 ∷ 421 ∷ 261 ∷ 381 ∷ 28 ∷ 425 ∷ 54 ∷ 467 ∷ 45 ∷ 86 ∷ 209 ∷ 79 ∷
    442 ∷ 241 ∷ 9 ∷ 109 ∷ 411 ∷ 175 ∷ 267 ∷ 280 ∷ 96 ∷ 305 ∷ 244 ∷ 53 ∷ 183 ∷ 505 ∷ 295 ∷ 1 ∷
    72 ∷ 33 ∷ 115 ∷ 121 ∷ 206 ∷ 51 ∷ 196 ∷ 444 ∷ 418 ∷ 82 ∷ 101 ∷ 392 ∷ 194 ∷ 17 ∷ 41 ∷ 379 ∷
    268 ∷ 68 ∷ 441 ∷ 341 ∷ 328 ∷ 214 ∷ 26 ∷ 474 ∷ 57 ∷ 83 ∷ 384 ∷ 169 ∷ 155 ∷ 359 ∷ 362 ∷ 179 ∷
    331 ∷ 309 ∷ 234 ∷ 333 ∷ 114 ∷ 191 ∷ 119 ∷ 156 ∷ 224 ∷ 409 ∷ 207 ∷ 426 ∷ 448 ∷ 271 ∷ 249 ∷ 195 ∷
    78 ∷ 357 ∷ 61 ∷ 217 ∷ 161 ∷ 492 ∷ 428 ∷ 439 ∷ 360 ∷ 419 ∷ 391 ∷ 452 ∷ 113 ∷ 246 ∷ 382 ∷ 348 ∷
    342 ∷ 199 ∷ 24 ∷ 253 ∷ 327 ∷ 174 ∷ 466 ∷ 400 ∷ 432 ∷ 292 ∷ 265 ∷ 50 ∷ 243 ∷ 123 ∷ 337 ∷ 407 ∷
    117 ∷ 157 ∷ 314 ∷ 493 ∷ 166 ∷ 297 ∷ 136 ∷ 165 ∷ 402 ∷ 269 ∷ 223 ∷ 19 ∷ 349 ∷ 39 ∷ 5 ∷ 398 ∷
    336 ∷ 344 ∷ 7 ∷ 138 ∷ 21 ∷ 500 ∷ 290 ∷ 386 ∷ 112 ∷ 201 ∷ 405 ∷ 252 ∷ 458 ∷ 180 ∷ 94 ∷ 385 ∷
    401 ∷ 449 ∷ 99 ∷ 303 ∷ 30 ∷ 347 ∷ 11 ∷ 186 ∷ 429 ∷ 377 ∷ 23 ∷ 160 ∷ 159 ∷ 389 ∷ 110 ∷ 232 ∷
    213 ∷ 318 ∷ 332 ∷ 60 ∷ 310 ∷ 226 ∷ 255 ∷ 322 ∷ 507 ∷ 433 ∷ 42 ∷ 3 ∷ 495 ∷ 486 ∷ 228 ∷ 225 ∷
    145 ∷ 13 ∷ 212 ∷ 482 ∷ 233 ∷ 306 ∷ 451 ∷ 4 ∷ 317 ∷ 164 ∷ 370 ∷ 66 ∷ 404 ∷ 15 ∷ 447 ∷ 62 ∷
    47 ∷ 181 ∷ 479 ∷ 137 ∷ 415 ∷ 55 ∷ 76 ∷ 81 ∷ 229 ∷ 378 ∷ 275 ∷ 296 ∷ 334 ∷ 376 ∷ 368 ∷ 20 ∷
    193 ∷ 237 ∷ 210 ∷ 430 ∷ 200 ∷ 93 ∷ 417 ∷ 70 ∷ 250 ∷ 107 ∷ 173 ∷ 259 ∷ 87 ∷ 410 ∷ 219 ∷ 294 ∷
    503 ∷ 366 ∷ 182 ∷ 345 ∷ 508 ∷ 116 ∷ 480 ∷ 176 ∷ 90 ∷ 388 ∷ 142 ∷ 412 ∷ 266 ∷ 501 ∷ 129 ∷ 443 ∷
    308 ∷ 491 ∷ 408 ∷ 463 ∷ 12 ∷ 262 ∷ 239 ∷ 499 ∷ 168 ∷ 134 ∷ 92 ∷ 236 ∷ 171 ∷ 511 ∷ 74 ∷ 440 ∷
    509 ∷ 192 ∷ 423 ∷ 283 ∷ 435 ∷ 316 ∷ 454 ∷ 453 ∷ 56 ∷ 299 ∷ 356 ∷ 144 ∷ 216 ∷ 481 ∷ 361 ∷ 150 ∷
    69 ∷ 413 ∷ 130 ∷ 350 ∷ 329 ∷ 416 ∷ 369 ∷ 128 ∷ 172 ∷ 34 ∷ 293 ∷ 102 ∷ 340 ∷ 471 ∷ 59 ∷ 231 ∷
    126 ∷ 355 ∷ 264 ∷ 163 ∷ 25 ∷ 80 ∷ 203 ∷ 248 ∷ 339 ∷ 286 ∷ 177 ∷ 77 ∷ 146 ∷ 395 ∷ 278 ∷ 374 ∷ []

pub s9_permutes : Permutes 512 s9_table
unfolding s9_table s9_inverse
s9_permutes = permutes 512 s9_table s9_inverse refl refl tt tt

-- an entry is below 512; past the table it is 0
pub s9_lt : (x : ℕ) → s9 x < 512
unfolding s9
s9_lt x = elim (dec_lt x 512) [ yes l ↦ s9_permutes.within x l | no h ↦ rw (get_or-eq_default s9_table 0 (past x h)) (lit< tt) ]
  where
    past : (x : ℕ) → (x < 512 → ⊥) → length s9_table ≤ x
    past x h = rw s9_permutes.entries (omega arith)

-- one test over the whole table, and the lemma at each entry
pub s9_gates_lem : (x : ℕ) → x < 512 → s9 x ≡ s9_gates x
unfolding s9 s9_table s9_gates gates9
s9_gates_lem x l = eqb→eq (get_or s9_table x 0) (s9_gates x) (at_place (λ (k y : ℕ). eqb y (s9_gates k)) s9_table 0 tt x l)
