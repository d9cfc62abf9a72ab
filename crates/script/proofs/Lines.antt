-- The laws of the lines of a script: the words of a line, what it asks for, and that this is possible.
-- Assumes nothing.
use Prim.Native.Nat.{ℕ, ◌-◌, ◌≤◌, ◌<◌}
use native.Mathlib.Nat.{lt_of_lt_of_le, pow-le-pow_right}
use native.Mathlib.Omega.{arith}
use mathlib.Core.Path.{◌≡◌, refl, sym, ap, ◌∙◌}
use mathlib.Core.Bool.{Bool, true, false, cond, not, ◌&&◌, true≢false}
use mathlib.Core.List.{List, [], ◌∷◌}
use borrow.Author.Tests.{eqb-true, eqb-false, eq-eqb, ne_eqb, lt-ltb, le-ltb, le-leb, ltb-false}
use lib.Dec.{eqb, ltb, lit≤, eqb-suc-zero, eqb-zero-suc, eqb-suc-suc}
use lib.ListN.{length, get_or, take, drop}
use Rattle.std.specs.Prelude.{Option, Some, None, Result, Ok, Err}
use Rattle.std.specs.Option.{ok_or, is_some, unwrap_or}
use Rattle.std.specs.Result.{result_ok, result_unwrap_or}
use Rattle.std.specs.Cmp.Lexicographic.{pointwise}
use Rattle.std.proofs.lemmas.Option.{cond_some}
use Rattle.refusals.specs.declared.Refusal.{Refusal}
use Rattle.refusals.specs.Number.{refusal_of}
use Rattle.refusals.proofs.Number.{number_some}
use Rattle.refusals.proofs.Tests.{by-test}
use Rattle.lines.specs.Digits.{within, value_of, is_number}
use Rattle.lines.proofs.Digits.{within_both, within_below, within_above, within_to, number_below, number_size, number_digits}
use Rattle.script.specs.declared.kinds.Asked.{Asked}
use Rattle.script.specs.declared.kinds.Asked.TheVariants.{Remark, Pass, Lose, Keep, Give, Noise, StorePhone, TellPhone, CutPhone, RestartPhone, StoreCell, CutCell, RestartCell}
use Rattle.script.specs.declared.kinds.Why.{Why}
use Rattle.script.specs.declared.kinds.Why.TheVariants.{Long, Empty, Octet, Command, Count, Place}
use Rattle.script.specs.Quoted.{quoted}
use Rattle.script.specs.Script.{all_printable, begins, is, count_of, place_of, lose_of, at_place, store_of, asked_lose, asked_keep, asked_give, asked_store, asked_cell, asked_phone, asked_command, asked}

-- ---- the words of a line

-- `starts_with`, and `==`
starts : (word line : List ℕ) → pointwise eqb word (take (length word) line) ≡ begins word line
unfolding begins
starts [] line = refl
starts (octet ∷ rest) [] = refl
starts (octet ∷ rest) (other ∷ line) = ap (λ (b : Bool). eqb octet other && b) (starts rest line)

equals : (words line : List ℕ) → pointwise eqb line words ≡ is words line
unfolding is begins
equals [] [] = refl
equals [] (other ∷ line) = rw eqb-suc-zero
equals (octet ∷ rest) [] = rw eqb-zero-suc
equals (octet ∷ rest) (other ∷ line) =
    by-test (eqb other octet) _
    (λ same. rw (same, eqb-suc-suc, eq-eqb octet other (sym (eqb-true other octet same))) (equals rest line))
    (λ differs. rw (differs, ne_eqb octet other (λ same. eqb-false other octet differs (sym same))) (fails _))
  where
    fails : (test : Bool) → false ≡ (test && false)
    fails true = refl
    fails false = refl

-- `strip_prefix`
strips : (word line : List ℕ) → pointwise eqb (take (length word) line) word ≡ begins word line
unfolding begins
strips [] line = refl
strips (octet ∷ rest) [] = refl
strips (octet ∷ rest) (other ∷ line) =
    by-test (eqb other octet) _
    (λ same. rw (same, eq-eqb octet other (sym (eqb-true other octet same))) (strips rest line))
    (λ differs. rw (differs, ne_eqb octet other (λ same. eqb-false other octet differs (sym same))) refl)

-- the test of a word is the one of the code, and so is that of a whole line
pub begun : (word line : List ℕ) {test : Bool} → test ≡ pointwise eqb word (take (length word) line) → begins word line ≡ test
begun word line test-is = sym (test-is ∙ starts word line)

pub stripped : (word line : List ℕ) {test : Bool} → pointwise eqb (take (length word) line) word ≡ test → begins word line ≡ test
stripped word line test-is = sym (strips word line) ∙ test-is

pub same : (words line : List ℕ) {given : List ℕ} {test : Bool} → test ≡ pointwise eqb line given → given ≡ words → is words line ≡ test
same words line test-is given = sym (test-is ∙ ap (pointwise eqb line) given ∙ equals words line)

-- what `ok_or` refuses was not there, and is told as the code says
told : Result ℕ Why → Result Asked Why
told (Ok found) = Err Count
told (Err why) = Err why

pub refused : {found : Option ℕ} {given why : Why} → Err why ≡ ok_or found given → found ≡ None → ◌≡◌ {A = Result Asked Why} (Err why) (Err given)
unfolding told
refused {found} {given} value none = ap told (value ∙ ap (λ (o : Option ℕ). ok_or o given) none)

-- what `ok` says of a number that is refused, and of one that is read
pub unread : (read : Result ℕ Refusal) → None ≡ result_ok read → refusal_of read ≡ 0 → ⊥
unread (Ok value) none = λ is. true≢false (ap is_some (sym none))
unread (Err refusal) none = number_some refusal

pub is_read : (read : Result ℕ Refusal) {value : ℕ} → Some value ≡ result_ok read → (refusal_of read ≡ 0) × (value ≡ result_unwrap_or read 0)
is_read (Ok value) some = (refl, ap (λ (o : Option ℕ). unwrap_or o 0) some)
is_read (Err refusal) some = absurd (true≢false (ap is_some some))

-- a place
module _ (octet : ℕ) where
  pub place_digit : 48 ≤ octet → octet ≤ 57 → Some (octet - 48) ≡ place_of octet
  unfolding place_of
  place_digit from to = rw (within_both 48 57 octet from to)

  pub place_below : octet < 48 → None ≡ place_of octet
  unfolding place_of
  place_below below = rw (within_below 48 57 octet below)

  pub place_above : 57 < octet → None ≡ place_of octet
  unfolding place_of
  place_above above = rw (within_above 48 57 octet (omega arith) above)

  place_low : {k : ℕ} → place_of octet ≡ Some k → k < 10
  unfolding place_of within
  place_low is = let read = cond_some _ _ _ is in omega (arith, read.1, within_to 48 57 octet read.0)

-- a count
module _ (text : List ℕ) where
  same_number : length text ≤ 3 → is_number 10 10 text ≡ is_number 10 3 text
  unfolding is_number within
  same_number short = rw (le-leb (length text) 3 short, le-leb (length text) 10 (omega arith))

  below_1000 : is_number 10 3 text ≡ true → value_of 10 text < 1000
  below_1000 number =
      lt_of_lt_of_le (number_below 10 text (number_digits 10 3 text number))
      (pow-le-pow_right (lit≤ tt) {j = 3} (within_to 1 3 (length text) (number_size 10 3 text number)))

  pub count_long : 3 < length text → None ≡ count_of text
  unfolding count_of is_number
  count_long long = rw (within_above 1 3 (length text) (omega arith) long)

  module _ (short : length text ≤ 3) where
    pub count_none : is_number 10 10 text ≡ false → None ≡ count_of text
    unfolding count_of
    count_none none = rw (sym (same_number short) ∙ none)

    module _ {value : ℕ} (read : (is_number 10 10 text ≡ true) × (value ≡ value_of 10 text)) where
      pub count_fits : value < 1000
      count_fits = omega (arith, read.1, below_1000 (sym (same_number short) ∙ read.0))

      pub count_read : Some value ≡ count_of text
      unfolding count_of
      count_read = rw (sym (same_number short) ∙ read.0) (ap (λ (n : ℕ). Some n) read.1)

  count_below : {count : ℕ} → count_of text ≡ Some count → count < 1000
  unfolding count_of
  count_below is = let read = cond_some _ _ _ is in omega (arith, read.1, below_1000 read.0)

-- ---- what a line asks for

module _ (rest : List ℕ) where
  pub lose_none : count_of rest ≡ None → Err Count ≡ asked_lose rest
  unfolding asked_lose lose_of
  lose_none is = rw is

  module _ {count : ℕ} (is : count_of rest ≡ Some count) where
    pub lose_zero : count ≡ 0 → Err Count ≡ asked_lose rest
    unfolding asked_lose lose_of
    lose_zero none = rw (is, eq-eqb count 0 none)

    pub lose_some : (count ≡ 0 → ⊥) → Ok (Lose count) ≡ asked_lose rest
    unfolding asked_lose lose_of
    lose_some some = rw (is, ne_eqb count 0 some)

    -- a count for `store phone` is read, or is none
    pub store_some : Ok (StorePhone count) ≡ asked_store rest
    unfolding asked_store store_of
    store_some = rw is

  pub store_none : count_of rest ≡ None → Err Count ≡ asked_store rest
  unfolding asked_store store_of
  store_none is = rw is

  pub keep_short : length rest < 2 → Err Place ≡ asked_keep rest
  unfolding asked_keep
  keep_short short = rw (lt-ltb (length rest) 2 short)

  module _ (long : 2 ≤ length rest) where
    pub keep_unspaced : (get_or rest 1 0 ≡ 32 → ⊥) → Err Place ≡ asked_keep rest
    unfolding asked_keep
    keep_unspaced other = rw (le-ltb (length rest) 2 long, ne_eqb (get_or rest 1 0) 32 other)

    pub keep_nowhere : place_of (get_or rest 0 0) ≡ None → Err Place ≡ asked_keep rest
    unfolding asked_keep at_place
    keep_nowhere is =
        rw (le-ltb (length rest) 2 long, is) (by-test (eqb (get_or rest 1 0) 32) _ (λ space. rw space) (λ other. rw other))

    pub keep_there : {k : ℕ} → place_of (get_or rest 0 0) ≡ Some k → get_or rest 1 0 ≡ 32 → Ok (Keep k) ≡ asked_keep rest
    unfolding asked_keep at_place
    keep_there is space = rw (le-ltb (length rest) 2 long, eq-eqb (get_or rest 1 0) 32 space, is)

  module _ (one : length rest ≡ 1) where
    pub give_nowhere : place_of (get_or rest 0 0) ≡ None → Err Place ≡ asked_give rest
    unfolding asked_give at_place
    give_nowhere is = rw (eq-eqb (length rest) 1 one, is)

    pub give_there : {k : ℕ} → place_of (get_or rest 0 0) ≡ Some k → Ok (Give k) ≡ asked_give rest
    unfolding asked_give at_place
    give_there is = rw (eq-eqb (length rest) 1 one, is)

  pub give_other : (length rest ≡ 1 → ⊥) → Err Place ≡ asked_give rest
  unfolding asked_give
  give_other other = rw (ne_eqb (length rest) 1 other)

-- a line for the cell, and one for the phone
module _ (line : List ℕ) where
  pub is_store_cell : is (quoted "store cell") line ≡ true → Ok StoreCell ≡ asked_cell line
  unfolding asked_cell
  is_store_cell store = rw store

  module _ (no_store : is (quoted "store cell") line ≡ false) where
    pub is_cut_cell : is (quoted "cut cell") line ≡ true → Ok CutCell ≡ asked_cell line
    unfolding asked_cell
    is_cut_cell cut = rw (no_store, cut)

    module _ (no_cut : is (quoted "cut cell") line ≡ false) where
      pub is_restart_cell : is (quoted "restart cell") line ≡ true → Ok RestartCell ≡ asked_cell line
      unfolding asked_cell
      is_restart_cell restart = rw (no_store, no_cut, restart)

      pub is_no_cell : is (quoted "restart cell") line ≡ false → Err Command ≡ asked_cell line
      unfolding asked_cell
      is_no_cell no_restart = rw (no_store, no_cut, no_restart)

  pub is_store_phone : begins (quoted "store phone ") line ≡ true → asked_store (drop 12 line) ≡ asked_phone line
  unfolding asked_phone
  is_store_phone store = rw store

  module _ (no_store : begins (quoted "store phone ") line ≡ false) where
    pub is_tell_phone : is (quoted "tell phone") line ≡ true → Ok TellPhone ≡ asked_phone line
    unfolding asked_phone
    is_tell_phone tell = rw (no_store, tell)

    module _ (no_tell : is (quoted "tell phone") line ≡ false) where
      pub is_cut_phone : is (quoted "cut phone") line ≡ true → Ok CutPhone ≡ asked_phone line
      unfolding asked_phone
      is_cut_phone cut = rw (no_store, no_tell, cut)

      module _ (no_cut : is (quoted "cut phone") line ≡ false) where
        pub is_restart_phone : is (quoted "restart phone") line ≡ true → Ok RestartPhone ≡ asked_phone line
        unfolding asked_phone
        is_restart_phone restart = rw (no_store, no_tell, no_cut, restart)

        pub is_no_phone : is (quoted "restart phone") line ≡ false → asked_cell line ≡ asked_phone line
        unfolding asked_phone
        is_no_phone no_restart = rw (no_store, no_tell, no_cut, no_restart)

module _ (line : List ℕ) where
  pub is_pass : begins (quoted "pass ") line ≡ true → Ok Pass ≡ asked_command line
  unfolding asked_command
  is_pass pass = rw pass

  module _ (no_pass : begins (quoted "pass ") line ≡ false) where
    pub is_lose : begins (quoted "lose ") line ≡ true → asked_lose (drop 5 line) ≡ asked_command line
    unfolding asked_command
    is_lose lose = rw (no_pass, lose)

    module _ (no_lose : begins (quoted "lose ") line ≡ false) where
      pub is_keep : begins (quoted "keep ") line ≡ true → asked_keep (drop 5 line) ≡ asked_command line
      unfolding asked_command
      is_keep keep = rw (no_pass, no_lose, keep)

      module _ (no_keep : begins (quoted "keep ") line ≡ false) where
        pub is_give : begins (quoted "give ") line ≡ true → asked_give (drop 5 line) ≡ asked_command line
        unfolding asked_command
        is_give give = rw (no_pass, no_lose, no_keep, give)

        module _ (no_give : begins (quoted "give ") line ≡ false) where
          pub is_noise : begins (quoted "noise ") line ≡ true → Ok Noise ≡ asked_command line
          unfolding asked_command
          is_noise noise = rw (no_pass, no_lose, no_keep, no_give, noise)

          pub is_other : begins (quoted "noise ") line ≡ false → asked_phone line ≡ asked_command line
          unfolding asked_command
          is_other no_noise = rw (no_pass, no_lose, no_keep, no_give, no_noise)

  pub is_long : 48 < length line → Err Long ≡ asked line
  unfolding asked
  is_long long = rw (lt-ltb 48 (length line) long)

  module _ (short : length line ≤ 48) where
    pub is_empty : length line ≡ 0 → Err Empty ≡ asked line
    unfolding asked
    is_empty empty = rw (le-ltb 48 (length line) short, eq-eqb (length line) 0 empty)

    module _ (some : length line ≡ 0 → ⊥) where
      pub is_octet : all_printable line ≡ false → Err Octet ≡ asked line
      unfolding asked
      is_octet other = rw (le-ltb 48 (length line) short, ne_eqb (length line) 0 some, other)

      module _ (printable : all_printable line ≡ true) where
        pub is_remark : begins (quoted "#") line ≡ true → Ok Remark ≡ asked line
        unfolding asked
        is_remark remark = rw (le-ltb 48 (length line) short, ne_eqb (length line) 0 some, printable, remark)

        pub is_command : begins (quoted "#") line ≡ false → asked_command line ≡ asked line
        unfolding asked
        is_command other = rw (le-ltb 48 (length line) short, ne_eqb (length line) 0 some, printable, other)

-- ---- what is asked is possible

-- a count is from 1 to 999, but that of `store phone` from 0 on, and a place from 0 to 9; a remark and the digits of `noise` stand in a line of at most 48 octets
abbrev pub Possible : List ℕ → Result Asked Why → Type 0
Possible line (Err why) = Unit {0}
Possible line (Ok Remark) = length line ≤ 48
Possible line (Ok Pass) = Unit {0}
Possible line (Ok (Lose count)) = (0 < count) × (count < 1000)
Possible line (Ok (Keep k)) = k < 10
Possible line (Ok (Give k)) = k < 10
Possible line (Ok Noise) = length line ≤ 48
Possible line (Ok (StorePhone count)) = count < 1000
Possible line (Ok TellPhone) = Unit {0}
Possible line (Ok CutPhone) = Unit {0}
Possible line (Ok RestartPhone) = Unit {0}
Possible line (Ok StoreCell) = Unit {0}
Possible line (Ok CutCell) = Unit {0}
Possible line (Ok RestartCell) = Unit {0}

module _ (line : List ℕ) where
  -- of two, whichever a test picks
  either : (test : Bool) (a b : Result Asked Why) → (test ≡ true → Possible line a) → (test ≡ false → Possible line b) → Possible line (cond test a b)
  either true a b one other = one refl
  either false a b one other = other refl

  module _ (rest : List ℕ) where
    lose_of_possible : (count : Option ℕ) → count_of rest ≡ count → Possible line (lose_of count)
    unfolding lose_of
    lose_of_possible None is = tt
    lose_of_possible (Some count) is =
        either (eqb count 0) _ _ (λ none. tt) (λ some. (omega (arith, eqb-false count 0 some), count_below rest is))

    lose_possible : Possible line (asked_lose rest)
    unfolding asked_lose
    lose_possible = lose_of_possible (count_of rest) refl

    store_of_possible : (count : Option ℕ) → count_of rest ≡ count → Possible line (store_of count)
    unfolding store_of
    store_of_possible None is = tt
    store_of_possible (Some count) is = count_below rest is

    store_possible : Possible line (asked_store rest)
    unfolding asked_store
    store_possible = store_of_possible (count_of rest) refl

  module _ (octet : ℕ) where
    keep_at_possible : (k : Option ℕ) → place_of octet ≡ k → Possible line (at_place Keep k)
    unfolding at_place
    keep_at_possible None is = tt
    keep_at_possible (Some k) is = place_low octet is

    give_at_possible : (k : Option ℕ) → place_of octet ≡ k → Possible line (at_place Give k)
    unfolding at_place
    give_at_possible None is = tt
    give_at_possible (Some k) is = place_low octet is

  module _ (rest : List ℕ) where
    keep_possible : Possible line (asked_keep rest)
    unfolding asked_keep
    keep_possible =
        either (ltb (length rest) 2) _ _ (λ short. tt)
        (λ long. either (eqb (get_or rest 1 0) 32) _ _ (λ space. keep_at_possible (get_or rest 0 0) (place_of (get_or rest 0 0)) refl) (λ other. tt))

    give_possible : Possible line (asked_give rest)
    unfolding asked_give
    give_possible =
        either (eqb (length rest) 1) _ _ (λ one. give_at_possible (get_or rest 0 0) (place_of (get_or rest 0 0)) refl) (λ other. tt)

  cell_possible : Possible line (asked_cell line)
  unfolding asked_cell
  cell_possible =
      either (is (quoted "store cell") line) _ _ (λ store. tt)
      (λ no_store. either (is (quoted "cut cell") line) _ _ (λ cut. tt)
      (λ no_cut. either (is (quoted "restart cell") line) _ _ (λ restart. tt) (λ no_restart. tt)))

  phone_possible : Possible line (asked_phone line)
  unfolding asked_phone
  phone_possible =
      either (begins (quoted "store phone ") line) _ _ (λ store. store_possible (drop 12 line))
      (λ no_store. either (is (quoted "tell phone") line) _ _ (λ tell. tt)
      (λ no_tell. either (is (quoted "cut phone") line) _ _ (λ cut. tt)
      (λ no_cut. either (is (quoted "restart phone") line) _ _ (λ restart. tt) (λ no_restart. cell_possible))))

  command_possible : length line ≤ 48 → Possible line (asked_command line)
  unfolding asked_command
  command_possible short =
      either (begins (quoted "pass ") line) _ _ (λ pass. tt)
      (λ no_pass. either (begins (quoted "lose ") line) _ _ (λ lose. lose_possible (drop 5 line))
      (λ no_lose. either (begins (quoted "keep ") line) _ _ (λ keep. keep_possible (drop 5 line))
      (λ no_keep. either (begins (quoted "give ") line) _ _ (λ give. give_possible (drop 5 line))
      (λ no_give. either (begins (quoted "noise ") line) _ _ (λ noise. short) (λ no_noise. phone_possible)))))

  pub asked_possible : Possible line (asked line)
  unfolding asked
  asked_possible =
      either (ltb 48 (length line)) _ _ (λ long. tt)
      (λ few.
      let short : length line ≤ 48 = ltb-false 48 (length line) few in
      either (eqb (length line) 0) _ _ (λ empty. tt)
      (λ some. either (not (all_printable line)) _ _ (λ octet. tt)
      (λ printable. either (begins (quoted "#") line) _ _ (λ remark. short) (λ other. command_possible short))))
