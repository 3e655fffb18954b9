-- A word read as a number, digit by digit. Assumes nothing.
use Rattle.std.proofs.Common.{Some, None}
use Prim.Native.Nat.{ℕ, suc, ◌+◌, ◌*◌, ◌-◌, ◌^◌, ◌≤◌, ◌<◌}
use mathlib.Core.Path.{◌≡◌, refl, sym, ◌∙◌}
use mathlib.Core.Bool.{Bool, true, false, ◌&&◌, cond}
use mathlib.Core.List.{List, [], ◌∷◌}
use native.Mathlib.Omega.{arith}
use native.Mathlib.Numerals.{add-one}
use borrow.Author.Tests.{lt-ltb, ltb-true, ltb-false}
use lib.Dec.{ltb, leb}
use lib.ListN.{length, drop, get_or}
use lib.Seq.{drop-cons}
use Rattle.encoding.proofs.Logic.{and_true, is_false, clash}
use Rattle.commands.specs.Commands.{digits, value_from, number_of}
use Rattle.commands.specs.ParseSteps.{add_digit}

abbrev is_digit : ℕ → Bool
is_digit b = leb 48 b && leb b 57

-- what one digit more means
pub record Digit (n b m : ℕ) : Type 0 where
  pub digit : is_digit b ≡ true
  pub more : m ≡ 10 * n + (b - 48)
  pub small : m < 2 ^ 64

pub digit_is : (n b m : ℕ) → add_digit n b ≡ Some m → Digit n b m
unfolding add_digit
digit_is n b m = go (is_digit b && ltb (10 * n + (b - 48)) (2 ^ 64)) refl
  where
    go : (t : Bool) → (is_digit b && ltb (10 * n + (b - 48)) (2 ^ 64)) ≡ t → cond t (Some (10 * n + (b - 48))) None ≡ Some m → Digit n b m
    go true e f =
        let h = and_true (is_digit b) (ltb (10 * n + (b - 48)) (2 ^ 64)) e in
        let eq : m ≡ 10 * n + (b - 48) = cc in
        record { digit = h.0; more = eq; small = omega (arith, ltb-true (10 * n + (b - 48)) (2 ^ 64) h.1) }
    go false e f = clash cc

no_digit : (n b : ℕ) → add_digit n b ≡ None → (is_digit b && ltb (10 * n + (b - 48)) (2 ^ 64)) ≡ false
unfolding add_digit
no_digit n b = go (is_digit b && ltb (10 * n + (b - 48)) (2 ^ 64)) refl
  where
    go : (t : Bool) → (is_digit b && ltb (10 * n + (b - 48)) (2 ^ 64)) ≡ t → cond t (Some (10 * n + (b - 48))) None ≡ None → (is_digit b && ltb (10 * n + (b - 48)) (2 ^ 64)) ≡ false
    go true e f = clash cc
    go false e f = e

-- further digits make no number smaller
value_grows : (n : ℕ) (s : List ℕ) → n ≤ value_from n s
value_grows n [] = omega arith
value_grows n (b ∷ s) = omega (arith, value_grows (10 * n + (b - 48)) s)

-- what is known of a word once the digits before i are read as n
pub record Reading (w : List ℕ) (i n : ℕ) : Type 0 where
  pub ahead : digits w ≡ digits (drop i w)
  pub value : value_from 0 w ≡ value_from n (drop i w)
  pub small : n < 2 ^ 64

pub reading_turn : (w : List ℕ) (i n m b : ℕ) → i < length w → b ≡ get_or w i 0 → add_digit n b ≡ Some m → Reading w i n → Reading w (i + 1) m
reading_turn w i n m b h e f r =
    let d = digit_is n b m f in
    let digit : is_digit (get_or w i 0) ≡ true = rw (← e) d.digit in
    let more : m ≡ 10 * n + (get_or w i 0 - 48) = rw (← e) d.more in
    record {
      ahead = r.ahead ∙ rw (add-one, drop-cons w i 0 h, digit);
      value = r.value ∙ rw (add-one, drop-cons w i 0 h, more);
      small = d.small;
    }

pub reading_stop : (w : List ℕ) (i n b : ℕ) → i < length w → b ≡ get_or w i 0 → add_digit n b ≡ None → Reading w i n → number_of w ≡ None
unfolding number_of
reading_stop w i n b h e f r = rw (go (is_digit b) refl)
  where
    step : digits w ≡ (is_digit b && digits (drop (suc i) w))
    step = r.ahead ∙ rw (drop-cons w i 0 h, e)

    value : value_from 0 w ≡ value_from (10 * n + (b - 48)) (drop (suc i) w)
    value = r.value ∙ rw (drop-cons w i 0 h, e)

    go : (t : Bool) → is_digit b ≡ t → (ltb 0 (length w) && digits w && ltb (value_from 0 w) (2 ^ 64)) ≡ false
    go true t =
        let big : ltb (10 * n + (b - 48)) (2 ^ 64) ≡ false = simp t at (no_digit n b f) in
        let far : 2 ^ 64 ≤ value_from 0 w = omega (arith, value, ltb-false (10 * n + (b - 48)) (2 ^ 64) big, value_grows (10 * n + (b - 48)) (drop (suc i) w)) in
        is_false _ (λ z. omega (arith, ltb-true (value_from 0 w) (2 ^ 64) (and_true (ltb 0 (length w) && digits w) _ z).1))
    go false t =
        let no : digits w ≡ false = step ∙ rw t in
        is_false _ (λ z. mathlib.Core.Bool.false≢true (sym no ∙ (and_true (ltb 0 (length w)) (digits w) (and_true (ltb 0 (length w) && digits w) _ z).0).1))

pub reading_end : (w : List ℕ) (i n : ℕ) → 0 < length w → length w ≤ i → Reading w i n → Some n ≡ number_of w
unfolding number_of
reading_end w i n h k r =
    let none : drop i w ≡ [] = lib.ListN.drop_of_length-le w {i = i} k in
    let all : digits w ≡ true = r.ahead ∙ rw none in
    let value : value_from 0 w ≡ n = r.value ∙ rw none in
    simp (lt-ltb 0 (length w) h, all, value, lt-ltb n (2 ^ 64) r.small)

pub empty_word : (w : List ℕ) → length w ≡ 0 → None ≡ number_of w
unfolding number_of
empty_word [] e = refl
empty_word (b ∷ w) e = absurd (omega arith)
