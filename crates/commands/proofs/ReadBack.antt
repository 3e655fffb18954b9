-- A number that is printed is read as the same number. Assumes nothing.
use Rattle.std.proofs.Common.{Some}
use Prim.Native.Nat.{ℕ, zero, suc, ◌+◌, ◌*◌, ◌-◌, ◌/◌, ◌%◌, ◌^◌, ◌<◌}
use mathlib.Core.Path.{◌≡◌, refl}
use mathlib.Core.Bool.{Bool, true, false, ◌&&◌, cond}
use mathlib.Core.List.{List, [], ◌∷◌, ◌++◌}
use native.Mathlib.Omega.{arith}
use native.Mathlib.Nat.{pow-succ'}
use borrow.Author.Tests.{lt-ltb, le-leb, ltb-true}
use lib.Dec.{ltb, leb}
use lib.ListN.{length, length-append}
use Rattle.commands.specs.Commands.{digits, value_from, number_of}
use Rattle.commands.specs.Replies.{digits_of, decimal}

digits_more : (s : List ℕ) (d : ℕ) → d < 10 → digits s ≡ true → digits (s ++ ((48 + d) ∷ [])) ≡ true
digits_more [] d h e = simp (le-leb 48 (48 + d) (omega arith), le-leb (48 + d) 57 (omega arith))
digits_more (b ∷ s) d h e = go (leb 48 b && leb b 57) (digits_more s d h) e
  where
    go : (t : Bool) → (digits s ≡ true → digits (s ++ ((48 + d) ∷ [])) ≡ true) → (t && digits s) ≡ true → (t && digits (s ++ ((48 + d) ∷ []))) ≡ true
    go true f e = f e
    go false f e = e

value_more : (n : ℕ) (s : List ℕ) (d : ℕ) → value_from n (s ++ ((48 + d) ∷ [])) ≡ 10 * value_from n s + d
value_more n [] d = omega arith
value_more n (b ∷ s) d = value_more (10 * n + (b - 48)) s d

record Reads (s : List ℕ) (x : ℕ) : Type 0 where
  some : 0 < length s
  all : digits s ≡ true
  value : value_from 0 s ≡ x

one : (x : ℕ) → x < 10 → Reads ((48 + x) ∷ []) x
one x h = record { some = omega arith; all = digits_more [] x h refl; value = omega arith }

reads : (n x : ℕ) → x < 10 ^ suc n → Reads (digits_of n x) x
reads zero x h = one x h
reads (suc n) x h =
    let wide : x < 10 * 10 ^ suc n = rw (pow-succ' 10 (suc n)) at h in
    go (ltb x 10) refl (reads n (x / 10) (omega arith))
  where
    go : (t : Bool) → ltb x 10 ≡ t → Reads (digits_of n (x / 10)) (x / 10) → Reads (cond t ((48 + x) ∷ []) (digits_of n (x / 10) ++ ((48 + x % 10) ∷ []))) x
    go true e r = one x (ltb-true x 10 e)
    go false e r = record {
      some = omega (arith, length-append (digits_of n (x / 10)) ((48 + x % 10) ∷ []));
      all = digits_more (digits_of n (x / 10)) (x % 10) (omega arith) r.all;
      value = omega (arith, value_more 0 (digits_of n (x / 10)) (x % 10), r.value);
    }

pub read_back : (x : ℕ) → x < 2 ^ 64 → number_of (decimal x) ≡ Some x
unfolding number_of decimal
read_back x h =
    let r = reads 19 x (omega arith) in
    simp (lt-ltb 0 (length (digits_of 19 x)) r.some, r.all, r.value, lt-ltb x (2 ^ 64) h)
