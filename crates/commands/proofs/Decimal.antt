-- Decimal digits: one division by ten at a time, and how many there are. Assumes nothing.
use Prim.Native.Nat.{ℕ, zero, suc, ◌+◌, ◌*◌, ◌/◌, ◌%◌, ◌^◌, ◌≤◌, ◌<◌}
use mathlib.Core.Path.{◌≡◌, refl, ap, ◌∙◌}
use mathlib.Core.Bool.{cond}
use mathlib.Core.List.{List, [], ◌∷◌, ◌++◌}
use native.Mathlib.Omega.{arith}
use native.Mathlib.Nat.{pow-succ'}
use borrow.Author.Tests.{lt-ltb, le-ltb}
use lib.Dec.{ltb}
use lib.ListN.{length, length-append}
use Rattle.encoding.proofs.Logic.{by_test}
use Rattle.commands.specs.Replies.{digits_of, decimal}

-- more divisions than are needed change nothing
enough : (n m x : ℕ) → x < 10 ^ suc n → x < 10 ^ suc m → digits_of n x ≡ digits_of m x
enough zero zero x h k = refl
enough zero (suc m) x h k = rw (lt-ltb x 10 h)
enough (suc n) zero x h k = rw (lt-ltb x 10 k)
enough (suc n) (suc m) x h k =
    let h' : x < 10 * 10 ^ suc n = rw (pow-succ' 10 (suc n)) at h in
    let k' : x < 10 * 10 ^ suc m = rw (pow-succ' 10 (suc m)) at k in
    ap (λ (s : List ℕ). cond (ltb x 10) ((48 + x) ∷ []) (s ++ ((48 + x % 10) ∷ []))) (enough n m (x / 10) (omega arith) (omega arith))

pub one_digit : (x : ℕ) → x < 10 → decimal x ≡ (48 + x) ∷ []
unfolding decimal
one_digit x h = rw (lt-ltb x 10 h)

pub last_digit : (x : ℕ) → x < 2 ^ 64 → 10 ≤ x → decimal x ≡ decimal (x / 10) ++ ((48 + x % 10) ∷ [])
unfolding decimal
last_digit x l h = rw (le-ltb x 10 h) (ap (λ (s : List ℕ). s ++ ((48 + x % 10) ∷ [])) (enough 18 19 (x / 10) (omega arith) (omega arith)))

-- one digit more than the number without its last
pub length_more : (x : ℕ) → x < 2 ^ 64 → 10 ≤ x → length (decimal x) ≡ length (decimal (x / 10)) + 1
length_more x l h = rw (last_digit x l h) (length-append (decimal (x / 10)) ((48 + x % 10) ∷ []))

pub length_one : (x : ℕ) → x < 10 → length (decimal x) ≡ 1
length_one x h = rw (one_digit x h)

at_most : (n x : ℕ) → length (digits_of n x) ≤ suc n
at_most zero x = omega arith
at_most (suc n) x =
    by_test (λ (s : List ℕ). length s ≤ suc (suc n)) (ltb x 10)
    (λ _. omega arith)
    (λ _. omega (arith, at_most n (x / 10), length-append (digits_of n (x / 10)) ((48 + x % 10) ∷ [])))

pub twenty : (x : ℕ) → length (decimal x) ≤ 20
unfolding decimal
twenty x = at_most 19 x

-- a run and what was put behind it
pub grown : {s : List ℕ} (a b : List ℕ) → s ≡ a ++ b → length s ≡ length a + length b
grown {s} a b e = ap length e ∙ length-append a b
