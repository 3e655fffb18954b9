-- A count of ones of two or more is two different bits. Assumes nothing.
use Prim.Native.Nat.{ℕ, zero, suc, ◌/◌, ◌%◌, ◌≤◌, ◌<◌}
use mathlib.Core.Path.{◌≡◌, refl, ap}
use mathlib.Core.Bool.{Bool, true, false}
use native.Mathlib.Omega.{arith}
use native.Mathlib.Nat.{le_refl}
use borrow.Author.Tests.{eqb-true, eqb-false}
use lib.Dec.{eqb}
use lib.Count.{ones, ones_step}
use Rattle.weeks.specs.Facts.{bit, TwoBits}

none_set : (m : ℕ) → m ≤ 0 → ones m ≡ 0
unfolding ones
none_set m l = let z : m ≡ 0 = omega arith in ap ones z

-- one bit; n is at least the number
one_found : (n m : ℕ) → m ≤ n → 1 ≤ ones m → (i : ℕ) × (bit i m ≡ 1)
one_found zero m l h = absurd (omega (arith, none_set m l))
one_found (suc n) m l h = go (eqb (m % 2) 1) refl (one_found n (m / 2) (omega arith))
  where
    go : (b : Bool) → eqb (m % 2) 1 ≡ b → (1 ≤ ones (m / 2) → (i : ℕ) × (bit i (m / 2) ≡ 1)) → (i : ℕ) × (bit i m ≡ 1)
    go true e above = (0, eqb-true (m % 2) 1 e)
    go false e above = let r = above (omega (arith, ones_step m, eqb-false (m % 2) 1 e)) in (suc r.0, r.1)

two_found : (n m : ℕ) → m ≤ n → 2 ≤ ones m → TwoBits m
two_found zero m l h = absurd (omega (arith, none_set m l))
two_found (suc n) m l h = go (eqb (m % 2) 1) refl (one_found (m / 2) (m / 2) (le_refl (m / 2))) (two_found n (m / 2) (omega arith))
  where
    go : (b : Bool) → eqb (m % 2) 1 ≡ b → (1 ≤ ones (m / 2) → (i : ℕ) × (bit i (m / 2) ≡ 1)) → (2 ≤ ones (m / 2) → TwoBits (m / 2)) → TwoBits m
    go true e one two =
        let low : m % 2 ≡ 1 = eqb-true (m % 2) 1 e in
        let r = one (omega (arith, ones_step m)) in
        (0, suc r.0, omega arith, low, r.1)
    go false e one two =
        let r = two (omega (arith, ones_step m, eqb-false (m % 2) 1 e)) in
        (suc r.0, suc r.1, omega (arith, r.2), r.3, r.4)

one_counted : (i m : ℕ) → bit i m ≡ 1 → 1 ≤ ones m
one_counted zero m h = omega (arith, ones_step m)
one_counted (suc i) m h = omega (arith, ones_step m, one_counted i (m / 2) h)

two_counted : (i j m : ℕ) → i < j → bit i m ≡ 1 → bit j m ≡ 1 → 2 ≤ ones m
two_counted i zero m l h k = absurd (omega arith)
two_counted zero (suc j) m l h k = omega (arith, ones_step m, one_counted j (m / 2) k)
two_counted (suc i) (suc j) m l h k = omega (arith, ones_step m, two_counted i j (m / 2) (omega arith) h k)

pub two_bits : (m : ℕ) → (2 ≤ ones m → TwoBits m) × (TwoBits m → 2 ≤ ones m)
two_bits m = (two_found m m (le_refl m), λ b. two_counted b.0 b.1 m b.2 b.3 b.4)
