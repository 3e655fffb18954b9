-- A time read off a week and put into one: its bytes one by one, and its minutes as another edition's units. Assumes nothing.
use Prim.Native.Nat.{ℕ, suc, ◌+◌, ◌*◌, ◌/◌, ◌%◌, ◌<◌}
use mathlib.Core.Path.{◌≡◌, sym, ap, ◌∙◌}
use mathlib.Core.Bool.{true, false, not}
use mathlib.Core.List.{List, ◌++◌}
use native.Mathlib.Omega.{arith}
use native.Mathlib.Nat.{mul-mod_right, mul-div_right}
use borrow.Author.Tests.{eq-eqb, eqb-true, not-false}
use lib.Dec.{eqb}
use lib.ListN.{length, take, drop, get_or, set}
use lib.Seq.{take-suc-set}
use Rattle.encoding.specs.Bytes.{number, bytes}
use Rattle.encoding.proofs.Logic.{bool_ext}
use Rattle.encoding.proofs.Numbers.{number_byte}
use Rattle.weeks.specs.declared.Edition.{Edition}
use Rattle.weeks.specs.Editions.{width, minutes}
use Rattle.weeks.specs.Weeks.{time, uneven}

-- ---- read

pub one_byte : (e : Edition) (s : List ℕ) (k : ℕ) {x : ℕ} → width e ≡ 1 → x ≡ get_or s k 0 → x ≡ time e s k
unfolding time
one_byte e s k h r = let one : 1 * k ≡ k = omega arith in rw (h, one) (r ∙ sym (number_byte s k))

pub two_bytes : (e : Edition) (s : List ℕ) (k : ℕ) {x : ℕ} → width e ≡ 2 → x ≡ number (take 2 (drop (2 * k) s)) → x ≡ time e s k
unfolding time
two_bytes e s k h r = rw h r

-- ---- units

-- 978,671 times a multiple of 15 leaves a fifteenth of it by 1,048,576, and no other number leaves one that gives it back
fifteenth : (m : ℕ) → m < 1048576 → m % 15 ≡ 0 → 15 * (m * 978671 % 1048576) ≡ m
fifteenth m l h =
    let q : ℕ = m / 15 in
    let whole : 15 * q ≡ m = omega arith in
    let split : m * 978671 ≡ q + 1048576 * (14 * q) = omega arith in
    let low : (q + 1048576 * (14 * q)) % 1048576 ≡ q = omega arith in
    ap (λ (x : ℕ). 15 * (x % 1048576)) split ∙ ap (λ (x : ℕ). 15 * x) low ∙ whole

pub units_by_15 : (o : Edition) (m : ℕ) {x : ℕ} → minutes o ≡ 15 → m < 1048576 → x ≡ m * 978671 % 1048576
    → (uneven o m ≡ not (eqb (minutes o * x) m)) × (x < 1048576)
units_by_15 o m {x} h l q = (ap not (bool_ext _ _ there back), omega arith)
  where
    there : eqb (m % minutes o) 0 ≡ true → eqb (minutes o * x) m ≡ true
    there e =
        let z : m % 15 ≡ 0 = rw h at (eqb-true (m % minutes o) 0 e) in
        eq-eqb _ m (rw (h, q) (fifteenth m l z))

    back : eqb (minutes o * x) m ≡ true → eqb (m % minutes o) 0 ≡ true
    back e = eq-eqb _ 0 (ap (λ (y : ℕ). y % minutes o) (sym (eqb-true _ m e)) ∙ mul-mod_right (minutes o) x)

pub units_by_1 : (o : Edition) (m : ℕ) → minutes o ≡ 1 → uneven o m ≡ not (eqb (minutes o * m) m)
units_by_1 o m h =
    let z : m % minutes o ≡ 0 = rw h (omega arith) in
    let q : minutes o * m ≡ m = rw h (omega arith) in
    rw (eq-eqb (m % minutes o) 0 z, eq-eqb (minutes o * m) m q)

-- the number that gives the minutes is their quotient
pub units_are : (o : Edition) (m x : ℕ) → 0 < minutes o → uneven o m ≡ not (eqb (minutes o * x) m) → uneven o m ≡ false → x ≡ m / minutes o
units_are o m x some e f =
    let q : minutes o * x ≡ m = eqb-true (minutes o * x) m (not-false (eqb (minutes o * x) m) (sym e ∙ f)) in
    sym (ap (λ (y : ℕ). y / minutes o) (sym q) ∙ mul-div_right x some)

-- ---- written

pub put_one : (o : Edition) (k x : ℕ) (out : List ℕ) → width o ≡ 1 → k < length out
    → take (width o * k + width o) (set out k (x % 256)) ≡ take (width o * k) out ++ bytes (width o) x
put_one o k x out h l =
    let one : 1 * k ≡ k = omega arith in
    let next : k + 1 ≡ suc k = omega arith in
    rw (h, one, next) (take-suc-set out k (x % 256) l)

pub put_two : (o : Edition) (k x : ℕ) (out next : List ℕ) → width o ≡ 2 → take (2 * k + 2) next ≡ take (2 * k) out ++ bytes 2 x
    → take (width o * k + width o) next ≡ take (width o * k) out ++ bytes (width o) x
put_two o k x out next h e = rw h e
