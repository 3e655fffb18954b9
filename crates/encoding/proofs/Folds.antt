-- Remainders by 65,521, and the fold that keeps them. Assumes nothing.
use Prim.Native.Nat.{ℕ, suc, ◌+◌, ◌*◌, ◌-◌, ◌/◌, ◌%◌, ◌^◌, ◌≤◌, ◌<◌}
use mathlib.Core.Path.{◌≡◌, refl, sym, ap, ◌∙◌}
use mathlib.Core.List.{List}
use native.Mathlib.Omega.{arith}
use native.Mathlib.Numerals.{add-one}
use native.Mathlib.Nat.{add-mul, mul_assoc, div-add-mod, div-div-eq-div-mul, mod-eq_of_lt, mod-lt, pow-le-pow_right, one-mul, mul-add-mod_self_left}
use lib.Bits.{bit_and, and_mask, and_block, and_high}
use lib.ListN.{length, drop, get_or}
use lib.Seq.{drop-cons}
use Rattle.encoding.specs.Bytes.{check_from}
use Rattle.encoding.specs.WordSteps.{folded}

-- a remainder inside a remainder
pub mod_inside : (a c x : ℕ) → (a % 65521 * c + x) % 65521 ≡ (a * c + x) % 65521
mod_inside a c x = sym (ap (λ (k : ℕ). k % 65521) e ∙ mul-add-mod_self_left 65521 (a / 65521 * c) (a % 65521 * c + x))
  where
    e : a * c + x ≡ 65521 * (a / 65521 * c) + (a % 65521 * c + x)
    e = omega (arith, ap (λ (k : ℕ). k * c) (div-add-mod a 65521), add-mul (65521 * (a / 65521)) (a % 65521) c, mul_assoc 65521 (a / 65521) c)

pub folded_mod : (x : ℕ) → folded x % 65521 ≡ x % 65521
folded_mod x =
    let e : x ≡ 65521 * (x / 65536) + folded x = omega arith in
    sym (ap (λ (k : ℕ). k % 65521) e ∙ mul-add-mod_self_left 65521 (x / 65536) (folded x))

-- a mask of all the bits that a number has
pub mask_all : (k x : ℕ) → x < 2 ^ k → bit_and x (2 ^ k - 1) ≡ x
mask_all k x h = and_mask x k ∙ mod-eq_of_lt h

pub shl_eq : (x k : ℕ) → x * k < 18446744073709551616 → x * k % 18446744073709551616 ≡ x * k
shl_eq x k h = mod-eq_of_lt h

-- the fold by a shift and a difference
pub fold_is : (x : ℕ) → x < 281474976710656 → x % 65536 + x / 65536 * 16 % 18446744073709551616 - x / 65536 ≡ folded x
fold_is x h = rw (shl_eq (x / 65536) 16 (omega arith)) (omega arith)

-- the same with a mask of all the bits that what lies above 16 bits may have
pub fold_masked : (n x : ℕ) → n ≤ 32 → x < 65536 * 2 ^ n
    → bit_and x 65535 + bit_and (x / 65536) (1 * 2 ^ n % 18446744073709551616 - 1) * 16 % 18446744073709551616 - bit_and (x / 65536) (1 * 2 ^ n % 18446744073709551616 - 1) ≡ folded x
fold_masked n x k h =
    let p : 2 ^ n ≤ 4294967296 = pow-le-pow_right {n = 2} (omega arith) k in
    let m : 1 * 2 ^ n % 18446744073709551616 ≡ 2 ^ n = mod-eq_of_lt (omega arith) ∙ one-mul (2 ^ n) in
    let a : bit_and (x / 65536) (2 ^ n - 1) ≡ x / 65536 = mask_all n (x / 65536) (omega arith) in
    rw (m, a, and_mask x 16) (fold_is x (omega arith))

-- a byte more, with the word folded
pub fold_turn : (w b x v : ℕ) (s : List ℕ) (i : ℕ) → i < length s → b ≡ get_or s i 0 → x ≡ 257 * w + b → v ≡ folded x
    → check_from (w % 65521) (drop i s) ≡ check_from (v % 65521) (drop (i + 1) s)
fold_turn w b x v s i h e d f =
    let g : ℕ = get_or s i 0 in
    let c : 257 * (w % 65521) + g ≡ w % 65521 * 257 + g = omega arith in
    let y : w * 257 + g ≡ x = omega arith in
    rw (add-one, drop-cons s i 0)
    (ap (λ (y : ℕ). check_from y (drop (suc i) s)) (ap (λ (y : ℕ). y % 65521) c ∙ mod_inside w 257 g ∙ ap (λ (k : ℕ). k % 65521) y ∙ sym (ap (λ (y : ℕ). y % 65521) f ∙ folded_mod x)))

-- the k lowest bits of each half
mask_both : (k m x : ℕ) → m ≡ 2 ^ k - 1 → m < 4294967296 → bit_and x (m * 2 ^ 32 + m) ≡ x % 4294967296 % 2 ^ k + 4294967296 * (x / 4294967296 % 2 ^ k)
mask_both k m x em h =
    let e : x ≡ x / 4294967296 * 2 ^ 32 + x % 4294967296 = omega arith in
    let b = and_block 32 (x / 4294967296) m (x % 4294967296) m (mod-lt x (omega arith)) h in
    let u : bit_and (x / 4294967296) m ≡ x / 4294967296 % 2 ^ k = rw em (and_mask (x / 4294967296) k) in
    let l : bit_and (x % 4294967296) m ≡ x % 4294967296 % 2 ^ k = rw em (and_mask (x % 4294967296) k) in
    ap (λ (y : ℕ). bit_and y (m * 2 ^ 32 + m)) e ∙ b ∙ rw (u, l) (omega arith)

pub mask_halves : (x : ℕ) → bit_and x 281470681808895 ≡ x % 65536 + 4294967296 * (x / 4294967296 % 65536)
mask_halves x =
    let e : x % 4294967296 % 65536 ≡ x % 65536 = omega arith in
    rw e at (mask_both 16 65535 x refl (omega arith))

pub mask_bytes : (x : ℕ) → bit_and x 1095216660735 ≡ x % 256 + 4294967296 * (x / 4294967296 % 256)
mask_bytes x =
    let e : x % 4294967296 % 256 ≡ x % 256 = omega arith in
    rw e at (mask_both 8 255 x refl (omega arith))

pub mask_middle : (x : ℕ) → bit_and x 17523466571760 ≡ 16 * (x / 16 % 256) + 4294967296 * (16 * (x / 4294967296 / 16 % 256))
mask_middle x =
    let l : ℕ = x % 4294967296 in
    let h : ℕ = x / 4294967296 in
    let e : x ≡ h * 2 ^ 32 + l = omega arith in
    let b = and_block 32 h 4080 l 4080 (mod-lt x (omega arith)) (omega arith) in
    let u : bit_and h 4080 ≡ h / 16 % 256 * 16 = and_high h 8 4 in
    let v : bit_and l 4080 ≡ l / 16 % 256 * 16 = and_high l 8 4 in
    ap (λ (y : ℕ). bit_and y 17523466571760) e ∙ b ∙ rw (u, v) (omega (arith, low_middle x))
  where
    low_middle : (x : ℕ) → x % 4294967296 / 16 % 256 ≡ x / 16 % 256
    low_middle x = let k : x / 16 ≡ x % 4294967296 / 16 + 268435456 * (x / 4294967296) = omega arith in rw k (omega arith)

middle : (x : ℕ) → x % 4294967296 / 65536 ≡ x / 65536 % 65536
middle x =
    let g : x / 65536 / 65536 ≡ x / 4294967296 = div-div-eq-div-mul x 65536 65536 in
    let k : x % 4294967296 ≡ 65536 * (x / 65536 % 65536) + x % 65536 = omega arith in
    rw k (omega arith)

by_limbs : (a b c d l h : ℕ) → l ≡ a + 4294967296 * c → h ≡ b + 4294967296 * d → l + h * 16 - h ≡ a + 15 * b + 4294967296 * (c + 15 * d)
by_limbs a b c d l h el eh = omega arith

-- two halves folded at once: by the low 16 bits of each, and the 16 bits above them
module _ (x l h : ℕ) (k : x < 18446744073709551616) (el : l ≡ x % 65536 + 4294967296 * (x / 4294967296 % 65536))
    (eh : h ≡ x / 65536 % 65536 + 4294967296 * (x / 65536 / 4294967296 % 65536)) where
  pub halves_are : l + h * 16 % 18446744073709551616 - h ≡ folded (x % 4294967296) + 4294967296 * folded (x / 4294967296)
  halves_are =
      let a : x % 4294967296 % 65536 ≡ x % 65536 = omega arith in
      let d : x / 65536 / 4294967296 ≡ x / 281474976710656 = div-div-eq-div-mul x 65536 4294967296 in
      let e : x / 4294967296 / 65536 ≡ x / 281474976710656 = div-div-eq-div-mul x 4294967296 65536 in
      let c : x / 65536 / 4294967296 % 65536 ≡ x / 4294967296 / 65536 = rw (d, e) (mod-eq_of_lt (omega arith)) in
      rw (shl_eq h 16 (omega arith), a, middle x) (by_limbs (x % 65536) (x / 65536 % 65536) (x / 4294967296 % 65536) (x / 4294967296 / 65536) l h el (rw c at eh))
