-- The check word of 60 bytes in which one number stands twice. Assumes nothing.
use Prim.Native.Nat.{ℕ, zero, suc, ◌+◌, ◌*◌, ◌/◌, ◌%◌}
use mathlib.Core.Path.{◌≡◌, refl, sym, ap, ◌∙◌}
use mathlib.Core.Bool.{Bool, true, false, cond}
use native.Mathlib.Omega.{arith}
use native.Mathlib.Nat.{div-div-eq-div-mul}
use Rattle.encoding.specs.Bytes.{check}
use Rattle.encoding.specs.WordSteps.{folded, few}
use Rattle.encoding.proofs.Folds.{folded_mod}
use Rattle.encoding.proofs.Weighing.{weights, weighed, page_word}

-- n bytes that are 0 add nothing
passing : ℕ → ℕ → ℕ
passing zero x = x
passing (suc n) x = 0 + passing n x

passing_is : (n x : ℕ) → passing n x ≡ x
unfolding passing
passing_is zero x = refl
passing_is (suc n) x = omega (arith, passing_is n x)

-- four bytes by their weights, and the rest
four_weighed : ℕ → ℕ → ℕ → ℕ → ℕ → ℕ → ℕ → ℕ → ℕ → ℕ
four_weighed a b c d x y z t rest = a * x + (b * y + (c * z + (d * t + rest)))

-- the 60 bytes by their weights, of byte 1 and the four bytes of the number
summed : ℕ → ℕ → ℕ → ℕ → ℕ → ℕ
summed b x y z t = 48406 + (48628 + (15231 * b + passing 6 (four_weighed 15964 38049 14425 61498 x y z t (passing 44 (four_weighed 4654 528 257 1 x y z t 0)))))

summed_is : (b x y z t : ℕ) → 20618 * x + 38577 * y + 14682 * z + 61499 * t + (97034 + 15231 * b) ≡ summed b x y z t
unfolding summed four_weighed
summed_is b x y z t = simp passing_is (omega arith)

weighed_sum : (small x : ℕ) → 48406 + weighed (weights 60) (few small x) 0
    ≡ summed (small % 256) (x % 256) (x / 256 % 256) (x / 256 / 256 % 256) (x / 256 / 256 / 256 % 256)
unfolding few weights summed passing four_weighed
weighed_sum small x = refl

few_word : (small x : ℕ) → (20618 * (x % 256) + 38577 * (x / 256 % 256) + 14682 * (x / 256 / 256 % 256) + 61499 * (x / 256 / 256 / 256 % 256)
    + (97034 + 15231 * (small % 256))) % 65521 ≡ check (few small x)
unfolding few
few_word small x = ap (λ (k : ℕ). k % 65521) (summed_is _ _ _ _ _ ∙ sym (weighed_sum small x)) ∙ page_word (few small x) refl

-- 1 or 0 is a byte
one_byte : (carried : Bool) → cond carried 1 0 ≡ cond carried 1 0 % 256
one_byte true = refl
one_byte false = refl

pub few_end : (carried : Bool) (x a b c d w t f r : ℕ) → a ≡ x % 256 → b ≡ x / 256 % 256 → c ≡ x / 65536 % 256 → d ≡ x / 16777216 % 256
    → w ≡ 20618 * a + 38577 * b + 14682 * c + 61499 * d → t ≡ 97034 + 15231 * cond carried 1 0 → f ≡ folded (w + t) → r ≡ f % 65521
    → r ≡ check (few (cond carried 1 0) x)
few_end carried x a b c d w t f r ea eb ec ed ew et ef er =
    er ∙ ap (λ (k : ℕ). k % 65521) ef ∙ folded_mod (w + t) ∙ ap (λ (k : ℕ). k % 65521) e ∙ few_word (cond carried 1 0) x
  where
    third : x / 65536 ≡ x / 256 / 256
    third = sym (div-div-eq-div-mul x 256 256)

    fourth : x / 16777216 ≡ x / 256 / 256 / 256
    fourth = sym (div-div-eq-div-mul x 65536 256) ∙ ap (λ (k : ℕ). k / 256) third

    t_is : t ≡ 97034 + 15231 * (cond carried 1 0 % 256)
    t_is = et ∙ ap (λ (k : ℕ). 97034 + 15231 * k) (one_byte carried)

    e : w + t ≡ 20618 * (x % 256) + 38577 * (x / 256 % 256) + 14682 * (x / 256 / 256 % 256) + 61499 * (x / 256 / 256 / 256 % 256) + (97034 + 15231 * (cond carried 1 0 % 256))
    e = rw (ew, t_is, ea, eb, ec, ed, third, fourth)
