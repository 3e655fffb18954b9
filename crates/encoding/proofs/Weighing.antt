-- The check word by weights is the check word. Assumes nothing.
use Prim.Native.Nat.{ℕ, zero, suc, ◌+◌, ◌*◌, ◌%◌, ◌^◌, ◌≤◌}
use mathlib.Core.Path.{◌≡◌, sym, ap, ◌∙◌}
use mathlib.Core.List.{List, [], ◌∷◌}
use native.Mathlib.Omega.{arith}
use native.Mathlib.Numerals.{add-one}
use native.Mathlib.Nat.{pow-succ', mul_assoc, mul_comm, mul_left_comm, add-mul, mod-add-mod, mod-eq_of_lt}
use lib.ListN.{length, take, drop, get_or}
use lib.Seq.{drop-cons, take_all}
use Rattle.encoding.specs.Bytes.{check_from, check}
use Rattle.encoding.proofs.CheckWord.{check_small}
use Rattle.encoding.proofs.Folds.{mod_inside}

-- the weights of n bytes, by 65,521: the last byte's is 1
unfoldable pub weights : ℕ → List ℕ
weights zero = []
weights (suc n) = 257 ^ n % 65521 ∷ weights n

-- the sum of the bytes from index i on, each by its weight
abbrev pub weighed : List ℕ → List ℕ → ℕ → ℕ
weighed [] s i = 0
weighed (w ∷ ws) s i = w * get_or s i 0 + weighed ws s (i + 1)

word_law : (n : ℕ) (s : List ℕ) (w i : ℕ) → i + n ≤ length s
    → check_from w (take n (drop i s)) % 65521 ≡ (w * 257 ^ n + weighed (weights n) s i) % 65521
unfolding weights
word_law zero s w i h = ap (λ (k : ℕ). k % 65521) (omega arith)
word_law (suc n) s w i h =
    let b : ℕ = get_or s i 0 in
    let P : ℕ = 257 ^ n in
    let X : ℕ = weighed (weights n) s (i + 1) in
    let first : (257 * w + b) * P + X ≡ P * b + (w * (257 * P) + X) = omega (arith, add-mul (257 * w) b P, mul_assoc 257 w P, mul_comm b P, mul_left_comm w 257 P) in
    let last : P % 65521 * b + (w * (257 * P) + X) ≡ w * (257 * P) + (P % 65521 * b + X) = omega arith in
    rw (drop-cons s i 0 (omega arith), pow-succ' 257 n, ← add-one i)
    (word_law n s ((257 * w + b) % 65521) (i + 1) (omega arith)
    ∙ mod_inside (257 * w + b) P X
    ∙ ap (λ (k : ℕ). k % 65521) first
    ∙ sym (mod_inside P b (w * (257 * P) + X))
    ∙ ap (λ (k : ℕ). k % 65521) last)

-- 60 bytes by their weights; 48,406 is what the beginning, 1, comes to
pub page_word : (s : List ℕ) → length s ≡ 60 → (48406 + weighed (weights 60) s 0) % 65521 ≡ check s
page_word s l =
    let X : ℕ = weighed (weights 60) s 0 in
    let all : take 60 s ≡ s = take_all 60 s (omega arith) in
    let m : check s % 65521 ≡ (257 ^ 60 + X) % 65521 = rw all at (word_law 60 s 1 0 (omega arith)) in
    mod-add-mod (257 ^ 60) 65521 X ∙ sym m ∙ mod-eq_of_lt (check_small s)
