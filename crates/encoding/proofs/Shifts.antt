-- The check word of 60 bytes by shifts is the check word. Assumes nothing.
use Prim.Native.Nat.{ℕ, ◌+◌, ◌*◌, ◌%◌}
use mathlib.Core.Path.{◌≡◌, refl, sym, ap, ◌∙◌}
use mathlib.Core.List.{List, [], ◌∷◌}
use native.Mathlib.Omega.{arith}
use lib.ListN.{length, get_or}
use Rattle.encoding.specs.Bytes.{check}
use Rattle.encoding.specs.WordSteps.{folded, four, three, gathered}
use Rattle.encoding.proofs.Folds.{mod_inside, folded_mod}
use Rattle.encoding.proofs.Weighing.{weights, weighed, page_word}

-- weights, and what they leave by 65,521
lowered : List ℕ → List ℕ
lowered [] = []
lowered (k ∷ ks) = k % 65521 ∷ lowered ks

lowered_mod : (ks s : List ℕ) (i x : ℕ) → (weighed ks s i + x) % 65521 ≡ (weighed (lowered ks) s i + x) % 65521
unfolding lowered
lowered_mod [] s i x = refl
lowered_mod (k ∷ ks) s i x =
    let b : ℕ = get_or s i 0 in
    let y : ℕ = weighed ks s (i + 1) in
    let z : ℕ = weighed (lowered ks) s (i + 1) in
    let e : k * b + y + x ≡ y + (k * b + x) = omega arith in
    let f : z + (k * b + x) ≡ k * b + (z + x) = omega arith in
    let g : k % 65521 * b + (z + x) ≡ k % 65521 * b + z + x = omega arith in
    ap (λ (n : ℕ). n % 65521) e ∙ lowered_mod ks s (i + 1) (k * b + x) ∙ ap (λ (n : ℕ). n % 65521) f ∙ sym (mod_inside k b (z + x)) ∙ ap (λ (n : ℕ). n % 65521) g

-- four bytes, so many times, and the rest
quads : ℕ → List ℕ → List ℕ
quads k rest = 135696 * k ∷ 528 * k ∷ 257 * k ∷ k ∷ rest

-- how often each group of four bytes is counted
counts : List ℕ
counts =
    quads (16953 * 15) (quads (42009 * 15)
    (quads (16953 * 480 * 15) (quads (42009 * 480 * 15)
    (quads (16953 * 480 * 15 * 480) (quads (42009 * 480 * 15 * 480)
    (quads (16953 * 480 * 15 * 480 * 480) (quads (42009 * 480 * 15 * 480 * 480)
    (quads (58132 * 15) (quads (39269 * 15)
    (quads (58132 * 15 * 480) (quads (39269 * 15 * 480)
    (quads (58132 * 15 * 480 * 480) (quads (39269 * 15 * 480 * 480)
    (quads 1 []))))))))))))))

-- they leave the powers of 257
counts_are : lowered counts ≡ weights 60
unfolding lowered counts quads weights
counts_are = refl

counted : (s : List ℕ) → gathered s + four s 56 ≡ weighed counts s 0
unfolding counts quads gathered three
counted s = omega arith

page_sum : (s : List ℕ) → length s ≡ 60 → (gathered s + four s 56 + 48406) % 65521 ≡ check s
page_sum s l =
    let X : ℕ = weighed (weights 60) s 0 in
    let e : X + 48406 ≡ 48406 + X = omega arith in
    ap (λ (n : ℕ). (n + 48406) % 65521) (counted s)
    ∙ lowered_mod counts s 0 48406
    ∙ ap (λ (ks : List ℕ). (weighed ks s 0 + 48406) % 65521) counts_are
    ∙ ap (λ (n : ℕ). n % 65521) e
    ∙ page_word s l

-- four numbers by their weights, and four that leave the same
swap : (a x c rest : ℕ) → a % 65521 ≡ x % 65521 → (a * c + rest) % 65521 ≡ (x * c + rest) % 65521
swap a x c rest e = sym (mod_inside a c rest) ∙ ap (λ (n : ℕ). (n * c + rest) % 65521) e ∙ mod_inside x c rest

pub weighed_alike : (a b c d x y z w : ℕ) → a % 65521 ≡ x % 65521 → b % 65521 ≡ y % 65521 → c % 65521 ≡ z % 65521 → d % 65521 ≡ w % 65521
    → (58132 * a + 39269 * b + 16953 * c + 42009 * d) % 65521 ≡ (58132 * x + 39269 * y + 16953 * z + 42009 * w) % 65521
weighed_alike a b c d x y z w ea eb ec ed =
    let e1 : 58132 * a + 39269 * b + 16953 * c + 42009 * d ≡ a * 58132 + (39269 * b + 16953 * c + 42009 * d) = omega arith in
    let e2 : x * 58132 + (39269 * b + 16953 * c + 42009 * d) ≡ b * 39269 + (58132 * x + 16953 * c + 42009 * d) = omega arith in
    let e3 : y * 39269 + (58132 * x + 16953 * c + 42009 * d) ≡ c * 16953 + (58132 * x + 39269 * y + 42009 * d) = omega arith in
    let e4 : z * 16953 + (58132 * x + 39269 * y + 42009 * d) ≡ d * 42009 + (58132 * x + 39269 * y + 16953 * z) = omega arith in
    let e5 : w * 42009 + (58132 * x + 39269 * y + 16953 * z) ≡ 58132 * x + 39269 * y + 16953 * z + 42009 * w = omega arith in
    ap (λ (n : ℕ). n % 65521) e1 ∙ swap a x 58132 _ ea
    ∙ ap (λ (n : ℕ). n % 65521) e2 ∙ swap b y 39269 _ eb
    ∙ ap (λ (n : ℕ). n % 65521) e3 ∙ swap c z 16953 _ ec
    ∙ ap (λ (n : ℕ). n % 65521) e4 ∙ swap d w 42009 _ ed
    ∙ ap (λ (n : ℕ). n % 65521) e5

-- the whole: two folds and a difference leave the check word
pub page_end : (s : List ℕ) (g t x y r : ℕ) → length s ≡ 60 → g % 65521 ≡ gathered s % 65521 → t % 65521 ≡ four s 56 % 65521
    → x ≡ folded (g + t + 48406) → y ≡ folded x → r ≡ y % 65521 → r ≡ check s
page_end s g t x y r l eg et ex ey er =
    let n : ℕ = g + t + 48406 in
    let G : ℕ = gathered s in
    let F : ℕ = four s 56 in
    let e1 : n ≡ g * 1 + (t + 48406) = omega arith in
    let e2 : G * 1 + (t + 48406) ≡ t * 1 + (G + 48406) = omega arith in
    let e3 : F * 1 + (G + 48406) ≡ G + F + 48406 = omega arith in
    er ∙ ap (λ (k : ℕ). k % 65521) ey ∙ folded_mod x ∙ ap (λ (k : ℕ). k % 65521) ex ∙ folded_mod n
    ∙ ap (λ (k : ℕ). k % 65521) e1 ∙ swap g G 1 (t + 48406) eg
    ∙ ap (λ (k : ℕ). k % 65521) e2 ∙ swap t F 1 (G + 48406) et
    ∙ ap (λ (k : ℕ). k % 65521) e3 ∙ page_sum s l
