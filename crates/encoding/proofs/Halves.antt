-- Two numbers side by side in one, the second 32 bits above the first: sums and shifts reach both at once. Assumes nothing.
use Prim.Native.Nat.{ℕ, ◌+◌, ◌*◌, ◌-◌, ◌/◌, ◌%◌, ◌≤◌, ◌<◌}
use mathlib.Core.Path.{◌≡◌, refl, sym, ap, ap₂, ◌∙◌}
use mathlib.Core.List.{List}
use lib.ListN.{get_or, take, drop}
use lib.Seq.{take-take, drop-drop}
use native.Mathlib.Omega.{arith}
use native.Mathlib.Nat.{lt_of_le_of_lt, mod-lt, mul_comm, div-div-eq-div-mul}
use Rattle.encoding.specs.Bytes.{AreBytes, part, number}
use Rattle.encoding.specs.WordSteps.{folded, four, four_of, joined}
use Rattle.encoding.proofs.Numbers.{number_four, number_join}
use Rattle.encoding.proofs.Folds.{shl_eq, mod_inside, folded_mod}

-- four bytes by their weights, and four others
fours_are : (a b c d x0 x1 x2 x3 y0 y1 y2 y3 : ℕ)
    → a ≡ 16 * x0 + 4294967296 * (16 * y0) → b ≡ 16 * x1 + 4294967296 * (16 * y1) → c ≡ x2 + 4294967296 * y2 → d ≡ x3 + 4294967296 * y3
    → (x0 < 256) × (y0 < 256) → (x1 < 256) × (y1 < 256) → (x2 < 256) × (y2 < 256)
    → (a * 256 % 18446744073709551616 + a + b) * 32 % 18446744073709551616 + (a * 256 % 18446744073709551616 + a + b) + c * 256 % 18446744073709551616 + c + d
    ≡ 135696 * x0 + 528 * x1 + 257 * x2 + x3 + 4294967296 * (135696 * y0 + 528 * y1 + 257 * y2 + y3)
fours_are a b c d x0 x1 x2 x3 y0 y1 y2 y3 ea eb ec ed b0 b1 b2 =
    rw (shl_eq a 256 (omega arith), shl_eq c 256 (omega arith), shl_eq (a * 256 + a + b) 32 (omega arith)) (omega arith)

-- the four bytes of each half, of a number and the number shifted by one, two and three bytes
divided_twice : (x m n : ℕ) → x / m / n ≡ x / n / m
divided_twice x m n = div-div-eq-div-mul x m n ∙ ap (λ (k : ℕ). x / k) (mul_comm m n) ∙ sym (div-div-eq-div-mul x n m)

low_second : (l h : ℕ) → (l + 4294967296 * h) / 256 % 256 ≡ l / 256 % 256
low_second l h = let e : (l + 4294967296 * h) / 256 ≡ l / 256 + 16777216 * h = omega arith in rw e (omega arith)

low_third : (l h : ℕ) → (l + 4294967296 * h) / 65536 % 256 ≡ l / 65536 % 256
low_third l h = let e : (l + 4294967296 * h) / 65536 ≡ l / 65536 + 65536 * h = omega arith in rw e (omega arith)

low_fourth : (l h : ℕ) → l < 4294967296 → (l + 4294967296 * h) / 16777216 % 256 ≡ l / 16777216
low_fourth l h k = let e : (l + 4294967296 * h) / 16777216 ≡ l / 16777216 + 256 * h = omega arith in rw e (omega arith)

high_fourth : (h : ℕ) → h < 4294967296 → h / 16777216 % 256 ≡ h / 16777216
high_fourth h k = omega arith

four_of_bytes : (y : ℕ) → y < 4294967296 → (y % 256 < 256) × (y / 256 % 256 < 256) × (y / 65536 % 256 < 256) × (y / 16777216 < 256)
four_of_bytes y k = (omega arith, omega arith, omega arith, omega arith)

-- a number shifted up by four bits, and down
shifted_up : (x y : ℕ) → y ≡ x * 16 % 18446744073709551616 → (y / 16 % 256 ≡ x % 256) × (y / 4294967296 / 16 % 256 ≡ x / 4294967296 % 256)
shifted_up x y ey =
    let k : ℕ = x * 16 / 18446744073709551616 in
    let e : x ≡ y / 16 + 1152921504606846976 * k = omega arith in
    (sym (low (y / 16) k e), rw (divided_twice y 4294967296 16) (sym (high (y / 16) k e)))
  where
    low : (z k : ℕ) → x ≡ z + 1152921504606846976 * k → x % 256 ≡ z % 256
    low z k e = omega arith

    high : (z k : ℕ) → x ≡ z + 1152921504606846976 * k → x / 4294967296 % 256 ≡ z / 4294967296 % 256
    high z k e = let g : x / 4294967296 ≡ z / 4294967296 + 268435456 * k = omega arith in rw g (omega arith)

pub fours_of : (x l h a b c d : ℕ) → x ≡ l + 4294967296 * h → x / 4294967296 ≡ h → l < 4294967296 → h < 4294967296
    → a ≡ 16 * (x * 16 % 18446744073709551616 / 16 % 256) + 4294967296 * (16 * (x * 16 % 18446744073709551616 / 4294967296 / 16 % 256))
    → b ≡ 16 * (x / 16 / 16 % 256) + 4294967296 * (16 * (x / 16 / 4294967296 / 16 % 256))
    → c ≡ x / 65536 % 256 + 4294967296 * (x / 65536 / 4294967296 % 256) → d ≡ x / 16777216 % 256 + 4294967296 * (x / 16777216 / 4294967296 % 256)
    → (a * 256 % 18446744073709551616 + a + b) * 32 % 18446744073709551616 + (a * 256 % 18446744073709551616 + a + b) + c * 256 % 18446744073709551616 + c + d
    ≡ four_of l + 4294967296 * four_of h
fours_of x l h a b c d ex eh kl kh ea eb ec ed =
    let bl = four_of_bytes l kl in
    let bh = four_of_bytes h kh in
    let up = shifted_up x _ refl in
    fours_are a b c d (l % 256) (l / 256 % 256) (l / 65536 % 256) (l / 16777216) (h % 256) (h / 256 % 256) (h / 65536 % 256) (h / 16777216)
    (ea ∙ rw (up.0, up.1, eh, ex) first)
    (eb ∙ rw (down, divided_twice (x / 16) 4294967296 16, down, divided_twice x 256 4294967296, eh, ex) (ap (λ (k : ℕ). 16 * k + 4294967296 * (16 * (h / 256 % 256))) (low_second l h)))
    (ec ∙ rw (divided_twice x 65536 4294967296, eh, ex) (ap (λ (k : ℕ). k + 4294967296 * (h / 65536 % 256)) (low_third l h)))
    (ed ∙ rw (divided_twice x 16777216 4294967296, eh, ex) (ap₂ (λ (j k : ℕ). j + 4294967296 * k) (low_fourth l h kl) (high_fourth h kh)))
    (bl.0, bh.0) (bl.1, bh.1) (bl.2, bh.2)
  where
    first : 16 * ((l + 4294967296 * h) % 256) + 4294967296 * (16 * (h % 256)) ≡ 16 * (l % 256) + 4294967296 * (16 * (h % 256))
    first = omega arith

    down : x / 16 / 16 ≡ x / 256
    down = div-div-eq-div-mul x 16 16

pub halves_of : (r l h : ℕ) → l < 4294967296 → r ≡ l + 4294967296 * h → (r % 4294967296 ≡ l) × (r / 4294967296 ≡ h)
halves_of r l h k e = (omega arith, omega arith)

-- the bytes of a number read from a run are those of the run
four_of_is : (a b c d : ℕ) → (a < 256) × (b < 256) × (c < 256) × (d < 256) → four_of (a + 256 * b + 65536 * c + 16777216 * d) ≡ 135696 * a + 528 * b + 257 * c + d
four_of_is a b c d h =
    let n : ℕ = a + 256 * b + 65536 * c + 16777216 * d in
    let e0 : n % 256 ≡ a = omega arith in
    let k1 : n / 256 ≡ b + 256 * (c + 256 * d) = omega arith in
    let k2 : n / 65536 ≡ c + 256 * d = omega arith in
    let e1 : n / 256 % 256 ≡ b = rw k1 (next b (c + 256 * d) h.1) in
    let e2 : n / 65536 % 256 ≡ c = rw k2 (next c d h.2) in
    let e3 : n / 16777216 ≡ d = omega arith in
    rw (e0, e1, e2, e3)
  where
    next : (x y : ℕ) → x < 256 → (x + 256 * y) % 256 ≡ x
    next x y k = omega arith

four_below : (a b c d : ℕ) → (a < 256) × (b < 256) × (c < 256) × (d < 256) → a + 256 * b + 65536 * c + 16777216 * d < 4294967296
four_below a b c d h = omega arith

pub fours_read : (s : List ℕ) (at end x : ℕ) → AreBytes s → end ≡ at + 8 → x ≡ number (take 8 (part at end s))
    → (four_of (x % 4294967296) ≡ four s at) × (four_of (x / 4294967296) ≡ four s (at + 4))
fours_read s at end x b ee ex =
    let h = halves_of x _ _ low_small whole in
    (ap four_of (h.0 ∙ sym (number_four s at)) ∙ four_of_is _ _ _ _ (bytes_at at), ap four_of (h.1 ∙ sym (number_four s (at + 4))) ∙ four_of_is _ _ _ _ (bytes_at (at + 4)))
  where
    bytes_at : (i : ℕ) → (get_or s i 0 < 256) × (get_or s (i + 1) 0 < 256) × (get_or s (i + 2) 0 < 256) × (get_or s (i + 3) 0 < 256)
    bytes_at i = (b i, b (i + 1), b (i + 2), b (i + 3))

    low_small : number (take 4 (drop at s)) < 4294967296
    low_small = rw (← number_four s at) (four_below _ _ _ _ (bytes_at at))

    eight : end - at ≡ 8
    eight = omega arith

    whole : x ≡ number (take 4 (drop at s)) + 4294967296 * number (take 4 (drop (at + 4) s))
    whole = ex ∙ rw (eight, take-take 8 8 (drop at s) (omega arith)) (number_join 4 4 (drop at s) ∙ rw (drop-drop 4 at s))

pub folded_small : (x : ℕ) → x < 4294967296 → folded x ≤ 1048560
folded_small x h = omega arith

-- a number in front of what has been gathered, by the remainders of both
joined_mod : (a q x : ℕ) → a % 65521 ≡ x % 65521 → joined a q % 65521 ≡ (480 * x + 15 * q) % 65521
joined_mod a q x e =
    let u : joined a q ≡ folded a * 480 + 15 * q = omega arith in
    let v : x * 480 + 15 * q ≡ 480 * x + 15 * q = omega arith in
    ap (λ (k : ℕ). k % 65521) u
    ∙ sym (mod_inside (folded a) 480 (15 * q))
    ∙ ap (λ (k : ℕ). (k * 480 + 15 * q) % 65521) (folded_mod a ∙ e)
    ∙ mod_inside x 480 (15 * q)
    ∙ ap (λ (k : ℕ). k % 65521) v

joined_small : (a q : ℕ) → a < 4294967296 → q ≤ 34802910 → joined a q < 4294967296
joined_small a q h k = omega arith

-- the same in both halves
pub ahead_mod : (a q r ql qh x y : ℕ) → q ≡ ql + 4294967296 * qh → (ql ≤ 34802910) × (qh ≤ 34802910)
    → r ≡ joined (a % 4294967296) (q % 4294967296) + 4294967296 * joined (a / 4294967296) (q / 4294967296)
    → (a % 4294967296 % 65521 ≡ x % 65521) × (a / 4294967296 % 65521 ≡ y % 65521)
    → (r % 4294967296 % 65521 ≡ (480 * x + 15 * ql) % 65521) × (r / 4294967296 % 65521 ≡ (480 * y + 15 * qh) % 65521)
ahead_mod a q r ql qh x y eq k er f =
    let g = halves_of q ql qh (omega arith) eq in
    let e : r ≡ joined (a % 4294967296) ql + 4294967296 * joined (a / 4294967296) qh = rw (g.0, g.1) at er in
    let p = halves_of r _ _ (joined_small (a % 4294967296) ql (mod-lt a (omega arith)) k.0) e in
    (ap (λ (n : ℕ). n % 65521) p.0 ∙ joined_mod (a % 4294967296) ql x f.0, ap (λ (n : ℕ). n % 65521) p.1 ∙ joined_mod (a / 4294967296) qh y f.1)

-- ---- three groups of four bytes

three_mod : (x y z r : ℕ) → r % 65521 ≡ (480 * (480 * (480 * 0 + 15 * z) + 15 * y) + 15 * x) % 65521 → r % 65521 ≡ (15 * (x + 480 * (y + 480 * z))) % 65521
three_mod x y z r e =
    let k : 480 * (480 * (480 * 0 + 15 * z) + 15 * y) + 15 * x ≡ 15 * (x + 480 * (y + 480 * z)) = omega arith in
    e ∙ ap (λ (n : ℕ). n % 65521) k

-- what `fours` and `ahead` say of their answers
abbrev Beside : ℕ → ℕ → ℕ → Type 0
Beside q x y = (q ≡ x + 4294967296 * y) × ((x ≤ 34802910) × (y ≤ 34802910))

abbrev Ahead : ℕ → ℕ → ℕ → Type 0
Ahead a q r = r ≡ joined (a % 4294967296) (q % 4294967296) + 4294967296 * joined (a / 4294967296) (q / 4294967296)

pub three_ahead : (q1 q2 q3 r1 r2 r3 x1 y1 x2 y2 x3 y3 : ℕ) → Beside q1 x1 y1 → Ahead 0 q1 r1 → Beside q2 x2 y2 → Ahead r1 q2 r2 → Beside q3 x3 y3 → Ahead r2 q3 r3
    → (r3 % 4294967296 % 65521 ≡ (15 * (x3 + 480 * (x2 + 480 * x1))) % 65521) × (r3 / 4294967296 % 65521 ≡ (15 * (y3 + 480 * (y2 + 480 * y1))) % 65521)
three_ahead q1 q2 q3 r1 r2 r3 x1 y1 x2 y2 x3 y3 f1 e1 f2 e2 f3 e3 =
    let m1 = ahead_mod 0 q1 r1 x1 y1 0 0 f1.0 f1.1 e1 (refl, refl) in
    let m2 = ahead_mod r1 q2 r2 x2 y2 _ _ f2.0 f2.1 e2 m1 in
    let m3 = ahead_mod r2 q3 r3 x3 y3 _ _ f3.0 f3.1 e3 m2 in
    (three_mod x3 x2 x1 (r3 % 4294967296) m3.0, three_mod y3 y2 y1 (r3 / 4294967296) m3.1)

-- ---- a number whose halves are taken apart

module _ (x a : ℕ) (k : x < 18446744073709551616) (e : a ≡ folded (x % 4294967296) + 4294967296 * folded (x / 4294967296)) where
  small : (folded (x % 4294967296) ≤ 1048560) × (folded (x / 4294967296) ≤ 1048560)
  small = (folded_small (x % 4294967296) (omega arith), folded_small (x / 4294967296) (omega arith))

  halves : (a % 4294967296 ≡ folded (x % 4294967296)) × (a / 4294967296 ≡ folded (x / 4294967296))
  halves = let s = small in halves_of a _ _ (lt_of_le_of_lt s.0 (omega arith)) e

  pub half_mod : (a % 4294967296 % 65521 ≡ x % 4294967296 % 65521) × (a / 4294967296 % 65521 ≡ x / 4294967296 % 65521)
  half_mod = rw (halves.0, halves.1) (folded_mod (x % 4294967296), folded_mod (x / 4294967296))
