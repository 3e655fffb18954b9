-- Runs of one length, one after the other: each is found again, and a run is its parts in order. Assumes nothing.
use Prim.Native.Nat.{ℕ, zero, suc, ◌+◌, ◌*◌, ◌≤◌, ◌<◌}
use mathlib.Core.Path.{◌≡◌, refl, sym, ap, ap₂, ◌∙◌}
use mathlib.Core.Bool.{Bool, true, false}
use mathlib.Core.List.{List, ◌++◌}
use native.Mathlib.Omega.{arith}
use native.Mathlib.Nat.{mul-suc, mul-zero, mul-le-mul_left}
use native.Mathlib.Numerals.{add-one}
use borrow.Author.Tests.{ltb-true, ltb-false}
use lib.Dec.{ltb}
use lib.ListN.{length, take, drop, length-append, length-drop}
use lib.Seq.{take_all, take-add, take-append-le, drop-append-le, drop_at}
use Rattle.encoding.specs.Concat.{concat}

-- the same runs give the same whole
pub concat_same : (n : ℕ) (f g : ℕ → List ℕ) → ((k : ℕ) → k < n → f k ≡ g k) → concat n f ≡ concat n g
unfolding concat
concat_same zero f g h = refl
concat_same (suc n) f g h = ap₂ ◌++◌ (concat_same n f g (λ k l. h k (omega arith))) (h n (omega arith))

pub length_concat : (n w : ℕ) (f : ℕ → List ℕ) → ((k : ℕ) → k < n → length (f k) ≡ w) → length (concat n f) ≡ w * n
unfolding concat
length_concat zero w f h = sym (mul-zero w)
length_concat (suc n) w f h =
    length-append (concat n f) (f n)
    ∙ omega (arith, mul-suc w n, length_concat n w f (λ k l. h k (omega arith)), h n (omega arith))

-- k runs of w bytes, and one more, lie within n runs
pub run_within : (w k n : ℕ) → k < n → w * k + w ≤ w * n
run_within w k n h = let m : w * suc k ≤ w * n = mul-le-mul_left w h in omega (arith, mul-suc w k)

-- a part of a run, with more behind the run
pub part_in_front : (at w : ℕ) (s more : List ℕ) → at + w ≤ length s → take w (drop at (s ++ more)) ≡ take w (drop at s)
part_in_front at w s more h =
    let d : at ≤ length s = omega arith in
    let t : w ≤ length (drop at s) = simp length-drop (omega arith) in
    rw (drop-append-le at s more d, take-append-le w (drop at s) more t)

-- run k of the whole
pub concat_at : (n w : ℕ) (f : ℕ → List ℕ) → ((k : ℕ) → k < n → length (f k) ≡ w) → (k : ℕ) → k < n → take w (drop (w * k) (concat n f)) ≡ f k
unfolding concat
concat_at zero w f h k l = absurd (omega arith)
concat_at (suc n) w f h k l = go (ltb k n) refl (λ m. concat_at n w f (λ i p. h i (omega arith)) k m)
  where
    long : length (concat n f) ≡ w * n
    long = length_concat n w f (λ i m. h i (omega arith))

    last : k ≡ n → take w (drop (w * k) (concat n f ++ f n)) ≡ f k
    last e =
        let z : length (f n) ≤ w = omega (arith, h n (omega arith)) in
        rw e (rw (drop_at (concat n f) (f n) (w * n) long) (take_all w (f n) z))

    go : (b : Bool) → ltb k n ≡ b → (k < n → take w (drop (w * k) (concat n f)) ≡ f k) → take w (drop (w * k) (concat n f ++ f n)) ≡ f k
    go true e found =
        let m : k < n = ltb-true k n e in
        part_in_front (w * k) w (concat n f) (f n) (omega (arith, long, run_within w k n m)) ∙ found m
    go false e found = last (omega (arith, ltb-false k n e))

-- a run is its parts of w bytes, in order
pub concat_parts : (n w : ℕ) (s : List ℕ) → concat n (λ k. take w (drop (w * k) s)) ≡ take (w * n) s
unfolding concat
concat_parts zero w s = ap (λ (k : ℕ). take k s) (sym (mul-zero w))
concat_parts (suc n) w s =
    ap (λ (t : List ℕ). t ++ take w (drop (w * n) s)) (concat_parts n w s)
    ∙ sym (take-add (w * n) w s) ∙ ap (λ (k : ℕ). take k s) (sym (mul-suc w n))

-- one run more is written behind those before it
pub concat_turn : (w k : ℕ) (out next : List ℕ) (f : ℕ → List ℕ) → take (w * k) out ≡ concat k f → take (w * k + w) next ≡ take (w * k) out ++ f k
    → take (w * (k + 1)) next ≡ concat (k + 1) f
unfolding concat
concat_turn w k out next f e h =
    let more : w * suc k ≡ w * k + w = mul-suc w k in
    rw (add-one k, more) (h ∙ ap (λ (t : List ℕ). t ++ f k) e)
