-- Runs of numbers that `open` goes over: counting undecided fates and clearing. Assumes nothing.
use Prim.Native.Nat.{ℕ, zero, suc, ◌+◌, ◌*◌, ◌≤◌, ◌<◌}
use mathlib.Core.Path.{◌≡◌, refl, sym, ap, ◌∙◌}
use mathlib.Core.Bool.{cond}
use mathlib.Core.List.{List, [], ◌∷◌, ◌++◌}
use native.Mathlib.Omega.{arith}
use native.Mathlib.Numerals.{add-one, unary_clauses}
use lib.Dec.{eqb}
use borrow.Author.Tests.{eq-eqb, ne_eqb}
use lib.ListN.{length, get_or, take, drop, replicate, length-replicate}
use lib.Seq.{drop-cons, drop-length}
use Rattle.recovery.specs.World.{undecided_of, cold, cold_rows}
use Rattle.recovery.specs.Lent.{row_length, numbers, flat}

-- ---- counting

module _ (l : List ℕ) (i n : ℕ) (h : i < length l) (e : undecided_of l ≡ n + undecided_of (drop i l)) where
  rest_is : undecided_of (drop i l) ≡ cond (eqb (get_or l i 0) 1) 1 0 + undecided_of (drop (i + 1) l)
  unfolding undecided_of
  rest_is = rw (add-one, drop-cons l i 0)

  pub count_one : get_or l i 0 ≡ 1 → undecided_of l ≡ (n + 1) + undecided_of (drop (i + 1) l)
  count_one x = let r = simp (eq-eqb (get_or l i 0) 1 x) at rest_is in omega arith

  pub count_none : (get_or l i 0 ≡ 1 → ⊥) → undecided_of l ≡ n + undecided_of (drop (i + 1) l)
  count_none x = let r = simp (ne_eqb (get_or l i 0) 1 x) at rest_is in omega arith

pub count_end : (l : List ℕ) (i n : ℕ) → length l ≤ i → i ≤ length l → undecided_of l ≡ n + undecided_of (drop i l) → n ≡ undecided_of l
unfolding undecided_of
count_end l i n a b e =
    let k : i ≡ length l = omega arith in
    let d : drop i l ≡ [] = rw (k, drop-length) in
    let z : undecided_of (drop i l) ≡ 0 = rw d in
    omega arith

-- ---- clearing

pub cold_flat : (n : ℕ) → replicate (row_length * n) 0 ≡ flat (cold_rows n)
unfolding flat cold_rows
cold_flat zero = refl
cold_flat (suc n) =
    let e : row_length * suc n ≡ row_length * n + row_length = omega arith in
    rw e (simp unary_clauses (ap (λ l. numbers cold ++ l) (cold_flat n)))

-- the first n of a run of zeros, as the code lends them
first_zeros : (n m : ℕ) → n ≤ m → take {A = ℕ} n (replicate m 0) ≡ replicate n 0
first_zeros zero m h = refl
first_zeros (suc n) zero h = absurd (omega arith)
first_zeros (suc n) (suc m) h = ap (λ l. 0 ∷ l) (first_zeros n m (omega arith))

module _ (n m : ℕ) (h : n ≤ m) where
  pub zeros_long : length {A = ℕ} (take n (replicate m 0)) ≡ n
  zeros_long = ap (λ (l : List ℕ). length l) (first_zeros n m h) ∙ length-replicate n 0

  pub zeros_are : take {A = ℕ} n (replicate m 0) ≡ replicate (length {A = ℕ} (take n (replicate m 0))) 0
  zeros_are = first_zeros n m h ∙ ap (λ (x : ℕ). replicate x 0) (sym zeros_long)
