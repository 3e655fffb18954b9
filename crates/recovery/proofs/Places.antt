-- Lists by place: what stands where, and what a change at one place leaves. Assumes nothing.
use mathlib.Core.Path.{◌≡◌, refl, ap}
use mathlib.Core.List.{List}
use Prim.Native.Nat.{ℕ, zero, suc, ◌+◌, ◌≤◌, ◌<◌}
use native.Mathlib.Omega.{arith}
use lib.ListN.{length, get_or, set, length-set}
use lib.Seq.{get_or-set_same, get_or-set_other}
use Rattle.recovery.specs.Places.{nth, put, tabulate}

module _ {A : Type 0} where
  pub nth_put_same : (d : A) (l : List A) (p : ℕ) (v : A) → 1 ≤ p → p ≤ length l → nth d (put l p v) p ≡ v
  nth_put_same d l zero v h k = absurd (omega arith)
  nth_put_same d l (suc i) v h k = get_or-set_same l i v d k

  pub nth_put_other : (d : A) (l : List A) (p q : ℕ) (v : A) → (q ≡ p → ⊥) → nth d (put l p v) q ≡ nth d l q
  nth_put_other d l zero zero v h = refl
  nth_put_other d l zero (suc j) v h = refl
  nth_put_other d l (suc i) zero v h = refl
  nth_put_other d l (suc i) (suc j) v h = get_or-set_other l i j v d (λ e. h (ap suc e))

  pub length_put : (l : List A) (p : ℕ) (v : A) → length (put l p v) ≡ length l
  length_put l zero v = refl
  length_put l (suc i) v = length-set l i v

  pub length_tabulate : (φ : ℕ → A) (i n : ℕ) → length (tabulate φ i n) ≡ n
  unfolding tabulate
  length_tabulate φ i zero = refl
  length_tabulate φ i (suc n) = ap suc (length_tabulate φ (suc i) n)

  pub get_d_tabulate : (φ : ℕ → A) (i n k : ℕ) (d : A) → k < n → get_or (tabulate φ i n) k d ≡ φ (suc (i + k))
  unfolding tabulate
  get_d_tabulate φ i zero k d h = absurd (omega arith)
  get_d_tabulate φ i (suc n) zero d h = let e : i + 0 ≡ i = omega arith in rw e
  get_d_tabulate φ i (suc n) (suc k) d h = let e : i + suc k ≡ suc i + k = omega arith in rw e (get_d_tabulate φ (suc i) n k d (omega arith))

  pub get_d_tabulate_out : (φ : ℕ → A) (i n k : ℕ) (d : A) → n ≤ k → get_or (tabulate φ i n) k d ≡ d
  unfolding tabulate
  get_d_tabulate_out φ i zero k d h = refl
  get_d_tabulate_out φ i (suc n) zero d h = absurd (omega arith)
  get_d_tabulate_out φ i (suc n) (suc k) d h = get_d_tabulate_out φ (suc i) n k d (omega arith)

  pub nth_tabulate : (φ : ℕ → A) (n p : ℕ) (d : A) → 1 ≤ p → p ≤ n → nth d (tabulate φ 0 n) p ≡ φ p
  nth_tabulate φ n zero d h k = absurd (omega arith)
  nth_tabulate φ n (suc q) d h k = let z : 0 + q ≡ q = omega arith in rw z at (get_d_tabulate φ 0 n q d k)

  pub tabulate_cong : (φ ψ : ℕ → A) (i n : ℕ) → ((b : ℕ) → i < b → b ≤ i + n → ψ b ≡ φ b) → tabulate ψ i n ≡ tabulate φ i n
  unfolding tabulate
  tabulate_cong φ ψ i zero h = refl
  tabulate_cong φ ψ i (suc n) h = rw (h (suc i) (omega arith) (omega arith), tabulate_cong φ ψ (suc i) n (λ b k l. h b (omega arith) (omega arith)))

  set_tabulate : (φ ψ : ℕ → A) (i n k : ℕ) (v : A) → ψ (suc (i + k)) ≡ v → ((b : ℕ) → i < b → b ≤ i + n → (b ≡ suc (i + k) → ⊥) → ψ b ≡ φ b)
      → set (tabulate φ i n) k v ≡ tabulate ψ i n
  unfolding tabulate
  set_tabulate φ ψ i zero k v e h = refl
  set_tabulate φ ψ i (suc n) zero v e h =
      let z : i + 0 ≡ i = omega arith in
      let y : ψ (suc i) ≡ v = rw z at e in
      rw (y, tabulate_cong φ ψ (suc i) n (λ b k l. h b (omega arith) (omega arith) (λ q. omega arith)))
  set_tabulate φ ψ i (suc n) (suc k) v e h =
      let z : i + suc k ≡ suc i + k = omega arith in
      rw (
        h (suc i) (omega arith) (omega arith) (λ q. omega arith),
        set_tabulate φ ψ (suc i) n k v (rw z at e) (λ b l m q. h b (omega arith) (omega arith) (λ r. q (omega arith))),
      )

  -- with the value at one place changed
  pub put_tabulate : (φ ψ : ℕ → A) (n a : ℕ) (v : A) → 1 ≤ a → ψ a ≡ v → ((b : ℕ) → 1 ≤ b → b ≤ n → (b ≡ a → ⊥) → ψ b ≡ φ b)
      → put (tabulate φ 0 n) a v ≡ tabulate ψ 0 n
  put_tabulate φ ψ n zero v k e h = absurd (omega arith)
  put_tabulate φ ψ n (suc a) v k e h =
      let z : 0 + a ≡ a = omega arith in
      set_tabulate φ ψ 0 n a v (rw z e) (λ b l m q. h b (omega arith) (omega arith) (λ r. q (omega arith)))
