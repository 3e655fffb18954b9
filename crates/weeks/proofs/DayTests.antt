-- A day tested by its times, and the days one by one from the last, as a loop has them; and the times of all days. Assumes nothing.
use Prim.Native.Nat.{ℕ, zero, suc, ◌+◌, ◌*◌, ◌-◌, ◌/◌, ◌%◌, ◌≤◌, ◌<◌}
use mathlib.Core.Path.{◌≡◌, refl, sym, ap, ap₂, ◌∙◌}
use mathlib.Core.Bool.{Bool, true, false, ◌||◌, cond}
use mathlib.Core.List.{List}
use Rattle.std.proofs.Common.{Option, Some, None}
use native.Mathlib.Omega.{arith}
use borrow.Author.Tests.{eqb-true, eqb-false, ne_eqb, ltb-true, ltb-false, lt-ltb}
use lib.Dec.{eqb, ltb}
use Rattle.encoding.proofs.Logic.{clash}
use Rattle.encoding.specs.Lowest.{lowest}
use Rattle.weeks.specs.declared.Edition.{Edition}
use Rattle.weeks.specs.Editions.{days_a_week, times_a_week, minutes}
use Rattle.weeks.specs.Weeks.{time, wrong, wrong_day, uneven, uneven_day, some_day}

-- an opening above the limit is wrong by its closing too
pub short_test : (l x y : ℕ) → (ltb l y || ltb y x) ≡ (ltb l x || ltb l y || ltb y x)
short_test l x y = late (ltb l x) refl
  where
    below : (b : Bool) → ltb l y ≡ b → l < x → (b || ltb y x) ≡ true
    below true e h = refl
    below false e h = lt-ltb y x (omega (arith, ltb-false l y e))

    late : (b : Bool) → ltb l x ≡ b → (ltb l y || ltb y x) ≡ (b || ltb l y || ltb y x)
    late true e = below (ltb l y) refl (ltb-true l x e)
    late false e = refl

-- a day by its two times
module _ (e : Edition) (s : List ℕ) (d : ℕ) {x y : ℕ} (opens : x ≡ time e s (2 * d - 2)) (closes : y ≡ time e s (2 * d - 1)) where
  pub is_wrong_day : {b : Bool} → b ≡ wrong e x y → b ≡ wrong_day e s d
  unfolding wrong_day
  is_wrong_day r = r ∙ ap₂ (wrong e) opens closes

  pub is_uneven_day : (o : Edition) {b c : Bool} → b ≡ uneven o (minutes e * x) → c ≡ uneven o (minutes e * y) → (b || c) ≡ uneven_day e o s d
  unfolding uneven_day
  is_uneven_day o r t =
      ap₂ ◌||◌ (r ∙ ap (λ (z : ℕ). uneven o (minutes e * z)) opens) (t ∙ ap (λ (z : ℕ). uneven o (minutes e * z)) closes)

-- a day that was found is the lowest, and is not 0; where none was found, there is none
pub day_found : (n : ℕ) {d : ℕ} {x : Option ℕ} → x ≡ some_day n → x ≡ Some d → (d ≡ n) × (d ≡ 0 → ⊥)
day_found zero e h = clash cc
day_found (suc n) {d} e h = let q : d ≡ suc n = cc in (q, λ z. omega arith)

pub none_found : (n : ℕ) {x : Option ℕ} → x ≡ some_day n → x ≡ None → n ≡ 0
none_found zero e h = refl
none_found (suc n) e h = clash cc

-- what was found above day d, with the days up to it: the lowest of all
unfoldable pub over : (ℕ → Bool) → ℕ → Option ℕ → Option ℕ
over t d found = cond (eqb (lowest t d) 0) found (some_day (lowest t d))

pub over_start : (t : ℕ → Bool) (n : ℕ) → over t n None ≡ some_day (lowest t n)
unfolding over
over_start t n = go (lowest t n)
  where
    go : (k : ℕ) → cond (eqb k 0) None (some_day k) ≡ some_day k
    go zero = refl
    go (suc k) = rw (ne_eqb (suc k) 0 (λ z. omega arith))

-- one day down
over_turn : (t : ℕ → Bool) (n : ℕ) (found : Option ℕ) → over t (suc n) found ≡ over t n (cond (t (suc n)) (Some (suc n)) found)
unfolding over lowest
over_turn t n found = go (eqb (lowest t n) 0) refl (t (suc n))
  where
    go : (b : Bool) → eqb (lowest t n) 0 ≡ b → (c : Bool)
        → cond (eqb (cond b (cond c (suc n) 0) (lowest t n)) 0) found (some_day (cond b (cond c (suc n) 0) (lowest t n)))
        ≡ cond b (cond c (Some (suc n)) found) (some_day (lowest t n))
    go true e true = rw (ne_eqb (suc n) 0 (λ z. omega arith))
    go true e false = refl
    go false e c = rw e

pub day_turn : (t : ℕ → Bool) (d n : ℕ) (found : Option ℕ) {r : Option ℕ} {b : Bool} {k : ℕ} → 0 < d → k ≡ d → over t d found ≡ some_day (lowest t n)
    → b ≡ t d → r ≡ cond b (Some k) found → over t (d - 1) r ≡ some_day (lowest t n)
day_turn t d n found {r} {b} {k} l i h e f =
    let next : d ≡ suc (d - 1) = omega arith in
    let turn : r ≡ cond (t (suc (d - 1))) (Some (suc (d - 1))) found = f ∙ ap₂ (λ (c : Bool) (k : ℕ). cond c (Some k) found) (e ∙ ap t next) (i ∙ next) in
    ap (over t (d - 1)) turn ∙ sym (over_turn t (d - 1) found) ∙ ap (λ (k : ℕ). over t k found) (sym next) ∙ h

pub over_end : (t : ℕ → Bool) (d n : ℕ) (found : Option ℕ) → d ≤ 0 → over t d found ≡ some_day (lowest t n) → found ≡ some_day (lowest t n)
unfolding over lowest
over_end t d n found l h = let z : d ≡ 0 = omega arith in rw z at h

-- what holds of both times of every day holds of each time
pub each_time : (P : ℕ → Type 0) → ((d : ℕ) → 1 ≤ d → d ≤ days_a_week → P (2 * d - 2) × P (2 * d - 1)) → (k : ℕ) → k < times_a_week → P k
each_time P h k l = go (eqb (k % 2) 0) refl (h (k / 2 + 1) (omega arith) (omega arith))
  where
    go : (b : Bool) → eqb (k % 2) 0 ≡ b → P (2 * (k / 2 + 1) - 2) × P (2 * (k / 2 + 1) - 1) → P k
    go true e p = let i : 2 * (k / 2 + 1) - 2 ≡ k = omega (arith, eqb-true (k % 2) 0 e) in rw i at p.0
    go false e p = let i : 2 * (k / 2 + 1) - 1 ≡ k = omega (arith, eqb-false (k % 2) 0 e) in rw i at p.1
