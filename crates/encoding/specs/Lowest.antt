-- The lowest number from 1 to n that meets a test, 0 if there is none.
use Rattle.std.specs.Prelude.{ℕ, zero, suc, Bool, cond, eqb}

unfoldable pub lowest : (ℕ → Bool) → ℕ → ℕ
lowest t zero = 0
lowest t (suc n) = cond (eqb (lowest t n) 0) (cond (t (suc n)) (suc n) 0) (lowest t n)
