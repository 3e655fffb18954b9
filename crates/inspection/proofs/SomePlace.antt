-- What a found place tells, and that none was found. Assumes nothing.
use Prim.Native.Nat.{ℕ, zero, suc, ◌≤◌}
use mathlib.Core.Path.{◌≡◌, refl}
use native.Mathlib.Omega.{arith}
use Rattle.std.specs.Prelude.{Some, None}
use Rattle.encoding.proofs.Logic.{clash}
use Rattle.inspection.specs.SomePlace.{some_place}

pub found_none : (n : ℕ) → None ≡ some_place n → n ≡ 0
found_none zero e = refl
found_none (suc n) e = clash cc

pub found_some : (n p : ℕ) → Some p ≡ some_place n → (p ≡ n) × (1 ≤ p)
found_some zero p e = clash cc
found_some (suc n) p e = let z : p ≡ suc n = cc in (z, omega arith)
