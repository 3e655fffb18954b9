-- The contract of inspect allows one outcome, and the numbers of an answer tell it from every other. Assumes nothing.
use Prim.Native.Nat.{ℕ}
use mathlib.Core.Path.{◌≡◌, refl, sym, ap, ◌∙◌}
use mathlib.Core.List.{List}
use native.Mathlib.Omega.{arith}
use Rattle.inspection.specs.Inspected.{inspected, inspect_number, inspect_place}
use Rattle.std.specs.Prelude.{Result, Ok, Err}
use Rattle.inspection.specs.declared.InspectError.{InspectError}
use Rattle.inspection.specs.declared.InspectError.TheVariants.{Sizes}

pub inspect_once : (s : List ℕ) (files : ℕ) {r r' : Result ℕ InspectError} → r ≡ inspected s files → r' ≡ inspected s files → r ≡ r'
inspect_once s files e f = e ∙ sym f

pub inspect_numbers : (r r' : Result ℕ InspectError) → inspect_number r ≡ inspect_number r' → inspect_place r ≡ inspect_place r' → r ≡ r'
inspect_numbers (Err Sizes) (Err Sizes) e f = refl
inspect_numbers (Err r) (Ok p) e f = absurd (omega arith)
inspect_numbers (Ok p) (Err r) e f = absurd (omega arith)
inspect_numbers (Ok p) (Ok q) e f = ap (λ (x : ℕ). Ok x) f
