-- `harness::count_passing`. The invariant: the count so far is the sum over the numbers passed. Assumes nothing.
use Rattle.harness.specs.Counts.{counted}
use mathlib.Core.Bool.{Bool, cond}
use mathlib.Core.Path.{◌≡◌}
use Prim.Native.Nat.{ℕ, ◌≤◌, ◌<◌}
use Rattle.harness.proofs.count_passing.Given as goal

abbrev pub invariant-loop-i : goal.invariant-loop-i
invariant-loop-i g l = (l.count ≤ l.i)
    × ((f : ℕ → ℕ) → ((i : ℕ) (r : Bool) → i < l.n → goal.F-post g l.passes i r → cond r 1 0 ≡ f i) → l.count ≡ counted f l.i)
