-- `moving::checking::lowest_undecided`. The invariant: none so far. Assumes nothing.
use Rattle.moving.specs.Moved.{lowest_undecided}
use mathlib.Core.Path.{◌≡◌}
use Prim.Native.Nat.{suc, pred, ◌≤◌}
use Rattle.moving.proofs.checking.lowest_undecided.Given as goal

abbrev pub invariant-loop-place : goal.invariant-loop-place
invariant-loop-place l = (l.place ≤ suc l.end) × (lowest_undecided l.fates (pred l.place) ≡ 0)
