-- `opening::count_undecided`. The invariant: the count so far and that of the rest make the whole. Assumes nothing.
use Rattle.recovery.specs.World.{undecided_of}
use lib.ListN.{drop}
use mathlib.Core.Path.{◌≡◌}
use Prim.Native.Nat.{◌≤◌, ◌+◌}
use Rattle.opening.proofs.count_undecided.Given as goal

abbrev pub invariant-loop-fate : goal.invariant-loop-fate
invariant-loop-fate l = (l.n ≤ l.fate-index) × (undecided_of l.fates ≡ l.n + undecided_of (drop l.fate-index l.fates))
