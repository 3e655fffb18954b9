-- `recovery::rows::next_named`. The loop's invariant: the next row that names the action is the next one from here too. The measure is what is left of the files. Assumes nothing.
use lib.ListN.{length}
use mathlib.Core.Path.{◌≡◌}
use Prim.Native.Nat.{◌-◌, ◌/◌}
use Rattle.recovery.specs.Lent.{row_length}
use Rattle.recovery.specs.Steps.{next_named}
use Rattle.recovery.proofs.rows.next_named.Given as goal

abbrev pub invariant-loop-k : goal.invariant-loop-k
invariant-loop-k l = next_named l.rows l.k l.action ≡ next_named l.rows l.passed l.action

abbrev pub decreases-loop-k : goal.decreases-loop-k
decreases-loop-k l = length l.rows / row_length - l.k
