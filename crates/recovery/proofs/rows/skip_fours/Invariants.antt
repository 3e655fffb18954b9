-- `recovery::rows::skip_fours`. The loop's invariant: no row that was passed over names the action. Assumes nothing.
use lib.ListN.{get_or}
use mathlib.Core.Bool.{false}
use mathlib.Core.List.{[]}
use mathlib.Core.Path.{◌≡◌}
use Prim.Native.Nat.{ℕ, ◌*◌, ◌<◌}
use Rattle.recovery.specs.Steps.{names_action}
use Rattle.recovery.proofs.rows.skip_fours.Given as goal

abbrev pub invariant-loop-n : goal.invariant-loop-n
invariant-loop-n l = (i : ℕ) → i < 4 * l.n → names_action (get_or l.rows i []) l.action ≡ false
