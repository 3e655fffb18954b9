-- `recovery::lookup::View::highest_start`. The invariant: the highest start above the walk's place. Assumes nothing.
use Rattle.recovery.proofs.HighestStart.{start_above}
use mathlib.Core.Path.{◌≡◌}
use Rattle.recovery.proofs.lookup.View.highest_start.Given as goal

abbrev pub invariant-loop-place : goal.invariant-loop-place
invariant-loop-place l = l.highest ≡ start_above l.self.files l.self.sheet.now l.place
