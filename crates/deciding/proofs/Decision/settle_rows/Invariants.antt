-- `deciding::Decision::settle_rows`. The loop's invariant: the rows of the files passed are settled, and the others are as they were.
-- The measure is what is left of the files. Assumes nothing.
use mathlib.Core.Path.{◌≡◌}
use Prim.Native.Nat.{◌≤◌, ◌-◌}
use Rattle.calls.proofs.DecideRows.{run_to}
use Rattle.deciding.specs.Verdicts.{is_commit}
use Rattle.deciding.proofs.Decision.settle_rows.Given as goal

abbrev pub invariant-loop-file : goal.invariant-loop-file
invariant-loop-file l = (l.file ≤ l.self.view.files) × (l.rows ≡ run_to l.self.view.sheet.now l.self.view.files l.self.end l.self.action (is_commit l.self.verdict) l.initial.rows l.file)

abbrev pub decreases-loop-file : goal.decreases-loop-file
decreases-loop-file l = l.self.view.files - l.file
