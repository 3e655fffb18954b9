-- `moving::checking::survey_rows`. The invariant: the survey of the rows so far. Assumes nothing.
use Rattle.moving.specs.MoveSteps.{survey_to}
use mathlib.Core.Path.{◌≡◌}
use Prim.Native.Nat.{suc, pred, ◌≤◌}
use Rattle.moving.proofs.checking.survey_rows.Given as goal

abbrev pub invariant-loop-file : goal.invariant-loop-file
invariant-loop-file l = (l.file ≤ suc l.view.files) × (l.survey ≡ survey_to l.view.sheet.now l.view.files l.end l.rows l.floor (pred l.file))
