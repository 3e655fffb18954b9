-- `moving::carrying::store_versions`. The invariant: the versions of the files so far are stored. Assumes nothing.
use Rattle.moving.specs.MoveSteps.{stores_to}
use lib.ListN.{length}
use mathlib.Core.Path.{◌≡◌}
use Prim.Native.Nat.{suc, pred, ◌≤◌}
use Rattle.moving.proofs.carrying.store_versions.Given as goal

abbrev pub invariant-loop-file : goal.invariant-loop-file
invariant-loop-file l = (l.file ≤ suc l.view.files) × ((l.at, l.fresh) ≡ stores_to l.view.sheet.now l.view.files l.rows l.initial.fresh (pred l.file)) × (length l.fresh ≡ length l.initial.fresh)
