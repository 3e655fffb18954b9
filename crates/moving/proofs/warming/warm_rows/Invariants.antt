-- `moving::warming::warm_rows`. The invariant: the rows up to a file are rebuilt. Assumes nothing.
use Rattle.moving.proofs.Rows.{warm_to}
use Rattle.recovery.specs.Lent.{flat, lent}
use mathlib.Core.Path.{◌≡◌}
use Prim.Native.Nat.{suc, pred, ◌≤◌}
use lib.ListN.{length}
use Rattle.moving.proofs.warming.warm_rows.Given as goal

abbrev pub invariant-loop-file : goal.invariant-loop-file
invariant-loop-file l = (l.file ≤ suc l.files) × (l.rows ≡ flat (warm_to (lent l.sheet l.fates l.initial.rows l.state) (pred l.file))) × (length l.rows ≡ length l.initial.rows)
