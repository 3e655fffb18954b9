-- `moving::checking::is_unused`. The invariant: none is used so far. Assumes nothing.
use Rattle.recovery.specs.World.{end_of}
use Rattle.recovery.specs.Lent.{pages_of}
use mathlib.Core.Path.{◌≡◌}
use Prim.Native.Nat.{suc, pred, ◌≤◌, ◌/◌}
use lib.ListN.{length}
use Rattle.page.specs.Layout.{page_size}
use Rattle.moving.proofs.checking.is_unused.Given as goal

abbrev pub invariant-loop-place : goal.invariant-loop-place
invariant-loop-place l = (l.place ≤ suc (length l.fresh.sheet.now / page_size)) × (end_of (pages_of l.fresh.sheet.now l.fresh.files) (pred l.place) ≡ 0)
