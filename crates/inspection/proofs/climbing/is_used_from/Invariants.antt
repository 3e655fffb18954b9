-- `inspection::climbing::is_used_from`: the end is not blank, and every page above it is. Assumes nothing.
use mathlib.Core.Path.{◌≡◌}
use lib.Dec.{leb}
use lib.ListN.{length}
use Prim.Native.Nat.{◌/◌}
use Rattle.page.specs.Layout.{page_size}
use Rattle.recovery.specs.Lent.{pages_of}
use Rattle.recovery.specs.World.{end_of}
use Rattle.inspection.proofs.climbing.is_used_from.Given as goal

abbrev pub invariant-loop-place : goal.invariant-loop-place
invariant-loop-place l = leb l.place (end_of (pages_of l.view.sheet.now l.view.files) (length l.view.sheet.now / page_size)) ≡ leb l.from (end_of (pages_of l.view.sheet.now l.view.files) (length l.view.sheet.now / page_size))
