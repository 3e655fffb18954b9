-- `inspection::climbing::climb`: what is kept is what the log below says (`Knows`), so a page fits it exactly if it fits the log.
-- Assumes nothing.
use Prim.Native.Nat.{ℕ, suc, ◌≤◌, ◌/◌}
use lib.ListN.{length}
use Rattle.page.specs.Layout.{page_size}
use mathlib.Core.Path.{◌≡◌}
use Rattle.recovery.specs.Lent.{pages_of}
use Rattle.recovery.specs.World.{down}
use Rattle.inspection.proofs.ArraysKnow.{Knows, Long}
use Rattle.inspection.proofs.climbing.climb.Given as goal

abbrev pub invariant-loop-place : goal.invariant-loop-place
invariant-loop-place g l = (l.place ≤ suc (length l.view.sheet.now / page_size)) × Long l.kept × ((n : ℕ) → suc n ≡ l.place → Knows (down (pages_of l.view.sheet.now l.view.files) n) l.kept)
