-- `inspection::climbing::is_used_from`: the end is not blank, and every page above it is. Assumes nothing.
use Prim.Native.Nat.{◌+◌}
use mathlib.Core.Path.{refl, ◌∙◌}
use native.Mathlib.Omega.{arith}
use Rattle.inspection.proofs.ClimbPass.{up_hit, up_miss, up_end}
use Rattle.inspection.proofs.climbing.is_used_from.Goals as goal

pub returns-then-not-is_blank_at : goal.returns-then-not-is_blank_at
returns-then-not-is_blank_at c =
    up_hit _ _ _ _ _ (omega arith) (omega arith) refl c.is_blank_at.ensures c.if-not-is_blank_at.true ∙ c.loop-place.invariant

pub loop-place-preserved : goal.loop-place-preserved
loop-place-preserved c = up_miss _ _ _ _ _ (omega arith) (omega arith) refl c.is_blank_at.ensures c.if-not-is_blank_at.false ∙ c.loop-place.invariant

pub returns : goal.returns
returns c = up_end _ _ _ (omega arith) ∙ c.loop-place.invariant

pub returns-else-not-is_blank_at : goal.returns-else-not-is_blank_at
returns-else-not-is_blank_at c =
    up_end _ _ (c.loop-place.place + 1) (omega arith)
    ∙ up_miss _ _ _ _ _ (omega arith) (omega arith) refl c.is_blank_at.ensures c.if-not-is_blank_at.false
    ∙ c.loop-place.invariant
