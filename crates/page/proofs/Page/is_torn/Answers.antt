-- `page::Page::is_torn`: each test by its definition. Assumes nothing.
use Rattle.page.specs.Table.{within, torn}
use lib.Dec.{eqb}
use Prim.Native.Nat.{ℕ}
use mathlib.Core.Bool.{◌&&◌}
use mathlib.Core.Path.{ap, ap₂, ◌∙◌}
use Rattle.page.proofs.Page.is_torn.Goals as goal

pub returns : goal.returns
unfolding torn
returns c = ap₂ ◌&&◌ (c.is_within.ensures ∙ ap (λ (k : ℕ). within k 1 3) c.byte_at.ensures.value) (ap (λ (k : ℕ). eqb k 0) c.byte_at-2.ensures.value)
