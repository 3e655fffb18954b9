-- `page::Page::is_framed`: each test by its definition. Assumes nothing.
use Rattle.page.specs.Layout.{end_mark}
use lib.Dec.{eqb}
use Prim.Native.Nat.{ℕ}
use mathlib.Core.Bool.{◌&&◌}
use mathlib.Core.Path.{ap, ap₂}
use Rattle.page.specs.Steps.{framed}
use Rattle.page.proofs.Page.is_framed.Goals as goal

pub returns : goal.returns
unfolding framed
returns c =
    let place = c.args.place in
    ap₂ ◌&&◌ (ap₂ ◌&&◌ (ap₂ ◌&&◌ (ap (λ (k : ℕ). eqb k end_mark) c.byte_at.ensures.value) (ap (λ (k : ℕ). eqb k place) c.field.ensures)) (ap (λ (k : ℕ). eqb k 0) c.field-2.ensures)) (ap (λ (k : ℕ). eqb k 0) c.byte_at-2.ensures.value)
