-- `moving::carrying::store_pages`: three stores, one after another. Assumes nothing.
use Prim.Native.Nat.{ℕ}
use mathlib.Core.Path.{◌≡◌, ap, ◌∙◌}
use Rattle.page.specs.Table as table
use Rattle.moving.proofs.StoredPages.{stores_all_lem}
use native.Mathlib.Omega.{arith}
use Rattle.moving.proofs.carrying.store_pages.Goals as goal

pub returns : goal.returns
returns c =
    let a = c.args in
    let p = c.append in
    let v = c.store_versions-at in
    let one : c.from-small.result ≡ 1 = rw (c.from-small.ensures, c.is_blank_at.ensures, c.requires.1) in
    stores_all_lem a.view.sheet.now a.view.files a.rows.now a.fresh.now p.new.sheet v.new.fresh _ v.result _ _ c.requires.0
    (c.opening_as-opening.ensures ∙ ap (λ (n : ℕ). table.opening_as n 1) one) p.ensures (omega (arith, p.auto)) v.ensures (omega (arith, v.auto)) (c.outcome-outcome.ensures ∙ ap (table.outcome 1) one) c.append-2.ensures
