-- `moving::carrying::store_versions`. The invariant: the versions of the files so far are stored. Assumes nothing.
use Rattle.moving.proofs.StoredPages.{stores_start, stores_turn, stores_room, stores_end}
use Prim.Native.Nat.{pred, ◌+◌}
use native.Mathlib.Omega.{arith}
use mathlib.Core.Path.{refl}
use Rattle.moving.proofs.carrying.store_versions.Goals as goal

pub loop-file-init : goal.loop-file-init
loop-file-init c =
    let a = c.args in
    (omega arith, stores_start a.view.sheet.now a.view.files a.rows.now a.fresh.now, refl)

pub store_version-at-requires : goal.store_version-at-requires
store_version-at-requires c =
    let a = c.args in
    stores_room a.view.sheet.now a.view.files a.rows.now a.fresh.now _ (pred c.loop-file.file) c.loop-file.at c.requires (omega arith) c.loop-file.invariant.2 c.loop-file.invariant.1

pub loop-file-preserved : goal.loop-file-preserved
loop-file-preserved c =
    let a = c.args in
    (omega arith, stores_turn a.view.sheet.now a.view.files a.rows.now a.fresh.now c.loop-file.file c.loop-file.at _ _ _ c.row_of-row.result (omega arith) c.loop-file.invariant.1 c.row_of-row.ensures c.store_version-at.ensures, omega (arith, c.store_version-at.auto, c.loop-file.invariant.2))

pub returns-2 : goal.returns-2
returns-2 c =
    let a = c.args in
    stores_end a.view.sheet.now a.view.files a.rows.now a.fresh.now (pred (c.loop-file.file + 1)) _ _
    (stores_turn a.view.sheet.now a.view.files a.rows.now a.fresh.now c.loop-file.file c.loop-file.at _ _ _ c.row_of-row.result (omega arith) c.loop-file.invariant.1 c.row_of-row.ensures c.store_version-at.ensures)
    (omega arith)
