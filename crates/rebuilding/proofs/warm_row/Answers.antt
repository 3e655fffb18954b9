-- `rebuilding::warm_row`: a row that is not cold stays as it is. Assumes nothing.
use Rattle.recovery.proofs.Leaves.{warm_same, warm_new}
use Rattle.rebuilding.proofs.warm_row.Goals as goal

pub returns-then-row-ne0 : goal.returns-then-row-ne0
returns-then-row-ne0 c =
    let a = c.args in
    warm_same a.sheet.now a.fates.now a.rows.now a.file a.end c.row_of-row.result c.row_of-row.ensures c.if-row-ne0.true

pub returns : goal.returns
returns c =
    let a = c.args in
    warm_new a.sheet.now a.fates.now a.rows.now a.file a.end c.row_of-row.result c.row_of-row.ensures c.if-row-ne0.false _ _ (rw c.file_count-files.ensures at c.rebuilt_row-new.ensures) c.set_row.ensures
