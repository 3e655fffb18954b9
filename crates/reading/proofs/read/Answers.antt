-- `reading::read`: a line before 7 refuses, or the row is warmed, read and put back. Assumes nothing.
use mathlib.Core.Path.{sym, ◌∙◌}
use Rattle.calls.proofs.Ends.{by_refuse}
use Rattle.reading.proofs.ReadEnds.{allowed, read_no, read_done}
use Rattle.reading.proofs.read.Goals as goal

pub returns-in-Err : goal.returns-in-Err
returns-in-Err c = by_refuse _ _ _ _ _ _ c.refuse.ensures (read_no _ _ _ _ _ _ _ _ (sym c.in-Err.is ∙ c.may_read.ensures))

pub returns : goal.returns
returns c =
    let a = c.args in
    let k = allowed a.sheet.now a.fates.now a.rows.now a.state a.file a.action (sym c.in_default.is ∙ c.may_read.ensures) in
    read_done a.sheet.now a.fates.now a.rows.now a.state k.fits a.file a.time a.action k.file k.acts _ _ c.warm_row-row.ensures _ (rw c.file_count-files.ensures at c.read_row-reading.ensures) _ c.set_row.ensures
