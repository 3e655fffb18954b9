-- `desk::talking::start`. Assumes nothing.
use Rattle.desk.proofs.LineSaid.{start_refused, start_opened}
use Rattle.encoding.proofs.Logic.{refused, passed}
use Rattle.desk.proofs.talking.start.Goals as goal

pub returns-then-not-is_file : goal.returns-then-not-is_file
returns-then-not-is_file c =
    let a = c.args in
    start_refused a.desk a.sheet.now a.fates.now a.rows.now _ a.files a.floor (refused c.is_file.ensures c.if-not-is_file.true) (rw c.from.ensures at c.only.ensures)

pub returns : goal.returns
returns c =
    let a = c.args in
    start_opened a.desk a.sheet.now a.fates.now a.rows.now _ a.files a.floor _ _ _ (passed c.is_file.ensures c.if-not-is_file.false) c.row_numbers-n.ensures c.open_desk.ensures
