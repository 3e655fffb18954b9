-- `desk::talking::open_desk`: what open leaves, and its reply. Assumes nothing.
use Rattle.desk.proofs.LineSaid.{open_left}
use Rattle.desk.proofs.talking.open_desk.Goals as goal

pub returns : goal.returns
returns c =
    let a = c.args in
    open_left a.desk a.sheet.now a.fates.now a.rows.now _ _ _ _ a.files a.floor _ _ c.open-done.ensures c.open_reply.ensures c.state_left.ensures
