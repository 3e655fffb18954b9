-- `desk::talking::call_now`. Assumes nothing.
use Rattle.desk.proofs.LineSaid.{no_state, not_lent, is_lent, call_closed, call_made}
use Rattle.encoding.proofs.Logic.{refused, passed}
use Rattle.desk.proofs.talking.call_now.Goals as goal

pub returns-in_default : goal.returns-in_default
returns-in_default c =
    let a = c.args in
    call_closed a.desk a.sheet.now a.fates.now a.rows.now _ a.call a.value.now (no_state a.desk c.in_default.is) c.only.ensures

pub returns-then-not-is_file : goal.returns-then-not-is_file
returns-then-not-is_file c =
    let a = c.args in
    call_closed a.desk a.sheet.now a.fates.now a.rows.now _ a.call a.value.now (not_lent a.desk (refused c.is_file.ensures c.if-not-is_file.true)) c.only-then-not-is_file.ensures

pub returns : goal.returns
returns c =
    let a = c.args in
    call_made a.desk a.sheet.now a.fates.now a.rows.now _ a.call a.value.now _ _ _ _ (is_lent a.desk c.in-Some.is (passed c.is_file.ensures c.if-not-is_file.false)) c.row_numbers-n.ensures c.act.ensures
