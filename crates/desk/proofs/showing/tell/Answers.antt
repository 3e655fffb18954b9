-- `desk::showing::tell`: a reply that shows a value, and any other. Assumes nothing.
use Rattle.desk.proofs.ValueShown.{told_other, told_all, told_some}
use Rattle.desk.proofs.showing.tell.Goals as goal

pub returns-in_default : goal.returns-in_default
returns-in_default c =
    let a = c.args in
    told_other a.reply a.sheet.now _ _ _ c.in_default.not-Shown c.print.ensures

pub returns-then-size : goal.returns-then-size
returns-then-size c =
    let a = c.args in
    told_all a.reply a.sheet.now _ _ _ _ _ _ _ c.in-Shown.is c.value_at-value.ensures c.if-size.true c.print-then-size.ensures

pub returns : goal.returns
returns c =
    let a = c.args in
    told_some a.reply a.sheet.now _ _ _ _ _ _ _ c.in-Shown.is c.value_at-value.ensures c.print-2.ensures
