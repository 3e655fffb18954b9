-- `harness::door::door_rebuild`: what rebuild leaves, in numbers. Assumes nothing.
use Rattle.harness.proofs.ToldNumbers.{given_none, given_numbers}
use Rattle.harness.proofs.door.door_rebuild.Goals as goal

pub returns-then-out-ne-NUMBERS : goal.returns-then-out-ne-NUMBERS
returns-then-out-ne-NUMBERS c =
    let a = c.args in
    given_none a.sheet.now a.fates.now a.rows.now a.out.now _ c.if-out-ne-NUMBERS.true

pub returns : goal.returns
returns c =
    let a = c.args in
    given_numbers a.sheet.now a.fates.now a.rows.now a.out.now _ _ _ _ _ _ c.if-out-ne-NUMBERS.false c.rebuild-done.ensures c.tell.ensures
