-- `harness::door::door_move`: what the move leaves, in numbers. Assumes nothing.
use Rattle.harness.proofs.ToldNumbers.{given_move_none, given_move_lem}
use Rattle.harness.proofs.door.door_move.Goals as goal

pub returns-then-out-ne-NUMBERS : goal.returns-then-out-ne-NUMBERS
returns-then-out-ne-NUMBERS c =
    let a = c.args in
    given_move_none a.sheet.now a.fates.now a.rows.now a.fresh.now a.out.now _ c.if-out-ne-NUMBERS.true

pub returns : goal.returns
returns c =
    let a = c.args in
    given_move_lem a.sheet.now a.fates.now a.rows.now a.fresh.now a.out.now _ _ _ _ _ _ _ c.if-out-ne-NUMBERS.false c.move_to-done.ensures c.tell.ensures
