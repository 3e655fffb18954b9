-- `harness::door::door_call`: what a call leaves, in numbers. Assumes nothing.
use Rattle.harness.specs.Door.{made, state_with}
use Rattle.calls.specs.declared.asking.Call.{Call}
use mathlib.Core.Path.{ap, ◌∙◌}
use Rattle.harness.proofs.ToldNumbers.{given_none, given_numbers}
use Rattle.harness.proofs.door.door_call.Goals as goal

pub returns-then-out-ne-NUMBERS : goal.returns-then-out-ne-NUMBERS
returns-then-out-ne-NUMBERS c =
    let a = c.args in
    given_none a.sheet.now a.fates.now a.rows.now a.out.now _ c.if-out-ne-NUMBERS.true

pub returns : goal.returns
returns c =
    let a = c.args in
    given_numbers a.sheet.now a.fates.now a.rows.now a.out.now _ _ _ _ _ _ c.if-out-ne-NUMBERS.false (c.made-done.ensures ∙ ap (λ (k : Call). made a.sheet.now a.fates.now a.rows.now (state_with a.end a.floor a.undecided) a.kind k a.value.now) c.call_of-call.ensures) c.tell.ensures
