-- `desk::talking::answer`: a line to the bytes of its reply. Assumes nothing.
use mathlib.Core.Path.{ap, ◌∙◌}
use Rattle.desk.specs.Conversation.{conversed}
use Rattle.commands.specs.Commands.{parsed}
use Rattle.desk.proofs.LineSaid.{not_set_up, said_so}
use Rattle.desk.proofs.talking.answer.Goals as goal

pub returns-in_default : goal.returns-in_default
returns-in_default c =
    let a = c.args in
    not_set_up a.desk a.sheet.now a.fates.now a.rows.now a.line.now a.out.now c.in_default.ensures.cases

pub returns : goal.returns
returns c =
    let a = c.args in
    let whole = c.in-Some.ensures.cases in
    said_so a.desk a.sheet.now a.fates.now a.rows.now a.line.now a.out.now _ _ _ _ _ _ whole.long (c.converse-turn.ensures ∙ ap (λ rows. conversed a.desk a.sheet.now a.fates.now rows (parsed a.line.now) a.line.now) whole.same) c.tell-count.ensures
