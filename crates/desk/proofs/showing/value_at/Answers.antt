-- `desk::showing::value_at`: the value in the part of the place. Assumes nothing.
use Rattle.desk.proofs.ValueShown.{value_part}
use Rattle.page.specs.Answers.{value_in}
use mathlib.Core.Path.{ap, ◌∙◌}
use Rattle.desk.proofs.showing.value_at.Goals as goal

pub returns : goal.returns
returns c =
    let a = c.args in
    c.value.ensures ∙ ap value_in c.part_at.ensures ∙ value_part a.sheet.now a.place
