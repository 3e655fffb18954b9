-- `desk::exports::desk_week_test`, answer by answer. Assumes nothing.
use mathlib.Core.Path.{◌∙◌}
use Rattle.desk.proofs.Exported.{week_told}
use Rattle.desk.proofs.exports.desk_week_test.Goals as goal

pub returns-in-Ok : goal.returns-in-Ok
returns-in-Ok c = week_told _ _ _ c.week_test.ensures c.in-Ok.is

pub returns-in-Err : goal.returns-in-Err
returns-in-Err c = c.from.ensures ∙ week_told _ _ _ c.week_test.ensures c.in-Err.is
