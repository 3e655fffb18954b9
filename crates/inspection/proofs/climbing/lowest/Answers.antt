-- `inspection::climbing::lowest`: what the climb finds up to the last page, it finds up to the end, unless it is above the end.
-- Assumes nothing.
use mathlib.Core.Path.{sym, ◌∙◌}
use Rattle.inspection.proofs.ClimbPass.{upward_none, upward_found, upward_blank}
use Rattle.inspection.proofs.climbing.lowest.Goals as goal

pub returns-in-Some : goal.returns-in-Some
returns-in-Some c = upward_found c.args.view.sheet.now c.args.view.files _ (sym c.in-Some.is ∙ c.climb_sheet.ensures) _ c.is_used_from.ensures c.if-is_used_from.true

pub returns-in_default : goal.returns-in_default
returns-in_default c = upward_blank c.args.view.sheet.now c.args.view.files _ (sym c.in-Some.is ∙ c.climb_sheet.ensures) _ c.is_used_from.ensures c.if-is_used_from.false

pub returns-in_default-2 : goal.returns-in_default-2
returns-in_default-2 c = upward_none c.args.view.sheet.now c.args.view.files (sym c.in_default.is ∙ c.climb_sheet.ensures)
