-- `inspection::climbing::inspect`: line 1, then the lowest place. Assumes nothing.
use Rattle.encoding.proofs.Logic.{refused, passed}
use Rattle.inspection.proofs.ClimbPass.{most, inspected_no, inspected_yes}
use Rattle.inspection.proofs.climbing.inspect.Goals as goal

pub returns-then-not-is_inspectable : goal.returns-then-not-is_inspectable
returns-then-not-is_inspectable c = inspected_no _ _ (refused c.is_inspectable.ensures c.if-not-is_inspectable.true)

pub lowest-requires : goal.lowest-requires
lowest-requires c = most _ _ (passed c.is_inspectable.ensures c.if-not-is_inspectable.false)

pub returns : goal.returns
returns c = inspected_yes _ _ _ (passed c.is_inspectable.ensures c.if-not-is_inspectable.false) c.lowest.ensures
