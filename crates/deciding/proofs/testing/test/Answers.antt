-- `deciding::testing::test`: lines 1 and 5, the fate and the place of the outcome. Assumes nothing.
use mathlib.Core.Path.{sym, ◌∙◌}
use Rattle.encoding.proofs.Logic.{refused, passed}
use Rattle.calls.proofs.Ends.{by_refuse, ends_line_1}
use Rattle.calls.proofs.BeginEnds.{test_none, test_told}
use Rattle.deciding.proofs.testing.test.Goals as goal

pub returns-then-not-is_lent_right : goal.returns-then-not-is_lent_right
returns-then-not-is_lent_right c = by_refuse _ _ _ _ _ _ c.refuse.ensures (ends_line_1 _ _ _ _ _ (refused c.is_lent_right.ensures c.if-not-is_lent_right.true))

pub returns-in-Err : goal.returns-in-Err
returns-in-Err c = by_refuse _ _ _ _ _ _ c.refuse-in-Err.ensures (test_none _ _ _ _ (passed c.is_lent_right.ensures c.if-not-is_lent_right.false) _ _ (sym c.in-Err.is ∙ c.known_fate.ensures))

pub returns : goal.returns
returns c = test_told _ _ _ _ (passed c.is_lent_right.ensures c.if-not-is_lent_right.false) _ _ _ (sym c.in-Ok.is ∙ c.known_fate.ensures) (rw c.file_count-files.ensures at c.outcome_place-place.ensures)
