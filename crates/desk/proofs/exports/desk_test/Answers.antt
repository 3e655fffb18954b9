use Rattle.desk.proofs.Exported.{test_refused, test_given}
use Rattle.desk.proofs.exports.desk_test.Goals as goal

pub returns-then-fields-ne-FIELDS : goal.returns-then-fields-ne-FIELDS
returns-then-fields-ne-FIELDS c = test_refused _ _ _ _ (λ e. absurd (c.if-fields-ne-FIELDS.true e))

pub returns : goal.returns
returns c = test_given _ _ _ _ _ _ _ c.if-fields-ne-FIELDS.false c.test-found.ensures c.give_found.ensures
