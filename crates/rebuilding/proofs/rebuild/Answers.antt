-- `rebuilding::rebuild`: lines 1, 3 and 7, and the row. Assumes nothing.
use Rattle.recovery.proofs.Leaves.{rebuild_line_1, rebuild_line_3, rebuild_line_7, rebuild_done}
use Rattle.recovery.specs.declared.Done.{Done}
use Rattle.recovery.specs.Lent.{left_by}
use Rattle.encoding.proofs.Logic.{refused, passed}
use mathlib.Core.Path.{ap, ◌∙◌}
use Rattle.rebuilding.proofs.rebuild.Goals as goal

pub returns-then-not-is_lent_right : goal.returns-then-not-is_lent_right
returns-then-not-is_lent_right c =
    let a = c.args in
    ap (λ (d : Done). left_by d a.sheet.now a.fates.now a.rows.now) c.refuse.ensures
    ∙ rebuild_line_1 a.sheet.now a.fates.now a.rows.now a.state a.file (refused c.is_lent_right.ensures c.if-not-is_lent_right.true)

pub returns-then-not-has_file : goal.returns-then-not-has_file
returns-then-not-has_file c =
    let a = c.args in
    ap (λ (d : Done). left_by d a.sheet.now a.fates.now a.rows.now) c.refuse-then-not-has_file.ensures
    ∙ rebuild_line_3 a.sheet.now a.fates.now a.rows.now a.state a.file (passed c.is_lent_right.ensures c.if-not-is_lent_right.false) (refused c.has_file.ensures c.if-not-has_file.true)

pub returns-then-not-row_holds_in : goal.returns-then-not-row_holds_in
returns-then-not-row_holds_in c =
    let a = c.args in
    let w = c.warm_row-row in
    ap (λ (d : Done). left_by d a.sheet.now a.fates.now w.new.rows) c.refuse-then-not-row_holds_in.ensures
    ∙ rebuild_line_7 a.sheet.now a.fates.now a.rows.now a.state a.file (passed c.is_lent_right.ensures c.if-not-is_lent_right.false) (passed c.has_file.ensures c.if-not-has_file.false) w.result _ w.ensures (refused (rw c.file_count-files.ensures at c.row_holds_in.ensures) c.if-not-row_holds_in.true)

pub returns : goal.returns
returns c =
    let a = c.args in
    let w = c.warm_row-row in
    rebuild_done a.sheet.now a.fates.now a.rows.now a.state a.file (passed c.is_lent_right.ensures c.if-not-is_lent_right.false) (passed c.has_file.ensures c.if-not-has_file.false) w.result _ w.ensures (passed (rw c.file_count-files.ensures at c.row_holds_in.ensures) c.if-not-row_holds_in.false)
