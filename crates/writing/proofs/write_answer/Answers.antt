-- `writing::write_answer`: lines 7 and 8, and the rest. Assumes nothing.
use mathlib.Core.Path.{sym, ◌∙◌}
use Rattle.encoding.proofs.Logic.{refused, passed}
use Rattle.calls.proofs.WriteAnswers.{write_7, write_8, write_store}
use Rattle.writing.proofs.write_answer.Goals as goal

pub returns-then-not-row_holds_by : goal.returns-then-not-row_holds_by
returns-then-not-row_holds_by c =
    let a = c.args in
    write_7 a.view.sheet.now a.view.files a.state a.file a.start a.action a.row _ _ c.image_at-current.ensures c.image_at-token.ensures (refused c.row_holds_by.ensures c.if-not-row_holds_by.true)

pub returns-then-not-is_free_for : goal.returns-then-not-is_free_for
returns-then-not-is_free_for c =
    let a = c.args in
    write_8 a.view.sheet.now a.view.files a.state a.file a.start a.action a.row _ _ c.image_at-current.ensures c.image_at-token.ensures (passed c.row_holds_by.ensures c.if-not-row_holds_by.false) _ c.is_free_for.ensures c.if-not-is_free_for.true

pub returns-in-Ok : goal.returns-in-Ok
returns-in-Ok c =
    let a = c.args in
    write_store a.view.sheet.now a.view.files a.state a.file a.start a.action a.row _ _ c.image_at-current.ensures c.image_at-token.ensures (passed c.row_holds_by.ensures c.if-not-row_holds_by.false) _ c.is_free_for.ensures c.if-not-is_free_for.false _ (sym c.in-Ok.is ∙ c.store_line.ensures)

pub returns-in-Err : goal.returns-in-Err
returns-in-Err c =
    let a = c.args in
    write_store a.view.sheet.now a.view.files a.state a.file a.start a.action a.row _ _ c.image_at-current.ensures c.image_at-token.ensures (passed c.row_holds_by.ensures c.if-not-row_holds_by.false) _ c.is_free_for.ensures c.if-not-is_free_for.false _ (sym c.in-Err.is ∙ c.store_line.ensures)
