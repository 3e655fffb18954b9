-- `moving::checking::survey_rows`. The invariant: the survey of the rows so far. Assumes nothing.
use Rattle.moving.proofs.Rows.{survey_start, survey_turn, survey_few, survey_end}
use Prim.Native.Nat.{pred, ◌+◌}
use native.Mathlib.Omega.{arith}
use Rattle.moving.proofs.checking.survey_rows.Goals as goal

pub loop-file-init : goal.loop-file-init
loop-file-init c =
    let a = c.args in
    (omega arith, survey_start a.view.sheet.now a.view.files a.end a.rows.now a.floor)

pub with_row-survey-requires : goal.with_row-survey-requires
with_row-survey-requires c =
    let a = c.args in
    let k = survey_few a.view.sheet.now a.view.files a.end a.rows.now a.floor (pred c.loop-file.file) c.loop-file.survey c.loop-file.invariant.1 in
    omega (arith, c.loop-file-test.true, c.requires)

pub loop-file-preserved : goal.loop-file-preserved
loop-file-preserved c =
    let a = c.args in (
      omega arith,
      survey_turn a.view.sheet.now a.view.files a.end a.rows.now a.floor c.loop-file.file c.loop-file.survey c.with_row-survey.result c.row_of-row.result c.row_holds_in-holds.result
          (omega arith) c.loop-file.invariant.1 c.row_of-row.ensures c.row_holds_in-holds.ensures c.with_row-survey.ensures,
    )

pub returns-2 : goal.returns-2
returns-2 c =
    let a = c.args in
    survey_end a.view.sheet.now a.view.files a.end a.rows.now a.floor (pred (c.loop-file.file + 1)) c.with_row-survey.result
    (survey_turn a.view.sheet.now a.view.files a.end a.rows.now a.floor c.loop-file.file c.loop-file.survey c.with_row-survey.result c.row_of-row.result c.row_holds_in-holds.result
    (omega arith) c.loop-file.invariant.1 c.row_of-row.ensures c.row_holds_in-holds.ensures c.with_row-survey.ensures)
    (omega arith)
