-- `moving::moves::move_warm`: 7, 11, 12, and the move. Assumes nothing.
use Rattle.moving.proofs.MoveEnds.{line_one_lem, versions_few, warm_damaged, warm_full, warm_used, roomy, blank_first, warm_done}
use Rattle.calls.proofs.Ends.{lent_is}
use native.Mathlib.Omega.{arith}
use Rattle.moving.proofs.moves.move_warm.Goals as goal

pub survey_rows-survey-requires : goal.survey_rows-survey-requires
survey_rows-survey-requires c =
    let a = c.args in
    let few = (lent_is _ _ _ _ _ (line_one_lem a.sheet.now a.fates.now a.rows.now a.state a.fresh.now c.requires).0).sizes.most_files_lem in
    omega (arith, c.file_count-files.ensures)

pub returns-in-Some : goal.returns-in-Some
returns-in-Some c =
    let a = c.args in
    warm_damaged a.sheet.now a.fates.now a.rows.now a.state a.fresh.now c.requires _ (rw c.file_count-files.ensures at c.survey_rows-survey.ensures) _ c.in-Some.is _ c.refuse_at.ensures

pub overflow_add-survey : goal.overflow_add-survey
overflow_add-survey c =
    let a = c.args in
    let few = (lent_is _ _ _ _ _ (line_one_lem a.sheet.now a.fates.now a.rows.now a.state a.fresh.now c.requires).0).sizes.most_files_lem in
    let most = versions_few a.sheet.now a.fates.now a.rows.now a.state a.fresh.now c.requires _ (rw c.file_count-files.ensures at c.survey_rows-survey.ensures) in
    omega arith

pub returns-then-pages-survey : goal.returns-then-pages-survey
returns-then-pages-survey c =
    let a = c.args in
    warm_full a.sheet.now a.fates.now a.rows.now a.state a.fresh.now c.requires _ (rw c.file_count-files.ensures at c.survey_rows-survey.ensures) c.in_default.is (rw c.pages.ensures at c.if-pages-survey.true) _ c.refuse.ensures

pub returns-then-not-is_unused : goal.returns-then-not-is_unused
returns-then-not-is_unused c =
    let a = c.args in
    warm_used a.sheet.now a.fates.now a.rows.now a.state a.fresh.now c.requires _ (rw c.file_count-files.ensures at c.survey_rows-survey.ensures) c.in_default.is (rw c.pages.ensures at c.if-pages-survey.false) _ (rw c.file_count-files.ensures at c.is_unused.ensures) c.if-not-is_unused.true _ c.refuse-then-not-is_unused.ensures

pub store_pages-requires : goal.store_pages-requires
store_pages-requires c =
    let a = c.args in
    let k = c.file_count-files.ensures in
    let v = rw k at c.survey_rows-survey.ensures in (
      rw k (roomy a.sheet.now a.fates.now a.rows.now a.state a.fresh.now c.requires _ v c.in_default.is (rw c.pages.ensures at c.if-pages-survey.false)),
      rw k (blank_first a.sheet.now a.fates.now a.rows.now a.state a.fresh.now c.requires _ v c.in_default.is (rw c.pages.ensures at c.if-pages-survey.false) _ (rw k at c.is_unused.ensures) c.if-not-is_unused.false),
    )

pub returns : goal.returns
returns c =
    let a = c.args in
    let k = c.file_count-files.ensures in
    warm_done a.sheet.now a.fates.now a.rows.now a.state a.fresh.now c.requires _ (rw k at c.survey_rows-survey.ensures) c.in_default.is (rw c.pages.ensures at c.if-pages-survey.false) _ (rw k at c.is_unused.ensures) c.if-not-is_unused.false _ (rw k at c.store_pages.ensures)
