-- `writing::write`: a line before 7 refuses, a refusal on a warm row, or the page and the row written. Assumes nothing.
use mathlib.Core.Path.{sym, ◌∙◌}
use lib.ListN.{length}
use native.Mathlib.Omega.{arith}
use Rattle.calls.proofs.Appends.{appended_is}
use Rattle.calls.proofs.WriteEnds.{allowed, write_no, write_refused, append_asked, write_done}
use Rattle.calls.proofs.Ends.{lent_is, by_refuse}
use Rattle.writing.proofs.write.Goals as goal

pub returns-in-Err : goal.returns-in-Err
returns-in-Err c = by_refuse _ _ _ _ _ _ c.refuse.ensures (write_no _ _ _ _ _ _ _ _ _ (sym c.in-Err.is ∙ c.may_write.ensures))

pub pad-bytes-requires : goal.pad-bytes-requires
pad-bytes-requires c =
    let a = c.args in
    (allowed a.sheet.now a.fates.now a.rows.now a.state a.file a.action a.value.now (sym c.in_default.is ∙ c.may_write.ensures)).short

pub write_answer-answer-requires : goal.write_answer-answer-requires
write_answer-answer-requires c =
    let a = c.args in
    let m = allowed a.sheet.now a.fates.now a.rows.now a.state a.file a.action a.value.now (sym c.in_default.is ∙ c.may_write.ensures) in
    let k = lent_is (length a.sheet.now) (length a.fates.now) (length a.rows.now) a.state.end a.state.undecided m.fits in
    (k.end_in, k.few)

pub returns-in_default-answer : goal.returns-in_default-answer
returns-in_default-answer c =
    let a = c.args in
    let m = allowed a.sheet.now a.fates.now a.rows.now a.state a.file a.action a.value.now (sym c.in_default.is ∙ c.may_write.ensures) in
    write_refused a.sheet.now a.fates.now a.rows.now a.state m.fits a.file a.start a.action a.value.now m.file m.short m.acts _ _ c.warm_row-row.ensures c.write_answer-answer.result (rw c.file_count-files.ensures at c.write_answer-answer.ensures) c.in_default-answer.not-Stored

pub shape_of-rows : goal.shape_of-rows
shape_of-rows c = omega (arith, c.set_row.auto, c.warm_row-row.auto)

pub returns : goal.returns
returns c =
    let a = c.args in
    let m = allowed a.sheet.now a.fates.now a.rows.now a.state a.file a.action a.value.now (sym c.in_default.is ∙ c.may_write.ensures) in
    write_done a.sheet.now a.fates.now a.rows.now a.state m.fits a.file a.start a.action a.value.now m.file m.short m.acts _ _ c.warm_row-row.ensures _ (rw c.file_count-files.ensures at (sym c.in-Stored.is ∙ c.write_answer-answer.ensures)) _ c.image-page.ensures _ c.written_row.ensures _ _ _ c.pad-bytes.ensures (c.append.ensures ∙ appended_is _ _ _ _ _ (rw c.file_count-files.ensures (append_asked a.sheet.now a.fates.now a.rows.now a.state m.fits a.file a.start a.action a.value.now m.file m.short m.acts _ _ c.warm_row-row.ensures _ (rw c.file_count-files.ensures at (sym c.in-Stored.is ∙ c.write_answer-answer.ensures)) c.ranges.start.fits _ c.image-page.ensures _ c.pad-bytes.ensures))) c.set_row.ensures
