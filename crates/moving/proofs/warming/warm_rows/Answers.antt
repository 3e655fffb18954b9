-- `moving::warming::warm_rows`. The invariant: the rows up to a file are rebuilt. Assumes nothing.
use Rattle.moving.proofs.Rows.{warm_long, warm_start, warm_turn, warm_end}
use Prim.Native.Nat.{pred, ◌+◌}
use native.Mathlib.Omega.{arith}
use mathlib.Core.Path.{refl, ◌∙◌}
use Rattle.moving.proofs.warming.warm_rows.Goals as goal

pub loop-file-init : goal.loop-file-init
loop-file-init c =
    let a = c.args in
    (omega arith, warm_start a.sheet.now a.fates.now a.rows.now a.state c.requires, refl)

pub loop-file-preserved : goal.loop-file-preserved
loop-file-preserved c =
    let a = c.args in
    let t = warm_turn a.sheet.now a.fates.now a.rows.now a.state c.requires c.loop-file.file _ _ _ (omega arith) (rw c.file_count-files.ensures at c.loop-file-test.true) c.loop-file.invariant.1 c.warm_row.ensures in
    (omega arith, t, warm_long a.sheet.now a.fates.now a.rows.now a.state c.requires _ _ t)

pub returns-2 : goal.returns-2
returns-2 c =
    let a = c.args in
    warm_turn a.sheet.now a.fates.now a.rows.now a.state c.requires c.loop-file.file _ _ _ (omega arith) (rw c.file_count-files.ensures at c.loop-file-test.true) c.loop-file.invariant.1 c.warm_row.ensures
    ∙ warm_end a.sheet.now a.fates.now a.rows.now a.state c.requires (pred (c.loop-file.file + 1)) (omega (arith, c.file_count-files.ensures))

pub returns : goal.returns
returns c =
    let a = c.args in
    c.loop-file.invariant.1 ∙ warm_end a.sheet.now a.fates.now a.rows.now a.state c.requires (pred c.loop-file.file) (omega (arith, c.file_count-files.ensures))
