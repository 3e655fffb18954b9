-- `deciding::Decision::settle_rows`. The loop's invariant: the rows of the files passed are settled, and the others are as they were.
-- The measure is what is left of the files. Assumes nothing.
use lib.ListN.{length}
use native.Mathlib.Omega.{arith}
use native.Mathlib.Numerals.{add-one}
use mathlib.Core.Path.{◌∙◌, ap}
use Rattle.calls.proofs.DecideRows.{run_long, run_none, reached, run_more, run_all}
use borrow.Author.Rules.{rules}
use Rattle.deciding.specs.Verdicts.{is_commit}
use Rattle.deciding.proofs.Decision.settle_rows.Goals as goal

pub loop-file-init : goal.loop-file-init
loop-file-init c =
    (search rules, run_none c.args.self.now.view.sheet.now c.args.self.now.view.files c.args.self.now.end c.args.self.now.action (is_commit c.args.self.now.verdict) c.args.rows.now c.requires.0)

pub shape_of-rows-then-self-file : goal.shape_of-rows-then-self-file
shape_of-rows-then-self-file c = ap length c.loop-file.invariant.1 ∙ run_long _ _ _ _ _ _ c.requires.0 _

pub returns-then-self-file : goal.returns-then-self-file
returns-then-self-file c =
    let here = reached c.args.self.now.view.sheet.now c.args.self.now.view.files c.args.self.now.end c.args.self.now.action (is_commit c.args.self.now.verdict) c.args.rows.now c.requires.0 c.loop-file.rows c.loop-file.file _ (omega (arith, c.requires, c.loop-file.invariant.0)) c.loop-file.invariant.1 c.next_named-file.ensures in
    run_all c.args.self.now.view.sheet.now c.args.self.now.view.files c.args.self.now.end c.args.self.now.action (is_commit c.args.self.now.verdict) c.args.rows.now c.next_named-file.result _ here.most (omega (arith, c.requires, c.if-self-file.true)) here.run

pub settle_row-requires : goal.settle_row-requires
settle_row-requires c =
    let here = reached c.args.self.now.view.sheet.now c.args.self.now.view.files c.args.self.now.end c.args.self.now.action (is_commit c.args.self.now.verdict) c.args.rows.now c.requires.0 c.loop-file.rows c.loop-file.file _ (omega (arith, c.requires, c.loop-file.invariant.0)) c.loop-file.invariant.1 c.next_named-file.ensures in
    (rw add-one (here.names (omega (arith, c.requires, c.if-self-file.false))))

pub loop-file-smaller : goal.loop-file-smaller
loop-file-smaller c =
    let here = reached c.args.self.now.view.sheet.now c.args.self.now.view.files c.args.self.now.end c.args.self.now.action (is_commit c.args.self.now.verdict) c.args.rows.now c.requires.0 c.loop-file.rows c.loop-file.file _ (omega (arith, c.requires, c.loop-file.invariant.0)) c.loop-file.invariant.1 c.next_named-file.ensures in
    omega (arith, here.up, c.if-self-file.false)

pub loop-file-preserved : goal.loop-file-preserved
loop-file-preserved c =
    let here = reached c.args.self.now.view.sheet.now c.args.self.now.view.files c.args.self.now.end c.args.self.now.action (is_commit c.args.self.now.verdict) c.args.rows.now c.requires.0 c.loop-file.rows c.loop-file.file _ (omega (arith, c.requires, c.loop-file.invariant.0)) c.loop-file.invariant.1 c.next_named-file.ensures in
    (omega (arith, c.if-self-file.false), run_more c.args.self.now.view.sheet.now c.args.self.now.view.files c.args.self.now.end c.args.self.now.action (is_commit c.args.self.now.verdict) c.args.rows.now c.next_named-file.result (omega (arith, c.requires, c.if-self-file.false)) _ _ here.run c.settle_row.ensures)
