-- `opening::open_with`: lines 2 and 24, or what follows from a pass that found neither. Assumes nothing.
use mathlib.Core.Path.{sym, ◌∙◌}
use native.Mathlib.Omega.{arith}
use Rattle.recovery.proofs.Sizes.{sizes_right_lem}
use Rattle.recovery.proofs.OpeningLaws.{open_bad, open_unfinished, open_good}
use Rattle.opening.proofs.open_with.Goals as goal

pub scan_pages-scan-requires : goal.scan_pages-scan-requires
scan_pages-scan-requires c =
    let p = c.requires in
    let n = c.file_count-files.ensures in
    let h = sizes_right_lem _ _ _ p.0 in
    (omega arith, omega (arith, n), p.2)

pub returns-then-scan-ne0 : goal.returns-then-scan-ne0
returns-then-scan-ne0 c =
    let a = c.args in
    let p = c.scan_pages-scan in
    open_bad a.sheet.now a.fates.now a.rows.now a.floor c.requires.0 _ _ c.requires.1 c.file_count-files.ensures _ _ p.ensures c.if-scan-ne0.true _ c.refuse.ensures

pub returns-then-is_unfinished : goal.returns-then-is_unfinished
returns-then-is_unfinished c =
    let a = c.args in
    let p = c.scan_pages-scan in
    open_unfinished a.sheet.now a.fates.now a.rows.now a.floor c.requires.0 _ _ c.requires.1 c.file_count-files.ensures _ _ p.ensures
    (sym c.is_unfinished.ensures ∙ c.if-is_unfinished.true) c.if-scan-ne0.false _ c.refuse-then-is_unfinished.ensures

pub returns : goal.returns
returns c =
    let a = c.args in
    let p = c.scan_pages-scan in
    open_good a.sheet.now a.fates.now a.rows.now a.floor c.requires.0 _ _ c.requires.1 c.file_count-files.ensures _ _ p.ensures _ _ _
    (sym c.is_unfinished.ensures ∙ c.if-is_unfinished.false) c.if-scan-ne0.false
    c.count_undecided-undecided.ensures
    (omega (arith, p.auto, c.requires.1))
    c.copy.ensures
    (c.fill.ensures.after (λ y e. e))
