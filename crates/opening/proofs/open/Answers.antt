-- `opening::open`: line 1, or what the function called answers. Assumes nothing.
use native.Mathlib.Omega.{arith}
use Rattle.encoding.proofs.Logic.{refused, passed}
use Rattle.recovery.proofs.Sizes.{sizes_right_lem}
use Rattle.recovery.proofs.OpeningLaws.{open_refused}
use Rattle.opening.proofs.open.Goals as goal

pub returns-then-not-is_sized : goal.returns-then-not-is_sized
returns-then-not-is_sized c =
    let a = c.args in
    open_refused a.sheet.now a.fates.now a.rows.now a.floor (refused c.is_sized.ensures c.if-not-is_sized.true) _ c.refuse.ensures

pub open_within-requires-else-fates-le-FEW_PAGES : goal.open_within-requires-else-fates-le-FEW_PAGES
open_within-requires-else-fates-le-FEW_PAGES c =
    let ok = passed c.is_sized.ensures c.if-not-is_sized.false in
    let h = sizes_right_lem _ _ _ ok in
    (ok, omega arith, omega arith)
