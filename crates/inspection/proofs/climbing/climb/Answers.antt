-- `inspection::climbing::climb`: what is kept is what the log below says (`Knows`), so a page fits it exactly if it fits the log.
-- Assumes nothing.
use Prim.Native.Nat.{suc, pred}
use mathlib.Core.Path.{◌≡◌, refl, sym, subst}
use native.Mathlib.Omega.{arith}
use Rattle.inspection.proofs.ArraysKnow.{Long, long_none, long_kept}
use Rattle.inspection.proofs.ClimbPass.{in_range, range_file, climb_start, climb_again, climb_stop, climb_last, climb_end}
use Rattle.inspection.proofs.climbing.climb.Goals as goal

pub loop-place-init : goal.loop-place-init
loop-place-init g c = (omega (arith, c.pages-place-end.ensures), long_none g.row.N, climb_start c.args.view.sheet.now c.args.view.files g.row.N)

pub page_fits-requires : goal.page_fits-requires
page_fits-requires g c = (omega arith, range_file c.loop-place.place _ (in_range c.args.view.sheet.now c.args.view.files _ _ c.page_at-found.ensures))

pub returns-then-not-page_fits : goal.returns-then-not-page_fits
returns-then-not-page_fits g c =
    let p = c.loop-place.place in
    let at : suc (pred p) ≡ p = omega arith in
    climb_stop c.args.view.sheet.now c.args.view.files (pred p) c.loop-place.kept (c.loop-place.invariant.2 (pred p) at) p at (rw c.pages-place-end.ensures at c.loop-place-test.true)
    _
    c.page_at-found.ensures
    _
    c.page_fits.ensures
    c.if-not-page_fits.true

pub keep_page-requires : goal.keep_page-requires
keep_page-requires g c = (omega arith, (in_range c.args.view.sheet.now c.args.view.files _ _ c.page_at-found.ensures, omega arith))

pub loop-place-preserved : goal.loop-place-preserved
loop-place-preserved g c =
    let p = c.loop-place.place in
    let at : suc (pred p) ≡ p = omega arith in (
      omega arith,
      subst Long (sym c.keep_page.ensures) (long_kept c.loop-place.kept c.page_at-found.result p c.loop-place.invariant.1),
      climb_again c.args.view.sheet.now c.args.view.files (pred p) c.loop-place.kept (c.loop-place.invariant.2 (pred p) at) p at (rw c.pages-place-end.ensures at c.loop-place-test.true)
          _
          c.page_at-found.ensures
          _
          c.page_fits.ensures
          c.if-not-page_fits.false
          c.loop-place.invariant.1
          c.requires.0
          _
          c.keep_page.ensures,
    )

pub returns-else-not-page_fits : goal.returns-else-not-page_fits
returns-else-not-page_fits g c =
    let p = c.loop-place.place in
    let at : suc (pred p) ≡ p = omega arith in
    climb_last c.args.view.sheet.now c.args.view.files (pred p) c.loop-place.kept (c.loop-place.invariant.2 (pred p) at) p at (rw c.pages-place-end.ensures at c.loop-place-test.true)
    _
    c.page_at-found.ensures
    _
    c.page_fits.ensures
    c.if-not-page_fits.false
    (omega arith)

pub returns : goal.returns
returns g c =
    climb_end c.args.view.sheet.now c.args.view.files _ c.loop-place.kept (c.loop-place.invariant.2 _ (omega (arith, c.pages-place-end.ensures))) refl
