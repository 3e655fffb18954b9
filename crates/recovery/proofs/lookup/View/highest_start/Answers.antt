-- `recovery::lookup::View::highest_start`. The invariant: the highest start above the walk's place. Assumes nothing.
use Rattle.recovery.proofs.HighestStart.{start_above, none_yet, one_lower, all_seen}
use Rattle.recovery.specs.Sheet.{sealed}
use Rattle.recovery.specs.Log.{start_step}
use native.Mathlib.Omega.{arith}
use mathlib.Core.Path.{◌≡◌, ◌∙◌, ap}
use Rattle.recovery.proofs.lookup.View.highest_start.Goals as goal

pub loop-place-init : goal.loop-place-init
loop-place-init c = rw c.pages-place.ensures (none_yet _ _)

pub loop-place-preserved : goal.loop-place-preserved
loop-place-preserved c =
    let a = c.args in
    let p = c.loop-place.place in
    c.or_higher-highest.ensures ∙ ap (start_step (sealed a.self.files a.self.sheet.now p)) c.loop-place.invariant ∙ one_lower a.self.files a.self.sheet.now p c.loop-place-test.true (rw c.pages-place.ensures at c.loop-place.auto.place)

pub returns : goal.returns
returns c =
    let a = c.args in
    let z : c.loop-place.place ≡ 0 = omega (arith, c.loop-place-test.false) in
    c.loop-place.invariant ∙ ap (start_above a.self.files a.self.sheet.now) z ∙ all_seen a.self.files a.self.sheet.now
