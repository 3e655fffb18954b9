-- `recovery::lookup::View::outcome_place`. The invariant: the pages up to the walk's place say what those up to the end say. Assumes nothing.
use Rattle.recovery.proofs.Lookups.{opening_low}
use Rattle.recovery.proofs.Outcomes.{place_to, place_from, place_passed, place_found, place_low, place_unopened}
use Rattle.encoding.proofs.Logic.{refused, passed}
use native.Mathlib.Omega.{arith}
use mathlib.Core.Path.{◌∙◌, ap, sym}
use Prim.Native.Nat.{◌-◌, min}
use Rattle.recovery.proofs.lookup.View.outcome_place.Goals as goal

pub returns-then-not-is_opening_at : goal.returns-then-not-is_opening_at
returns-then-not-is_opening_at c = place_unopened _ _ _ _ (refused c.is_opening_at.ensures c.if-not-is_opening_at.true)

pub overflow_add-place-start : goal.overflow_add-place-start
overflow_add-place-start c =
    let h = opening_low _ _ _ (passed c.is_opening_at.ensures c.if-not-is_opening_at.false) in
    omega arith

pub loop-place-init : goal.loop-place-init
loop-place-init c =
    let a = c.args in
    ap (place_to a.self.files a.self.sheet.now a.action) (c.min-top.ensures ∙ ap (min a.end) c.pages.ensures) ∙ place_from a.self.files a.self.sheet.now a.action a.end

pub returns-then-is_outcome_at : goal.returns-then-is_outcome_at
returns-then-is_outcome_at c =
    let a = c.args in
    let o = passed c.is_opening_at.ensures c.if-not-is_opening_at.false in
    place_found a.self.files a.self.sheet.now a.action c.loop-place.place (omega (arith, c.loop-place-test.true)) (omega (arith, c.loop-place.auto.place, c.min-top.ensures, c.pages.ensures)) (sym c.is_outcome_at.ensures ∙ c.if-is_outcome_at.true) o ∙ c.loop-place.invariant

pub loop-place-preserved : goal.loop-place-preserved
loop-place-preserved c =
    let a = c.args in
    place_passed a.self.files a.self.sheet.now a.action c.loop-place.place (omega (arith, c.loop-place-test.true)) (omega (arith, c.loop-place.auto.place, c.min-top.ensures, c.pages.ensures)) (sym c.is_outcome_at.ensures ∙ c.if-is_outcome_at.false) ∙ c.loop-place.invariant

pub returns-else-not-is_opening_at : goal.returns-else-not-is_opening_at
returns-else-not-is_opening_at c =
    let a = c.args in
    place_low a.self.files a.self.sheet.now a.action c.loop-place.place (omega (arith, c.loop-place.auto.place, c.min-top.ensures, c.pages.ensures)) (omega (arith, c.loop-place-test.false)) ∙ c.loop-place.invariant

-- the last place, just above the opening, is no outcome either
pub returns-else-is_outcome_at : goal.returns-else-is_outcome_at
returns-else-is_outcome_at c =
    let a = c.args in
    let p = c.loop-place.place in
    place_low a.self.files a.self.sheet.now a.action (p - 1) (omega (arith, c.loop-place.auto.place, c.min-top.ensures, c.pages.ensures)) (omega arith)
    ∙ place_passed a.self.files a.self.sheet.now a.action p (omega (arith, c.loop-place-test.true)) (omega (arith, c.loop-place.auto.place, c.min-top.ensures, c.pages.ensures)) (sym c.is_outcome_at.ensures ∙ c.if-is_outcome_at.false) ∙ c.loop-place.invariant
