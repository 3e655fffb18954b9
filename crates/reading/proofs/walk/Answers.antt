-- `reading::walk`: the loop holds a sealed image of the file, from which the walk comes to what the first one comes to; its place falls. Assumes nothing.
use Rattle.calls.proofs.ReadWalks.{falls, walk_met, walk_end, walk_lost, walk_on, next_is}
use mathlib.Core.Path.{refl, ◌∙◌}
use Rattle.reading.proofs.walk.Goals as goal

pub loop-x-init : goal.loop-x-init
loop-x-init c = (c.requires, refl)

pub returns-then-x-time : goal.returns-then-x-time
returns-then-x-time c =
    let l = c.loop-x in
    walk_met _ _ _ _ _ _ _ l.invariant.0 c.if-x-time.true ∙ l.invariant.1

pub returns-then-next-eq0 : goal.returns-then-next-eq0
returns-then-next-eq0 c =
    let l = c.loop-x in
    c.none_below.ensures
    ∙ walk_end _ _ _ _ _ _ _ l.invariant.0 c.if-x-time.false _ c.is_carried_at-carried.ensures c.if-next-eq0.true ∙ l.invariant.1

pub returns-in_default : goal.returns-in_default
returns-in_default c =
    let l = c.loop-x in
    walk_lost _ _ _ _ _ _ _ l.invariant.0 c.if-x-time.false _ c.is_carried_at-carried.ensures c.if-next-eq0.false _ c.image_at-found.ensures c.in_default.is ∙ l.invariant.1

pub loop-x-smaller : goal.loop-x-smaller
loop-x-smaller c =
    let l = c.loop-x in
    falls _ _ _ _ _ l.invariant.0

pub loop-x-preserved : goal.loop-x-preserved
loop-x-preserved c =
    let l = c.loop-x in
    let early = c.if-x-time.false in
    let carried = c.is_carried_at-carried.ensures in
    let some = c.if-next-eq0.false in
    let found = c.image_at-found.ensures in (
      next_is _ _ _ _ l.carried _ _ l.invariant.0 early _ carried some _ found _ c.in-Some.is,
      walk_on _ _ _ _ _ _ _ l.invariant.0 early _ carried some _ found _ c.in-Some.is ∙ l.invariant.1,
    )
