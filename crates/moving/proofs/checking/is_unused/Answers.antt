-- `moving::checking::is_unused`. The invariant: none is used so far. Assumes nothing.
use Rattle.moving.proofs.Rows.{unused_start, unused_turn, used_here, unused_end}
use Prim.Native.Nat.{pred, ◌+◌}
use native.Mathlib.Omega.{arith}
use Rattle.moving.proofs.checking.is_unused.Goals as goal

pub loop-place-init : goal.loop-place-init
loop-place-init c = (omega arith, unused_start c.args.fresh.sheet.now c.args.fresh.files)

pub returns-then-not-is_blank_at : goal.returns-then-not-is_blank_at
returns-then-not-is_blank_at c =
    let a = c.args in
    used_here a.fresh.sheet.now a.fresh.files c.loop-place.place _ c.is_blank_at.ensures (omega arith) (rw c.pages-place-end.ensures at c.loop-place-test.true) c.if-not-is_blank_at.true

pub loop-place-preserved : goal.loop-place-preserved
loop-place-preserved c =
    let a = c.args in
    (omega arith, unused_turn a.fresh.sheet.now a.fresh.files c.loop-place.place _ c.is_blank_at.ensures (omega arith) (rw c.pages-place-end.ensures at c.loop-place-test.true) c.if-not-is_blank_at.false c.loop-place.invariant.1)

pub returns-else-not-is_blank_at : goal.returns-else-not-is_blank_at
returns-else-not-is_blank_at c =
    let a = c.args in
    unused_end a.fresh.sheet.now a.fresh.files (pred (c.loop-place.place + 1))
    (unused_turn a.fresh.sheet.now a.fresh.files c.loop-place.place _ c.is_blank_at.ensures (omega arith) (rw c.pages-place-end.ensures at c.loop-place-test.true) c.if-not-is_blank_at.false c.loop-place.invariant.1)
    (omega arith)

pub returns : goal.returns
returns c =
    let a = c.args in
    unused_end a.fresh.sheet.now a.fresh.files (pred c.loop-place.place) c.loop-place.invariant.1 (omega arith)
