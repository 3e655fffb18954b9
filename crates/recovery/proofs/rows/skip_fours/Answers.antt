-- `recovery::rows::skip_fours`. The loop's invariant: no row that was passed over names the action. Assumes nothing.
use Rattle.recovery.proofs.Named.{four_passed}
use Rattle.encoding.proofs.Logic.{refused}
use native.Mathlib.Omega.{arith}
use lib.ListN.{length}
use Prim.Native.Nat.{◌/◌}
use Rattle.recovery.proofs.rows.skip_fours.Goals as goal

pub returns-then-is_in_four : goal.returns-then-is_in_four
returns-then-is_in_four c = (omega (arith, c.as_chunks.ensures.front_len, c.loop-n-test.true), c.loop-n.invariant)

pub loop-n-preserved : goal.loop-n-preserved
loop-n-preserved c =
    let a = c.args in
    let k = c.as_chunks.ensures in
    four_passed a.rows.now a.action (length a.rows.now / 4) c.loop-n.n _ (omega (arith, k.front_len, c.loop-n-test.true)) (rw k.front at (refused c.is_in_four.ensures c.if-is_in_four.false)) c.loop-n.invariant

pub returns : goal.returns
returns c = (omega (arith, c.as_chunks.ensures.front_len), λ i h. c.loop-n.invariant i (omega (arith, h, c.loop-n-test.false)))
