-- `harness::count_passing`. The invariant: the count so far is the sum over the numbers passed. Assumes nothing.
use Rattle.harness.proofs.Turns.{start, turn, bit_le, bit_is}
use native.Mathlib.Omega.{arith}
use Rattle.harness.proofs.count_passing.Goals as goal

pub loop-i-init : goal.loop-i-init
loop-i-init g c = (omega arith, λ f h. start f)

pub loop-i-preserved : goal.loop-i-preserved
loop-i-preserved g c =
    let h = bit_le _ _ c.from-count.ensures in
    let k = c.loop-i in
    (omega arith, λ f q. turn f k.i k.count c.from-count.result (k.invariant.1 f q) (bit_is _ _ _ c.from-count.ensures (q k.i c.passes.result c.loop-i-test.true c.passes.ensures)))
