-- `encoding::is_zero`. The invariant: the run is zeros exactly if x is 0 and the rest is zeros. Assumes nothing.
use Rattle.encoding.proofs.Runs.{zero_turn}
use mathlib.Core.Path.{◌∙◌}
use Rattle.encoding.proofs.is_zero.Goals as goal

pub loop-b-preserved : goal.loop-b-preserved
loop-b-preserved c = c.loop-b.invariant ∙ zero_turn c.args.s.now c.loop-b.b-index c.loop-b.x c.loop-b-test.true
