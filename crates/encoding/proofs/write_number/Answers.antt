-- `encoding::write_number`. The invariant: what is written, and the bytes of what is left of the number, are all of its bytes. Assumes nothing.
use Rattle.encoding.proofs.Runs.{write_turn}
use lib.ListN.{length}
use native.Mathlib.Omega.{arith}
use Rattle.encoding.proofs.write_number.Goals as goal

pub loop-b-preserved : goal.loop-b-preserved
loop-b-preserved c = write_turn c.loop-b.out _ (length c.args.out.now) c.loop-b.b-index c.loop-b.y (omega arith) c.loop-b.auto.out c.loop-b.invariant
