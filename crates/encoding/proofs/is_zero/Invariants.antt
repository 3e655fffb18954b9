-- `encoding::is_zero`. The invariant: the run is zeros exactly if x is 0 and the rest is zeros. Assumes nothing.
use Rattle.encoding.specs.Bytes.{zeros}
use lib.Dec.{eqb}
use lib.ListN.{drop}
use mathlib.Core.Bool.{◌&&◌}
use mathlib.Core.Path.{◌≡◌}
use Rattle.encoding.proofs.is_zero.Given as goal

abbrev pub invariant-loop-b : goal.invariant-loop-b
invariant-loop-b l = zeros l.s ≡ (eqb l.x 0 && zeros (drop l.b-index l.s))
