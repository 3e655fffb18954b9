-- `weeks::Week::write_times`. The invariant: the times before k are written. Assumes nothing.
use Prim.Native.Nat.{◌*◌}
use mathlib.Core.Path.{◌≡◌}
use lib.ListN.{take}
use Rattle.encoding.specs.Concat.{concat}
use Rattle.weeks.specs.Editions.{width}
use Rattle.weeks.specs.Weeks.{time_in}
use Rattle.weeks.proofs.Week.write_times.Given as goal

abbrev pub invariant-loop-k : goal.invariant-loop-k
invariant-loop-k l = take (width l.o * l.k) l.out ≡ concat l.k (time_in l.self.edition l.o l.self.bytes.now)
