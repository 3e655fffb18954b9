-- `encoding::words::check_any`. The invariant: the word so far, turned by the bytes that are left, is the check word. Assumes nothing.
use Rattle.encoding.specs.Bytes.{check_from}
use lib.ListN.{drop}
use mathlib.Core.Path.{◌≡◌}
use Prim.Native.Nat.{◌<◌, ◌%◌}
use Rattle.encoding.proofs.words.check_any.Given as goal

abbrev pub invariant-loop-b : goal.invariant-loop-b
invariant-loop-b l = (check_from 1 l.s ≡ check_from (l.w % 65521) (drop l.b-index l.s)) × (l.w < 80000)
