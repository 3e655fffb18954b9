-- `harness::bench_pack`. The invariant: count and sheet are those after the pages passed, and the sheet keeps its length. Assumes nothing.
use lib.ListN.{length}
use mathlib.Core.List.{List}
use Rattle.harness.specs.Counts.{packed_to}
use mathlib.Core.Path.{◌≡◌}
use Prim.Native.Nat.{ℕ, ◌≤◌}
use Rattle.harness.proofs.bench_pack.Given as goal

abbrev pub invariant-loop-i : goal.invariant-loop-i
invariant-loop-i l = (◌≡◌ {A = ℕ × List ℕ} (l.count, l.sheet) (packed_to l.size l.value l.files l.initial.sheet l.i)) × (l.count ≤ l.i) × (length l.sheet ≡ length l.initial.sheet)
