-- A value and zeros after it. Assumes nothing.
use Prim.Native.Nat.{ℕ, ◌-◌}
use mathlib.Core.Path.{◌≡◌, refl}
use mathlib.Core.Bool.{true}
use mathlib.Core.List.{List, ◌++◌}
use lib.ListN.{length, drop, replicate}
use lib.Seq.{drop_at}
use Rattle.encoding.specs.Bytes.{zeros}
use Rattle.encoding.proofs.Numbers.{zeros_replicate}
use Rattle.page.specs.Layout.{value_size}
use Rattle.std.proofs.lemmas.List.{drop-replicate}
use Rattle.calls.specs.Leaves.{padded}

pub pad_rest : (v w : List ℕ) → w ≡ v → w ++ drop (length v) (replicate value_size 0) ≡ padded v
pad_rest v w h = rw (h, drop-replicate {X = ℕ} (length v) value_size 0)

-- what a page's rules ask of the value
pub pad_zeros : (v : List ℕ) → zeros (drop (length v) (padded v)) ≡ true
pad_zeros v = rw (drop_at v (replicate (value_size - length v) 0) (length v) refl) (zeros_replicate (value_size - length v))
