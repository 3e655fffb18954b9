-- `encoding::words::fold_halves`: the masks take the low 16 bits of each half, and the 16 bits above them. Assumes nothing.
use Rattle.encoding.proofs.Folds.{mask_halves, halves_are}
use Prim.Native.Nat.{◌/◌}
use native.Mathlib.Omega.{arith}
use Rattle.encoding.proofs.words.fold_halves.Goals as goal

pub returns : goal.returns
returns c = let x = c.args.x in halves_are x _ _ (omega arith) (mask_halves x) (mask_halves (x / 65536))
