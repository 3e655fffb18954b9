-- `encoding::write_number`. The invariant: what is written, and the bytes of what is left of the number, are all of its bytes. Assumes nothing.
use Rattle.encoding.specs.Bytes.{bytes}
use lib.ListN.{length, take}
use mathlib.Core.List.{◌++◌}
use mathlib.Core.Path.{◌≡◌}
use Prim.Native.Nat.{◌-◌}
use Rattle.encoding.proofs.write_number.Given as goal

abbrev pub invariant-loop-b : goal.invariant-loop-b
invariant-loop-b l = take l.b-index l.out ++ bytes (length l.initial.out - l.b-index) l.y ≡ bytes (length l.initial.out) l.x
