-- The contract of a call allows one outcome: the answer, the state and all that is left of what was lent. Assumes nothing.
use Prim.Native.Nat.{ℕ}
use mathlib.Core.Path.{◌≡◌, sym, ◌∙◌}
use mathlib.Core.List.{List}
use Rattle.recovery.specs.declared.State.{State}
use Rattle.recovery.specs.Lent.{Left}
use Rattle.calls.specs.Calls.{Call}
use Rattle.calls.specs.Leaves.{call_leaves}

pub call_once : (s fates rows : List ℕ) (state : State) (k : Call) {l l' : Left} → l ≡ call_leaves s fates rows state k → l' ≡ call_leaves s fates rows state k → l ≡ l'
call_once s fates rows state k e f = e ∙ sym f
