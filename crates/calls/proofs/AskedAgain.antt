-- A decision that is asked again changes nothing at all: where lines 1 and 5 let it through and the lent fate has it already, the answer is
-- the place of the action's newest outcome, and the state and every byte and number lent are as they were; no cold row is rebuilt.
-- Shuts out a store that lowers the open count a second time. Assumes nothing.
use Prim.Native.Nat.{ℕ}
use mathlib.Core.Path.{◌≡◌, sym}
use mathlib.Core.Bool.{Bool, true}
use mathlib.Core.List.{List}
use lib.ListN.{length}
use Rattle.recovery.specs.declared.State.{State}
use Rattle.recovery.specs.declared.Answer.TheVariants.{Stored}
use Rattle.recovery.specs.World.{fate_at, outcome_at}
use Rattle.recovery.specs.Lent.{lent}
use Rattle.recovery.specs.Steps.{line_one}
use Rattle.calls.specs.Calls.{decide, has_action, is_decided_as}
use Rattle.calls.specs.Leaves.{call_leaves}
use Rattle.calls.proofs.Ends.{ends_same}

pub again_unchanged : (s fates rows : List ℕ) (state : State) (a : ℕ) (c : Bool) → line_one (length s) (length fates) (length rows) state.end state.undecided ≡ true
    → has_action (lent s fates rows state) a ≡ true → is_decided_as c (fate_at (lent s fates rows state) a) ≡ true
    → call_leaves s fates rows state (decide a c) ≡ record { answer = Stored (outcome_at (lent s fates rows state) a); state = state; sheet = s; fates = fates; rows = rows }
again_unchanged s fates rows state a c h k e = sym (ends_same s fates rows state (decide a c) h (Stored (outcome_at (lent s fates rows state) a)) (rw (k, e)))
