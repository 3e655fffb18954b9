-- A call as the code has it, with the value lent beside it, as a call of the definitions.
use Rattle.std.specs.Prelude.{ℕ, List, true, false}
use Rattle.calls.specs.Calls as calls
use Rattle.calls.specs.declared.asking.Call as call
use Rattle.calls.specs.declared.asking.Call.{Call}

abbrev pub asked : Call → List ℕ → calls.Call
asked call.Call.Begin v = calls.begin
asked (call.Call.Write file start action) v = calls.write file start action v
asked (call.Call.Read file time action) v = calls.read file time action
asked (call.Call.Test action) v = calls.test action
asked (call.Call.Commit action) v = calls.decide action true
asked (call.Call.Abort action) v = calls.decide action false
