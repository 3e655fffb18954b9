-- The reply to a command, by the numbers of its answer, and the value that a reply shows.
use Rattle.std.specs.Prelude.{ℕ, List, [], cond, take, get_or, eqb}
use Rattle.page.specs.Answers.{value_in}
use Rattle.recovery.specs.Sheet.{page_bytes}
use Rattle.calls.specs.declared.asking.Call as call
use Rattle.calls.specs.declared.asking.Call.{Call}
use Rattle.commands.specs.declared.printing.Reply.{Reply}
use Rattle.commands.specs.declared.printing.Reply.TheVariants.{What, Closed, Lost, Cut, Opened, Begun, Written, Shown, Nothing, Told, Committed, Aborted, No}

-- the place of a call's page, in the call's own word; read and test have none
abbrev pub stored_by : Call → ℕ → Reply
stored_by call.Call.Begin place = Begun place
stored_by (call.Call.Write file start action) place = Written place
stored_by (call.Call.Read file time action) place = What
stored_by (call.Call.Test action) place = What
stored_by (call.Call.Commit action) place = Committed place
stored_by (call.Call.Abort action) place = Aborted place

-- the numbers are those of `numbers_of`: which answer it is, then its values
unfoldable pub call_reply : Call → List ℕ → Reply
call_reply k ns =
    cond (eqb (get_or ns 0 0) 0) (No (get_or ns 1 0) (get_or ns 2 0))
    (cond (eqb (get_or ns 0 0) 3) (stored_by k (get_or ns 1 0))
    (cond (eqb (get_or ns 0 0) 4) (Shown (get_or ns 1 0) (get_or ns 2 0) (get_or ns 3 0))
    (cond (eqb (get_or ns 0 0) 5) Nothing (Told (get_or ns 1 0) (get_or ns 2 0)))))

unfoldable pub open_reply : List ℕ → Reply
open_reply ns = cond (eqb (get_or ns 0 0) 0) (No (get_or ns 1 0) (get_or ns 2 0)) (Opened (get_or ns 1 0) (get_or ns 2 0))

-- the bytes of the value that a reply shows
abbrev pub shown : Reply → List ℕ → List ℕ
shown What s = []
shown Closed s = []
shown Lost s = []
shown (Cut n) s = []
shown (Opened end undecided) s = []
shown (Begun place) s = []
shown (Written place) s = []
shown (Shown place start size) s = take size (value_in (page_bytes s place))
shown Nothing s = []
shown (Told fate place) s = []
shown (Committed place) s = []
shown (Aborted place) s = []
shown (No number place) s = []
