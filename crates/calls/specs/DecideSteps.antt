-- What smaller functions of commit and abort answer. A reader of document 01 can pass this file over: the laws
-- join it to `call`.
use Rattle.std.specs.Prelude.{List, Bool, cond, ℕ, ◌/◌, length, eqb, Err}
use Rattle.recovery.specs.Lent.{row_length, rows_of, flat}
use Rattle.recovery.specs.Places.{nth}
use Rattle.recovery.specs.Log.{verdict}
use Rattle.recovery.specs.World.{fate_number}
use Rattle.recovery.specs.Steps.{row_of, with_row_of, sheet_world, line_one, outcome_in, refusal}
use Rattle.recovery.specs.declared.Refusal.TheVariants.{WrongSizes, AlreadyDecided}
use Rattle.recovery.specs.declared.State.{State}
use Rattle.recovery.specs.declared.Done.{Done}
use Rattle.recovery.specs.declared.Answer.TheVariants.{Stored}
use Rattle.calls.specs.Calls.{decided, is_token_at, holds_token, settled, each_row}
use Rattle.calls.specs.LineSteps.{Line, and_then, action_line, room_line}

-- the lines of commit and abort; line 6 is met by a decision that is asked again too
unfoldable pub decide_line : List ℕ → List ℕ → List ℕ → State → ℕ → Line
decide_line s fates rows state a =
    cond (line_one (length s) (length fates) (length rows) state.end state.undecided)
    (and_then (action_line fates state.end a) (λ _. room_line s state.end (length rows / row_length) 1))
    (Err WrongSizes)

-- a decision of an action that is decided already: the same one, by the lent fate, is answered with the place of its outcome
unfoldable pub decided_again : List ℕ → List ℕ → ℕ → State → ℕ → Bool → Done
decided_again s fates files state a c =
    cond (eqb (nth 0 fates a) (fate_number (verdict c))) (record { answer = Stored (outcome_in s files state.end a); state = state }) (refusal AlreadyDecided state)

-- whether a place holds a token of this action, by the sheet and the end alone
unfoldable pub is_token_in : List ℕ → ℕ → ℕ → ℕ → ℕ → ℕ → Bool
is_token_in s files end a f place = is_token_at (sheet_world s files end) a f place

-- the lent run with the row of one file settled, and with every row settled
unfoldable pub settled_row : List ℕ → ℕ → ℕ → ℕ → Bool → ℕ → List ℕ → List ℕ
settled_row s files end a c f rows = cond (holds_token (sheet_world s files end) a f (row_of rows f)) (with_row_of rows f (decided c (row_of rows f))) rows

unfoldable pub settled_rows : List ℕ → ℕ → ℕ → ℕ → Bool → List ℕ → List ℕ
settled_rows s files end a c rows = flat (each_row (settled (sheet_world s files end) a c) 0 (rows_of rows))
