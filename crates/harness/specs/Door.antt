-- A call as numbers, for the tests and timings outside Rattle, and all that it leaves of what is lent.
use Rattle.std.specs.Prelude.{ℕ, ◌+◌, cond, List, [], ◌∷◌, ◌++◌, length, eqb, leb}
use Rattle.recovery.specs.declared.Refusal.TheVariants.{WrongSizes}
use Rattle.recovery.specs.declared.Answer.{Answer}
use Rattle.recovery.specs.declared.State.{State}
use Rattle.recovery.specs.Lent.{Left, refused}
use Rattle.recovery.specs.Numbers.{answer_length, numbers_of}
use Rattle.calls.specs.declared.asking.Call.{Call}
use Rattle.calls.specs.declared.asking.Call.TheVariants.{Begin, Write, Read, Test, Commit, Abort}
use Rattle.calls.specs.Asked.{asked}
use Rattle.calls.specs.Leaves.{call_leaves}
use Rattle.moving.specs.MoveLeaves.{MoveLeft}

-- ---- what is asked

unfoldable pub call_of : ℕ → ℕ → ℕ → ℕ → Call
call_of kind file time action =
    cond (eqb kind 0) Begin
    (cond (eqb kind 1) (Write file time action)
    (cond (eqb kind 2) (Read file time action)
    (cond (eqb kind 3) (Test action)
    (cond (eqb kind 4) (Commit action) (Abort action)))))

abbrev pub state_with : ℕ → ℕ → ℕ → State
state_with end floor undecided = record { end = end; floor = floor; undecided = undecided }

-- a number above abort's is no call's, and is refused 1
unfoldable pub made : List ℕ → List ℕ → List ℕ → State → ℕ → Call → List ℕ → Left
made s fates rows state kind k value = cond (leb kind 5) (call_leaves s fates rows state (asked k value)) (refused WrongSizes 0 s fates rows state)

-- ---- what is left

pub record Given : Type 0 where
  pub sheet : List ℕ
  pub fates : List ℕ
  pub rows : List ℕ
  pub numbers : List ℕ

abbrev pub left : List ℕ → List ℕ → List ℕ → List ℕ → Given
left s fates rows out = record { sheet = s; fates = fates; rows = rows; numbers = out }

abbrev pub number_count : ℕ
number_count = answer_length + 3

-- the answer's numbers, then end, floor and open count
abbrev pub told_numbers : Answer → State → List ℕ
told_numbers a state = numbers_of a ++ (state.end ∷ state.floor ∷ state.undecided ∷ [])

-- into a run of so many numbers; with another nothing is done
unfoldable pub given : List ℕ → List ℕ → List ℕ → List ℕ → Left → Given
given s fates rows out x =
    cond (eqb (length out) number_count) (left x.sheet x.fates x.rows (told_numbers x.answer x.state)) (left s fates rows out)

-- a move leaves the fresh sheet too
pub record MoveGiven : Type 0 where
  pub given : Given
  pub fresh : List ℕ

abbrev pub left_with : Given → List ℕ → MoveGiven
left_with g fresh = record { given = g; fresh = fresh }

unfoldable pub given_move : List ℕ → List ℕ → List ℕ → List ℕ → List ℕ → MoveLeft → MoveGiven
given_move s fates rows fresh out x = left_with (given s fates rows out x.left) (cond (eqb (length out) number_count) x.fresh fresh)
