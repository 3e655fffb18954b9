-- Each answer as numbers, as document 01 gives them.
use Rattle.std.specs.Prelude.{ℕ, List, [], ◌∷◌, Bool, get_or, eqb}
use Rattle.recovery.specs.Lent.{row_length}
use Rattle.recovery.specs.declared.Refusal.{Refusal}
use Rattle.recovery.specs.declared.Refusal.TheVariants.{WrongSizes, BadPage, NoFile, LongValue, NoAction, AlreadyDecided, DamagedRow, OtherToken, HangingRead, EarlyStart, NoRoom, NotBlank, LostLink, UndecidedAction, UnfinishedMove, OnOlderSheet}
use Rattle.recovery.specs.declared.Answer.{Answer}
use Rattle.recovery.specs.declared.Answer.TheVariants.{Refused, Opened, Rebuilt, Stored, Value, Nothing, Told, Moved}

-- how many numbers an answer has: which it is, and then at most a row's numbers after its mark
abbrev pub answer_length : ℕ
answer_length = row_length

-- the number of a refusal (docs/STORE.md, Why a call says no)
abbrev pub refusal_number : Refusal → ℕ
refusal_number WrongSizes = 1
refusal_number BadPage = 2
refusal_number NoFile = 3
refusal_number LongValue = 4
refusal_number NoAction = 5
refusal_number AlreadyDecided = 6
refusal_number DamagedRow = 7
refusal_number OtherToken = 8
refusal_number HangingRead = 9
refusal_number EarlyStart = 10
refusal_number NoRoom = 11
refusal_number NotBlank = 12
refusal_number LostLink = 13
refusal_number UndecidedAction = 23
refusal_number UnfinishedMove = 24
refusal_number OnOlderSheet = 25

-- which of the eight it is, then its values and zeros; a refusal's values are its number and place
abbrev pub numbers_of : Answer → List ℕ
numbers_of (Refused why p) = 0 ∷ refusal_number why ∷ p ∷ 0 ∷ 0 ∷ 0 ∷ []
numbers_of (Opened e u) = 1 ∷ e ∷ u ∷ 0 ∷ 0 ∷ 0 ∷ []
numbers_of (Rebuilt a b c d e) = 2 ∷ a ∷ b ∷ c ∷ d ∷ e ∷ []
numbers_of (Stored p) = 3 ∷ p ∷ 0 ∷ 0 ∷ 0 ∷ 0 ∷ []
numbers_of (Value p s l) = 4 ∷ p ∷ s ∷ l ∷ 0 ∷ 0 ∷ []
numbers_of Nothing = 5 ∷ 0 ∷ 0 ∷ 0 ∷ 0 ∷ 0 ∷ []
numbers_of (Told f p) = 6 ∷ f ∷ p ∷ 0 ∷ 0 ∷ 0 ∷ []
numbers_of (Moved f) = 7 ∷ f ∷ 0 ∷ 0 ∷ 0 ∷ 0 ∷ []

-- the first of them tells a refusal
unfoldable pub is_refused : Answer → Bool
is_refused a = eqb (get_or (numbers_of a) 0 0) 0
