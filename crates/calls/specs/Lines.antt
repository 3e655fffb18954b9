-- The lines by which each call can be refused, in checking order (docs/STORE.md, Why a call says no).
use Rattle.std.specs.Prelude.{List, [], ◌∷◌, Bool, false, ◌||◌, eqb}
use Rattle.recovery.specs.Numbers.{refusal_number}
use Rattle.calls.specs.Calls.{Call, begin, write, read, test, decide, rebuild}
use Rattle.recovery.specs.declared.Refusal.{Refusal}
use Rattle.recovery.specs.declared.Refusal.TheVariants.{WrongSizes, NoFile, LongValue, NoAction, AlreadyDecided, DamagedRow, OtherToken, HangingRead, EarlyStart, NoRoom, NotBlank, LostLink, OnOlderSheet}

abbrev pub lines : Call → List Refusal
lines begin = WrongSizes ∷ NoRoom ∷ NotBlank ∷ []
lines (write file start action value) = WrongSizes ∷ NoFile ∷ LongValue ∷ NoAction ∷ AlreadyDecided ∷ DamagedRow ∷ OtherToken ∷ EarlyStart ∷ NoRoom ∷ NotBlank ∷ []
lines (read file time action) = WrongSizes ∷ NoFile ∷ NoAction ∷ AlreadyDecided ∷ DamagedRow ∷ HangingRead ∷ LostLink ∷ OnOlderSheet ∷ []
lines (test action) = WrongSizes ∷ NoAction ∷ []
lines (decide action committed) = WrongSizes ∷ NoAction ∷ AlreadyDecided ∷ NoRoom ∷ NotBlank ∷ []
lines (rebuild file) = WrongSizes ∷ NoFile ∷ DamagedRow ∷ []

abbrev pub among : List Refusal → Refusal → Bool
among [] why = false
among (x ∷ xs) why = eqb (refusal_number x) (refusal_number why) || among xs why
