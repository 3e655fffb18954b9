-- The contracts of open and rebuild each allow one outcome; and the number of a refusal, and the numbers of an answer, tell it from every
-- other. Assumes nothing.
use Prim.Native.Nat.{ℕ}
use mathlib.Core.Path.{◌≡◌, refl, sym, ap, ◌∙◌}
use mathlib.Core.Bool.{cond}
use mathlib.Core.List.{List}
use lib.Dec.{eqb}
use lib.ListN.{get_or}
use Rattle.recovery.specs.Lent.{Left, open_leaves, rebuild_leaves}
use Rattle.recovery.specs.Numbers.{refusal_number, numbers_of}
use Rattle.recovery.specs.declared.Refusal.{Refusal}
use Rattle.recovery.specs.declared.Refusal.TheVariants.{WrongSizes, BadPage, NoFile, LongValue, NoAction, AlreadyDecided, DamagedRow, OtherToken, HangingRead, EarlyStart, NoRoom, NotBlank, LostLink, UndecidedAction, UnfinishedMove, OnOlderSheet}
use Rattle.recovery.specs.declared.State.{State}
use Rattle.recovery.specs.declared.Answer.{Answer}
use Rattle.recovery.specs.declared.Answer.TheVariants.{Refused, Opened, Rebuilt, Stored, Value, Nothing, Told, Moved}

pub open_once : (s fates rows : List ℕ) (floor : ℕ) {l l' : Left} → l ≡ open_leaves s fates rows floor → l' ≡ open_leaves s fates rows floor → l ≡ l'
open_once s fates rows floor e f = e ∙ sym f

pub rebuild_once : (s fates rows : List ℕ) (state : State) (file : ℕ) {l l' : Left} → l ≡ rebuild_leaves s fates rows state file → l' ≡ rebuild_leaves s fates rows state file → l ≡ l'
rebuild_once s fates rows state file e f = e ∙ sym f

-- a refusal is found again from its number
refusal_from : ℕ → Refusal
refusal_from n =
    cond (eqb n 1) WrongSizes
    (cond (eqb n 2) BadPage
    (cond (eqb n 3) NoFile
    (cond (eqb n 4) LongValue
    (cond (eqb n 5) NoAction
    (cond (eqb n 6) AlreadyDecided
    (cond (eqb n 7) DamagedRow
    (cond (eqb n 8) OtherToken
    (cond (eqb n 9) HangingRead
    (cond (eqb n 10) EarlyStart
    (cond (eqb n 11) NoRoom
    (cond (eqb n 12) NotBlank
    (cond (eqb n 13) LostLink
    (cond (eqb n 23) UndecidedAction
    (cond (eqb n 24) UnfinishedMove OnOlderSheet))))))))))))))

refusal_again : (why : Refusal) → refusal_from (refusal_number why) ≡ why
unfolding refusal_from
refusal_again WrongSizes = refl
refusal_again BadPage = refl
refusal_again NoFile = refl
refusal_again LongValue = refl
refusal_again NoAction = refl
refusal_again AlreadyDecided = refl
refusal_again DamagedRow = refl
refusal_again OtherToken = refl
refusal_again HangingRead = refl
refusal_again EarlyStart = refl
refusal_again NoRoom = refl
refusal_again NotBlank = refl
refusal_again LostLink = refl
refusal_again UndecidedAction = refl
refusal_again UnfinishedMove = refl
refusal_again OnOlderSheet = refl

pub refusal_numbers : (a b : Refusal) → refusal_number a ≡ refusal_number b → a ≡ b
refusal_numbers a b e = sym (refusal_again a) ∙ ap refusal_from e ∙ refusal_again b

-- an answer is found again from its numbers
answer_from : List ℕ → Answer
answer_from v =
    cond (eqb (get_or v 0 0) 0) (Refused (refusal_from (get_or v 1 0)) (get_or v 2 0))
    (cond (eqb (get_or v 0 0) 1) (Opened (get_or v 1 0) (get_or v 2 0))
    (cond (eqb (get_or v 0 0) 2) (Rebuilt (get_or v 1 0) (get_or v 2 0) (get_or v 3 0) (get_or v 4 0) (get_or v 5 0))
    (cond (eqb (get_or v 0 0) 3) (Stored (get_or v 1 0))
    (cond (eqb (get_or v 0 0) 4) (Value (get_or v 1 0) (get_or v 2 0) (get_or v 3 0))
    (cond (eqb (get_or v 0 0) 5) Nothing
    (cond (eqb (get_or v 0 0) 6) (Told (get_or v 1 0) (get_or v 2 0)) (Moved (get_or v 1 0))))))))

answer_again : (a : Answer) → answer_from (numbers_of a) ≡ a
unfolding answer_from
answer_again (Refused why p) = ap (λ (r : Refusal). Refused r p) (refusal_again why)
answer_again (Opened e u) = refl
answer_again (Rebuilt a b c d e) = refl
answer_again (Stored p) = refl
answer_again (Value p s l) = refl
answer_again Nothing = refl
answer_again (Told f p) = refl
answer_again (Moved f) = refl

pub answer_numbers : (a b : Answer) → numbers_of a ≡ numbers_of b → a ≡ b
answer_numbers a b e = sym (answer_again a) ∙ ap answer_from e ∙ answer_again b
