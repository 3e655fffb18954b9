-- What the week test and the converter promise, of every step from one edition to another: the lengths of the two runs name them. What
-- concerns keyholders names edition 3. Proved in `proofs/Facts.antt`.
use Rattle.std.specs.Prelude.{ℕ, zero, suc, ◌/◌, ◌%◌, ◌≤◌, ◌<◌, ◌≡◌, List, ◌++◌, Bool, true, false, cond, eqb, length, take, Some, Ok, Err}
use Rattle.std.specs.Int.Count.{ones}
use Rattle.encoding.specs.Bytes.{AreBytes, bytes}
use Rattle.weeks.specs.declared.Edition.{Edition}
use Rattle.weeks.specs.declared.Refusal.{Refusal}
use Rattle.weeks.specs.declared.Refusal.TheVariants.{Length, Times, Minutes, Keyholders, StepDown}
use Rattle.weeks.specs.Editions.{days_a_week, times_a_week, size, named, minutes, mask_size, edition_number}
use Rattle.weeks.specs.Weeks.{minute, lowest_day, keyholders}
use Rattle.weeks.specs.declared.Edition.TheVariants.{Second, Third}
use Rattle.weeks.specs.Answers.{week_test, converted}

-- bit i of a number, from the lowest, which is bit 0
abbrev pub bit : ℕ → ℕ → ℕ
bit zero m = m % 2
bit (suc i) m = bit i (m / 2)

-- two different bits are set
abbrev pub TwoBits : ℕ → Type 0
TwoBits m = (i : ℕ) × (j : ℕ) × (i < j) × (bit i m ≡ 1) × (bit j m ≡ 1)

-- where a refusal names a day, it is one of the seven
abbrev pub NamesDay : Refusal → Type 0
NamesDay Length = Unit {0}
NamesDay (Times d) = (1 ≤ d) × (d ≤ days_a_week)
NamesDay (Minutes d) = (1 ≤ d) × (d ≤ days_a_week)
NamesDay Keyholders = Unit {0}
NamesDay StepDown = Unit {0}

pub record Facts : Type 0 where
  -- old to new to old, and new to old to new, whatever the masks: where the first step is accepted, so is the second, and it gives the same
  -- bytes. An output of 30 bytes is excepted
  pub back : (s out again : List ℕ) (m m' : ℕ) → AreBytes s → length again ≡ length s → (length out ≡ size Third → ⊥)
      → (converted s m out).0 ≡ Ok tt → converted (converted s m out).1 m' again ≡ (Ok tt, s)
  -- since there is no way back from it: a step from 30 bytes to another edition is refused 30, whatever the week and the mask
  pub no_step_down : (o : Edition) (s out : List ℕ) (m : ℕ) → length s ≡ size Third → named (length out) ≡ Some o → (length s ≡ length out → ⊥)
      → converted s m out ≡ (Err StepDown, out)
  -- a converted week passes the week test as one of the output's edition; a mask for edition 3 has 16 bits
  pub passes : (o : Edition) (s out : List ℕ) (m : ℕ) → (length out ≡ size Third → m < 65536) → named (length out) ≡ Some o
      → (converted s m out).0 ≡ Ok tt → week_test (converted s m out).1 ≡ Ok (edition_number o)
  -- and it has the same minutes
  pub same_minutes : (e o : Edition) (s out : List ℕ) (m : ℕ) → named (length s) ≡ Some e → named (length out) ≡ Some o
      → (converted s m out).0 ≡ Ok tt → (k : ℕ) → k < times_a_week → minute o (converted s m out).1 k ≡ minute e s k
  -- in edition 3 it is the week in edition 2, its own bytes or those that it is converted to, and behind them the caller's mask
  pub up : (s mid out : List ℕ) (m m' : ℕ) → AreBytes s → length mid ≡ size Second → length out ≡ size Third → (converted s m out).0 ≡ Ok tt
      → (converted s m out).1 ≡ cond (eqb (length s) (size Second)) s (converted s m' mid).1 ++ bytes (mask_size Third) m
  -- for an output of another length the mask is not looked at
  pub unread : (s out : List ℕ) (m m' : ℕ) → (length out ≡ size Third → ⊥) → converted s m out ≡ converted s m' out
  -- of a step that does not lead down: a week that its test refuses is refused alike
  pub refuses : (e o : Edition) (s out : List ℕ) (m : ℕ) (r : Refusal) → named (length s) ≡ Some e → named (length out) ≡ Some o
      → (length s ≡ length out → ⊥) → (length s ≡ size Third → ⊥) → week_test s ≡ Err r
      → converted s m out ≡ (Err r, out)
  -- one that passes it is refused 29 in edition 3, if fewer than two bits of the mask are set
  pub few : (e : Edition) (s out : List ℕ) (m : ℕ) → named (length s) ≡ Some e → length out ≡ size Third → (length s ≡ size Third → ⊥)
      → week_test s ≡ Ok (edition_number e) → ones m < 2 → converted s m out ≡ (Err Keyholders, out)
  -- else it is converted, if all its minutes are whole units of the output's edition
  pub accepts : (e o : Edition) (s out : List ℕ) (m : ℕ) → named (length s) ≡ Some e → named (length out) ≡ Some o
      → (length s ≡ length out → ⊥) → (length s ≡ size Third → ⊥) → week_test s ≡ Ok (edition_number e)
      → (length out ≡ size Third → 2 ≤ ones m) → ((k : ℕ) → k < times_a_week → minute e s k % minutes o ≡ 0) → (converted s m out).0 ≡ Ok tt
  -- a refused conversion writes nothing
  pub unwritten : (s out : List ℕ) (m : ℕ) (r : Refusal) → (converted s m out).0 ≡ Err r → (converted s m out).1 ≡ out
  -- a week of edition 3 passes its test exactly if its first 28 bytes pass as a week of edition 2, and two bits of its mask are set
  pub third_passes : (s : List ℕ) → length s ≡ size Third
      → (week_test s ≡ Ok 3 → (week_test (take (size Second) s) ≡ Ok 2) × (2 ≤ ones (keyholders Third s)))
      × ((week_test (take (size Second) s) ≡ Ok 2) × (2 ≤ ones (keyholders Third s)) → week_test s ≡ Ok 3)
  -- where those bytes are refused, it is refused alike, and else 29
  pub third_refused : (s : List ℕ) (r : Refusal) → length s ≡ size Third → week_test (take (size Second) s) ≡ Err r
      → week_test s ≡ Err r
  pub third_few : (s : List ℕ) → length s ≡ size Third → week_test (take (size Second) s) ≡ Ok 2 → ones (keyholders Third s) < 2
      → week_test s ≡ Err Keyholders
  -- the count of ones is 2 or more exactly if two different bits are set
  pub two_bits : (m : ℕ) → (2 ≤ ones m → TwoBits m) × (TwoBits m → 2 ≤ ones m)
  -- a day that is named fails its test, and no lower one does
  pub lowest : (t : ℕ → Bool) (d : ℕ) → lowest_day t ≡ suc d → (t (suc d) ≡ true) × ((k : ℕ) → 1 ≤ k → k ≤ d → t k ≡ false)
  -- and it is one of the seven
  pub tested_day : (s : List ℕ) (r : Refusal) → week_test s ≡ Err r → NamesDay r
  pub converted_day : (s out : List ℕ) (m : ℕ) (r : Refusal) → (converted s m out).0 ≡ Err r → NamesDay r
