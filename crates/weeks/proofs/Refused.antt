-- A refused week: what a refused conversion leaves, and the day that a refusal names. Assumes nothing.
use Rattle.std.proofs.Common.{Option, Some, None, Result, Err}
use Prim.Native.Nat.{ℕ, ◌≤◌}
use mathlib.Core.Path.{◌≡◌, refl, subst}
use mathlib.Core.Bool.{Bool, true, false, cond}
use mathlib.Core.List.{List}
use native.Mathlib.Omega.{arith}
use borrow.Author.Tests.{eqb-false}
use lib.Dec.{eqb, leb}
use lib.ListN.{length}
use Rattle.encoding.proofs.Logic.{by_test, clash}
use Rattle.encoding.proofs.Lowest.{lowest_within}
use Rattle.weeks.specs.declared.Edition.{Edition}
use Rattle.weeks.specs.declared.Refusal.{Refusal}
use Rattle.weeks.specs.declared.Refusal.TheVariants.{Length, Times, Minutes, Keyholders, StepDown}
use Rattle.weeks.specs.Editions.{days_a_week, named, on_known, mask_size}
use Rattle.weeks.specs.Weeks.{wrong_day, uneven_day, lowest_day, keyholders, enough_keyholders}
use Rattle.weeks.specs.Answers.{tested_by, week_test, refused, converted_by, converted}
use Rattle.weeks.specs.Facts.{NamesDay}
use Rattle.weeks.proofs.Editions.{by_lengths}

-- ---- the converter

-- what a refused conversion leaves and names
abbrev pub Refuses : List ℕ → Result (Unit {0}) Refusal × List ℕ → Type 0
Refuses out x = (r : Refusal) → x.0 ≡ Err r → (x.1 ≡ out) × NamesDay r

refuses : (q : Refusal) (out : List ℕ) → NamesDay q → Refuses out (refused q out)
refuses q out h r e = let same : q ≡ r = cc in (refl, subst NamesDay same h)

-- a lowest day that is not 0
is_day : (t : ℕ → Bool) → eqb (lowest_day t) 0 ≡ false → (1 ≤ lowest_day t) × (lowest_day t ≤ days_a_week)
is_day t e = (omega (arith, eqb-false (lowest_day t) 0 e), lowest_within t days_a_week)

-- one check that refuses, and those after it
check_refuses : (b : Bool) (x : Result (Unit {0}) Refusal × List ℕ) (q : Refusal) (out : List ℕ) → (b ≡ false → NamesDay q) → Refuses out x → Refuses out (cond b x (refused q out))
check_refuses true x q out h later = later
check_refuses false x q out h later = refuses q out (h refl)

step_refuses : (e o : Edition) (s : List ℕ) (m : ℕ) (out : List ℕ) → Refuses out (converted_by e o s m out)
unfolding converted_by
step_refuses e o s m out =
    check_refuses (leb (mask_size e) (mask_size o)) _ StepDown out (λ _. tt)
    (check_refuses (eqb (lowest_day (wrong_day e s)) 0) _ (Times (lowest_day (wrong_day e s))) out (is_day (wrong_day e s))
    (check_refuses (enough_keyholders o m) _ Keyholders out (λ _. tt)
    (check_refuses (eqb (lowest_day (uneven_day e o s)) 0) _ (Minutes (lowest_day (uneven_day e o s))) out (is_day (uneven_day e o s))
    (λ r h. clash cc))))

pub converter_refuses : (s : List ℕ) (m : ℕ) (out : List ℕ) → Refuses out (converted s m out)
unfolding converted
converter_refuses s m out =
    by_lengths (Refuses out) (length s) (length out) (refuses Length out tt) (λ e o n k d. step_refuses e o s m out)

-- ---- the week test

abbrev pub TestRefuses : Result ℕ Refusal → Type 0
TestRefuses x = (r : Refusal) → x ≡ Err r → NamesDay r

test_refuses : (q : Refusal) → NamesDay q → TestRefuses (Err q)
test_refuses q h r e = let same : q ≡ r = cc in subst NamesDay same h

pub tester_refuses : (s : List ℕ) → TestRefuses (week_test s)
unfolding week_test tested_by
tester_refuses s = from (named (length s))
  where
    from : (n : Option Edition) → TestRefuses (on_known n (λ (e : Edition). tested_by e s) (Err Length))
    from (Some e) =
        by_test TestRefuses (eqb (lowest_day (wrong_day e s)) 0)
        (λ _. by_test TestRefuses (enough_keyholders e (keyholders e s)) (λ _. λ r h. clash cc) (λ _. test_refuses Keyholders tt))
        (λ t. test_refuses (Times (lowest_day (wrong_day e s))) (is_day (wrong_day e s) t))
    from None = test_refuses Length tt
