-- What the week test and the converter answer and leave, on all inputs, check by check; and each answer in numbers.
use Rattle.std.specs.Prelude.{ℕ, ◌+◌, ◌*◌, List, cond, eqb, leb, length, Result, Ok, Err}
use Rattle.weeks.specs.declared.Edition.{Edition}
use Rattle.weeks.specs.declared.Refusal.{Refusal}
use Rattle.weeks.specs.declared.Refusal.TheVariants.{Length, Times, Minutes, Keyholders, StepDown}
use Rattle.weeks.specs.Editions.{named, on_known, on_lengths, mask_size, edition_number}
use Rattle.weeks.specs.Weeks.{wrong_day, uneven_day, lowest_day, keyholders, enough_keyholders, in_edition}

-- ---- the week test

unfoldable pub tested_by : Edition → List ℕ → Result ℕ Refusal
tested_by e s =
    cond (eqb (lowest_day (wrong_day e s)) 0)
    (cond (enough_keyholders e (keyholders e s))
    (Ok (edition_number e))
    (Err Keyholders))
    (Err (Times (lowest_day (wrong_day e s))))

unfoldable pub week_test : List ℕ → Result ℕ Refusal
week_test s = on_known (named (length s)) (λ (e : Edition). tested_by e s) (Err Length)

-- ---- the converter: its answer, and the bytes that it leaves

abbrev pub refused : Refusal → List ℕ → Result (Unit {0}) Refusal × List ℕ
refused r out = (Err r, out)

-- from edition e to edition o, with the caller's mask m; a step down, a downgrade, leads from an edition with a mask to one without
unfoldable pub converted_by : Edition → Edition → List ℕ → ℕ → List ℕ → Result (Unit {0}) Refusal × List ℕ
converted_by e o s m out =
    cond (leb (mask_size e) (mask_size o))
    (cond (eqb (lowest_day (wrong_day e s)) 0)
    (cond (enough_keyholders o m)
    (cond (eqb (lowest_day (uneven_day e o s)) 0)
    (Ok tt, in_edition e o s m)
    (refused (Minutes (lowest_day (uneven_day e o s))) out))
    (refused Keyholders out))
    (refused (Times (lowest_day (wrong_day e s))) out))
    (refused StepDown out)

unfoldable pub converted : List ℕ → ℕ → List ℕ → Result (Unit {0}) Refusal × List ℕ
converted s m out = on_lengths (length s) (length out) (λ (e o : Edition). converted_by e o s m out) (refused Length out)

-- ---- in numbers

abbrev pub refusal_number : Refusal → ℕ
refusal_number Length = 15
refusal_number (Times d) = 16
refusal_number (Minutes d) = 17
refusal_number Keyholders = 29
refusal_number StepDown = 30

-- the day that it names, 0 where it names none
abbrev pub refusal_day : Refusal → ℕ
refusal_day Length = 0
refusal_day (Times d) = d
refusal_day (Minutes d) = d
refusal_day Keyholders = 0
refusal_day StepDown = 0

-- both in one number, the day above the lowest eight bits
abbrev pub refusal_code : Refusal → ℕ
refusal_code r = refusal_number r + 256 * refusal_day r

-- the edition's number, or a refusal
abbrev pub test_code : Result ℕ Refusal → ℕ
test_code (Ok n) = n
test_code (Err r) = refusal_code r

abbrev pub conversion_code : Result (Unit {0}) Refusal → ℕ
conversion_code (Ok _) = 0
conversion_code (Err r) = refusal_code r
