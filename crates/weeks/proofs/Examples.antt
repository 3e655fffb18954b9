-- Weeks worked out by the definitions: the limits of each check, and the order of the checks. Assumes nothing.
use Rattle.std.proofs.Common.{Ok, Err}
use Prim.Native.Nat.{ℕ}
use mathlib.Core.Path.{◌≡◌, refl}
use mathlib.Core.List.{List, [], ◌∷◌, ◌++◌}
use lib.Count.{ones_in, ones}
use lib.ListN.{replicate}
use Rattle.encoding.specs.Concat.{concat}
use Rattle.encoding.specs.Lowest.{lowest}
use Rattle.weeks.specs.declared.Refusal.TheVariants.{Length, Times, Minutes, Keyholders, StepDown}
use Rattle.weeks.specs.Editions.{size, named_in, named}
use Rattle.weeks.specs.Weeks.{time, wrong_day, uneven_day, keyholders, enough_keyholders, time_in, times_in, in_edition}
use Rattle.weeks.specs.Answers.{tested_by, week_test, refused, converted_by, converted}

abbrev zeros : ℕ → List ℕ
zeros n = replicate n 0

pub examples :
    -- the length names the edition
    (week_test (zeros 14) ≡ Ok 1)
    × (week_test (zeros 28) ≡ Ok 2)
    × (week_test (zeros 28 ++ (3 ∷ 0 ∷ [])) ≡ Ok 3)
    × (week_test (zeros 13) ≡ Err Length)
    -- quarter hour 96 is a time, 97 is none
    × (week_test (0 ∷ 96 ∷ zeros 12) ≡ Ok 1)
    × (week_test (0 ∷ 97 ∷ zeros 12) ≡ Err (Times 1))
    -- minute 1,440 is a time, 1,441 is none
    × (week_test (zeros 26 ++ (160 ∷ 5 ∷ [])) ≡ Ok 2)
    × (week_test (zeros 26 ++ (161 ∷ 5 ∷ [])) ≡ Err (Times 7))
    -- day 2 closes before it opens
    × (week_test (0 ∷ 0 ∷ 5 ∷ 4 ∷ zeros 10) ≡ Err (Times 2))
    -- 96 quarter hours are 1,440 minutes, and back
    × (converted (0 ∷ 96 ∷ zeros 12) 0 (zeros 28) ≡ (Ok tt, 0 ∷ 0 ∷ 160 ∷ 5 ∷ zeros 24))
    × (converted (0 ∷ 0 ∷ 160 ∷ 5 ∷ zeros 24) 0 (zeros 14) ≡ (Ok tt, 0 ∷ 96 ∷ zeros 12))
    -- an output of the same length
    × (converted (zeros 14) 0 (zeros 14) ≡ refused Length (zeros 14))
    -- minute 1 cannot be told in quarter hours
    × (converted (0 ∷ 0 ∷ 1 ∷ 0 ∷ zeros 24) 0 (zeros 14) ≡ refused (Minutes 1) (zeros 14))
    -- 16 of day 7 comes before 17 of day 1
    × (converted (0 ∷ 0 ∷ 1 ∷ 0 ∷ zeros 22 ++ (161 ∷ 5 ∷ [])) 0 (zeros 14) ≡ refused (Times 7) (zeros 14))
    -- one keyholder is too few, and 16 comes before 29
    × (week_test (zeros 30) ≡ Err Keyholders)
    × (week_test (zeros 28 ++ (16 ∷ 0 ∷ [])) ≡ Err Keyholders)
    × (week_test (zeros 28 ++ (16 ∷ 1 ∷ [])) ≡ Ok 3)
    × (week_test (zeros 26 ++ (161 ∷ 5 ∷ 16 ∷ 0 ∷ [])) ≡ Err (Times 7))
    × (converted (97 ∷ zeros 13) 1 (zeros 30) ≡ refused (Times 1) (zeros 30))
    -- to edition 3 with the caller's mask, from each of the others
    × (converted (0 ∷ 96 ∷ zeros 12) 272 (zeros 30) ≡ (Ok tt, 0 ∷ 0 ∷ 160 ∷ 5 ∷ zeros 24 ++ (16 ∷ 1 ∷ [])))
    × (converted (0 ∷ 0 ∷ 161 ∷ 4 ∷ zeros 24) 272 (zeros 30) ≡ (Ok tt, 0 ∷ 0 ∷ 161 ∷ 4 ∷ zeros 24 ++ (16 ∷ 1 ∷ [])))
    × (converted (zeros 28) 256 (zeros 30) ≡ refused Keyholders (zeros 30))
    -- and from there down to none, before 16 and 29
    × (converted (zeros 28 ++ (3 ∷ 0 ∷ [])) 3 (zeros 28) ≡ refused StepDown (zeros 28))
    × (converted (97 ∷ 97 ∷ zeros 28) 0 (zeros 14) ≡ refused StepDown (zeros 14))
    × (converted (zeros 30) 3 (zeros 30) ≡ refused Length (zeros 30))
unfolding concat size named_in lowest named time wrong_day uneven_day ones_in ones keyholders enough_keyholders time_in times_in in_edition tested_by week_test converted_by converted
examples = (refl, refl, refl, refl, refl, refl, refl, refl, refl, refl, refl, refl, refl, refl, refl, refl, refl, refl, refl, refl, refl, refl, refl, refl, refl)
