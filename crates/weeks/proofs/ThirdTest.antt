-- The test of edition 3: that of edition 2 on the first 28 bytes, and the mask. Assumes nothing.
use Rattle.std.proofs.Common.{Result, Ok, Err}
use Prim.Native.Nat.{ℕ, ◌+◌, ◌*◌, ◌-◌, ◌≤◌, ◌<◌}
use mathlib.Core.Path.{◌≡◌, refl, sym, ap, ap₂, ◌∙◌}
use mathlib.Core.Bool.{Bool, true, false, cond}
use mathlib.Core.List.{List}
use native.Mathlib.Omega.{arith}
use borrow.Author.Tests.{leb-true, le-leb, lt-leb}
use lib.Dec.{eqb, leb}
use lib.Count.{ones}
use lib.ListN.{length, take, drop, take-append-drop}
use lib.Seq.{length-take-le}
use Rattle.encoding.specs.Bytes.{number}
use Rattle.encoding.proofs.Concat.{part_in_front}
use Rattle.encoding.proofs.Logic.{clash}
use Rattle.encoding.proofs.Lowest.{lowest_cong}
use Rattle.weeks.specs.declared.Refusal.{Refusal}
use Rattle.weeks.specs.declared.Refusal.TheVariants.{Times, Keyholders}
use Rattle.weeks.specs.Editions.{days_a_week, times_a_week, size, named_in, named}
use Rattle.weeks.specs.Weeks.{time, wrong, wrong_day, lowest_day, keyholders, enough_keyholders}
use Rattle.weeks.specs.declared.Edition.TheVariants.{Second, Third}
use Rattle.weeks.specs.Answers.{tested_by, week_test}

-- what the test says of a week of edition 2 and of edition 3: b, no day is wrong; c, there are enough keyholders; d, the lowest wrong day
abbrev second_says : Bool → ℕ → Result ℕ Refusal
second_says b d = cond b (Ok 2) (Err (Times d))

abbrev third_says : Bool → Bool → ℕ → Result ℕ Refusal
third_says b c d = cond b (cond c (Ok 3) (Err Keyholders)) (Err (Times d))

third_only : (b c : Bool) (d : ℕ) → third_says b c d ≡ Ok 3 → (second_says b d ≡ Ok 2) × (c ≡ true)
third_only true true d h = (refl, refl)
third_only true false d h = clash cc
third_only false c d h = clash cc

third_then : (b c : Bool) (d : ℕ) → second_says b d ≡ Ok 2 → c ≡ true → third_says b c d ≡ Ok 3
third_then true c d h e = rw e
third_then false c d h e = clash cc

third_less : (b c : Bool) (d : ℕ) → second_says b d ≡ Ok 2 → c ≡ false → third_says b c d ≡ Err Keyholders
third_less true c d h e = rw e
third_less false c d h e = clash cc

third_alike : (b c : Bool) (d : ℕ) (r : Refusal) → second_says b d ≡ Err r → third_says b c d ≡ Err r
third_alike true c d r h = clash cc
third_alike false c d r h = h

module _ (s : List ℕ) (long : length s ≡ size Third) where
  -- the first 28 bytes
  front : List ℕ
  front = take (size Second) s

  length_front : length front ≡ size Second
  unfolding front size
  length_front = length-take-le 28 s (omega arith)

  time_front : (k : ℕ) → k < times_a_week → time Second front k ≡ time Third s k
  unfolding front time size
  time_front k l =
      let room : 2 * k + 2 ≤ length (take 28 s) = omega (arith, length_front) in
      ap number (sym (part_in_front (2 * k) 2 (take 28 s) (drop 28 s) room) ∙ ap (λ (t : List ℕ). take 2 (drop (2 * k) t)) (take-append-drop 28 s))

  day_front : (d : ℕ) → 1 ≤ d → d ≤ days_a_week → wrong_day Second front d ≡ wrong_day Third s d
  unfolding wrong_day
  day_front d l h = ap₂ (wrong Second) (time_front (2 * d - 2) (omega arith)) (time_front (2 * d - 1) (omega arith))

  lowest_front : lowest_day (wrong_day Second front) ≡ lowest_day (wrong_day Third s)
  lowest_front = lowest_cong (wrong_day Second front) (wrong_day Third s) days_a_week day_front

  -- no wrong day, enough keyholders, and the lowest wrong day
  right : Bool
  right = eqb (lowest_day (wrong_day Third s)) 0

  enough : Bool
  enough = leb 2 (ones (keyholders Third s))

  by_third : week_test s ≡ third_says right enough (lowest_day (wrong_day Third s))
  unfolding week_test tested_by enough_keyholders right enough named named_in size
  by_third = rw long

  by_second : week_test front ≡ second_says right (lowest_day (wrong_day Third s))
  unfolding week_test tested_by enough_keyholders right named named_in size
  by_second = rw (length_front, lowest_front)

  pub third_exactly :
      (week_test s ≡ Ok 3 → (week_test (take (size Second) s) ≡ Ok 2) × (2 ≤ ones (keyholders Third s)))
      × ((week_test (take (size Second) s) ≡ Ok 2) × (2 ≤ ones (keyholders Third s)) → week_test s ≡ Ok 3)
  unfolding front enough
  third_exactly = (
    λ h. let r = third_only right enough _ (sym by_third ∙ h) in (by_second ∙ r.0, leb-true 2 _ r.1),
    λ h. by_third ∙ third_then right enough _ (sym by_second ∙ h.0) (le-leb 2 _ h.1),
  )

  pub third_as_second : (r : Refusal) → week_test (take (size Second) s) ≡ Err r → week_test s ≡ Err r
  unfolding front
  third_as_second r h = by_third ∙ third_alike right enough _ r (sym by_second ∙ h)

  pub third_too_few : week_test (take (size Second) s) ≡ Ok 2 → ones (keyholders Third s) < 2 → week_test s ≡ Err Keyholders
  unfolding front enough
  third_too_few h l = by_third ∙ third_less right enough _ (sym by_second ∙ h) (lt-leb 2 _ l)
