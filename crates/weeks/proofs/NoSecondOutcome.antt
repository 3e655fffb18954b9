-- Each contract allows one outcome; and an answer's number tells it from every other. Assumes nothing.
use Rattle.std.proofs.Common.{Option, Some, None, Result, Ok, Err}
use Prim.Native.Nat.{ℕ, ◌+◌, ◌*◌, ◌/◌, ◌%◌, ◌≤◌, ◌<◌}
use mathlib.Core.Path.{◌≡◌, refl, sym, ap, ◌∙◌}
use mathlib.Core.Bool.{Bool, true, false, cond}
use mathlib.Core.List.{List}
use native.Mathlib.Omega.{arith}
use borrow.Author.Tests.{lt-ltb, le-ltb}
use lib.Dec.{eqb, ltb}
use lib.ListN.{length}
use Rattle.weeks.specs.declared.Edition.{Edition}
use Rattle.weeks.specs.declared.Refusal.{Refusal}
use Rattle.weeks.specs.declared.Refusal.TheVariants.{Length, Times, Minutes, Keyholders, StepDown}
use Rattle.weeks.specs.Editions.{named, on_known, edition_number}
use Rattle.weeks.specs.Weeks.{lowest_day, wrong_day, keyholders, enough_keyholders}
use Rattle.weeks.specs.Answers.{tested_by, week_test, converted, refusal_code, test_code, conversion_code}
use Rattle.weeks.proofs.Editions.{sound}

pub test_once : (s : List ℕ) {r r' : Result ℕ Refusal} → r ≡ week_test s → r' ≡ week_test s → r ≡ r'
test_once s e f = e ∙ sym f

pub convert_once : (s : List ℕ) (m : ℕ) (out : List ℕ) {r r' : Result (Unit {0}) Refusal} {left left' : List ℕ} → (r, left) ≡ converted s m out
    → (r', left') ≡ converted s m out → (r ≡ r') × (left ≡ left')
convert_once s m out e f = (ap (λ (x : Result (Unit {0}) Refusal × List ℕ). x.0) (e ∙ sym f), ap (λ (x : Result (Unit {0}) Refusal × List ℕ). x.1) (e ∙ sym f))

-- ---- an answer is found again from its number

refusal_as : ℕ → ℕ → Refusal
refusal_as n d =
    cond (eqb n 15) Length
    (cond (eqb n 16) (Times d)
    (cond (eqb n 17) (Minutes d)
    (cond (eqb n 29) Keyholders StepDown)))

refusal_again : (r : Refusal) → refusal_as (refusal_code r % 256) (refusal_code r / 256) ≡ r
unfolding refusal_as
refusal_again Length = refl
refusal_again (Times d) =
    let n : (16 + 256 * d) % 256 ≡ 16 = omega arith in
    let k : (16 + 256 * d) / 256 ≡ d = omega arith in
    rw (n, k)
refusal_again (Minutes d) =
    let n : (17 + 256 * d) % 256 ≡ 17 = omega arith in
    let k : (17 + 256 * d) / 256 ≡ d = omega arith in
    rw (n, k)
refusal_again Keyholders = refl
refusal_again StepDown = refl

refusal_above : (r : Refusal) → 14 < refusal_code r
refusal_above Length = omega arith
refusal_above (Times d) = omega arith
refusal_above (Minutes d) = omega arith
refusal_above Keyholders = omega arith
refusal_above StepDown = omega arith

conversion_as : ℕ → Result (Unit {0}) Refusal
conversion_as n = cond (ltb 14 n) (Err (refusal_as (n % 256) (n / 256))) (Ok tt)

conversion_again : (r : Result (Unit {0}) Refusal) → conversion_as (conversion_code r) ≡ r
unfolding conversion_as
conversion_again (Ok tt) = refl
conversion_again (Err r) = rw (lt-ltb 14 (refusal_code r) (refusal_above r)) (ap Err (refusal_again r))

pub conversion_code_once : {r r' : Result (Unit {0}) Refusal} → conversion_code r ≡ conversion_code r' → r ≡ r'
conversion_code_once {r} {r'} e = sym (conversion_again r) ∙ ap conversion_as e ∙ conversion_again r'

-- an edition's number is below every refusal's
test_as : ℕ → Result ℕ Refusal
test_as n = cond (ltb 14 n) (Err (refusal_as (n % 256) (n / 256))) (Ok n)

refused_again : (r : Refusal) → test_as (refusal_code r) ≡ Err r
unfolding test_as
refused_again r = rw (lt-ltb 14 (refusal_code r) (refusal_above r)) (ap Err (refusal_again r))

week_again : (n : ℕ) → n ≤ 14 → test_as n ≡ Ok n
unfolding test_as
week_again n h = rw (le-ltb 14 n h)

test_again : (s : List ℕ) → test_as (test_code (week_test s)) ≡ week_test s
unfolding week_test tested_by
test_again s = from (named (length s)) refl
  where
    by_day : (e : Edition) → named (length s) ≡ Some e → (b c : Bool)
        → test_as (test_code (cond b (cond c (Ok (edition_number e)) (Err Keyholders)) (Err (Times (lowest_day (wrong_day e s))))))
        ≡ cond b (cond c (Ok (edition_number e)) (Err Keyholders)) (Err (Times (lowest_day (wrong_day e s))))
    by_day e k true true = week_again (edition_number e) (sound e).low_number
    by_day e k true false = refused_again Keyholders
    by_day e k false c = refused_again (Times (lowest_day (wrong_day e s)))

    from : (n : Option Edition) → named (length s) ≡ n → test_as (test_code (on_known n (λ (e : Edition). tested_by e s) (Err Length)))
        ≡ on_known n (λ (e : Edition). tested_by e s) (Err Length)
    from (Some e) k = by_day e k (eqb (lowest_day (wrong_day e s)) 0) (enough_keyholders e (keyholders e s))
    from None k = refused_again Length

pub test_code_once : (s t : List ℕ) → test_code (week_test s) ≡ test_code (week_test t) → week_test s ≡ week_test t
test_code_once s t e = sym (test_again s) ∙ ap test_as e ∙ test_again t
