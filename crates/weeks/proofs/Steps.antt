-- An accepted conversion: the checks that it passed, its two editions, and what it leaves. Assumes nothing.
use Rattle.std.proofs.Common.{Option, Some, Result, Ok}
use Prim.Native.Nat.{ℕ, ◌≤◌}
use mathlib.Core.Path.{◌≡◌, refl, sym, ap, ◌∙◌}
use mathlib.Core.Bool.{Bool, true, false, cond}
use mathlib.Core.List.{List}
use borrow.Author.Tests.{eqb-true, leb-true}
use lib.Dec.{eqb, leb}
use lib.ListN.{length}
use Rattle.encoding.proofs.Logic.{clash}
use Rattle.weeks.specs.declared.Edition.{Edition}
use Rattle.weeks.specs.declared.Refusal.{Refusal}
use Rattle.weeks.specs.declared.Refusal.TheVariants.{Length, Times, Minutes, Keyholders, StepDown}
use Rattle.weeks.specs.Editions.{named, mask_size}
use Rattle.weeks.specs.Weeks.{wrong_day, uneven_day, lowest_day, enough_keyholders, in_edition}
use Rattle.weeks.specs.Answers.{refused, converted_by, converted}
use Rattle.weeks.proofs.Editions.{Sound, sound, length_named, by_lengths}
use Rattle.weeks.proofs.Lines.{step_done, convert_by}
use Rattle.weeks.proofs.Written.{right_there, length_there}

abbrev pub Accepts : Result (Unit {0}) Refusal × List ℕ → Type 0
Accepts r = r.0 ≡ Ok tt

not_refused : (r : Refusal) (out : List ℕ) → Accepts (refused r out) → ⊥
not_refused r out h = clash cc

-- it passed every check
pub record Passed (e o : Edition) (s : List ℕ) (m : ℕ) : Type 0 where
  pub up : mask_size e ≤ mask_size o
  pub right : lowest_day (wrong_day e s) ≡ 0
  pub enough : enough_keyholders o m ≡ true
  pub even : lowest_day (uneven_day e o s) ≡ 0

-- one check that refuses
check_passed : (b : Bool) (x : Result (Unit {0}) Refusal × List ℕ) (r : Refusal) (out : List ℕ) → Accepts (cond b x (refused r out)) → (b ≡ true) × Accepts x
check_passed true x r out h = (refl, h)
check_passed false x r out h = absurd (not_refused r out h)

step_passed : (e o : Edition) (s : List ℕ) (m : ℕ) (out : List ℕ) → Accepts (converted_by e o s m out) → Passed e o s m
unfolding converted_by
step_passed e o s m out h =
    let p = check_passed (leb (mask_size e) (mask_size o)) _ StepDown out h in
    let q = check_passed (eqb (lowest_day (wrong_day e s)) 0) _ (Times (lowest_day (wrong_day e s))) out p.1 in
    let r = check_passed (enough_keyholders o m) _ Keyholders out q.1 in
    let t = check_passed (eqb (lowest_day (uneven_day e o s)) 0) _ (Minutes (lowest_day (uneven_day e o s))) out r.1 in
    record { up = leb-true _ _ p.0; right = eqb-true _ _ q.0; enough = r.0; even = eqb-true _ _ t.0 }

-- and what has passed is written
pub passed_by : {e o : Edition} (s : List ℕ) (m : ℕ) (out : List ℕ) → named (length s) ≡ Some e → named (length out) ≡ Some o → (length s ≡ length out → ⊥)
    → Passed e o s m → converted s m out ≡ (Ok tt, in_edition e o s m)
passed_by {e} {o} s m out n k d p =
    sym (step_done e o s m out p.up refl p.right p.enough refl p.even refl ∙ convert_by s m out n k d)

-- its two editions
pub record Step (s : List ℕ) (m : ℕ) (out : List ℕ) : Type 0 where
  pub from : Edition
  pub to : Edition
  pub is_from : named (length s) ≡ Some from
  pub is_to : named (length out) ≡ Some to
  pub differ : length s ≡ length out → ⊥
  pub passed : Passed from to s m

pub step : (s : List ℕ) (m : ℕ) (out : List ℕ) → Accepts (converted s m out) → Step s m out
unfolding converted
step s m out = by_lengths (λ (r : Result (Unit {0}) Refusal × List ℕ). Accepts r → Step s m out) (length s) (length out)
    (λ h. absurd (not_refused Length out h))
    (λ e o n k d. λ h. record { from = e; to = o; is_from = n; is_to = k; differ = d; passed = step_passed e o s m out h })

module _ {s : List ℕ} {m : ℕ} {out : List ℕ} (p : Step s m out) where
  pub leaves : (converted s m out).1 ≡ in_edition p.from p.to s m
  leaves = ap (λ (r : Result (Unit {0}) Refusal × List ℕ). r.1) (passed_by s m out p.is_from p.is_to p.differ p.passed)

  pub from_sound : Sound p.from
  from_sound = sound _

  pub to_sound : Sound p.to
  to_sound = sound _

  -- what it leaves is a week of the other edition, by its length and by its days
  pub length_to : length (in_edition p.from p.to s m) ≡ length out
  length_to = length_there p.from p.to s m ∙ sym (length_named _ p.is_to)

  pub names_to : named (length (in_edition p.from p.to s m)) ≡ Some p.to
  names_to = ap named length_to ∙ p.is_to

  pub right_to : lowest_day (wrong_day p.to (in_edition p.from p.to s m)) ≡ 0
  right_to = right_there p.from p.to from_sound to_sound s m p.passed.right p.passed.even

-- a length names one edition
pub same_edition : {n : Option Edition} {x y : Edition} → n ≡ Some x → n ≡ Some y → x ≡ y
same_edition h k = cc
