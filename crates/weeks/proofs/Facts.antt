-- The promises of the week test and of the converter. Assumes nothing.
use Rattle.std.proofs.Common.{Some, Result, Ok, Err}
use Prim.Native.Nat.{ℕ, ◌%◌, ◌≤◌, ◌<◌}
use mathlib.Core.Path.{◌≡◌, refl, sym, ap, subst, ◌∙◌}
use mathlib.Core.Bool.{Bool, true, false, ◌||◌, cond}
use mathlib.Core.List.{List, ◌++◌, append-nil}
use mathlib.Core.Logic.{⊎_elim}
use native.Mathlib.Omega.{arith}
use native.Mathlib.Nat.{mul-div_right}
use borrow.Author.Tests.{eqb-true, eqb-false, eq-eqb, le-leb, lt-leb}
use lib.Dec.{eqb, leb}
use lib.Count.{ones}
use lib.ListN.{length, take}
use lib.Seq.{take_all, drop_at}
use Rattle.encoding.specs.Bytes.{AreBytes, number, bytes}
use Rattle.encoding.proofs.Logic.{clash}
use Rattle.encoding.proofs.Lowest.{lowest_is}
use Rattle.encoding.proofs.Numbers.{number_bytes}
use Rattle.weeks.specs.declared.Edition.{Edition}
use Rattle.weeks.specs.declared.Refusal.{Refusal}
use Rattle.weeks.specs.declared.Refusal.TheVariants.{Length, Times, Keyholders, StepDown}
use Rattle.weeks.specs.Editions.{days_a_week, times_a_week, size, named, minutes, mask_size, edition_number}
use Rattle.weeks.specs.Weeks.{time, minute, wrong_day, uneven_day, lowest_day, keyholders, enough_keyholders, time_in, times_in, in_edition}
use Rattle.weeks.specs.Answers.{week_test, refused, converted_by, converted}
use Rattle.weeks.specs.Facts.{Facts}
use Rattle.weeks.proofs.Editions.{Sound, sound, length_named, names, both_lengths}
use Rattle.weeks.proofs.Lines.{test_wrong, test_week, step_down, step_wrong, step_few, convert_by}
use Rattle.weeks.proofs.Refused.{converter_refuses, tester_refuses}
use Rattle.weeks.proofs.Steps.{Accepts, Passed, Step, step, passed_by, leaves, from_sound, to_sound, length_to, names_to, right_to, same_edition}
use Rattle.weeks.proofs.ThirdTest.{third_exactly, third_as_second, third_too_few}
use Rattle.weeks.proofs.TwoBits.{two_bits}
use Rattle.weeks.specs.declared.Edition.TheVariants.{Second, Third}
use Rattle.weeks.proofs.Written.{no_uneven, minute_there, all_even_there, bytes_back, length_times, times_bytes}

-- ---- masks

-- only weeks of 30 bytes have a mask
unmasked : (n : ℕ) {e : Edition} → named n ≡ Some e → (n ≡ size Third → ⊥) → mask_size e ≡ 0
unmasked n k other = ⊎_elim (λ z. z) (λ same. absurd (other (length_named n k ∙ ap size same))) (sound _).masked

no_mask : (o : Edition) (m : ℕ) → mask_size o ≡ 0 → enough_keyholders o m ≡ true
unfolding enough_keyholders
no_mask o m none = ap (λ (b : Bool). b || leb 2 (ones m)) (eq-eqb (mask_size o) 0 none)

-- the mask that was put behind the times is found again
mask_there : (e : Edition) (s : List ℕ) (m : ℕ) → m < 65536 → keyholders Third (in_edition e Third s m) ≡ m
unfolding keyholders in_edition
mask_there e s m h =
    ap (λ (t : List ℕ). number (take 2 t)) (drop_at (times_in e Third s) (bytes 2 m) 28 (length_times e Third s)) ∙ number_bytes 2 m (omega arith)

enough_there : (e o : Edition) → Sound o → (s : List ℕ) (m : ℕ) → (o ≡ Third → m < 65536) → enough_keyholders o m ≡ true
    → enough_keyholders o (keyholders o (in_edition e o s m)) ≡ true
enough_there e o ho s m small h = ⊎_elim (no_mask o (keyholders o (in_edition e o s m))) dual ho.masked
  where
    dual : o ≡ Third → enough_keyholders o (keyholders o (in_edition e o s m)) ≡ true
    dual same =
        subst (λ (x : Edition). enough_keyholders x (keyholders x (in_edition e x s m)) ≡ true) (sym same)
        (ap (enough_keyholders Third) (mask_there e s m (small same)) ∙ subst (λ (x : Edition). enough_keyholders x m ≡ true) same h)

-- ---- there and back

there_and_back : (s out again : List ℕ) (m m' : ℕ) → AreBytes s → length again ≡ length s → (length out ≡ size Third → ⊥) → Accepts (converted s m out)
    → converted (converted s m out).1 m' again ≡ (Ok tt, s)
there_and_back s out again m m' b l other h =
    let p : Step s m out = step s m out h in
    let e : Edition = p.from in
    let zero-to : mask_size p.to ≡ 0 = unmasked _ p.is_to other in
    let zero-from : mask_size e ≡ 0 = omega (arith, p.passed.up) in
    let way_back : Passed p.to e (in_edition e p.to s m) m' = record {
      up = omega arith;
      right = right_to p;
      enough = no_mask e m' zero-from;
      even = all_even_there e p.to (from_sound p) (to_sound p) s m p.passed.right p.passed.even;
    } in
    ap (λ (x : List ℕ). converted x m' again) (leaves p)
    ∙ passed_by (in_edition e p.to s m) m' again (names_to p) (ap named l ∙ p.is_from) (λ z. p.differ (sym (sym (length_to p) ∙ z ∙ l))) way_back
    ∙ ap (λ (x : List ℕ). (Ok tt, x)) (bytes_back e p.to (from_sound p) (to_sound p) s m p.passed.right p.passed.even b (length_named _ p.is_from) zero-from m')

down_refused : (o : Edition) (s out : List ℕ) (m : ℕ) → length s ≡ size Third → named (length out) ≡ Some o → (length s ≡ length out → ⊥)
    → converted s m out ≡ refused StepDown out
down_refused o s out m long k d =
    let none : mask_size o ≡ 0 = unmasked _ k (λ z. d (long ∙ sym z)) in
    sym (step_down Third o s m out (omega arith) ∙ convert_by s m out (names Third _ long) k d)

-- ---- what is converted

passes_test : (o : Edition) (s out : List ℕ) (m : ℕ) → (length out ≡ size Third → m < 65536) → named (length out) ≡ Some o
    → Accepts (converted s m out) → week_test (converted s m out).1 ≡ Ok (edition_number o)
passes_test o s out m small k h =
    let p : Step s m out = step s m out h in
    ap week_test (leaves p)
    ∙ sym (test_week p.to (in_edition p.from p.to s m) (names_to p) refl (right_to p)
    (enough_there p.from p.to (to_sound p) s m (λ same. small (length_named _ p.is_to ∙ ap size same)) p.passed.enough))
    ∙ ap (λ (x : Edition). Ok (edition_number x)) (same_edition p.is_to k)

keeps_minutes : (e o : Edition) (s out : List ℕ) (m : ℕ) → named (length s) ≡ Some e → named (length out) ≡ Some o
    → Accepts (converted s m out) → (i : ℕ) → i < times_a_week → minute o (converted s m out).1 i ≡ minute e s i
keeps_minutes e o s out m n k h i l =
    let p : Step s m out = step s m out h in
    ap (λ (x : List ℕ). minute o x i) (leaves p)
    ∙ ap (λ (x : Edition). minute x (in_edition p.from p.to s m) i) (sym (same_edition p.is_to k))
    ∙ minute_there p.from p.to (from_sound p) (to_sound p) s m p.passed.right p.passed.even i l
    ∙ ap (λ (x : Edition). minute x s i) (same_edition p.is_from n)

-- a step to edition 3
module _ (s out : List ℕ) (m : ℕ) (long : length out ≡ size Third) (h : Accepts (converted s m out)) where
  p : Step s m out
  p = step s m out h

  to_third : p.to ≡ Third
  to_third = same_edition p.is_to (names Third _ long)

  passed_third : Passed p.from Third s m
  passed_third = subst (λ (x : Edition). Passed p.from x s m) to_third p.passed

  leaves_third : (converted s m out).1 ≡ in_edition p.from Third s m
  leaves_third = leaves p ∙ ap (λ (x : Edition). in_edition p.from x s m) to_third

  -- from edition 2 the times stay
  from_second : AreBytes s → length s ≡ size Second → times_in p.from Third s ≡ s
  unfolding times_in time_in size
  from_second b l =
      let same : p.from ≡ Second = same_edition p.is_from (names Second _ l) in
      ap (λ (x : Edition). times_in x Third s) same
      ∙ times_bytes Second s b l (time_in Second Third s) (λ k i. ap (bytes 2) (mul-div_right (time Second s k) (omega arith)))
      ∙ take_all 28 s (omega arith)

  -- from another they are those of edition 2
  by_second : (mid : List ℕ) (m' : ℕ) → length mid ≡ size Second → (length s ≡ size Second → ⊥) → (converted s m' mid).1 ≡ times_in p.from Third s
  unfolding in_edition times_in time_in uneven_day
  by_second mid m' l other =
      let none : mask_size p.from ≡ 0 = unmasked _ p.is_from (λ z. p.differ (z ∙ sym long)) in
      let passed : Passed p.from Second s m' = record {
        up = omega arith;
        right = passed_third.right;
        enough = no_mask Second m' refl;
        even = passed_third.even;
      } in
      ap (λ (r : Result (Unit {0}) Refusal × List ℕ). r.1) (passed_by s m' mid p.is_from (names Second _ l) (λ z. other (z ∙ l)) passed)
      ∙ append-nil (times_in p.from Second s)

  goes_up : (mid : List ℕ) (m' : ℕ) → AreBytes s → length mid ≡ size Second
      → (converted s m out).1 ≡ cond (eqb (length s) (size Second)) s (converted s m' mid).1 ++ bytes (mask_size Third) m
  unfolding in_edition
  goes_up mid m' b l = leaves_third ∙ ap (λ (t : List ℕ). t ++ bytes 2 m) (go (eqb (length s) (size Second)) refl)
    where
      go : (c : Bool) → eqb (length s) (size Second) ≡ c → times_in p.from Third s ≡ cond c s (converted s m' mid).1
      go true t = from_second b (eqb-true _ _ t)
      go false t = sym (by_second mid m' l (eqb-false _ _ t))

-- ---- the mask is not looked at

step_unread : (e o : Edition) (s out : List ℕ) (m m' : ℕ) → mask_size o ≡ 0 → converted_by e o s m out ≡ converted_by e o s m' out
unfolding converted_by in_edition
step_unread e o s out m m' none =
    let same : bytes (mask_size o) m ≡ bytes (mask_size o) m' = rw none refl in
    rw (no_mask o m none, no_mask o m' none, same)

mask_unread : (s out : List ℕ) (m m' : ℕ) → (length out ≡ size Third → ⊥) → converted s m out ≡ converted s m' out
unfolding converted
mask_unread s out m m' other =
    both_lengths ◌≡◌ (length s) (length out) (λ (e o : Edition). converted_by e o s m out) (λ (e o : Edition). converted_by e o s m' out) (refused Length out)
    refl (λ e o n k d. step_unread e o s out m m' (unmasked _ k other))

-- ---- what is refused, and what is accepted

-- the week test, of an edition without a mask
module _ (e : Edition) (s : List ℕ) (n : named (length s) ≡ Some e) (other : length s ≡ size Third → ⊥) where
  none : mask_size e ≡ 0
  none = unmasked _ n other

  by_days : (b : Bool) → eqb (lowest_day (wrong_day e s)) 0 ≡ b → week_test s ≡ cond b (Ok (edition_number e)) (Err (Times (lowest_day (wrong_day e s))))
  by_days true t = sym (test_week e s n refl (eqb-true _ _ t) (no_mask e (keyholders e s) none))
  by_days false t = sym (test_wrong e s n refl (eqb-false _ _ t))

  passed_right : week_test s ≡ Ok (edition_number e) → lowest_day (wrong_day e s) ≡ 0
  passed_right h = go (eqb (lowest_day (wrong_day e s)) 0) refl
    where
      go : (b : Bool) → eqb (lowest_day (wrong_day e s)) 0 ≡ b → lowest_day (wrong_day e s) ≡ 0
      go true t = eqb-true _ _ t
      go false t = let q : Err (Times (lowest_day (wrong_day e s))) ≡ Ok (edition_number e) = sym (by_days false t) ∙ h in clash cc

  refused_alike : (o : Edition) (out : List ℕ) (m : ℕ) (r : Refusal) → named (length out) ≡ Some o → (length s ≡ length out → ⊥)
      → week_test s ≡ Err r → converted s m out ≡ refused r out
  refused_alike o out m r k d h = go (eqb (lowest_day (wrong_day e s)) 0) refl
    where
      go : (b : Bool) → eqb (lowest_day (wrong_day e s)) 0 ≡ b → converted s m out ≡ refused r out
      go true t = let q : Ok (edition_number e) ≡ Err r = sym (by_days true t) ∙ h in clash cc
      go false t =
          let q : Err (Times (lowest_day (wrong_day e s))) ≡ Err r = sym (by_days false t) ∙ h in
          let same : Times (lowest_day (wrong_day e s)) ≡ r = cc in
          sym (step_wrong e o s m out (omega (arith, none)) refl (eqb-false _ _ t) ∙ convert_by s m out n k d) ∙ ap (λ (x : Refusal). refused x out) same

  few_refused : (out : List ℕ) (m : ℕ) → length out ≡ size Third → week_test s ≡ Ok (edition_number e) → ones m < 2
      → converted s m out ≡ refused Keyholders out
  unfolding enough_keyholders
  few_refused out m long h l =
      sym (step_few e Third s m out (omega (arith, none)) refl (passed_right h) (lt-leb 2 (ones m) l) ∙ convert_by s m out n (names Third _ long) (λ z. other (z ∙ long)))

enough_for : (o : Edition) (out : List ℕ) (m : ℕ) → named (length out) ≡ Some o → (length out ≡ size Third → 2 ≤ ones m) → enough_keyholders o m ≡ true
unfolding enough_keyholders
enough_for o out m k h = ⊎_elim (no_mask o m) dual (sound _).masked
  where
    dual : o ≡ Third → enough_keyholders o m ≡ true
    dual same = subst (λ (x : Edition). enough_keyholders x m ≡ true) (sym same) (le-leb 2 (ones m) (h (length_named _ k ∙ ap size same)))

accepts_week : (e o : Edition) (s out : List ℕ) (m : ℕ) → named (length s) ≡ Some e → named (length out) ≡ Some o → (length s ≡ length out → ⊥)
    → (length s ≡ size Third → ⊥) → week_test s ≡ Ok (edition_number e) → (length out ≡ size Third → 2 ≤ ones m)
    → ((k : ℕ) → k < times_a_week → minute e s k % minutes o ≡ 0) → Accepts (converted s m out)
accepts_week e o s out m n k d other h two even =
    ap (λ (r : Result (Unit {0}) Refusal × List ℕ). r.0)
    (passed_by s m out n k d (record {
      up = omega (arith, none e s n other);
      right = passed_right e s n other h;
      enough = enough_for o out m k two;
      even = no_uneven e o s even;
    }))

pub facts : Facts
facts = record {
  back = there_and_back;
  no_step_down = down_refused;
  passes = passes_test;
  same_minutes = keeps_minutes;
  up = λ s mid out m m' b l long h. goes_up s out m long h mid m' b l;
  unread = mask_unread;
  refuses = λ e o s out m r n k d other. refused_alike e s n other o out m r k d;
  few = λ e s out m n long other. few_refused e s n other out m long;
  accepts = accepts_week;
  unwritten = λ s out m r h. (converter_refuses s m out r h).0;
  third_passes = third_exactly;
  third_refused = λ s r long. third_as_second s long r;
  third_few = third_too_few;
  two_bits = two_bits;
  lowest = λ t d h. let r = lowest_is t days_a_week d h in (r.0, r.1);
  tested_day = tester_refuses;
  converted_day = λ s out m r h. (converter_refuses s m out r h).1;
}
