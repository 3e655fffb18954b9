-- A week without a wrong or an uneven day, written in another edition: its times, its minutes, its days, and the way back. Assumes nothing.
use Prim.Native.Nat.{ℕ, ◌+◌, ◌*◌, ◌-◌, ◌/◌, ◌%◌, ◌≤◌, ◌<◌}
use mathlib.Core.Path.{◌≡◌, sym, ap, ◌∙◌}
use mathlib.Core.Bool.{Bool, true, false, ◌||◌, not}
use mathlib.Core.List.{List, ◌++◌, append-nil}
use native.Mathlib.Omega.{arith}
use native.Mathlib.Nat.{mul-le-mul_left, le_of_mul-le-mul_left, div-le_of_le-mul, div-add-mod, mul-mod_right, mul-div_right}
use borrow.Author.Tests.{ltb-false, le-ltb, eqb-true, eq-eqb, not-false}
use lib.Dec.{eqb, ltb}
use lib.ListN.{length, take, drop, length-append, length-drop}
use lib.Seq.{take_all, length-take-le}
use Rattle.encoding.specs.Bytes.{AreBytes, number, bytes}
use Rattle.encoding.proofs.Logic.{or_false}
use Rattle.encoding.specs.Concat.{concat}
use Rattle.encoding.proofs.Concat.{run_within, part_in_front, concat_same, concat_at, concat_parts, length_concat}
use Rattle.encoding.proofs.Numbers.{length_bytes, number_bytes, bytes_number, part_bytes}
use Rattle.weeks.specs.declared.Edition.{Edition}
use Rattle.weeks.specs.Editions.{times_a_week, days_a_week, size, width, limit, minutes, mask_size}
use Rattle.weeks.specs.Weeks.{time, opening, closing, minute, wrong_day, uneven, uneven_day, lowest_day, time_in, times_in, in_edition}
use Rattle.weeks.proofs.Editions.{Sound, sound}
use Rattle.encoding.proofs.Lowest.{lowest_none, lowest_zero}
use Rattle.weeks.proofs.DayTests.{each_time}
use Rattle.weeks.proofs.TimeParts.{units_are}

neither_or : (a b : Bool) → a ≡ false → b ≡ false → (a || b) ≡ false
neither_or true b e f = e
neither_or false b e f = f

-- a day that is not wrong
pub record Right (e : Edition) (s : List ℕ) (d : ℕ) : Type 0 where
  pub opens : opening e s d ≤ limit e
  pub closes : closing e s d ≤ limit e
  pub order : opening e s d ≤ closing e s d

day_right : (e : Edition) (s : List ℕ) (d : ℕ) → wrong_day e s d ≡ false → Right e s d
unfolding wrong_day
day_right e s d h =
    let p = or_false (ltb (limit e) (opening e s d) || ltb (limit e) (closing e s d)) (ltb (closing e s d) (opening e s d)) h in
    let q = or_false (ltb (limit e) (opening e s d)) (ltb (limit e) (closing e s d)) p.0 in
    record { opens = ltb-false _ _ q.0; closes = ltb-false _ _ q.1; order = ltb-false _ _ p.1 }

right_day : (e : Edition) (s : List ℕ) (d : ℕ) → Right e s d → wrong_day e s d ≡ false
unfolding wrong_day
right_day e s d r = neither_or _ _ (neither_or _ _ (le-ltb _ _ r.opens) (le-ltb _ _ r.closes)) (le-ltb _ _ r.order)

-- whole units are minutes that edition o can tell
whole_units : (o : Edition) (m : ℕ) → uneven o m ≡ false → m % minutes o ≡ 0
whole_units o m h = eqb-true (m % minutes o) 0 (not-false (eqb (m % minutes o) 0) h)

units_whole : (o : Edition) (m : ℕ) → m % minutes o ≡ 0 → uneven o m ≡ false
units_whole o m h = rw (eq-eqb (m % minutes o) 0 h)

pub all_even : (e o : Edition) (s : List ℕ) → lowest_day (uneven_day e o s) ≡ 0 → (k : ℕ) → k < times_a_week → uneven o (minute e s k) ≡ false
unfolding uneven_day
all_even e o s even = each_time (λ (k : ℕ). uneven o (minute e s k) ≡ false)
    (λ d l m. or_false (uneven o (minute e s (2 * d - 2))) (uneven o (minute e s (2 * d - 1))) (lowest_none (uneven_day e o s) days_a_week even d l m))

pub no_uneven : (e o : Edition) (s : List ℕ) → ((k : ℕ) → k < times_a_week → minute e s k % minutes o ≡ 0) → lowest_day (uneven_day e o s) ≡ 0
unfolding uneven_day
no_uneven e o s h = lowest_zero (uneven_day e o s) days_a_week
    (λ d l m. neither_or _ _ (units_whole o (minute e s (2 * d - 2)) (h (2 * d - 2) (omega arith))) (units_whole o (minute e s (2 * d - 1)) (h (2 * d - 1) (omega arith))))

-- a time written behind those before it
pub put_there : (e o : Edition) (s out : List ℕ) (k x : ℕ) {t : ℕ} → lowest_day (uneven_day e o s) ≡ 0 → k < times_a_week → t ≡ time e s k
    → uneven o (minutes e * t) ≡ not (eqb (minutes o * x) (minutes e * t)) → take (width o * k) out ++ bytes (width o) x ≡ take (width o * k) out ++ time_in e o s k
unfolding time_in
put_there e o s out k x {t} even l i u =
    let same : uneven o (minutes e * t) ≡ false = ap (λ (y : ℕ). uneven o (minutes e * y)) i ∙ all_even e o s even k l in
    ap (λ (y : ℕ). take (width o * k) out ++ bytes (width o) y) (units_are o (minutes e * t) x (sound o).some u same ∙ ap (λ (y : ℕ). (minutes e) * y / minutes o) i)

-- ---- the bytes of the times

pub length_times : (e o : Edition) (s : List ℕ) → length (times_in e o s) ≡ width o * times_a_week
unfolding times_in time_in
length_times e o s = length_concat times_a_week (width o) (time_in e o s) (λ k l. length_bytes (width o) (minute e s k / minutes o))

pub length_there : (e o : Edition) (s : List ℕ) (m : ℕ) → length (in_edition e o s m) ≡ size o
unfolding in_edition size
length_there e o s m = length-append (times_in e o s) (bytes (mask_size o) m) ∙ omega (arith, length_times e o s, length_bytes (mask_size o) m)

-- a time as bytes is the bytes that it was read from, and all of them are those in front of the mask
time_bytes : (e : Edition) (s : List ℕ) → AreBytes s → length s ≡ size e → (k : ℕ) → k < times_a_week → bytes (width e) (time e s k) ≡ take (width e) (drop (width e * k) s)
unfolding time size
time_bytes e s b long k l =
    let w : ℕ = width e in
    let t : List ℕ = take w (drop (w * k) s) in
    let room : w * k + w ≤ length s = omega (arith, run_within w k times_a_week l) in
    let back : w * k + w - w * k ≡ w = omega arith in
    let size : length t ≡ w = length-take-le w (drop (w * k) s) (simp length-drop (omega arith)) in
    ap (λ (n : ℕ). bytes n (number t)) (sym size) ∙ bytes_number t (λ i. rw back at (part_bytes s (w * k) (w * k + w) b i))

pub times_bytes : (e : Edition) (s : List ℕ) → AreBytes s → length s ≡ size e → (f : ℕ → List ℕ) → ((k : ℕ) → k < times_a_week → f k ≡ bytes (width e) (time e s k))
    → concat times_a_week f ≡ take (width e * times_a_week) s
times_bytes e s b long f h =
    concat_same times_a_week f (λ k. take (width e) (drop (width e * k) s)) (λ k l. h k l ∙ time_bytes e s b long k l)
    ∙ concat_parts times_a_week (width e) s

-- ---- a week that can be converted

module _ (e o : Edition) (he : Sound e) (ho : Sound o) (s : List ℕ) (m : ℕ) (right : lowest_day (wrong_day e s) ≡ 0) (even : lowest_day (uneven_day e o s) ≡ 0) where
  within_limit : (k : ℕ) → k < times_a_week → time e s k ≤ limit e
  within_limit = each_time (λ (k : ℕ). time e s k ≤ limit e)
      (λ d l h. let r = day_right e s d (lowest_none (wrong_day e s) days_a_week right d l h) in (r.opens, r.closes))

  even_minutes : (k : ℕ) → k < times_a_week → minute e s k % minutes o ≡ 0
  even_minutes k l = whole_units o (minute e s k) (all_even e o s even k l)

  units_within : (k : ℕ) → k < times_a_week → minute e s k / minutes o ≤ limit o
  units_within k l =
      let most : minutes e * time e s k ≤ minutes e * limit e = mul-le-mul_left (minutes e) (within_limit k l) in
      div-le_of_le-mul (minutes o) (omega (arith, he.day, ho.day))

  time_there : (k : ℕ) → k < times_a_week → time o (in_edition e o s m) k ≡ minute e s k / minutes o
  unfolding time in_edition times_in time_in
  time_there k l =
      let room : width o * k + width o ≤ length (times_in e o s) = omega (arith, length_times e o s, run_within (width o) k times_a_week l) in
      ap number (part_in_front (width o * k) (width o) (times_in e o s) (bytes (mask_size o) m) room
      ∙ concat_at times_a_week (width o) (time_in e o s) (λ i h. length_bytes (width o) (minute e s i / minutes o)) k l)
      ∙ number_bytes (width o) (minute e s k / minutes o) (omega (arith, units_within k l, ho.fits))

  units_there : (k : ℕ) → k < times_a_week → minute o (in_edition e o s m) k ≡ minutes o * (minute e s k / minutes o)
  units_there k l = ap (λ (x : ℕ). (minutes o) * x) (time_there k l)

  pub minute_there : (k : ℕ) → k < times_a_week → minute o (in_edition e o s m) k ≡ minute e s k
  minute_there k l = units_there k l ∙ omega (arith, div-add-mod (minute e s k) (minutes o), even_minutes k l)

  -- two times in order stay in order
  order_there : (i k : ℕ) → i < times_a_week → k < times_a_week → time e s i ≤ time e s k → time o (in_edition e o s m) i ≤ time o (in_edition e o s m) k
  order_there i k l n h =
      let before : minutes e * time e s i ≤ minutes e * time e s k = mul-le-mul_left (minutes e) h in
      le_of_mul-le-mul_left (omega (arith, minute_there i l, minute_there k n)) ho.some

  limit_there : (k : ℕ) → k < times_a_week → time o (in_edition e o s m) k ≤ limit o
  limit_there k l = omega (arith, time_there k l, units_within k l)

  pub right_there : lowest_day (wrong_day o (in_edition e o s m)) ≡ 0
  right_there = lowest_zero (wrong_day o (in_edition e o s m)) days_a_week (λ d l h. right_day o (in_edition e o s m) d (record {
    opens = limit_there (2 * d - 2) (omega arith);
    closes = limit_there (2 * d - 1) (omega arith);
    order = order_there (2 * d - 2) (2 * d - 1) (omega arith) (omega arith) (day_right e s d (lowest_none (wrong_day e s) days_a_week right d l h)).order;
  }))

  pub all_even_there : lowest_day (uneven_day o e (in_edition e o s m)) ≡ 0
  all_even_there = no_uneven o e (in_edition e o s m) (λ k l. ap (λ (x : ℕ). x % minutes e) (minute_there k l) ∙ mul-mod_right (minutes e) (time e s k))

  -- time k, brought back
  time_back : (k : ℕ) → k < times_a_week → time_in o e (in_edition e o s m) k ≡ bytes (width e) (time e s k)
  unfolding time_in
  time_back k l = ap (λ (x : ℕ). bytes (width e) (x / minutes e)) (minute_there k l) ∙ ap (bytes (width e)) (mul-div_right (time e s k) he.some)

  pub bytes_back : AreBytes s → length s ≡ size e → mask_size e ≡ 0 → (m' : ℕ) → in_edition o e (in_edition e o s m) m' ≡ s
  unfolding in_edition times_in size
  bytes_back b long none m' =
      let times : List ℕ = times_in o e (in_edition e o s m) in
      ap (λ (n : ℕ). times ++ bytes n m') none
      ∙ append-nil times
      ∙ times_bytes e s b long (time_in o e (in_edition e o s m)) time_back
      ∙ take_all (width e * times_a_week) s (omega arith)
