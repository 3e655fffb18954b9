-- What every edition has, and what follows from the length of a week. Assumes nothing.
use Rattle.std.proofs.Common.{Option, Some, None}
use Prim.Native.Nat.{ℕ, ◌+◌, ◌*◌, ◌^◌, ◌≤◌, ◌<◌}
use mathlib.Core.Path.{◌≡◌, refl, ap, subst, ◌∙◌}
use mathlib.Core.Bool.{Bool, true, false, cond}
use mathlib.Core.List.{List, [], ◌∷◌}
use mathlib.Core.Logic.{◌⊎◌, inl, inr, ⊎_elim}
use native.Mathlib.Omega.{arith}
use borrow.Author.Tests.{eqb-true, eqb-false}
use lib.Dec.{eqb}
use Rattle.encoding.proofs.Logic.{clash}
use Rattle.encoding.proofs.Concat.{run_within}
use Rattle.weeks.specs.declared.Edition.{Edition}
use Rattle.weeks.specs.declared.Edition.TheVariants.{First, Second, Third}
use Rattle.weeks.specs.Editions.{times_a_week, editions, size, named_in, named, on_known, on_lengths, width, limit, minutes, mask_size, edition_number}

-- its number is below every refusal's; a time has one byte or two, and the limit fits them; a unit is one minute or 15; the limit is a
-- day's 1,440 minutes; the third alone has a mask
pub record Sound (e : Edition) : Type 0 where
  pub low_number : edition_number e ≤ 14
  pub some_byte : 0 < width e
  pub narrow : width e ≤ 2
  pub fits : limit e < 256 ^ (width e)
  pub some : 0 < minutes e
  pub few : minutes e ≤ 15
  pub unit : (minutes e ≡ 1 → ⊥) → minutes e ≡ 15
  pub day : minutes e * limit e ≡ 1440
  pub masked : (mask_size e ≡ 0) ⊎ (e ≡ Third)

pub sound : (e : Edition) → Sound e
sound First = record { low_number = omega arith; some_byte = omega arith; narrow = omega arith; fits = omega arith; some = omega arith; few = omega arith; unit = λ h. refl; day = refl; masked = inl refl }
sound Second = record { low_number = omega arith; some_byte = omega arith; narrow = omega arith; fits = omega arith; some = omega arith; few = omega arith; unit = λ h. absurd (h refl); day = refl; masked = inl refl }
sound Third = record { low_number = omega arith; some_byte = omega arith; narrow = omega arith; fits = omega arith; some = omega arith; few = omega arith; unit = λ h. absurd (h refl); day = refl; masked = inr refl }

found_in : (es : List Edition) (n : ℕ) (e : Edition) → named_in es n ≡ Some e → n ≡ size e
unfolding named_in
found_in [] n e k = clash cc
found_in (x ∷ es) n e k = go (eqb n (size x)) refl k (found_in es n e)
  where
    go : (b : Bool) → eqb n (size x) ≡ b → cond b (Some x) (named_in es n) ≡ Some e → (named_in es n ≡ Some e → n ≡ size e) → n ≡ size e
    go true t q later = let same : x ≡ e = cc in subst (λ (y : Edition). n ≡ size y) same (eqb-true n (size x) t)
    go false t q later = later q

-- what a length names is an edition whose weeks have that length, and every edition is named by its own
pub length_named : (n : ℕ) {e : Edition} → named n ≡ Some e → n ≡ size e
unfolding named
length_named n {e} k = found_in editions n e k

listed : (e : Edition) → named (size e) ≡ Some e
unfolding size named_in named
listed First = refl
listed Second = refl
listed Third = refl

pub names : (e : Edition) (n : ℕ) → n ≡ size e → named n ≡ Some e
names e n long = ap named long ∙ listed e

-- a time has one byte in the first, and two in the others
pub one_wide : {e : Edition} → e ≡ First → width e ≡ 1
one_wide h = ap width h

pub two_wide : {e : Edition} → (e ≡ Second) ⊎ (e ≡ Third) → width e ≡ 2
two_wide h = ⊎_elim (ap width) (ap width) h

-- time k lies within the week
pub time_within : (e : Edition) (k : ℕ) → k < times_a_week → width e * k + width e ≤ size e
unfolding size
time_within e k l = omega (arith, run_within (width e) k times_a_week l)

-- a mask has two bytes, and lies behind the times
pub two_masked : (e : Edition) → (mask_size e ≡ 0 → ⊥) → mask_size e ≡ 2
two_masked e l = ⊎_elim (λ z. absurd (l z)) (ap mask_size) (sound e).masked

pub mask_within : (e : Edition) {w m : ℕ} → w ≡ width e → m ≡ mask_size e → (m ≡ 0 → ⊥) → w * times_a_week + 2 ≡ size e
unfolding size
mask_within e h i l = omega (arith, h, two_masked e (λ z. l (i ∙ z)))

-- ---- by both lengths

-- what holds of f and g for every two editions, and where there are none, holds of the answers
pub both_lengths : {A : Type 0} (R : A → A → Type 0) (n k : ℕ) (f g : Edition → Edition → A) (d : A) → R d d
    → ((e o : Edition) → named n ≡ Some e → named k ≡ Some o → (n ≡ k → ⊥) → R (f e o) (g e o)) → R (on_lengths n k f d) (on_lengths n k g d)
both_lengths R n k f g d none both = from (named n) refl
  where
    apart : (b : Bool) (e o : Edition) → (b ≡ false → R (f e o) (g e o)) → R (cond b d (f e o)) (cond b d (g e o))
    apart true e o h = none
    apart false e o h = h refl

    to : (e : Edition) → named n ≡ Some e → (x : Option Edition) → named k ≡ x
        → R (on_known x (λ (o : Edition). cond (eqb n k) d (f e o)) d) (on_known x (λ (o : Edition). cond (eqb n k) d (g e o)) d)
    to e i None j = none
    to e i (Some o) j = apart (eqb n k) e o (λ t. both e o i j (eqb-false n k t))

    from : (x : Option Edition) → named n ≡ x
        → R (on_known x (λ (e : Edition). on_known (named k) (λ (o : Edition). cond (eqb n k) d (f e o)) d) d)
        (on_known x (λ (e : Edition). on_known (named k) (λ (o : Edition). cond (eqb n k) d (g e o)) d) d)
    from None i = none
    from (Some e) i = to e i (named k) refl

-- the same of one answer
pub by_lengths : {A : Type 0} (P : A → Type 0) (n k : ℕ) {f : Edition → Edition → A} {d : A} → P d
    → ((e o : Edition) → named n ≡ Some e → named k ≡ Some o → (n ≡ k → ⊥) → P (f e o)) → P (on_lengths n k f d)
by_lengths P n k {f} {d} none both = both_lengths (λ x y. P x) n k f f d none both
