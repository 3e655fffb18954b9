-- What the log of a fresh sheet says: its one outcome, each file's one version, no token, and that its opening alone is carried.
-- Assumes nothing.
use Prim.Native.Nat.{ℕ, zero, suc, ◌≤◌}
use mathlib.Core.Path.{◌≡◌, refl, sym, ap, ◌∙◌}
use mathlib.Core.Bool.{Bool, true, false, cond}
use mathlib.Core.List.{List, [], ◌∷◌}
use mathlib.Core.Option.{Option, some, none}
use native.Mathlib.Omega.{arith}
use lib.ListN.{length}
use lib.Dec.{eqb, leb}
use borrow.Author.Tests.{ne_eqb, eqb-true, leb-true, leb-false, le-leb}
use Rattle.recovery.specs.Log.{Image, Entry, opening, image, outcome, Fate, committed, Placed, fate_of, outcome_of, images_of, not_by, effective, versions_of, token_of}
use Rattle.recovery.specs.World.{World, is_carried, is_file}
use Rattle.recovery.proofs.Spots.{entry_in}
use Rattle.inspection.specs.Lawful.{versions, token}
use Rattle.moving.specs.Moved.{version_of, carried}
use Rattle.moving.proofs.FreshLog.{topped, log_to, move_log, count_to, log_long, move_fate, Carries, placed_by, none_above, none_zero, one_image}

-- ---- the outcome

log_outcome : (w : World) (k a : ℕ) → outcome_of (log_to w k) a ≡ 0
unfolding log_to outcome_of
log_outcome w zero a = refl
log_outcome w (suc k) a = go (version_of w (suc k)) (log_outcome w k a)
  where
    go : (v : Option Image) → outcome_of (log_to w k) a ≡ 0 → outcome_of (topped v (log_to w k)) a ≡ 0
    go none h = h
    go (some i) h = h

-- action 1 has the outcome on top, and no other action has one
pub move_outcome : (w : World) (k a : ℕ) → outcome_of (move_log w k) a ≡ cond (eqb a 1) (length (move_log w k)) 0
unfolding outcome_of
move_outcome w k a = ap (cond (eqb a 1) (suc (length (log_to w k)))) (log_outcome w k a)

-- ---- a file that has one image, of action 1

one_effective : (p : ℕ) (v : Option Image) → effective (placed_by p v) ≡ placed_by p v
unfolding not_by effective
one_effective p none = refl
one_effective p (some i) = refl

one_version : (φ : ℕ → Fate) (p : ℕ) (v : Option Image) → φ 1 ≡ committed → versions_of φ (placed_by p v) ≡ placed_by p v
unfolding versions_of
one_version φ p none h = refl
one_version φ p (some i) h = rw h

no_token : (φ : ℕ → Fate) (p : ℕ) (v : Option Image) → φ 1 ≡ committed → token_of φ (placed_by p v) ≡ none
unfolding token_of
no_token φ p none h = refl
no_token φ p (some i) h = rw h

module _ (w : World) (k : ℕ) (c : Carries w k) where
  abbrev fate : ℕ → Fate
  fate = fate_of (move_log w k)

  decided : fate 1 ≡ committed
  decided = move_fate w k 1

  -- the image of a file, none of a number that is no file's
  abbrev only : Bool → ℕ → Option Image
  only true f = version_of w f
  only false f = none

  images_are : (f : ℕ) → images_of (move_log w k) f ≡ placed_by (suc (count_to w f)) (only (is_file k f) f)
  unfolding images_of
  images_are zero = none_zero w k c
  images_are (suc g) = go (leb (suc g) k) refl
    where
      go : (b : Bool) → leb (suc g) k ≡ b → images_of (log_to w k) (suc g) ≡ placed_by (suc (count_to w (suc g))) (only (is_file k (suc g)) (suc g))
      go true e = rw (le-leb 1 (suc g) (omega arith), e) (one_image w k (suc g) c (omega arith) (leb-true (suc g) k e))
      go false e = rw (le-leb 1 (suc g) (omega arith), e) (none_above w k (suc g) c (leb-false (suc g) k e))

  versions_are : (f : ℕ) → versions (move_log w k) f ≡ placed_by (suc (count_to w f)) (only (is_file k f) f)
  versions_are f =
      ap (λ (xs : List Placed). versions_of fate (effective xs)) (images_are f)
      ∙ ap (versions_of fate) (one_effective (suc (count_to w f)) (only (is_file k f) f))
      ∙ one_version fate (suc (count_to w f)) (only (is_file k f) f) decided

  -- each file has its carried version alone, at its place
  pub move_versions : (f : ℕ) → is_file k f ≡ true → versions (move_log w k) f ≡ placed_by (suc (count_to w f)) (version_of w f)
  move_versions f h = versions_are f ∙ rw h

  pub move_unversioned : (f : ℕ) → is_file k f ≡ false → versions (move_log w k) f ≡ []
  move_unversioned f h = versions_are f ∙ rw h

  pub move_token : (f : ℕ) → token (move_log w k) f ≡ none
  move_token f =
      ap (λ (xs : List Placed). token_of fate (effective xs)) (images_are f)
      ∙ ap (token_of fate) (one_effective (suc (count_to w f)) (only (is_file k f) f))
      ∙ no_token fate (suc (count_to w f)) (only (is_file k f) f) decided

-- ---- carried

not_carried : (g : Entry) (l : List Entry) → is_carried g ≡ false → 1 ≤ length l → (p : ℕ) → is_carried (entry_in l p) ≡ eqb p 1 → is_carried (entry_in (g ∷ l) p) ≡ eqb p 1
not_carried g l h n p r = go (eqb p (suc (length l))) refl
  where
    go : (b : Bool) → eqb p (suc (length l)) ≡ b → is_carried (cond b g (entry_in l p)) ≡ eqb p 1
    go true e = h ∙ sym (ne_eqb p 1 (λ z. omega (arith, eqb-true p (suc (length l)) e)))
    go false e = r

log_carried : (w : World) (k p : ℕ) → is_carried (entry_in (log_to w k) p) ≡ eqb p 1
unfolding log_to
log_carried w zero p = go (eqb p 1) refl
  where
    go : (b : Bool) → eqb p 1 ≡ b → is_carried (entry_in (opening true ∷ []) p) ≡ eqb p 1
    go true e = rw e
    go false e = rw e
log_carried w (suc k) p = go (version_of w (suc k)) (log_carried w k p)
  where
    go : (v : Option Image) → is_carried (entry_in (log_to w k) p) ≡ eqb p 1 → is_carried (entry_in (topped v (log_to w k)) p) ≡ eqb p 1
    go none r = r
    go (some i) r = not_carried (image (carried i)) (log_to w k) refl (omega (arith, log_long w k)) p r

-- of its pages that at place 1 alone is a carried opening
pub move_carried : (w : World) (k p : ℕ) → is_carried (entry_in (move_log w k) p) ≡ eqb p 1
move_carried w k p = not_carried (outcome 1 true) (log_to w k) refl (omega (arith, log_long w k)) p (log_carried w k p)
