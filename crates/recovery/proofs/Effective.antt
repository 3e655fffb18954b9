-- A file's effective images: what holds of each image holds of them; without the images of an action that is not committed the versions
-- are the same, and if it is not undecided either, so is the token. Assumes nothing.
use Prim.Native.Nat.{ℕ}
use mathlib.Core.Path.{◌≡◌, refl, sym, ap, ◌∙◌}
use mathlib.Core.List.{List, [], ◌∷◌}
use mathlib.Core.Bool.{Bool, true, false, cond}
use mathlib.Core.Option.{Option}
use lib.Dec.{eqb}
use borrow.Author.Tests.{eqb-true}
use Rattle.recovery.specs.Log.{Fate, unknown, undecided, committed, aborted, Placed, not_by, effective, versions_step, versions_of, token_step, token_of}

-- ---- what holds of each image

abbrev pub Each : (Placed → Type 0) → List Placed → Type 0
Each P [] = Unit {0}
Each P (x ∷ xs) = P x × Each P xs

module _ (P : Placed → Type 0) where
  pub each_not_by : (a : ℕ) (xs : List Placed) → Each P xs → Each P (not_by a xs)
  unfolding not_by
  each_not_by a [] h = tt
  each_not_by a (x ∷ xs) h = go (eqb x.image.action a) (each_not_by a xs h.1)
    where
      go : (b : Bool) → Each P (not_by a xs) → Each P (cond b (not_by a xs) (x ∷ not_by a xs))
      go true r = r
      go false r = (h.0, r)

  pub each_effective : (xs : List Placed) → Each P xs → Each P (effective xs)
  unfolding effective
  each_effective [] h = tt
  each_effective (x ∷ xs) h = (h.0, each_not_by x.image.action (effective xs) (each_effective xs h.1))

  pub each_version : (φ : ℕ → Fate) (xs : List Placed) → Each P xs → Each P (versions_of φ xs)
  unfolding versions_of
  each_version φ [] h = tt
  each_version φ (x ∷ xs) h = go (φ x.image.action) (each_version φ xs h.1)
    where
      go : (q : Fate) → Each P (versions_of φ xs) → Each P (versions_step q x (versions_of φ xs))
      go unknown r = r
      go undecided r = r
      go committed r = (h.0, r)
      go aborted r = r

-- ---- anything worked out image by image to which the images of an action add nothing

module _ {A : Type 0} (of : List Placed → A) (step : Placed → A → A) (cons : (x : Placed) (xs : List Placed) → of (x ∷ xs) ≡ step x (of xs)) (a : ℕ)
    (idle : (x : Placed) (r : A) → x.image.action ≡ a → step x r ≡ r) where
  without : (xs : List Placed) → of (not_by a xs) ≡ of xs
  unfolding not_by
  without [] = refl
  without (x ∷ xs) = go (eqb x.image.action a) refl (without xs)
    where
      go : (b : Bool) → eqb x.image.action a ≡ b → of (not_by a xs) ≡ of xs → of (cond b (not_by a xs) (x ∷ not_by a xs)) ≡ of (x ∷ xs)
      go true e r = r ∙ sym (cons x xs ∙ idle x (of xs) (eqb-true x.image.action a e))
      go false e r = cons x (not_by a xs) ∙ ap (step x) r ∙ sym (cons x xs)

module _ (φ : ℕ → Fate) (a : ℕ) (h : φ a ≡ committed → ⊥) where
  -- the versions, if the action is not committed
  pub versions_not_by : (xs : List Placed) → versions_of φ (not_by a xs) ≡ versions_of φ xs
  unfolding versions_of
  versions_not_by = without (versions_of φ) (λ x. versions_step (φ x.image.action) x) (λ x xs. refl) a (λ x vs e. go (φ x.image.action) (λ k. h (ap φ (sym e) ∙ k)) x vs)
    where
      go : (q : Fate) → (q ≡ committed → ⊥) → (x : Placed) (vs : List Placed) → versions_step q x vs ≡ vs
      go unknown k x vs = refl
      go undecided k x vs = refl
      go committed k x vs = absurd (k refl)
      go aborted k x vs = refl

  -- and the token, if it is not undecided either
  pub token_not_by : (φ a ≡ undecided → ⊥) → (xs : List Placed) → token_of φ (not_by a xs) ≡ token_of φ xs
  unfolding token_of
  token_not_by u = without (token_of φ) (λ x. token_step (φ x.image.action) x) (λ x xs. refl) a (λ x r e. go (φ x.image.action) (λ k. h (ap φ (sym e) ∙ k)) (λ k. u (ap φ (sym e) ∙ k)) x r)
    where
      go : (q : Fate) → (q ≡ committed → ⊥) → (q ≡ undecided → ⊥) → (x : Placed) (r : Option Placed) → token_step q x r ≡ r
      go unknown k n x r = refl
      go undecided k n x r = absurd (n refl)
      go committed k n x r = absurd (k refl)
      go aborted k n x r = refl
