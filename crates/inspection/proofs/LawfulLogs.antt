-- What is true of a lawful log: a fate that is decided stays, a known action is the place of an opening, and of a file's effective
-- images all but the newest are decided. Assumes nothing.
use Prim.Native.Nat.{ℕ, zero, suc, ◌≤◌}
use mathlib.Core.Path.{◌≡◌, refl, ap, sym, subst, ◌∙◌}
use mathlib.Core.List.{List, [], ◌∷◌}
use mathlib.Core.Bool.{Bool, true, false, cond, false≢true}
use native.Mathlib.Omega.{arith}
use lib.ListN.{length}
use lib.Dec.{eqb}
use borrow.Author.Tests.{eqb-true}
use Rattle.encoding.proofs.Logic.{and_true, by_test}
use Rattle.recovery.specs.Log.{Image, Entry, blank, torn, bad, opening, image, outcome, Fate, unknown, undecided, committed, aborted, Placed, fate_of, images_of, not_by, effective, effective_of, token_step, token_of}
use Rattle.recovery.specs.Sheet.{is_opening}
use Rattle.recovery.specs.World.{fate_number}
use Rattle.recovery.proofs.Spots.{entry_in, entry_cons, entry_top}
use Rattle.recovery.proofs.Effective.{each_not_by}
use Rattle.recovery.proofs.LogFates.{undecided_is, undecided_known, verdict_known, All, rest, all_keeps}
use Rattle.inspection.specs.Lawful.{token, is_free_for, image_fits, fits_below, lawful}
use Rattle.inspection.proofs.LowestUnlawful.{lawful_parts}

-- ---- fates

-- how a page that fits moves the fate of an action to y
data Moves (g : Entry) (l : List Entry) (a : ℕ) (y : Fate) : Type 0 where
  same : y ≡ fate_of l a → Moves g l a y
  opens : a ≡ suc (length l) → is_opening g ≡ true → Moves g l a y
  decides : fate_of l a ≡ undecided → 1 ≤ fate_number y → Moves g l a y

moves : (g : Entry) (l : List Entry) (a : ℕ) → fits_below g l ≡ true → Moves g l a (fate_of (g ∷ l) a)
unfolding fate_of
moves blank l a h = same refl
moves torn l a h = same refl
moves bad l a h = same refl
moves (opening k) l a h = by_test (Moves (opening k) l a) (eqb a (suc (length l))) (λ e. opens (eqb-true a (suc (length l)) e) refl) (λ e. same refl)
moves (image i) l a h = same refl
moves (outcome b c) l a h = by_test (Moves (outcome b c) l a) (eqb a b)
    (λ e. decides (ap (fate_of l) (eqb-true a b e) ∙ undecided_is (fate_of l b) h) (verdict_known c))
    (λ e. same refl)

none_known : (a : ℕ) → 1 ≤ fate_number (fate_of [] a) → ⊥
unfolding fate_of
none_known a h = omega arith

-- an action that has a fate stands in the log
pub fate_place : (l : List Entry) (a : ℕ) → lawful l ≡ true → 1 ≤ fate_number (fate_of l a) → (1 ≤ a) × (a ≤ length l)
fate_place [] a w h = absurd (none_known a h)
fate_place (g ∷ l) a w h = go (fate_of (g ∷ l) a) h (moves g l a (lawful_parts g l w).0) (fate_place l a (lawful_parts g l w).1)
  where
    go : (y : Fate) → 1 ≤ fate_number y → Moves g l a y → (1 ≤ fate_number (fate_of l a) → (1 ≤ a) × (a ≤ length l)) → (1 ≤ a) × (a ≤ suc (length l))
    go y k (same e) r = let z = r (subst (λ (x : Fate). 1 ≤ fate_number x) e k) in omega arith
    go y k (opens e o) r = omega arith
    go y k (decides e n) r = let z = r (undecided_known e) in omega arith

-- and is the place of an opening
pub fate_opens : (l : List Entry) (a : ℕ) → lawful l ≡ true → 1 ≤ fate_number (fate_of l a) → is_opening (entry_in l a) ≡ true
fate_opens [] a w h = absurd (none_known a h)
fate_opens (g ∷ l) a w h =
    let p = lawful_parts g l w in
    go (fate_of (g ∷ l) a) h (moves g l a p.0) (λ k. ap is_opening (entry_cons g l a (fate_place l a p.1 k).1) ∙ fate_opens l a p.1 k)
  where
    go : (y : Fate) → 1 ≤ fate_number y → Moves g l a y → (1 ≤ fate_number (fate_of l a) → is_opening (entry_in (g ∷ l) a) ≡ true) → is_opening (entry_in (g ∷ l) a) ≡ true
    go y k (same e) r = r (subst (λ (x : Fate). 1 ≤ fate_number x) e k)
    go y k (opens e o) r = ap is_opening (ap (entry_in (g ∷ l)) e ∙ entry_top g l) ∙ o
    go y k (decides e n) r = r (undecided_known e)

-- place 0 is none
pub fate_zero : (l : List Entry) → lawful l ≡ true → fate_number (fate_of l 0) ≡ 0
fate_zero l w = go (fate_number (fate_of l 0)) (fate_place l 0 w)
  where
    go : (y : ℕ) → (1 ≤ y → (1 ≤ 0) × (0 ≤ length l)) → y ≡ 0
    go zero h = refl
    go (suc y) h = absurd (omega (arith, (h (omega arith)).0))

module _ (g : Entry) (l : List Entry) (h : fits_below g l ≡ true) (w : lawful l ≡ true) (a : ℕ) where
  -- what is decided stays, and what is known stays known
  pub fate_keeps : 2 ≤ fate_number (fate_of l a) → fate_of (g ∷ l) a ≡ fate_of l a
  fate_keeps d = go (fate_of (g ∷ l) a) (moves g l a h) (fate_place l a w)
    where
      go : (y : Fate) → Moves g l a y → (1 ≤ fate_number (fate_of l a) → (1 ≤ a) × (a ≤ length l)) → y ≡ fate_of l a
      go y (same e) r = e
      go y (opens e o) r = let z = r (omega arith) in absurd (omega arith)
      go y (decides e n) r = let z : fate_number (fate_of l a) ≡ 1 = ap fate_number e in absurd (omega arith)

  fate_knows : 1 ≤ fate_number (fate_of l a) → 1 ≤ fate_number (fate_of (g ∷ l) a)
  fate_knows d = go (fate_of (g ∷ l) a) (moves g l a h) (fate_place l a w)
    where
      go : (y : Fate) → Moves g l a y → (1 ≤ fate_number (fate_of l a) → (1 ≤ a) × (a ≤ length l)) → 1 ≤ fate_number y
      go y (same e) r = subst (λ (x : Fate). 1 ≤ fate_number x) (sym e) d
      go y (opens e o) r = let z = r (omega arith) in absurd (omega arith)
      go y (decides e n) r = n

-- ---- the effective images of a file

-- all are known, and all but the newest decided
pub record Good (φ : ℕ → Fate) (xs : List Placed) : Type 0 where
  pub known : All 1 φ xs
  pub decided : All 2 φ (rest xs)

-- then, without a token of another action, those of all other actions are decided
pub others_decided : (φ : ℕ → Fate) (a : ℕ) (xs : List Placed) → Good φ xs → is_free_for a (token_of φ xs) ≡ true → All 2 φ (not_by a xs)
unfolding not_by token_of
others_decided φ a [] h e = tt
others_decided φ a (x ∷ xs) h e = go (eqb x.image.action a) refl (φ x.image.action) refl h.known.0 e
  where
    below : All 2 φ (not_by a xs)
    below = each_not_by (λ y. 2 ≤ fate_number (φ y.image.action)) a xs h.decided

    go : (b : Bool) → eqb x.image.action a ≡ b → (y : Fate) → φ x.image.action ≡ y → 1 ≤ fate_number y → is_free_for a (token_step y x (token_of φ xs)) ≡ true
        → All 2 φ (cond b (not_by a xs) (x ∷ not_by a xs))
    go true q y k n e = below
    go false q unknown k n e = absurd (omega arith)
    go false q undecided k n e = absurd (false≢true (sym q ∙ e))
    go false q committed k n e = (omega (arith, ap fate_number k), below)
    go false q aborted k n e = (omega (arith, ap fate_number k), below)

-- the parts of what an image needs to fit
record ImageFits (i : Image) (l : List Entry) : Type 0 where
  pub live : fate_of l i.action ≡ undecided
  pub free : is_free_for i.action (token l i.file) ≡ true

image_fits_lem : (i : Image) (l : List Entry) → image_fits i l ≡ true → ImageFits i l
image_fits_lem i l h =
    let a = and_true _ _ h in
    let b = and_true _ _ a.0 in
    let c = and_true _ _ b.0 in
    record { live = undecided_is (fate_of l i.action) c.0; free = c.1 }

good_same : (g : Entry) (l : List Entry) (f : ℕ) → fits_below g l ≡ true → lawful l ≡ true → Good (fate_of l) (effective_of l f) → Good (fate_of (g ∷ l)) (effective_of l f)
good_same g l f h w r = record {
  known = all_keeps 1 (fate_of l) (fate_of (g ∷ l)) (fate_knows g l h w) (effective_of l f) r.known;
  decided = all_keeps 2 (fate_of l) (fate_of (g ∷ l))
      (λ a d. subst (λ (x : Fate). 2 ≤ fate_number x) (sym (fate_keeps g l h w a d)) d)
      (rest (effective_of l f))
      r.decided;
}

good_image : (i : Image) (l : List Entry) (f : ℕ) → image_fits i l ≡ true → i.file ≡ f → Good (fate_of l) (effective_of l f)
    → Good (fate_of l) (record { place = suc (length l); image = i } ∷ not_by i.action (effective_of l f))
good_image i l f h e r =
    let k = image_fits_lem i l h in
    record {
      known = (undecided_known k.live, each_not_by (λ y. 1 ≤ fate_number (fate_of l y.image.action)) i.action (effective_of l f) r.known);
      decided = others_decided (fate_of l) i.action (effective_of l f) r (subst (λ (y : ℕ). is_free_for i.action (token l y) ≡ true) e k.free);
    }

good_none : (f : ℕ) → Good (fate_of []) (effective_of [] f)
unfolding images_of effective
good_none f = record { known = tt; decided = tt }

good_more : (g : Entry) (l : List Entry) (f : ℕ) → fits_below g l ≡ true → lawful l ≡ true → Good (fate_of l) (effective_of l f) → Good (fate_of (g ∷ l)) (effective_of (g ∷ l) f)
unfolding fate_of images_of effective
good_more blank l f h w r = r
good_more torn l f h w r = r
good_more bad l f h w r = r
good_more (opening k) l f h w r = good_same (opening k) l f refl w r
good_more (image i) l f h w r = by_test (λ xs. Good (fate_of l) (effective xs)) (eqb i.file f) (λ e. good_image i l f h (eqb-true i.file f e) r) (λ e. r)
good_more (outcome b c) l f h w r = good_same (outcome b c) l f h w r

pub good : (l : List Entry) (f : ℕ) → lawful l ≡ true → Good (fate_of l) (effective_of l f)
good [] f w = good_none f
good (g ∷ l) f w =
    let p = lawful_parts g l w in
    good_more g l f p.0 p.1 (good l f p.1)
