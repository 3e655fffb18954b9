-- Where the images of a log lie: the page at a place, a file's images, its current version and its token.
use mathlib.Core.Path.{◌≡◌, refl, ◌∙◌}
use mathlib.Core.List.{List, [], ◌∷◌, head?}
use mathlib.Core.Bool.{cond}
use mathlib.Core.Option.{Option, some, none}
use Prim.Native.Nat.{ℕ, zero, suc, ◌≤◌}
use native.Mathlib.Omega.{arith}
use lib.ListN.{length}
use lib.Dec.{eqb}
use borrow.Author.Tests.{eqb-true, eqb-false, eq-eqb, ne_eqb}
use Rattle.encoding.proofs.Logic.{by_test}
use Rattle.recovery.specs.Places.{nth}
use Rattle.recovery.specs.Log.{Entry, blank, torn, bad, opening, image, outcome, Fate, unknown, undecided, committed, aborted, Placed, images_of, effective_of, token_step, versions_of, current_of, token_of}
use Rattle.recovery.specs.World.{down}
use Rattle.recovery.proofs.Pages.{length_down}
use Rattle.recovery.proofs.Effective.{Each, each_effective, each_version}

-- the page at a place
abbrev pub entry_in : List Entry → ℕ → Entry
entry_in [] p = blank
entry_in (g ∷ l) p = cond (eqb p (suc (length l))) g (entry_in l p)

pub entry_cons : (g : Entry) (l : List Entry) (p : ℕ) → p ≤ length l → entry_in (g ∷ l) p ≡ entry_in l p
entry_cons g l p h = rw (ne_eqb p (suc (length l)) (λ e. omega arith))

pub entry_top : (g : Entry) (l : List Entry) → entry_in (g ∷ l) (suc (length l)) ≡ g
entry_top g l = rw (eq-eqb (suc (length l)) (suc (length l)) refl)

-- the pages of a sheet from a place downward
pub entry_down : (s : List Entry) (e p : ℕ) → p ≤ e → entry_in (down s e) p ≡ nth blank s p
unfolding down
entry_down s zero zero h = refl
entry_down s zero (suc p) h = absurd (omega arith)
entry_down s (suc e) p h =
    rw (length_down s e)
    (by_test (λ (x : Entry). x ≡ nth blank s p) (eqb p (suc e)) (λ q. rw (eqb-true p (suc e) q)) (λ q. entry_down s e p (omega (arith, eqb-false p (suc e) q))))

-- where a file's images lie
pub record Spot (l : List Entry) (f : ℕ) (x : Placed) : Type 0 where
  pub here : entry_in l x.place ≡ image x.image
  pub mine : x.image.file ≡ f
  pub low : 1 ≤ x.place
  pub high : x.place ≤ length l

abbrev pub Spots : List Entry → ℕ → List Placed → Type 0
Spots l f = Each (Spot l f)

spots_cons : (g : Entry) (l : List Entry) (f : ℕ) (xs : List Placed) → Spots l f xs → Spots (g ∷ l) f xs
spots_cons g l f [] h = tt
spots_cons g l f (x ∷ xs) h = (
  record {
    here = entry_cons g l x.place h.0.high ∙ h.0.here;
    mine = h.0.mine;
    low = h.0.low;
    high = omega arith;
  },
  spots_cons g l f xs h.1,
)

pub image_spots : (l : List Entry) (f : ℕ) → Spots l f (images_of l f)
unfolding images_of
image_spots [] f = tt
image_spots (blank ∷ l) f = spots_cons blank l f (images_of l f) (image_spots l f)
image_spots (torn ∷ l) f = spots_cons torn l f (images_of l f) (image_spots l f)
image_spots (bad ∷ l) f = spots_cons bad l f (images_of l f) (image_spots l f)
image_spots (opening k ∷ l) f = spots_cons (opening k) l f (images_of l f) (image_spots l f)
image_spots (outcome b c ∷ l) f = spots_cons (outcome b c) l f (images_of l f) (image_spots l f)
image_spots (image i ∷ l) f = by_test (Spots (image i ∷ l) f) (eqb i.file f)
    (λ e. (
      record { here = entry_top (image i) l; mine = eqb-true i.file f e; low = omega arith; high = omega arith },
      spots_cons (image i) l f (images_of l f) (image_spots l f),
    ))
    (λ e. spots_cons (image i) l f (images_of l f) (image_spots l f))

-- and its effective ones
pub spots : (l : List Entry) (f : ℕ) → Spots l f (effective_of l f)
spots l f = each_effective (Spot l f) (images_of l f) (image_spots l f)

-- the pages of a history
abbrev pub Lies : List Entry → ℕ → Option Placed → Type 0
Lies l f none = Unit {0}
Lies l f (some x) = Spot l f x

first_lies : (l : List Entry) (f : ℕ) (xs : List Placed) → Spots l f xs → Lies l f (head? xs)
first_lies l f [] h = tt
first_lies l f (x ∷ xs) h = h.0

pub current_of_lies : (l : List Entry) (f : ℕ) (φ : ℕ → Fate) (xs : List Placed) → Spots l f xs → Lies l f (current_of φ xs)
current_of_lies l f φ xs h = first_lies l f (versions_of φ xs) (each_version (Spot l f) φ xs h)

pub token_of_lies : (l : List Entry) (f : ℕ) (φ : ℕ → Fate) (xs : List Placed) → Spots l f xs → Lies l f (token_of φ xs)
unfolding token_of
token_of_lies l f φ [] h = tt
token_of_lies l f φ (x ∷ xs) h = go (φ x.image.action) (token_of_lies l f φ xs h.1)
  where
    go : (q : Fate) → Lies l f (token_of φ xs) → Lies l f (token_step q x (token_of φ xs))
    go unknown r = r
    go undecided r = h.0
    go committed r = tt
    go aborted r = r
