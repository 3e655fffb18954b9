-- The effective images of a file in a lawful log are a chain: all but the newest are decided, and each is linked to the newest version below
-- it, lies above it and starts later.
use mathlib.Core.Path.{◌≡◌, refl, sym}
use mathlib.Core.List.{List, [], ◌∷◌, head?}
use mathlib.Core.Bool.{Bool, true, false, cond}
use mathlib.Core.Option.{Option, some, none, some-ne-none}
use Prim.Native.Nat.{ℕ, suc, ◌≤◌, ◌<◌}
use native.Mathlib.Omega.{arith}
use lib.ListN.{length}
use lib.Dec.{eqb}
use borrow.Author.Tests.{eqb-true}
use Rattle.encoding.proofs.Logic.{by_test, clash}
use Rattle.recovery.specs.Log.{Image, Entry, blank, torn, bad, opening, image, outcome, Fate, unknown, undecided, committed, aborted, Placed, fate_of, images_of, not_by, effective, effective_of, versions_step, token_step, versions_of, current_of, token_of, place_of, start_of}
use Rattle.recovery.specs.World.{fate_number}
use Rattle.recovery.proofs.Effective.{each_not_by, versions_not_by}
use Rattle.recovery.proofs.LogFates.{undecided_known, All, all_keeps, versions_keep}
use Rattle.recovery.proofs.Spots.{Spots, spots, Lies, current_of_lies}
use Rattle.inspection.proofs.LawfulLogs.{others_decided, good}
use Rattle.promises.proofs.logs.Logs.{lawful_test, ImageFits, Fits, Lawful, Known, Keeps, fate_keeps, fate_knows}

-- an image above a file's versions: linked to the newest, above it and starting later
pub record Above (x : Placed) (vs : List Placed) : Type 0 where
  pub links : x.image.link ≡ place_of (head? vs)
  pub higher : place_of (head? vs) < x.place
  pub later : start_of (head? vs) < x.image.start

-- the versions of a file, each above the next
abbrev pub Ordered : List Placed → Type 0
Ordered [] = Unit {0}
Ordered (x ∷ vs) = Above x vs × Ordered vs

-- its effective images: each is known and above the versions below it, and those below it are decided
abbrev pub Chain : (ℕ → Fate) → List Placed → Type 0
Chain φ [] = Unit {0}
Chain φ (x ∷ xs) = Known (φ x.image.action) × Above x (versions_of φ xs) × All 2 φ xs × Chain φ xs

pub versions_ordered : (φ : ℕ → Fate) (xs : List Placed) → Chain φ xs → Ordered (versions_of φ xs)
unfolding versions_of
versions_ordered φ [] h = tt
versions_ordered φ (x ∷ xs) h = go (φ x.image.action) (versions_ordered φ xs h.3)
  where
    go : (y : Fate) → Ordered (versions_of φ xs) → Ordered (versions_step y x (versions_of φ xs))
    go unknown r = r
    go undecided r = r
    go committed r = (h.1, r)
    go aborted r = r

module _ (φ ψ : ℕ → Fate) (k : Keeps φ ψ) where
  pub decided_keeps : (xs : List Placed) → All 2 φ xs → All 2 ψ xs
  decided_keeps xs h = all_keeps 2 φ ψ (λ a d. rw (k a d) d) xs h

  pub token_keeps : (xs : List Placed) → All 2 φ xs → token_of ψ xs ≡ token_of φ xs
  unfolding token_of
  token_keeps [] h = refl
  token_keeps (x ∷ xs) h = rw (k x.image.action h.0, token_keeps xs h.1)

chain_keeps : (φ ψ : ℕ → Fate) → Keeps φ ψ → ((a : ℕ) → Known (φ a) → Known (ψ a)) → (xs : List Placed) → Chain φ xs → Chain ψ xs
chain_keeps φ ψ k n [] h = tt
chain_keeps φ ψ k n (x ∷ xs) h =
    (n x.image.action h.0, rw (versions_keep φ ψ k xs h.2) h.1, decided_keeps φ ψ k xs h.2, chain_keeps φ ψ k n xs h.3)

low_place : (l : List Entry) (f : ℕ) (z : Option Placed) → Lies l f z → place_of z ≤ length l
low_place l f none h = omega arith
low_place l f (some x) h = h.high

pub current_high : (φ : ℕ → Fate) (l : List Entry) (f : ℕ) (xs : List Placed) → Spots l f xs → place_of (current_of φ xs) ≤ length l
current_high φ l f xs h = low_place l f (current_of φ xs) (current_of_lies l f φ xs h)

chain_same : (g : Entry) (l : List Entry) (f : ℕ) → Fits g l → Lawful l → Chain (fate_of l) (effective_of l f) → Chain (fate_of (g ∷ l)) (effective_of l f)
chain_same g l f h w = chain_keeps (fate_of l) (fate_of (g ∷ l)) (fate_keeps g l h w) (fate_knows g l) (effective_of l f)

-- without the images of an undecided action, which are no versions, a chain is a chain
module _ (φ : ℕ → Fate) (a : ℕ) (live : φ a ≡ undecided) where
  pub same_versions : (xs : List Placed) → versions_of φ (not_by a xs) ≡ versions_of φ xs
  same_versions xs = versions_not_by φ a (λ e. clash cc) xs

  chain_not_by : (xs : List Placed) → Chain φ xs → Chain φ (not_by a xs)
  unfolding not_by
  chain_not_by [] h = tt
  chain_not_by (x ∷ xs) h = go (eqb x.image.action a) (chain_not_by xs h.3)
    where
      go : (b : Bool) → Chain φ (not_by a xs) → Chain φ (cond b (not_by a xs) (x ∷ not_by a xs))
      go true r = r
      go false r = (h.0, rw (same_versions xs) h.1, each_not_by (λ y. 2 ≤ fate_number (φ y.image.action)) a xs h.2, r)

chain_image : (i : Image) (l : List Entry) (f : ℕ) → ImageFits i l → Lawful l → i.file ≡ f → Chain (fate_of l) (effective_of l f)
    → Chain (fate_of l) (record { place = suc (length l); image = i } ∷ not_by i.action (effective_of l f))
chain_image i l f h w e r =
    let same = same_versions (fate_of l) i.action h.live (effective_of l f) in (
      undecided_known h.live,
      rw same (record {
        links = rw (← e) h.links;
        higher = omega (arith, current_high (fate_of l) l f (effective_of l f) (spots l f));
        later = rw (← e) h.later;
      }),
      others_decided (fate_of l) i.action (effective_of l f) (good l f (lawful_test l w)) (rw (← e) h.free),
      chain_not_by (fate_of l) i.action h.live (effective_of l f) r,
    )

pub chain : (l : List Entry) (f : ℕ) → Lawful l → Chain (fate_of l) (effective_of l f)
unfolding images_of effective fate_of
chain [] f w = tt
chain (blank ∷ l) f w = absurd w.0
chain (torn ∷ l) f w = chain l f w.1
chain (bad ∷ l) f w = absurd w.0
chain (opening k ∷ l) f w = chain_same (opening k) l f tt w.1 (chain l f w.1)
chain (outcome b c ∷ l) f w = chain_same (outcome b c) l f w.0 w.1 (chain l f w.1)
chain (image i ∷ l) f w = by_test (λ xs. Chain (fate_of l) (effective xs)) (eqb i.file f)
    (λ e. chain_image i l f w.0 w.1 (eqb-true i.file f e) (chain l f w.1))
    (λ e. chain l f w.1)

-- a token's action is undecided
pub token_live : (φ : ℕ → Fate) (xs : List Placed) (x : Placed) → token_of φ xs ≡ some x → φ x.image.action ≡ undecided
unfolding token_of
token_live φ [] x e = absurd (some-ne-none _ (sym e))
token_live φ (y ∷ ys) x e = go (φ y.image.action) refl e (token_live φ ys x)
  where
    go : (q : Fate) → φ y.image.action ≡ q → token_step q y (token_of φ ys) ≡ some x → (token_of φ ys ≡ some x → φ x.image.action ≡ undecided)
        → φ x.image.action ≡ undecided
    go unknown p k r = r k
    go undecided p k r = let i : y ≡ x = cc in rw (← i) p
    go committed p k r = absurd (some-ne-none _ (sym k))
    go aborted p k r = r k
