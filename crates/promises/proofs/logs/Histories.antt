-- A file's versions, and what is found among them, as the object model has them.
use Prim.Native.Nat.{ℕ}
use mathlib.Core.Path.{◌≡◌, refl}
use mathlib.Core.List.{List, [], ◌∷◌, map, head?}
use mathlib.Core.Bool.{Bool, true, false, cond}
use mathlib.Core.Option.{some}
use lib.Dec.{leb}
use Rattle.recovery.specs.Log.{Placed}
use Rattle.promises.specs.Model.{latest, newest}
use Rattle.promises.specs.FromLog.{version_of, version_in}
use Rattle.promises.proofs.logs.Versions.{latest_of}

pub newest_is : (vs : List Placed) → newest (map version_of vs) ≡ version_in (head? vs)
newest_is [] = refl
newest_is (x ∷ vs) = refl

pub latest_is : (t : ℕ) (vs : List Placed) → latest t (map version_of vs) ≡ version_in (latest_of t vs)
unfolding latest latest_of
latest_is t [] = refl
latest_is t (x ∷ vs) = go (leb x.image.start t) (latest_is t vs)
  where
    go : (b : Bool) → latest t (map version_of vs) ≡ version_in (latest_of t vs)
        → cond b (some (version_of x)) (latest t (map version_of vs)) ≡ version_in (cond b (some x) (latest_of t vs))
    go true r = refl
    go false r = r
