-- How many links lead from one image to another.
use Rattle.std.specs.Prelude.{◌≡◌, ℕ, suc}
use Rattle.recovery.specs.Log.{Image, Entry, image, Placed}

-- so many links lead from an image to another, each to a sealed image
pub data Links (entry : ℕ → Entry) : Placed → ℕ → Placed → Type 0 where
  here : {x : Placed} → Links entry x 0 x
  on : {x y : Placed} {n : ℕ} (j : Image) → entry x.image.link ≡ image j → Links entry (record { place = x.image.link; image = j }) n y → Links entry x (suc n) y
