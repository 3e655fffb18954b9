-- Following links from an image down to the first whose start is not above a time.
use Rattle.std.specs.Prelude.{List, [], ◌∷◌, Bool, true, false, cond, ◌||◌, ℕ, pred, eqb, leb}
use Rattle.recovery.specs.Log.{Entry, Placed, images_of}
use Rattle.recovery.specs.World.{down}

-- what following links comes to: an image, none, none here (a carried image was passed, so that what came before it lies on another
-- sheet), or a link that leads to no sealed image of the file, with the place of its page
pub data Walk : Type 0 where
  met : Placed → Walk
  nothing early : Walk
  lost : ℕ → Walk

-- at link 0, by whether a carried image was passed
abbrev pub none_below : Bool → Walk
none_below false = nothing
none_below true = early

-- a file's images below a place, the newest first
abbrev pub images_below : List Entry → ℕ → ℕ → List Placed
images_below sheet place f = images_of (down sheet (pred place)) f

-- from an image down the links, among the file's images below it: those that the link does not name are passed over; link 0 is none.
-- Of an image that starts above the time it is kept whether its action is carried
unfoldable pub follow : (ℕ → Bool) → ℕ → Bool → Placed → List Placed → Walk
follow carried time b x [] =
    cond (leb x.image.start time) (met x) (cond (eqb x.image.link 0) (none_below (b || carried x.image.action)) (lost x.place))
follow carried time b x (y ∷ below) =
    cond (leb x.image.start time) (met x)
    (cond (eqb x.image.link y.place) (follow carried time (b || carried x.image.action) y below) (follow carried time b x below))
