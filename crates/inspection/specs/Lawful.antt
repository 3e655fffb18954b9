-- Lawful, page by page: each page fits those below it (a consistent log; docs/STORE.md, Words).
use Rattle.std.specs.Prelude.{List, [], ◌∷◌, Bool, true, false, cond, ◌&&◌, ℕ, suc, length, eqb, ltb}
use Rattle.std.proofs.Math.Option.{Option, some, none}
use Rattle.recovery.specs.Log.{Image, Entry, blank, torn, bad, opening, image, outcome, Placed, is_undecided, fate_of, effective_of, versions_of, current_of, token_of, place_of, start_of}

-- a file's versions, the newest one and the token, by the log's own outcomes
abbrev pub versions : List Entry → ℕ → List Placed
versions l f = versions_of (fate_of l) (effective_of l f)

abbrev pub current : List Entry → ℕ → Option Placed
current l f = current_of (fate_of l) (effective_of l f)

abbrev pub token : List Entry → ℕ → Option Placed
token l f = token_of (fate_of l) (effective_of l f)

-- a file without a token, or with one of this action
abbrev pub is_free_for : ℕ → Option Placed → Bool
is_free_for a none = true
is_free_for a (some x) = eqb x.image.action a

-- an image's action has no outcome yet, its file has no token of another action, its link is the newest version, and its start is above
-- that one's
abbrev pub image_fits : Image → List Entry → Bool
image_fits i l =
    is_undecided (fate_of l i.action)
    && is_free_for i.action (token l i.file)
    && eqb i.link (place_of (current l i.file))
    && ltb (start_of (current l i.file)) i.start

-- a page fits the log below it; a blank one there and a bad one never do
abbrev pub fits_below : Entry → List Entry → Bool
fits_below blank l = false
fits_below torn l = true
fits_below bad l = false
fits_below (opening k) l = true
fits_below (image i) l = image_fits i l
fits_below (outcome a c) l = is_undecided (fate_of l a)

unfoldable pub lawful : List Entry → Bool
lawful [] = true
lawful (g ∷ l) = fits_below g l && lawful l

-- the lowest place that is bad or does not fit, 0 if there is none
unfoldable pub lowest_unlawful : List Entry → ℕ
lowest_unlawful [] = 0
lowest_unlawful (g ∷ l) = cond (eqb (lowest_unlawful l) 0) (cond (fits_below g l) 0 (suc (length l))) (lowest_unlawful l)
