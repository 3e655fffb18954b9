-- A move that is made, so that the laws of a made move speak of something: two files, the first with two versions, of which the newest is
-- carried, the second with none, but read up to 25. Assumes nothing.
use mathlib.Core.Path.{◌≡◌, refl}
use mathlib.Core.Bool.{true, false}
use mathlib.Core.List.{[], ◌∷◌}
use Rattle.recovery.specs.Places.{tabulate}
use Rattle.recovery.specs.Log.{Image, blank, opening, image, outcome, images_of, not_by, effective, versions_of, token_of}
use Rattle.recovery.specs.declared.Answer.TheVariants.{Moved}
use Rattle.recovery.specs.World.{World, cold, down, end_of, warm_row, row_holds, lent_right}
use Rattle.encoding.specs.Lowest.{lowest}
use Rattle.moving.specs.Moved.{warm_rows, versions_to, move_pages, highest_end, moved}

-- the value 7 of file 1, started at 10 under action 1
abbrev first : Image
first = record { file = 1; action = 1; link = 0; start = 10; value = 7 ∷ [] }

-- and the value 8, started at 20 under action 4
abbrev second : Image
second = record { file = 1; action = 4; link = 2; start = 20; value = 8 ∷ [] }

abbrev full : World
full = record {
  sheet = opening false ∷ image first ∷ outcome 1 true ∷ opening false ∷ image second ∷ outcome 4 true ∷ [];
  fates = 2 ∷ 0 ∷ 0 ∷ 2 ∷ 0 ∷ 0 ∷ [];
  rows = cold ∷ record { mark = 1; current = 0; currentend = 25; token = 0; tokenend = 0; tokenaction = 0 } ∷ [];
  end = 6;
  floor = 3;
  undecided = 0;
}

pub example : moved full (blank ∷ blank ∷ blank ∷ blank ∷ [])
    ≡ ((Moved 25, warm_rows full), opening true ∷ image (record { file = 1; action = 1; link = 0; start = 20; value = 8 ∷ [] }) ∷ outcome 1 true ∷ blank ∷ [])
unfolding moved lent_right lowest warm_row row_holds end_of down images_of not_by effective versions_of token_of tabulate versions_to move_pages highest_end
example = refl
