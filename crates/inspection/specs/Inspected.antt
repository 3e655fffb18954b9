-- What inspect answers: refusal 1, or the lowest place that is bad or does not fit those below it, 0 if the sheet is lawful.
use Rattle.std.specs.Prelude.{ℕ, ◌*◌, ◌/◌, ◌%◌, List, Bool, cond, ◌&&◌, Result, Ok, Err, length, eqb, leb}
use Rattle.page.specs.Layout.{page_size, most_places, most_files}
use Rattle.recovery.specs.World.{down, end_of}
use Rattle.recovery.specs.Lent.{pages_of}
use Rattle.inspection.specs.Lawful.{lowest_unlawful}
use Rattle.inspection.specs.declared.InspectError.{InspectError}
use Rattle.inspection.specs.declared.InspectError.TheVariants.{Sizes}

-- line 1 for a sheet's bytes and a file count
unfoldable pub inspectable : ℕ → ℕ → Bool
inspectable size files = eqb (size % page_size) 0 && leb page_size size && leb size (most_places * page_size) && leb 1 files && leb files most_files

unfoldable pub inspected : List ℕ → ℕ → Result ℕ InspectError
inspected s files =
    cond (inspectable (length s) files)
    (Ok (lowest_unlawful (down (pages_of s files) (end_of (pages_of s files) (length s / page_size)))))
    (Err Sizes)

-- the refusal's number, and the place
abbrev pub inspect_number : Result ℕ InspectError → ℕ
inspect_number (Err e) = 1
inspect_number (Ok p) = 0

abbrev pub inspect_place : Result ℕ InspectError → ℕ
inspect_place (Err e) = 0
inspect_place (Ok p) = p
