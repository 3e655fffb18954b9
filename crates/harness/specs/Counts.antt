-- How many pages of a sheet pass: what the timed loops answer.
use Rattle.page.specs.declared.Page.{Page}
use Rattle.std.specs.Prelude.{ℕ, zero, suc, ◌+◌, ◌*◌, cond, List, Option, Some, None, Result, Ok, Err}
use Rattle.encoding.specs.Bytes.{part}
use Rattle.page.specs.declared.Unpacked.{Unpacked}
use Rattle.page.specs.declared.PackError as pack_error
use Rattle.page.specs.declared.PackError.{PackError}
use Rattle.page.specs.Layout.{page_size}
use Rattle.page.specs.Table.{image}
use Rattle.page.specs.Answers.{tested, is_fit_page, image_of_file, packs}
use Rattle.calls.specs.Leaves.{with_page}

-- the bytes of the page above i others; its place is i + 1
abbrev pub page_at : List ℕ → ℕ → List ℕ
page_at s i = part (page_size * i) (page_size * i + page_size) s

-- 1 for an answer with fields, an image that was found, a page that was written; else 0
abbrev pub fields : Unpacked → ℕ
fields u = cond (is_fit_page u) 1 0

abbrev pub found : Option Page → ℕ
found (Some p) = 1
found None = 0

abbrev pub written : Result (Unit {0}) PackError → ℕ
written (Ok tt) = 1
written (Err pack_error.PackError.OutOfBounds) = 0
written (Err pack_error.PackError.Unfit) = 0

-- the sum over the first n pages
unfoldable pub counted : (ℕ → ℕ) → ℕ → ℕ
counted f zero = 0
counted f (suc n) = counted f n + f n

abbrev pub fits_at : List ℕ → ℕ → ℕ → ℕ
fits_at s files i = fields (tested (page_at s i) (i + 1) files)

abbrev pub seen_at : List ℕ → ℕ → ℕ → ℕ → ℕ
seen_at s files file i = found (image_of_file file (tested (page_at s i) (i + 1) files))

-- an image of file 1 packed at every place from 1 on: how many were written, and the sheet
abbrev pub packed_into : ℕ → ℕ × List ℕ → Result (Unit {0}) PackError × List ℕ → ℕ × List ℕ
packed_into i x r = (x.0 + written r.0, with_page x.1 i r.1)

unfoldable pub packed_to : ℕ → List ℕ → ℕ → List ℕ → ℕ → ℕ × List ℕ
packed_to size value files s zero = (0, s)
packed_to size value files s (suc i) =
    packed_into i (packed_to size value files s i) (packs (image size 1 1 0 (i + 1)) value (i + 1) files (page_at (packed_to size value files s i).1 i))
