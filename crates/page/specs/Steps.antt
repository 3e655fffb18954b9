-- What smaller functions of the code answer. A reader of document 01 can pass this file over: the laws join it to `fits`.
use Rattle.std.specs.Prelude.{ℕ, List, Bool, ◌&&◌, length, get_or, eqb}
use Rattle.page.specs.Layout.{page_size, spare_at, file_at, place_at, check_at, spare_end_at, mark_at, end_mark}
use Rattle.page.specs.Table.{field, fields_of}

-- what every kind of page has alike: the end mark, the place and the spare bytes
unfoldable pub framed : List ℕ → ℕ → Bool
framed s place =
    eqb (get_or s mark_at 0) end_mark && eqb (field place_at check_at s) place && eqb (field spare_at file_at s) 0 && eqb (get_or s spare_end_at 0) 0

-- a part of a page's size with this kind; one with the kind of an image and with this file
unfoldable pub has_kind : List ℕ → ℕ → Bool
has_kind s kind = eqb (length s) page_size && eqb (fields_of s).kind kind

unfoldable pub named : List ℕ → ℕ → Bool
named s file = has_kind s 2 && eqb (fields_of s).file file
