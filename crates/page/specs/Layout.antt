-- Where each field of a page begins, by document 01's table (docs/STORE.md, The page). A field ends where the next one begins.
-- The constants of `Page` in the code are these; a proof fails where they differ.
use Rattle.std.specs.Prelude.{ℕ}

abbrev pub kind_at : ℕ
kind_at = 0

abbrev pub small_at : ℕ
small_at = 1

abbrev pub spare_at : ℕ
spare_at = 2

abbrev pub file_at : ℕ
file_at = 4

abbrev pub action_at : ℕ
action_at = 8

abbrev pub link_at : ℕ
link_at = 12

abbrev pub start_at : ℕ
start_at = 16

abbrev pub value_at : ℕ
value_at = 24

abbrev pub place_at : ℕ
place_at = 56

abbrev pub check_at : ℕ
check_at = 60

abbrev pub spare_end_at : ℕ
spare_end_at = 62

abbrev pub mark_at : ℕ
mark_at = 63

abbrev pub page_size : ℕ
page_size = 64

abbrev pub end_mark : ℕ
end_mark = 0xa5

-- the limits of line 1, and of a value's bytes
abbrev pub most_places : ℕ
most_places = 65536

abbrev pub most_files : ℕ
most_files = 256

abbrev pub value_size : ℕ
value_size = 32
