-- Document 01's table of a page (a log record; docs/STORE.md, The page): its 64 bytes, the fields read back, and the rules of each kind.
-- `packed` is the table; `fields_of` and `value_of` read it back; `lowest` and `highest` are its columns, the least and the
-- greatest of each field; `fits` says that bytes are a page by the table. A place is a log address.
use Rattle.std.specs.Prelude.{ℕ, ◌-◌, ◌^◌, List, ◌++◌, Bool, ◌&&◌, cond, drop, get_or, eqb, leb}
use Rattle.encoding.specs.Bytes.{part, number, bytes, zeros, same, check}
use Rattle.page.specs.declared.Page.{Page}
use Rattle.page.specs.Layout.{kind_at, small_at, spare_at, file_at, action_at, link_at, start_at, value_at, place_at, check_at, spare_end_at, mark_at, page_size, end_mark, value_size}

-- ---- the bytes

-- a number in the bytes from one index up to another
abbrev pub cell : ℕ → ℕ → ℕ → List ℕ
cell from to x = bytes (to - from) x

-- bytes 0 to 23, kind to start
unfoldable pub head : Page → List ℕ
head p =
    cell kind_at small_at p.kind
    ++ cell small_at spare_at p.small
    ++ cell spare_at file_at 0
    ++ cell file_at action_at p.file
    ++ cell action_at link_at p.action
    ++ cell link_at start_at p.link
    ++ cell start_at value_at p.start

-- bytes 0 to 59, which the check word is over
unfoldable pub front : Page → List ℕ → ℕ → List ℕ
front p value place = head p ++ value ++ cell place_at check_at place

-- bytes 60 to 63, by those before them: the check word, a spare byte and the end mark
abbrev pub closing : List ℕ → List ℕ
closing s = cell check_at spare_end_at (check s) ++ cell spare_end_at mark_at 0 ++ cell mark_at page_size end_mark

-- all 64
unfoldable pub packed : Page → List ℕ → ℕ → List ℕ
packed p value place = front p value place ++ closing (front p value place)

-- ---- the fields read back

abbrev pub field : ℕ → ℕ → List ℕ → ℕ
field from to s = number (part from to s)

unfoldable pub fields_of : List ℕ → Page
fields_of s = record {
  kind = field kind_at small_at s;
  small = field small_at spare_at s;
  file = field file_at action_at s;
  action = field action_at link_at s;
  link = field link_at start_at s;
  start = field start_at value_at s;
}

-- the value's 32 bytes
abbrev pub value_of : List ℕ → List ℕ
value_of s = part value_at place_at s

-- ---- the rules of each kind

-- the begin record of an action (a transaction), at its own place; small is 1 where the action carries another sheet's versions: carried
abbrev pub opening_as : ℕ → ℕ → Page
opening_as small place = record { kind = 1; small = small; file = 0; action = place; link = 0; start = 0 }

abbrev pub opening : ℕ → Page
opening place = opening_as 0 place

-- a version record: the value's length, file (object), action, link (to the version before) and start (write timestamp)
abbrev pub image : ℕ → ℕ → ℕ → ℕ → ℕ → Page
image size file action link start = record { kind = 2; small = size; file = file; action = action; link = link; start = start }

-- the commit record, 1, or the abort record, 2, of an action
abbrev pub outcome : ℕ → ℕ → Page
outcome action verdict = record { kind = 3; small = verdict; file = 0; action = action; link = 0; start = 0 }

-- the least and the greatest that each field may be, by kind, at a place and for a file count
unfoldable pub lowest : ℕ → ℕ → Page
lowest kind place = cond (eqb kind 1) (opening_as 0 place) (cond (eqb kind 2) (image 0 1 1 0 1) (outcome 1 1))

unfoldable pub highest : ℕ → ℕ → ℕ → Page
highest kind place files =
    cond (eqb kind 1) (opening_as 1 place)
    (cond (eqb kind 2) (image value_size files (place - 1) (place - 1) (2 ^ 64 - 1)) (outcome (place - 1) 2))

unfoldable pub within : ℕ → ℕ → ℕ → Bool
within x low high = leb low x && leb x high

unfoldable pub between : Page → Page → Page → Bool
between p low high =
    within p.kind low.kind high.kind
    && within p.small low.small high.small
    && within p.file low.file high.file
    && within p.action low.action high.action
    && within p.link low.link high.link
    && within p.start low.start high.start

-- how many of the value's bytes are used: an image's length, none of another's
abbrev pub used : Page → ℕ
used p = cond (eqb p.kind 2) p.small 0

-- the fields obey the rules of their kind, and the value is 0 past its length
unfoldable pub meets_rules : Page → List ℕ → ℕ → ℕ → Bool
meets_rules p value place files = between p (lowest p.kind place) (highest p.kind place files) && zeros (drop (used p) value)

-- ---- pages by the table

-- the bytes are the page of these fields, which obey the rules
unfoldable pub is_page_of : Page → List ℕ → ℕ → ℕ → Bool
is_page_of p s place files = meets_rules p (value_of s) place files && same s (packed p (value_of s) place)

-- 64 bytes fit the table if they are the page of their own fields
abbrev pub fits : List ℕ → ℕ → ℕ → Bool
fits s place files = is_page_of (fields_of s) s place files

-- an append that a cut of the supply stopped (a torn write): byte 0 was stored, byte 63 was not
unfoldable pub torn : List ℕ → Bool
torn s = within (get_or s kind_at 0) 1 3 && eqb (get_or s mark_at 0) 0
