-- Document 01's starred points: one table of what the definitions give and what 01 says, in numbers.
use Rattle.std.specs.Prelude.{ℕ, ◌*◌, ◌/◌, List, [], ◌∷◌, ◌++◌, true, replicate}
use Rattle.encoding.specs.Bytes.{check}
use Rattle.page.specs.Layout.{page_size}
use Rattle.recovery.specs.Log.{Entry, blank, torn, bad, opening, image, outcome}
use Rattle.recovery.specs.Sheet.{sealed}
use Rattle.recovery.specs.Lent.{Left, row_length, open_leaves}
use Rattle.recovery.specs.Numbers.{numbers_of}
use Rattle.recovery.specs.declared.Refusal.{Refusal}
use Rattle.recovery.specs.declared.Refusal.TheVariants.{WrongSizes, NoRoom}
use Rattle.recovery.specs.declared.Answer.TheVariants.{Refused, Opened, Stored}
use Rattle.calls.specs.Calls.{Call, begin, write, decide}
use Rattle.calls.specs.Leaves.{call_leaves}
use Rattle.calls.specs.Cuts.{stored_of, first_bytes}

-- a blank sheet of so many bytes, with fates to match, opened for 8 files; and a call on what is left
unfoldable pub opened : ℕ → Left
opened size = open_leaves (replicate size 0) (replicate (size / page_size) 0) (replicate (row_length * 8) 0) 0

abbrev pub then : Left → Call → Left
then x k = call_leaves x.sheet x.fates x.rows x.state k

-- what is left after one call and the next, from an opening on
abbrev pub calls : Left → List Call → Left
calls x [] = x
calls x (k ∷ ks) = calls (then x k) ks

abbrev pub after : ℕ → List Call → List ℕ
after pages ks = numbers_of (calls (opened (page_size * pages)) ks).answer

abbrev pub sheet_after : ℕ → List Call → List ℕ
sheet_after pages ks = (calls (opened (page_size * pages)) ks).sheet

-- the first page of two when a begin is cut after so many bytes: 0 blank, 1 torn, 2 bad, 3 sealed
abbrev pub kind_of : Entry → ℕ
kind_of blank = 0
kind_of torn = 1
kind_of bad = 2
kind_of (opening k) = 3
kind_of (image i) = 3
kind_of (outcome a c) = 3

abbrev pub cut_begin : ℕ → List ℕ
cut_begin n = kind_of (sealed 8 (stored_of (first_bytes n) 0 (then (opened 128) begin).sheet (opened 128).sheet) 1) ∷ []

-- the numbers of an answer: opened with end 0 and open count 0; the place of the call's page; refused with a number and place 0
abbrev pub fits : List ℕ
fits = numbers_of (Opened 0 0)

abbrev pub stored : ℕ → List ℕ
stored place = numbers_of (Stored place)

abbrev pub refused : Refusal → List ℕ
refused why = numbers_of (Refused why 0)

-- the check word over nothing, 01, 01 02 and 01 02 03
abbrev pub words : List (List ℕ × List ℕ)
words =
    (check [] ∷ [], 1 ∷ [])
    ∷ (check (0x01 ∷ []) ∷ [], 258 ∷ [])
    ∷ (check (0x01 ∷ 0x02 ∷ []) ∷ [], 787 ∷ [])
    ∷ (check (0x01 ∷ 0x02 ∷ 0x03 ∷ []) ∷ [], 5699 ∷ [])
    ∷ []

-- a sheet of 64 bytes fits; 0, 63 and 65 are refused 1; 4,194,304 fit, 4,194,368 are refused 1
abbrev pub sizes : List (List ℕ × List ℕ)
sizes =
    (numbers_of (opened 64).answer, fits)
    ∷ (numbers_of (opened 0).answer, refused WrongSizes)
    ∷ (numbers_of (opened 63).answer, refused WrongSizes)
    ∷ (numbers_of (opened 65).answer, refused WrongSizes)
    ∷ (numbers_of (opened 4194304).answer, fits)
    ∷ (numbers_of (opened 4194368).answer, refused WrongSizes)
    ∷ []

abbrev pub runs : List (List ℕ × List ℕ)
runs =
    -- one page: begin refused 11
    (after 1 (begin ∷ []), refused NoRoom)
    -- two pages: begin accepted, write refused 11, commit accepted; a second commit answered alike, nothing written
    ∷ (after 2 (begin ∷ []), stored 1)
    ∷ (after 2 (begin ∷ write 1 1 1 [] ∷ []), refused NoRoom)
    ∷ (after 2 (begin ∷ write 1 1 1 [] ∷ decide 1 true ∷ []), stored 2)
    ∷ (after 2 (begin ∷ write 1 1 1 [] ∷ decide 1 true ∷ decide 1 true ∷ []), stored 2)
    ∷ (sheet_after 2 (begin ∷ write 1 1 1 [] ∷ decide 1 true ∷ decide 1 true ∷ []), sheet_after 2 (begin ∷ write 1 1 1 [] ∷ decide 1 true ∷ []))
    -- cut after 0 bytes: blank; after 63: torn; after 64: sealed
    ∷ (cut_begin 0, 0 ∷ [])
    ∷ (cut_begin 63, 1 ∷ [])
    ∷ (cut_begin 64, 3 ∷ [])
    ∷ []

abbrev pub points : List (List ℕ × List ℕ)
points = words ++ sizes ++ runs

-- what the definitions give, and what 01 says
abbrev pub given : List (List ℕ × List ℕ) → List (List ℕ)
given [] = []
given (p ∷ ps) = p.0 ∷ given ps

abbrev pub stated : List (List ℕ × List ℕ) → List (List ℕ)
stated [] = []
stated (p ∷ ps) = p.1 ∷ stated ps
