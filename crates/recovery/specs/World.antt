-- What open and rebuild do, over decoded pages, line by line in the order of document 01 (docs/STORE.md, The calls), and what is asked of rows.
use Rattle.std.specs.Prelude.{List, [], ◌∷◌, Bool, true, false, cond, ◌&&◌, ◌||◌, ℕ, zero, suc, ◌+◌, length, get_or, eqb, leb}
use Rattle.page.specs.Layout.{most_places, most_files}
use Rattle.recovery.specs.Places.{nth, put, tabulate}
use Rattle.recovery.specs.Log.{Entry, blank, torn, bad, opening, image, outcome, Fate, unknown, undecided, committed, aborted, is_undecided, fate_of, outcome_of, effective_of, current_of, token_of, place_of, start_of, action_of}
use Rattle.recovery.specs.declared.Refusal.{Refusal}
use Rattle.recovery.specs.declared.Refusal.TheVariants.{WrongSizes, BadPage, NoFile, DamagedRow, UnfinishedMove}
use Rattle.recovery.specs.declared.Row.{Row}
use Rattle.recovery.specs.declared.Answer.{Answer}
use Rattle.recovery.specs.declared.Answer.TheVariants.{Refused, Opened, Rebuilt}

-- ---- what is lent to a call, and the numbers of the state

pub record World : Type 0 where
  pub sheet : List Entry
  pub fates : List ℕ
  pub rows : List Row
  pub end : ℕ
  pub floor : ℕ
  pub undecided : ℕ

abbrev pub Result : Type 0
Result = Answer × World

-- a refusal that changes nothing more
abbrev pub refuse : Refusal → ℕ → World → Result
refuse why place w = (Refused why place, w)

-- ---- pages and fates

abbrev pub entry_at : World → ℕ → Entry
entry_at w place = nth blank w.sheet place

-- the pages from a place downward
unfoldable pub down : List Entry → ℕ → List Entry
down s zero = []
down s (suc p) = get_or s p blank ∷ down s p

abbrev pub log_of : World → List Entry
log_of w = down w.sheet w.end

-- a fate's number, and what a lent number counts for
abbrev pub fate_number : Fate → ℕ
fate_number unknown = 0
fate_number undecided = 1
fate_number committed = 2
fate_number aborted = 3

abbrev pub fate_from : ℕ → Fate
fate_from x = cond (eqb x 1) undecided (cond (eqb x 2) committed (cond (eqb x 3) aborted unknown))

abbrev pub fate_in : List ℕ → ℕ → Fate
fate_in fates a = fate_from (nth 0 fates a)

abbrev pub fate_at : World → ℕ → Fate
fate_at w a = fate_in w.fates a

-- the place of an action's newest sealed outcome up to the end, 0 if there is none: by the pages, whatever its fate
abbrev pub outcome_at : World → ℕ → ℕ
outcome_at w a = outcome_of (log_of w) a

-- line 1: pages, fates and files in number
abbrev pub sizes : ℕ → ℕ → ℕ → Bool
sizes pages fates files = leb 1 pages && leb pages most_places && eqb fates pages && leb 1 files && leb files most_files

-- ---- rows

abbrev pub cold : Row
cold = record { mark = 0; current = 0; currentend = 0; token = 0; tokenend = 0; tokenaction = 0 }

-- the row of a file, from a log and the fates
abbrev pub rebuilt_row : List Entry → (ℕ → Fate) → ℕ → Row
rebuilt_row l φ f = record {
  mark = 1;
  current = place_of (current_of φ (effective_of l f));
  currentend = start_of (current_of φ (effective_of l f));
  token = place_of (token_of φ (effective_of l f));
  tokenend = start_of (token_of φ (effective_of l f));
  tokenaction = action_of (token_of φ (effective_of l f));
}

abbrev pub row_at : World → ℕ → Row
row_at w f = nth cold w.rows f

abbrev pub with_row : World → ℕ → Row → World
with_row w f r = record { sheet = w.sheet; fates = w.fates; rows = put w.rows f r; end = w.end; floor = w.floor; undecided = w.undecided }

-- a file's row, rebuilt where it is cold
unfoldable pub warm_row : World → ℕ → Row
warm_row w f = cond (eqb (row_at w f).mark 0) (rebuilt_row (log_of w) (fate_at w) f) (row_at w f)

abbrev pub is_image_of : ℕ → Entry → Bool
is_image_of f blank = false
is_image_of f torn = false
is_image_of f bad = false
is_image_of f (opening k) = false
is_image_of f (image i) = eqb i.file f
is_image_of f (outcome a c) = false

-- the action of an image, 0 of any other page
abbrev pub image_action : Entry → ℕ
image_action blank = 0
image_action torn = 0
image_action bad = 0
image_action (opening k) = 0
image_action (image i) = i.action
image_action (outcome a c) = 0

-- a place up to the end with a sealed image of the file
abbrev pub holds_image : World → ℕ → ℕ → Bool
holds_image w f place = leb place w.end && is_image_of f (entry_at w place)

-- line 7: a place of a row is 0 or holds an image of the file
abbrev pub place_holds : World → ℕ → ℕ → Bool
place_holds w f place = eqb place 0 || holds_image w f place

-- and the token's action is that of its page, 0 where there is no token
abbrev pub token_holds : World → ℕ → Row → Bool
token_holds w f r = place_holds w f r.token && eqb (image_action (entry_at w r.token)) r.tokenaction

unfoldable pub row_holds : World → ℕ → Row → Bool
row_holds w f r = leb r.mark 1 && place_holds w f r.current && token_holds w f r

-- a rebuilt row that names an action: its mark is 1, and this is its token's action
abbrev pub is_rebuilt_for : ℕ → Row → Bool
is_rebuilt_for a r = eqb r.mark 1 && eqb r.tokenaction a

-- ---- rebuild: lines 1, 3, 7

-- line 1 for a call on an open sheet
unfoldable pub lent_right : World → Bool
lent_right w = sizes (length w.sheet) (length w.fates) (length w.rows) && leb w.end (length w.sheet) && leb w.undecided w.end

-- line 3
abbrev pub is_file : ℕ → ℕ → Bool
is_file files f = leb 1 f && leb f files

-- line 7, and the numbers of a row after its mark
abbrev pub answer_row : World → ℕ → Row → Result
answer_row w f r = cond (row_holds w f r) (Rebuilt r.current r.currentend r.token r.tokenend r.tokenaction, w) (refuse DamagedRow 0 w)

unfoldable pub rebuilt : World → ℕ → Result
rebuilt w f =
    cond (lent_right w)
    (cond (is_file (length w.rows) f) (answer_row (with_row w f (warm_row w f)) f (warm_row w f)) (refuse NoFile 0 w))
    (refuse WrongSizes 0 w)

-- ---- open: lines 1, 2, 24

abbrev pub is_blank : Entry → Bool
is_blank blank = true
is_blank torn = false
is_blank bad = false
is_blank (opening k) = false
is_blank (image i) = false
is_blank (outcome a c) = false

-- the end (the log's tail): the highest place up to n that is not blank
unfoldable pub end_of : List Entry → ℕ → ℕ
end_of s zero = 0
end_of s (suc p) = cond (is_blank (get_or s p blank)) (end_of s p) (suc p)

-- bad, of a page up to the end: a blank one there is bad too
abbrev pub is_bad : Entry → Bool
is_bad blank = true
is_bad torn = false
is_bad bad = true
is_bad (opening k) = false
is_bad (image i) = false
is_bad (outcome a c) = false

-- the highest bad place of a log, 0 if there is none
unfoldable pub highest_bad : List Entry → ℕ
highest_bad [] = 0
highest_bad (g ∷ l) = cond (is_bad g) (suc (length l)) (highest_bad l)

-- the fates of n places, and how many of them are undecided
abbrev pub fates_of : ℕ → List Entry → List ℕ
fates_of n l = tabulate (λ a. fate_number (fate_of l a)) 0 n

unfoldable pub undecided_of : List ℕ → ℕ
undecided_of [] = 0
undecided_of (x ∷ xs) = cond (eqb x 1) 1 0 + undecided_of xs

unfoldable pub cold_rows : ℕ → List Row
cold_rows zero = []
cold_rows (suc n) = cold ∷ cold_rows n

-- the world that an opening answers for a sheet with this end
abbrev pub started : List Entry → ℕ → ℕ → ℕ → World
started s end files floor = record {
  sheet = s;
  fates = fates_of (length s) (down s end);
  rows = cold_rows files;
  end = end;
  floor = floor;
  undecided = undecided_of (fates_of (length s) (down s end));
}

-- a refused opening answers three zeros and leaves the rest
abbrev pub unopened : List Entry → List ℕ → List Row → World
unopened s fates rows = record { sheet = s; fates = fates; rows = rows; end = 0; floor = 0; undecided = 0 }

-- an opening whose images were carried over from another sheet
abbrev pub is_carried : Entry → Bool
is_carried blank = false
is_carried torn = false
is_carried bad = false
is_carried (opening k) = k
is_carried (image i) = false
is_carried (outcome a c) = false

-- line 24: a move onto this sheet has begun and has no outcome, by the pages up to the end
unfoldable pub unfinished : List Entry → ℕ → Bool
unfinished s end = is_carried (nth blank s 1) && is_undecided (fate_of (down s end) 1)

-- opening a sheet with this end
abbrev pub opened_at : List Entry → ℕ → List ℕ → List Row → ℕ → Result
opened_at s end fates rows floor =
    cond (eqb (highest_bad (down s end)) 0)
    (cond (unfinished s end) (refuse UnfinishedMove 0 (unopened s fates rows))
    (Opened end (undecided_of (fates_of (length s) (down s end))), started s end (length rows) floor))
    (refuse BadPage (highest_bad (down s end)) (unopened s fates rows))

unfoldable pub opened : List Entry → List ℕ → List Row → ℕ → Result
opened s fates rows floor =
    cond (sizes (length s) (length fates) (length rows)) (opened_at s (end_of s (length s)) fates rows floor) (refuse WrongSizes 0 (unopened s fates rows))
