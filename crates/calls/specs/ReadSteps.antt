-- What smaller functions of read and write answer. A reader of document 01 can pass this file over: the laws join it to `on`.
use Rattle.std.specs.Prelude.{◌≡◌, List, Bool, cond, ◌&&◌, ℕ, suc, ◌+◌, ◌/◌, length, eqb, leb, ltb, Option as Maybe, Some, None, Ok, Err}
use Rattle.std.proofs.Math.Option.{Option, some, none}
use Rattle.page.specs.Layout.{value_size}
use Rattle.page.specs.declared.Page.{Page}
use Rattle.recovery.specs.Places.{nth}
use Rattle.recovery.specs.Log.{Image, blank}
use Rattle.recovery.specs.Sheet.{page_bytes, image_from}
use Rattle.recovery.specs.declared.Refusal.TheVariants.{WrongSizes, NoFile, LongValue, DamagedRow, OtherToken, EarlyStart, LostLink, OnOlderSheet}
use Rattle.recovery.specs.declared.Row.{Row}
use Rattle.recovery.specs.declared.State.{State}
use Rattle.recovery.specs.declared.Answer.{Answer}
use Rattle.recovery.specs.declared.Answer.TheVariants.{Refused, Stored, Nothing}
use Rattle.recovery.specs.World.{is_file, is_carried}
use Rattle.recovery.specs.Lent.{row_length, pages_of}
use Rattle.recovery.specs.Steps.{line_one, sealed_image, row_holds_in}
use Rattle.calls.specs.LineSteps.{Line, free, action_line, room_line}
use Rattle.calls.specs.Walk.{Walk, met, nothing, early, lost, images_below, follow}
use Rattle.calls.specs.Calls.{image_of, is_free_for, version_answer}

-- lines 5 and 6 of read, which passes over them for action 0
unfoldable pub read_line : List ℕ → ℕ → ℕ → Line
read_line fates end a = cond (eqb a 0) free (action_line fates end a)

-- lines 1, 3, 5 and 6 of read
unfoldable pub may_read : List ℕ → List ℕ → List ℕ → State → ℕ → ℕ → Line
may_read s fates rows state file a =
    cond (line_one (length s) (length fates) (length rows) state.end state.undecided)
    (cond (is_file (length rows / row_length) file) (read_line fates state.end a) (Err NoFile))
    (Err WrongSizes)

-- lines 1 and 3 to 6 of write
unfoldable pub may_write : List ℕ → List ℕ → List ℕ → State → ℕ → ℕ → List ℕ → Line
may_write s fates rows state file a value =
    cond (line_one (length s) (length fates) (length rows) state.end state.undecided)
    (cond (is_file (length rows / row_length) file)
    (cond (leb (length value) value_size) (action_line fates state.end a) (Err LongValue))
    (Err NoFile))
    (Err WrongSizes)

-- the image of a page's bytes, by the fields that were found
abbrev pub image_by : List ℕ → Maybe Page → Option Image
image_by b (Some x) = some (image_from b x)
image_by b None = none

-- a place of a row that line 7 lets through, and what was found there
pub record Looked (files : ℕ) (s : List ℕ) (file place : ℕ) (u : Maybe Page) : Type 0 where
  pub found : u ≡ sealed_image files s file place
  pub image_is : image_of (nth blank (pages_of s files) place) ≡ image_by (page_bytes s place) u

-- what a walk answers, and the walk from a place whose page has these fields, once images above it were passed
abbrev pub walk_answer : Walk → Answer
walk_answer (met x) = version_answer x
walk_answer nothing = Nothing
walk_answer early = Refused OnOlderSheet 0
walk_answer (lost place) = Refused LostLink place

abbrev pub carried_in : ℕ → List ℕ → ℕ → Bool
carried_in files s a = is_carried (nth blank (pages_of s files) a)

unfoldable pub walk_at : ℕ → List ℕ → ℕ → ℕ → Bool → ℕ → Page → Answer
walk_at files s file time b place x =
    walk_answer (follow (carried_in files s) time b (record { place = place; image = image_from (page_bytes s place) x }) (images_below (pages_of s files) place file))

-- lines 10 to 12 of write on a warm row
unfoldable pub store_line : List ℕ → ℕ → State → ℕ → Row → Line
store_line s files state start r =
    cond (ltb r.currentend start && ltb state.floor start) (room_line s state.end files (state.undecided + 1)) (Err EarlyStart)

-- what is answered by them, for a page stored at a place
abbrev pub stored_at : ℕ → Line → Answer
stored_at place (Ok _) = Stored place
stored_at place (Err why) = Refused why 0

-- lines 7 to 12 of write: what is answered on a warm row

unfoldable pub write_answer : List ℕ → ℕ → State → ℕ → ℕ → ℕ → Row → Answer
write_answer s files state file start a r =
    cond (row_holds_in s files state.end file r)
    (cond (is_free_for a r) (stored_at (suc state.end) (store_line s files state start r)) (Refused OtherToken r.tokenaction))
    (Refused DamagedRow 0)
