-- The lift: what is lent, bytes and numbers, as what the definitions work on, and what a call leaves of it. Each public
-- function's contract says that all it leaves is one of these, of what came in (docs/STORE.md, What the caller lends and keeps).
use Rattle.std.specs.Prelude.{List, [], ◌∷◌, ◌++◌, Bool, cond, ◌&&◌, ℕ, pred, ◌+◌, ◌*◌, ◌/◌, ◌%◌, length, get_or, eqb}
use Rattle.std.proofs.lemmas.List.Edits.{sets}
use Rattle.page.specs.Layout.{page_size}
use Rattle.recovery.specs.Places.{tabulate}
use Rattle.recovery.specs.Log.{Entry, highest_start}
use Rattle.recovery.specs.Sheet.{pages}
use Rattle.recovery.specs.declared.Refusal.{Refusal}
use Rattle.recovery.specs.declared.Refusal.TheVariants.{WrongSizes}
use Rattle.recovery.specs.declared.Row.{Row}
use Rattle.recovery.specs.declared.State.{State}
use Rattle.recovery.specs.declared.Answer.{Answer}
use Rattle.recovery.specs.declared.Answer.TheVariants.{Refused}
use Rattle.recovery.specs.declared.Done.{Done}
use Rattle.recovery.specs.World.{World, Result, sizes, rebuilt, opened}

-- how many numbers of the lent run a row has
abbrev pub row_length : ℕ
row_length = 6

-- ---- rows as one run of numbers

abbrev pub row_from : List ℕ → ℕ → Row
row_from xs j = record {
  mark = get_or xs (row_length * j) 0;
  current = get_or xs (row_length * j + 1) 0;
  currentend = get_or xs (row_length * j + 2) 0;
  token = get_or xs (row_length * j + 3) 0;
  tokenend = get_or xs (row_length * j + 4) 0;
  tokenaction = get_or xs (row_length * j + 5) 0;
}

unfoldable pub rows_of : List ℕ → List Row
rows_of xs = tabulate (λ f. row_from xs (pred f)) 0 (length xs / row_length)

-- a row's numbers, the rows laid out one after the other, and the run with the row at an index replaced
abbrev pub numbers : Row → List ℕ
numbers r = r.mark ∷ r.current ∷ r.currentend ∷ r.token ∷ r.tokenend ∷ r.tokenaction ∷ []

unfoldable pub flat : List Row → List ℕ
flat [] = []
flat (r ∷ rs) = numbers r ++ flat rs

unfoldable pub put_row : List ℕ → ℕ → Row → List ℕ
put_row xs j r = sets xs (row_length * j) (numbers r)

-- ---- what is lent

abbrev pub pages_of : List ℕ → ℕ → List Entry
pages_of s files = pages files (length s / page_size) s

-- the highest start of any image of a sheet that is sealed for a file count
abbrev pub highest_start_of : List ℕ → ℕ → ℕ
highest_start_of s files = highest_start (pages_of s files)

abbrev pub lent : List ℕ → List ℕ → List ℕ → State → World
lent s fates rows state = record {
  sheet = pages_of s (length rows / row_length);
  fates = fates;
  rows = rows_of rows;
  end = state.end;
  floor = state.floor;
  undecided = state.undecided;
}

-- the part of line 1 that pages and rows cannot show: whole ones
abbrev pub whole : ℕ → ℕ → Bool
whole size numbers = eqb (size % page_size) 0 && eqb (numbers % row_length) 0

-- line 1, by the lengths of what is lent
unfoldable pub sizes_right : ℕ → ℕ → ℕ → Bool
sizes_right size fates numbers = whole size numbers && sizes (size / page_size) fates (numbers / row_length)

-- ---- what is left: the answer, the state and every byte and number lent

pub record Left : Type 0 where
  pub answer : Answer
  pub state : State
  pub sheet : List ℕ
  pub fates : List ℕ
  pub rows : List ℕ

abbrev pub left_by : Done → List ℕ → List ℕ → List ℕ → Left
left_by r s fates rows = record { answer = r.answer; state = r.state; sheet = s; fates = fates; rows = rows }

abbrev pub state_of : World → State
state_of w = record { end = w.end; floor = w.floor; undecided = w.undecided }

-- of a call that appends nothing
abbrev pub leaves : List ℕ → Result → Left
leaves s r = record { answer = r.0; state = state_of r.1; sheet = s; fates = r.1.fates; rows = flat r.1.rows }

abbrev pub refused : Refusal → ℕ → List ℕ → List ℕ → List ℕ → State → Left
refused why place s fates rows state = record { answer = Refused why place; state = state; sheet = s; fates = fates; rows = rows }

abbrev pub closed : State
closed = record { end = 0; floor = 0; undecided = 0 }

-- ---- open and rebuild

unfoldable pub open_leaves : List ℕ → List ℕ → List ℕ → ℕ → Left
open_leaves s fates rows floor =
    cond (whole (length s) (length rows))
    (leaves s (opened (pages_of s (length rows / row_length)) fates (rows_of rows) floor))
    (refused WrongSizes 0 s fates rows closed)

unfoldable pub rebuild_leaves : List ℕ → List ℕ → List ℕ → State → ℕ → Left
rebuild_leaves s fates rows state file =
    cond (whole (length s) (length rows)) (leaves s (rebuilt (lent s fates rows state) file)) (refused WrongSizes 0 s fates rows state)
