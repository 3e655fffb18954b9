-- What the move leaves of what is lent, bytes and numbers: the form of its contract.
use Rattle.std.specs.Prelude.{List, [], ◌∷◌, ◌++◌, cond, ◌&&◌, ℕ, suc, ◌*◌, ◌/◌, ◌%◌, length, drop, eqb}
use Rattle.page.specs.Layout.{page_size}
use Rattle.recovery.specs.Log.{Entry}
use Rattle.recovery.specs.declared.Refusal.TheVariants.{WrongSizes}
use Rattle.recovery.specs.declared.State.{State}
use Rattle.recovery.specs.Numbers.{is_refused}
use Rattle.recovery.specs.declared.Done.{Done}
use Rattle.recovery.specs.Lent.{Left, left_by, leaves, lent, whole, pages_of, refused, row_length}
use Rattle.calls.specs.Leaves.{packed_entry}
use Rattle.moving.specs.Moved.{Move, move_pages, on_rows, moved}

-- pages one after another, the first at a place
unfoldable pub laid : ℕ → List Entry → List ℕ
laid place [] = []
laid place (g ∷ gs) = packed_entry place g ++ laid (suc place) gs

-- a sheet with these pages from place 1 on, and above them what was there
unfoldable pub onto : List ℕ → List Entry → List ℕ
onto fresh gs = laid 1 gs ++ drop (page_size * length gs) fresh

-- the answer, the state and every byte and number lent, the fresh sheet's last
pub record MoveLeft : Type 0 where
  pub left : Left
  pub fresh : List ℕ

abbrev pub move_by : Done → List ℕ → List ℕ → List ℕ → List ℕ → MoveLeft
move_by r s fates rows fresh = record { left = left_by r s fates rows; fresh = fresh }

-- the fresh sheet: as it was under a refusal, else with the pages of the move
abbrev pub fresh_bytes : List ℕ → Move → List ℕ
fresh_bytes fresh r = cond (is_refused r.0.0) fresh (onto fresh (move_pages r.0.1))

abbrev pub lower_move : List ℕ → List ℕ → Move → MoveLeft
lower_move s fresh r = record { left = leaves s r.0; fresh = fresh_bytes fresh r }

-- the move on rows that are rebuilt
unfoldable pub warm_move : List ℕ → List ℕ → List ℕ → State → List ℕ → MoveLeft
warm_move s fates rows state fresh = lower_move s fresh (on_rows (lent s fates rows state) (pages_of fresh (length rows / row_length)))

unfoldable pub move_leaves : List ℕ → List ℕ → List ℕ → State → List ℕ → MoveLeft
move_leaves s fates rows state fresh =
    cond (whole (length s) (length rows) && eqb (length fresh % page_size) 0)
    (lower_move s fresh (moved (lent s fates rows state) (pages_of fresh (length rows / row_length))))
    (record { left = refused WrongSizes 0 s fates rows state; fresh = fresh })
