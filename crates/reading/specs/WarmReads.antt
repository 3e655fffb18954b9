-- What smaller functions of read answer of a warm row. A reader of document 01 can pass this file over: the laws join it to `on`.
use Rattle.std.specs.Prelude.{◌≡◌, List, ℕ}
use Rattle.recovery.specs.Places.{put}
use Rattle.recovery.specs.declared.Row.{Row}
use Rattle.recovery.specs.World.{World, with_row}
use Rattle.recovery.specs.Lent.{pages_of}
use Rattle.calls.specs.Calls.{on_versions, on_read}
use Rattle.reading.specs.declared.Reading.{Reading}

-- a read of a warm row: its answer and the row that it leaves, in any world whose row it is
abbrev pub world : ℕ → List ℕ → ℕ → List ℕ → List Row → ℕ → ℕ → World
world files s end fates rows floor n = record { sheet = pages_of s files; fates = fates; rows = rows; end = end; floor = floor; undecided = n }

pub record Versions (files : ℕ) (s : List ℕ) (file time : ℕ) (r : Row) (x : Reading) : Type 0 where
  pub is : (end : ℕ) (fates : List ℕ) (rows : List Row) (floor n : ℕ) → put rows file r ≡ rows
      → on_versions (world files s end fates rows floor n) file time r ≡ (x.answer, with_row (world files s end fates rows floor n) file x.row)

pub record Reads (files : ℕ) (s : List ℕ) (end file time action : ℕ) (r : Row) (x : Reading) : Type 0 where
  pub is : (fates : List ℕ) (rows : List Row) (floor n : ℕ) → put rows file r ≡ rows
      → on_read (world files s end fates rows floor n) file time action r ≡ (x.answer, with_row (world files s end fates rows floor n) file x.row)
