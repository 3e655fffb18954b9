-- The object model that a sheet's log is read as, whoever wrote the sheet.
use Rattle.std.specs.Prelude.{ℕ, suc, ◌/◌, List, [], ◌∷◌, map, Bool, false, cond, length, eqb}
use Rattle.std.proofs.Math.Option.{Option, some, none}
use Rattle.page.specs.Layout.{page_size}
use Rattle.recovery.specs.Log as log
use Rattle.recovery.specs.Log.{Entry, Fate, Placed, fate_of, outcome_of}
use Rattle.recovery.specs.World.{down, end_of, is_carried, fates_of, undecided_of}
use Rattle.recovery.specs.Lent.{pages_of}
use Rattle.inspection.specs.Lawful.{versions, token}
use Rattle.promises.specs.Model.{Version, object, Status, pending, committed, aborted, Model}

-- by an action's fate, and the place of its newest outcome
abbrev pub status_of : Fate → ℕ → Option Status
status_of log.unknown place = none
status_of log.undecided place = some pending
status_of log.committed place = some (committed place)
status_of log.aborted place = some (aborted place)

abbrev pub version_of : Placed → Version
version_of x = record { place = x.place; action = x.image.action; start = x.image.start; value = x.image.value }

abbrev pub version_in : Option Placed → Option Version
version_in none = none
version_in (some x) = some (version_of x)

abbrev pub history : List Entry → ℕ → List Version
history l f = map version_of (versions l f)

-- whether the page at a place is a carried opening
unfoldable pub carried_of : List Entry → ℕ → Bool
carried_of [] a = false
carried_of (g ∷ l) a = cond (eqb a (suc (length l))) (is_carried g) (carried_of l a)

-- before an opening gives it a floor
abbrev pub model_of : ℕ → ℕ → List Entry → Model
model_of pages files l = record {
  pages = pages;
  files = files;
  used = length l;
  floor = 0;
  undecided = undecided_of (fates_of pages l);
  status = λ a. status_of (fate_of l a) (outcome_of l a);
  carried = carried_of l;
  object = λ f. object (history l f) 0 (version_in (token l f)) 0;
}

abbrev pub log_in : ℕ → List ℕ → List Entry
log_in files s = down (pages_of s files) (end_of (pages_of s files) (length s / page_size))
