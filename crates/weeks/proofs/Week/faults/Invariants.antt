-- `weeks::Week::faults`. The invariant: what was found above day d, with the days up to it, is the lowest of all. Assumes nothing.
use mathlib.Core.Path.{◌≡◌}
use Rattle.weeks.specs.Weeks.{wrong_day, uneven_day, lowest_day, some_day}
use Rattle.weeks.proofs.DayTests.{over}
use Rattle.weeks.proofs.Week.faults.Given as goal

abbrev pub invariant-loop-d : goal.invariant-loop-d
invariant-loop-d l =
    (over (wrong_day l.self.edition l.self.bytes.now) l.d l.wrong ≡ some_day (lowest_day (wrong_day l.self.edition l.self.bytes.now)))
    × (over (uneven_day l.self.edition l.o l.self.bytes.now) l.d l.uneven ≡ some_day (lowest_day (uneven_day l.self.edition l.o l.self.bytes.now)))
