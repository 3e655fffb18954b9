-- `recovery::lookup::View::outcome_place`. The invariant: the pages up to the walk's place say what those up to the end say. Assumes nothing.
use Rattle.recovery.proofs.Outcomes.{place_to}
use mathlib.Core.Path.{◌≡◌}
use Rattle.recovery.proofs.lookup.View.outcome_place.Given as goal

abbrev pub invariant-loop-place : goal.invariant-loop-place
invariant-loop-place l = place_to l.self.files l.self.sheet.now l.action l.place ≡ place_to l.self.files l.self.sheet.now l.action l.end
