-- `reading::walk`: the loop holds a sealed image of the file, from which the walk comes to what the first one comes to; its place falls. Assumes nothing.
use Rattle.calls.specs.ReadSteps.{walk_at}
use Rattle.recovery.specs.Steps.{sealed_image}
use Rattle.std.specs.Prelude.{Some}
use mathlib.Core.Path.{◌≡◌}
use mathlib.Core.Bool.{false}
use Rattle.reading.proofs.walk.Given as goal

abbrev pub invariant-loop-x : goal.invariant-loop-x
invariant-loop-x l = (sealed_image l.view.files l.view.sheet.now l.file l.place ≡ Some l.x) × (walk_at l.view.files l.view.sheet.now l.file l.time l.carried l.place l.x ≡ walk_at l.view.files l.view.sheet.now l.file l.time false l.from l.initial.x)

abbrev pub decreases-loop-x : goal.decreases-loop-x
decreases-loop-x l = l.place
