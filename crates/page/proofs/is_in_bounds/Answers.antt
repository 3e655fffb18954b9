-- `page::is_in_bounds`: each test by its definition. Assumes nothing.
use mathlib.Core.Bool.{◌&&◌}
use mathlib.Core.Path.{ap₂}
use Rattle.page.specs.Answers.{in_bounds}
use Rattle.page.proofs.is_in_bounds.Goals as goal

pub returns : goal.returns
unfolding in_bounds
returns c = ap₂ ◌&&◌ c.is_within.ensures c.is_within-2.ensures
