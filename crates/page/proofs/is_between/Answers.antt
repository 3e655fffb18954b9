-- `page::is_between`: each test by its definition. Assumes nothing.
use mathlib.Core.Bool.{◌&&◌}
use mathlib.Core.Path.{ap₂}
use Rattle.page.specs.Table.{between}
use Rattle.page.proofs.is_between.Goals as goal

pub returns : goal.returns
unfolding between
returns c = ap₂ ◌&&◌ (ap₂ ◌&&◌ (ap₂ ◌&&◌ (ap₂ ◌&&◌ (ap₂ ◌&&◌ c.is_within.ensures c.is_within-2.ensures) c.is_within-3.ensures) c.is_within-4.ensures) c.is_within-5.ensures) c.is_within-6.ensures
