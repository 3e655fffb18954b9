-- `weeks::Week::of`: the edition that the length names has weeks of that length. Assumes nothing.
use mathlib.Core.Path.{sym, ◌∙◌}
use Rattle.weeks.proofs.Editions.{length_named}
use Rattle.weeks.proofs.Week.of.Goals as goal

pub invariant_of-result : goal.invariant_of-result
invariant_of-result c = record { long = length_named _ (sym c.of.ensures ∙ c.in_ok-edition.was) }
