-- `weeks::Week::write`: the times, and the mask behind them. Assumes nothing.
use mathlib.Core.Path.{ap, ◌∙◌}
use mathlib.Core.List.{◌++◌}
use Rattle.encoding.specs.Bytes.{bytes}
use Rattle.weeks.specs.Editions.{mask_size}
use Rattle.weeks.specs.Weeks.{in_edition}
use Rattle.weeks.proofs.Week.write.Goals as goal

pub returns : goal.returns
unfolding in_edition
returns c =
    let a = c.args in
    c.put_mask.ensures ∙ ap (λ t. t ++ bytes (mask_size a.o) a.mask) c.write_times.ensures
