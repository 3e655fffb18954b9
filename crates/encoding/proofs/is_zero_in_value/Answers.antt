-- `encoding::is_zero_in_value`: four numbers are 0 exactly if the bytes from `from` on are. Assumes nothing.
use Rattle.encoding.proofs.Numbers.{value_zeros}
use Rattle.encoding.proofs.is_zero_in_value.Goals as goal

pub returns : goal.returns
returns c =
    value_zeros c.args.s.now c.args.from _ _ _ _ _ _ _ c.requires
    c.saturating_sub.ensures c.saturating_sub-2.ensures c.saturating_sub-3.ensures
    c.past-a.ensures c.past-b.ensures c.past-c.ensures c.past-d.ensures
