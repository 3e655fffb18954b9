-- `commands::printing::two_line`: there is room. Assumes nothing.
use Rattle.std.proofs.Common.{arith, ap, length}
use Rattle.commands.proofs.Decimal.{grown}
use Rattle.commands.proofs.printing.two_line.Goals as goal

pub push_spaced-requires-2 : goal.push_spaced-requires-2
push_spaced-requires-2 c = omega (arith, c.requires, ap length c.new-line.ensures, grown c.new-line.result c.args.word.now c.push_run.ensures, c.push_spaced.ensures.within)

pub push-requires : goal.push-requires
push-requires c = omega (arith, c.requires, ap length c.new-line.ensures, grown c.new-line.result c.args.word.now c.push_run.ensures, c.push_spaced.ensures.within, c.push_spaced-2.ensures.within)
