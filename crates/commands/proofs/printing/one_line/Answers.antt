-- `commands::printing::one_line`: there is room. Assumes nothing.
use Rattle.std.proofs.Common.{arith, ap, length}
use Rattle.commands.proofs.Decimal.{grown}
use Rattle.commands.proofs.printing.one_line.Goals as goal

pub push-requires : goal.push-requires
push-requires c = omega (arith, c.requires, ap length c.new-line.ensures, grown c.new-line.result c.args.word.now c.push_run.ensures, c.push_spaced.ensures.within)
