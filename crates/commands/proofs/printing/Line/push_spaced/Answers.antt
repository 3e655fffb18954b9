-- `commands::printing::Line::push_spaced`: a number has at most 20 digits. Assumes nothing.
use Rattle.std.proofs.Common.{[], ◌∷◌, arith}
use Rattle.commands.specs.Replies.{decimal}
use Rattle.commands.proofs.Decimal.{grown, twenty}
use Rattle.commands.proofs.printing.Line.push_spaced.Goals as goal

pub push_decimal-requires : goal.push_decimal-requires
push_decimal-requires c = omega (arith, c.requires, grown c.args.self.now (32 ∷ []) c.push.ensures, twenty c.args.x)

pub returns-clause-within : goal.returns-clause-within
returns-clause-within c = omega (arith, grown c.args.self.now (32 ∷ []) c.push.ensures, grown c.push.new.self (decimal c.args.x) c.push_decimal.ensures, twenty c.args.x)
