-- The cycle of calls {push_decimal}: the digits before the last, and the last. The measure is the number. Assumes nothing.
use Rattle.commands.proofs.printing.Line.+push_decimal.Given as goal

abbrev pub decreases-push_decimal : goal.decreases-push_decimal
decreases-push_decimal l = l.x
