-- `commands::parsing::number_of`. The invariant: the bytes before this one are digits, and n is their value. Assumes nothing.
use Rattle.commands.proofs.Numerals.{Reading}
use Rattle.commands.proofs.parsing.number_of.Given as goal

abbrev pub invariant-loop-b : goal.invariant-loop-b
invariant-loop-b l = Reading l.w l.b-index l.n
