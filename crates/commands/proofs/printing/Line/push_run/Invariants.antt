-- `commands::printing::Line::push_run`. The invariant: the bytes before this one are put behind the line. Assumes nothing.
use Rattle.std.proofs.Common.{◌≡◌, ◌++◌, take}
use Rattle.commands.proofs.printing.Line.push_run.Given as goal

abbrev pub invariant-loop-b : goal.invariant-loop-b
invariant-loop-b l = l.self ≡ l.initial.self ++ take l.b-index l.s
