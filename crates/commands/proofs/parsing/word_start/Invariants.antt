-- `commands::parsing::word_start`. The invariant: word k of the line is word k less the turns from `at` on. Assumes nothing.
use Rattle.commands.specs.Commands.{words}
use lib.ListN.{length, drop, get_or}
use Prim.Native.Nat.{◌≤◌, ◌-◌}
use mathlib.Core.List.{[]}
use mathlib.Core.Path.{◌≡◌}
use Rattle.commands.proofs.parsing.word_start.Given as goal

abbrev pub invariant-loop : goal.invariant-loop
invariant-loop l = (get_or (words l.line) l.k [] ≡ get_or (words (drop l.at l.line)) (l.k - l.counter) []) × (l.at ≤ length l.line)
