-- `commands::parsing::word_start`. The invariant: word k of the line is word k less the turns from `at` on. Assumes nothing.
use Rattle.commands.proofs.Lines.{word_turn}
use lib.ListN.{drop}
use native.Mathlib.Omega.{arith}
use Rattle.commands.proofs.parsing.word_start.Goals as goal

pub loop-preserved : goal.loop-preserved
loop-preserved c =
    let s = c.args.line.now in
    (word_turn s (drop c.loop.at s) _ c.args.k c.loop.counter (omega arith) c.next_word-at.ensures.line_value c.loop.invariant.0, omega arith)
