-- `commands::parsing::next_word`: past the next space, or at the end. Assumes nothing.
use Rattle.commands.proofs.Lines.{past_space, past_end}
use Rattle.commands.proofs.parsing.next_word.Goals as goal

pub returns-then-space-line-clause-line_value : goal.returns-then-space-line-clause-line_value
returns-then-space-line-clause-line_value c = past_space c.args.line.now c.args.from _ c.space_from-space.ensures.value

pub returns-clause-line_value : goal.returns-clause-line_value
returns-clause-line_value c = past_end c.args.line.now c.args.from _ c.space_from-space.ensures.value c.if-space-line.false
