-- `commands::parsing::word`: from where it begins to the next space. Assumes nothing.
use Rattle.commands.proofs.Lines.{word_part}
use lib.ListN.{length-take, length-drop}
use native.Mathlib.Omega.{arith}
use Rattle.commands.proofs.parsing.word.Goals as goal

pub returns : goal.returns
returns c = record {
  result_value = word_part c.args.line.now c.args.k _ _ c.word_start-from.ensures.k_value c.space_from-to.ensures.value;
  within = simp (length-take, length-drop) (omega arith);
}
