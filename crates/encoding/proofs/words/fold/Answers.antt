-- `encoding::words::fold`: the mask takes nothing away. Assumes nothing.
use Rattle.encoding.proofs.Folds.{fold_masked}
use Rattle.encoding.proofs.words.fold.Goals as goal

pub returns : goal.returns
returns g c = fold_masked _ c.args.x c.requires.0 c.requires.1
