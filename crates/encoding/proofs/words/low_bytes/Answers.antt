-- `encoding::words::low_bytes`: the mask takes the low 8 bits of each half. Assumes nothing.
use Rattle.encoding.proofs.Folds.{mask_bytes}
use Rattle.encoding.proofs.words.low_bytes.Goals as goal

pub returns : goal.returns
returns c = mask_bytes c.args.x
