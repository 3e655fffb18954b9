-- `encoding::words::middle_bytes`: the mask takes bits 4 to 11 of each half. Assumes nothing.
use Rattle.encoding.proofs.Folds.{mask_middle}
use Rattle.encoding.proofs.words.middle_bytes.Goals as goal

pub returns : goal.returns
returns c = mask_middle c.args.x
