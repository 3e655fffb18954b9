-- `weeks::masks::enough_keyholders`, as its definition says: the machine's count of ones is the library's. Assumes nothing.
use Rattle.weeks.specs.Weeks.{enough_keyholders}
use Rattle.weeks.proofs.masks.enough_keyholders.Goals as goal

pub returns : goal.returns
unfolding enough_keyholders
returns c = rw c.mask_size.ensures
