-- `encoding::past`: a shift by n bytes leaves the bytes from n on. Assumes nothing.
use Rattle.encoding.proofs.Numbers.{past_law}
use Rattle.encoding.proofs.past.Goals as goal

pub returns : goal.returns
returns c =
    let a = c.args in
    past_law a.s.now a.from c.read_number.result (λ i. (c.shared_slice_known-1.given i).fits) c.read_number.ensures
