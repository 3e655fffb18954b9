-- `encoding::words::check_few`: the weights of the bytes that are not 0. Assumes nothing.
use Rattle.encoding.proofs.Few.{few_end}
use Rattle.encoding.proofs.words.check_few.Goals as goal

pub returns-clause-value : goal.returns-clause-value
returns-clause-value c =
    let a = c.args in
    few_end a.carried a.x _ _ _ _ _ _ _ _ c.low_byte.ensures c.low_byte-2.ensures c.low_byte-3.ensures c.low_byte-4.ensures c.weigh_few-w.ensures c.first_two.ensures c.fold.ensures c.reduced.ensures
