-- `encoding::words::check_page`: the sum leaves the check word. Assumes nothing.
use Rattle.encoding.proofs.Shifts.{page_end}
use native.Mathlib.Omega.{arith}
use Rattle.encoding.proofs.words.check_page.Goals as goal

pub returns : goal.returns
returns c =
    page_end c.args.s.now c.gather.result c.last.result c.fold.result c.fold-2.result c.reduced.result (omega arith)
    c.gather.ensures.result_value c.last.ensures.result_value c.fold.ensures c.fold-2.ensures c.reduced.ensures
