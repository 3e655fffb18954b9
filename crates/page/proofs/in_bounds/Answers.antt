-- `page::in_bounds`: another count, what line 1 refuses besides, and the same bytes. Assumes nothing.
use Rattle.page.specs.Answers.{in_bounds}
use Rattle.encoding.proofs.Logic.{refused, passed}
use borrow.Author.Tests.{ne_eqb}
use Rattle.page.proofs.in_bounds.Goals as goal

pub returns-in_err-bytes : goal.returns-in_err-bytes
unfolding in_bounds
returns-in_err-bytes c = rw (c.from_residual.ensures, ne_eqb _ _ c.in_err-bytes.ensures.cases)

pub returns-then-not-is_in_bounds : goal.returns-then-not-is_in_bounds
returns-then-not-is_in_bounds c = rw c.in_ok-bytes.ensures.cases.long (refused c.is_in_bounds.ensures c.if-not-is_in_bounds.true)

pub returns : goal.returns
returns c =
    let bytes = c.in_ok-bytes.ensures.cases in
    (bytes.same, rw bytes.long (passed c.is_in_bounds.ensures c.if-not-is_in_bounds.false))
