-- `page::Page::is_packed_opening`: the bytes are the opening's exactly if their numbers are. Assumes nothing.
use Rattle.page.proofs.Opening.{few_word, first_shift, end_shifts, opening_numbers}
use mathlib.Core.Path.{◌∙◌}
use native.Mathlib.Omega.{arith}
use borrow.Author.Rules.{rules}
use Rattle.page.proofs.Page.is_packed_opening.Goals as goal

pub returns : goal.returns
returns c =
    let a = c.args in
    let pre = c.requires in
    let few = c.check_few in
    opening_numbers a.small a.place pre.0 pre.1 a.part.now (omega arith) (search rules)
    c.field.ensures c.field-2.ensures c.field-3.ensures
    c.is_zero_from.ensures c.field-4.ensures (first_shift a.small pre.0) (end_shifts a.place _ few.ensures.fits)
    (few.ensures.value ∙ few_word a.small a.place pre.0)
