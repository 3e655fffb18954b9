-- `page::Page::fit_image`: what does not fit, and the fields. Assumes nothing.
use Rattle.page.proofs.Found.{kind_size}
use Rattle.page.specs.Table.{fields_of}
use Rattle.encoding.proofs.Logic.{refused, passed}
use mathlib.Core.Path.{ap, ◌∙◌}
use Rattle.page.proofs.Page.fit_image.Goals as goal

pub returns-then-not-is_fit_image : goal.returns-then-not-is_fit_image
returns-then-not-is_fit_image c = refused c.is_fit_image.ensures c.if-not-is_fit_image.true

-- a part with a kind has a page's size
pub returns-in_err-as_array : goal.returns-in_err-as_array
returns-in_err-as_array c = absurd (c.in_err-as_array.ensures.cases (kind_size _ 2 c.requires))

pub returns : goal.returns
returns c =
    let bytes = c.in_ok-as_array.ensures.cases in
    (c.fields.ensures ∙ ap fields_of bytes.same, passed c.is_fit_image.ensures c.if-not-is_fit_image.false)
