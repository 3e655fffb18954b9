-- `page::Page::fields`, field by field. Assumes nothing.
use Rattle.page.specs.Table.{fields_of}
use Rattle.page.proofs.Page.fields.Goals as goal

pub returns : goal.returns
unfolding fields_of
returns c =
    λ i. record {
      kind = c.field.ensures i;
      small = c.field-2.ensures i;
      file = c.field-3.ensures i;
      action = c.field-4.ensures i;
      link = c.field-5.ensures i;
      start = c.field-6.ensures i;
    }
