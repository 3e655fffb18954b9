-- `page::Page::write_head`: each number is written after those before it. Assumes nothing.
use Rattle.page.specs.Table.{head}
use Rattle.page.proofs.Page.write_head.Goals as goal

pub returns : goal.returns
unfolding head
returns c =
    rw (
      c.put_number-7.ensures,
      c.put_number-6.ensures,
      c.put_number-5.ensures,
      c.put_number-4.ensures,
      c.put_number-3.ensures,
      c.put_number-2.ensures,
      c.put_number.ensures,
    )
