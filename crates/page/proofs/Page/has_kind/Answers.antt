-- `page::Page::has_kind`: the size, and the kind's one byte. Assumes nothing.
use Rattle.page.specs.Layout.{page_size}
use Rattle.page.specs.Table.{fields_of}
use Rattle.page.specs.Steps.{has_kind}
use Rattle.encoding.proofs.Numbers.{number_byte}
use lib.ListN.{length}
use lib.Dec.{eqb}
use borrow.Author.Tests.{eq-eqb, ne_eqb}
use mathlib.Core.Path.{sym, ap, ◌∙◌}
use Rattle.page.proofs.Page.has_kind.Goals as goal

pub returns-then-part-ne-SIZE : goal.returns-then-part-ne-SIZE
unfolding has_kind
returns-then-part-ne-SIZE c = simp (ne_eqb (length c.args.part.now) page_size c.if-part-ne-SIZE.true)

pub returns : goal.returns
unfolding has_kind fields_of
returns c =
    let a = c.args in
    let s = a.part.now in
    simp (eq-eqb (length s) page_size c.if-part-ne-SIZE.false) (ap (λ x. eqb x a.kind) (c.byte_at.ensures.value ∙ sym (number_byte s 0)))
