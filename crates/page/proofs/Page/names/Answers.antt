-- `page::Page::names`: the kind and the file, read in place. Assumes nothing.
use Rattle.page.specs.Table.{fields_of}
use Rattle.page.specs.Steps.{named}
use Rattle.page.proofs.Found.{kind_size}
use Rattle.encoding.proofs.Logic.{refused, passed}
use native.Mathlib.Omega.{arith}
use Rattle.page.proofs.Page.names.Goals as goal

pub returns-then-not-has_kind : goal.returns-then-not-has_kind
unfolding named
returns-then-not-has_kind c = rw (refused c.has_kind.ensures c.if-not-has_kind.true)

pub field-requires : goal.field-requires
field-requires c = omega (arith, kind_size _ 2 (passed c.has_kind.ensures c.if-not-has_kind.false))

pub returns : goal.returns
unfolding named fields_of
returns c = rw (passed c.has_kind.ensures c.if-not-has_kind.false, c.field.ensures)
