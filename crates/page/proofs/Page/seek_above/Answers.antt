-- `page::Page::seek_above`: what is passed over at once, or does not fit, is no image that starts above the time. Assumes nothing.
use Rattle.page.specs.Table.{fields_of}
use Rattle.page.specs.Answers.{image_above}
use Rattle.page.specs.declared.Page.{Page}
use Rattle.page.proofs.Found.{kind_size}
use Rattle.page.proofs.Seek.{no_image, looked_image}
use Rattle.encoding.proofs.Logic.{refused, passed}
use Prim.Native.Nat.{ℕ}
use native.Mathlib.Omega.{arith}
use lib.Dec.{ltb}
use mathlib.Core.Bool.{Bool, false≢true}
use mathlib.Core.Path.{sym, ◌∙◌}
use borrow.Author.Tests.{ltb-true, lt-ltb}
use Rattle.page.proofs.Page.seek_above.Goals as goal

abbrev later : ℕ → Page → Bool
later time p = ltb time p.start

pub returns-then-not-has_kind : goal.returns-then-not-has_kind
unfolding image_above
returns-then-not-has_kind c = no_image (later _) _ _ _ (λ kind start. false≢true (sym (refused c.has_kind.ensures c.if-not-has_kind.true) ∙ kind))

pub field-requires : goal.field-requires
field-requires c = omega (arith, kind_size _ 2 (passed c.has_kind.ensures c.if-not-has_kind.false))

pub returns-then-field-time : goal.returns-then-field-time
unfolding image_above fields_of
returns-then-field-time c =
    let a = c.args in
    no_image (later a.time) a.part.now _ _ (λ kind start. omega (arith, c.field.ensures, ltb-true a.time (fields_of a.part.now).start start))

pub returns : goal.returns
unfolding image_above fields_of
returns c =
    let a = c.args in
    looked_image (later a.time) a.part.now _ _ _ (passed c.has_kind.ensures c.if-not-has_kind.false)
    (lt-ltb a.time (fields_of a.part.now).start (omega (arith, c.field.ensures))) c.fit_image.ensures
